-- Sections: a lone device has no cable and every other section has one, so a section is a lone device or a pattern. Assumes nothing.
use Rattle.std.specs.Prelude.{◌≡◌, refl, Bool, true, false, ◌&&◌, cond, ◌⊎◌, ℕ, zero, suc, ◌≤◌, ◌<◌, leb, eqb, length}
use Rattle.std.proofs.Common.{ap₂, inl, inr, leb-true, eqb-true, lt-ltb, le-leb, eq-eqb, ne_eqb}
use Rattle.std.proofs.Math.Path.{subst}
use mathlib.Core.List.{List, [], ◌∷◌}
use native.Mathlib.Omega.{arith}
use Rattle.std.proofs.lemmas.Bool.{eqb-false}
use Rattle.laws.specs.Tests.{and_split, and_both}
use Rattle.graphs.specs.Drawing.{Cable, Drawing, devices, byte_list, cables_fit}
use Rattle.graphs.specs.Cables.{Has, has_flip, has_eq, has_first}
use Rattle.graphs.specs.Graph.{Distinct, Simple, Walk, stay, onward, Section, Pattern, lone_drawing}

-- HOW MANY CABLES a number of devices may have
pub data CablesFit (n m : ℕ) : Type 0 where
  lone : n ≡ 1 → m ≡ 0 → CablesFit n m
  cabled : (n ≡ 1 → ⊥) → 1 ≤ m → m ≤ 20 → CablesFit n m

pub fit_from_test : (n m : ℕ) → cables_fit n m ≡ true → CablesFit n m
unfolding cables_fit
fit_from_test n m e = go (eqb n 1) refl e
  where
    go : (t : Bool) → eqb n 1 ≡ t → cond t (eqb m 0) (leb 1 m && leb m 20) ≡ true → CablesFit n m
    go true t x = lone (eqb-true n 1 t) (eqb-true m 0 x)
    go false t x = let s = and_split (leb 1 m) (leb m 20) x in cabled (eqb-false n 1 t) (leb-true 1 m s.0) (leb-true m 20 s.1)

pub fit_to_test : (n m : ℕ) → CablesFit n m → cables_fit n m ≡ true
unfolding cables_fit
fit_to_test n m (lone p q) = rw (eq-eqb n 1 p) (eq-eqb m 0 q)
fit_to_test n m (cabled p q r) = rw (ne_eqb n 1 p) (and_both (le-leb 1 m q) (le-leb m 20 r))

-- the test, by the number of devices
module _ (n m : ℕ) where
  pub fit_one : n ≡ 1 → cables_fit n m ≡ eqb m 0
  unfolding cables_fit
  fit_one e = rw (eq-eqb n 1 e)

  pub fit_more : (n ≡ 1 → ⊥) → cables_fit n m ≡ (leb 1 m && leb m 20)
  unfolding cables_fit
  fit_more e = rw (ne_eqb n 1 e)

pub fit_most : {n m : ℕ} → CablesFit n m → m ≤ 20
fit_most (lone p q) = omega arith
fit_most (cabled p q r) = r

-- A SECTION has as many cables as fit
no_walk : {u v : ℕ} → Walk [] u v → u ≡ v
no_walk stay = refl
no_walk (onward w h) = elim h [ ]

simple_cable : (d : Drawing) (c : Cable) (cs : List Cable) → d.cables ≡ c ∷ cs → Simple d → devices d ≡ 1 → ⊥
simple_cable d c cs e s one =
    let here : Has c.a c.b c.kind d.cables = rw e (has_first c cs) in
    let a : c.a ≡ 0 = omega (arith, s.ends c.a c.b c.kind here) in
    let b : c.b ≡ 0 = omega (arith, s.ends c.b c.a c.kind (has_flip here)) in
    s.loopless 0 c.kind (has_eq a b refl here)

pub section_fit : (d : Drawing) → Section d → CablesFit (devices d) (length d.cables)
section_fit d s = go d.cables refl
  where
    go : (cs : List Cable) → d.cables ≡ cs → CablesFit (devices d) (length cs)
    go [] e = lone (few (devices d) refl) refl
      where
        few : (n : ℕ) → devices d ≡ n → devices d ≡ 1
        few zero f = absurd (omega (arith, s.devices_low))
        few (suc zero) f = f
        few (suc (suc n)) f =
            let w : Walk [] 0 1 = rw e at (s.connected 0 1 (omega arith) (omega arith)) in
            absurd (omega (arith, no_walk w))
    go (c ∷ cs) e = cabled (simple_cable d c cs e s.simple) (omega arith) (rw e at s.cables_high)

-- A PATTERN is a section that has a cable
pub pattern_section : {p : Drawing} → Pattern p → Section p
pattern_section w =
    record {
      devices_low = omega (arith, w.devices_low);
      devices_high = w.devices_high;
      cables_high = w.cables_high;
      bytes = w.bytes;
      simple = w.simple;
      connected = w.connected;
    }

pub section_pattern : {p : Drawing} → Section p → 1 ≤ length p.cables → Pattern p
section_pattern {p} s some =
    record {
      devices_low = two (section_fit p s);
      devices_high = s.devices_high;
      cables_low = some;
      cables_high = s.cables_high;
      bytes = s.bytes;
      simple = s.simple;
      connected = s.connected;
    }
  where
    two : CablesFit (devices p) (length p.cables) → 2 ≤ devices p
    two (lone n m) = absurd (omega arith)
    two (cabled n m few) = more (devices p) refl
      where
        more : (k : ℕ) → devices p ≡ k → 2 ≤ devices p
        more zero e = absurd (omega (arith, s.devices_low))
        more (suc zero) e = absurd (n e)
        more (suc (suc k)) e = omega arith

-- every other section is a lone device
pub lone_or_pattern : (d : Drawing) → Section d → ((k : ℕ) × (d ≡ lone_drawing k)) ⊎ Pattern d
lone_or_pattern d s = go d.kinds d.cables refl refl (section_fit d s)
  where
    go : (ks : List ℕ) (cs : List Cable) → d.kinds ≡ ks → d.cables ≡ cs → CablesFit (devices d) (length d.cables)
        → ((k : ℕ) × (d ≡ lone_drawing k)) ⊎ Pattern d
    go ks cs e f (cabled n m few) = inr (section_pattern s m)
    go (k ∷ []) [] e f (lone n m) = inl (k, ap₂ {C = Drawing} (λ xs ys. record { kinds = xs; cables = ys }) e f)
    go ks (c ∷ cs) e f (lone n m) = let z : length d.cables ≡ length (c ∷ cs) = rw f in absurd (omega arith)
    go [] [] e f (lone n m) = let z : devices d ≡ 0 = rw e in absurd (omega arith)
    go (k ∷ l ∷ ks) [] e f (lone n m) = let z : devices d ≡ length (k ∷ l ∷ ks) = rw e in absurd (omega arith)

-- A LONE DEVICE is a simple graph, and a section if its kind is a byte
pub lone_simple : (k : ℕ) → Simple (lone_drawing k)
lone_simple k = record { ends = λ u v c h. elim h [ ]; loopless = λ u c h. elim h [ ]; distinct = unfold Distinct in tt }

pub lone_section : (k : ℕ) → k < 256 → Section (lone_drawing k)
lone_section k low =
    record {
      devices_low = omega arith;
      devices_high = omega arith;
      cables_high = omega arith;
      bytes = unfold byte_list in and_both (lt-ltb k 256 low) refl;
      simple = lone_simple k;
      connected = λ u v p q. let e : u ≡ v = omega arith in subst (Walk [] u) e stay;
    }
