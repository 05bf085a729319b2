-- The look ahead before a code grows. Rests on Hopeless. Assumes nothing.
use Rattle.std.specs.Prelude.{◌≡◌, Bool, ◌&&◌, ◌||◌, ℕ, zero, suc, ◌+◌, ◌*◌, ◌≤◌, ◌<◌, eqb, length, get_or, take, drop}
use Rattle.std.proofs.Math.Path.{refl, sym, ap, subst}
use Rattle.std.proofs.Common.{ap₂, ◌∙◌, true≢false, le_of_suc-le-suc, arith, length-append}
use Rattle.std.proofs.Math.Bool.{true, false}
use mathlib.Core.List.{List, [], ◌∷◌, ◌++◌, map, append_assoc}
use Rattle.std.proofs.Math.Nat.{not-suc-le-zero}
use Rattle.std.proofs.Math.Dec.{ltb}
use Rattle.std.proofs.Math.ListN.{get_or-map}
use borrow.Author.Tests.{ltb-true, lt-ltb, le-ltb, eq-eqb, ne_eqb}
use Rattle.laws.specs.Decides.{Decides}
use Rattle.laws.specs.Tests.{true_and_false}
use Rattle.laws.specs.Lists.{snoc, snoc_length, get_d_default}
use Rattle.laws.specs.Rows.{rows, rows_at}
use Rattle.graphs.specs.Graph.{Pattern}
use Rattle.graphs.specs.Patterns.{pattern_from_test}
use Rattle.codes.specs.Code.{
  Rec,
  Reading,
  begun,
  fresh,
  stepped,
  rec_in,
  recs_in,
  rows_refusal,
  read_rows,
  decoded,
  kinds_before,
  Least,
}
use Rattle.codes.specs.Step.{Step, steps_back, steps_forward}
use Rattle.codes.specs.Reading.{Invariant, invariant_begun}
use Rattle.codes.specs.ReadRows.{FirstRow, begun_is, begun_from_test, rows_cons, rows_divided, rows_invariant, step_from_test}
use Rattle.codes.specs.LaterRows.{later_rows}
use Rattle.codes.specs.CodeOrder.{kinds_order}
use Rattle.codes.specs.CodeBytes.{recs_in_length}
use Rattle.codes.specs.Greedy.{Greedy}
use Rattle.codes.specs.Overlooked.{relabelled, Overlooks, by_edge, by_chord}
use Rattle.codes.specs.OwnNumbering.{WellGrown}
use Rattle.codes.specs.Hopeless.{begins_with, last_cable, own_node, first_hopeless, reversed_hopeless, sibling_hopeless}
use Rattle.code_records.specs.RecordLaws.{record_read}
use Rattle.walks.specs.Hopes.{record_of, CanLook, OverlookedBy, OverlookedAt, HopelessIf, with_labels}

-- THE ORDER OF LABELS, test by test
module _ (i j ki c kj : ℕ) (r : Rec) where
  abbrev one : Rec
  one = record { i = i; j = j; ki = ki; c = c; kj = kj }

  pub kind_decides : (ki ≡ r.ki → ⊥) → ltb ki r.ki ≡ kinds_before (record { i = i; j = j; ki = ki; c = c; kj = kj }) r
  unfolding kinds_before
  kind_decides d = go (ltb ki r.ki)
    where
      go : (t : Bool) → t ≡ (t || (eqb ki r.ki && (ltb c r.c || (eqb c r.c && ltb kj r.kj))))
      go true = refl
      go false = rw (ne_eqb ki r.ki d)

  module _ (same : ki ≡ r.ki) where
    pub cable_decides : (c ≡ r.c → ⊥) → ltb c r.c ≡ kinds_before (record { i = i; j = j; ki = ki; c = c; kj = kj }) r
    unfolding kinds_before
    cable_decides d = rw (le-ltb ki r.ki (omega arith), eq-eqb ki r.ki same) (go (ltb c r.c))
      where
        go : (t : Bool) → t ≡ (t || (eqb c r.c && ltb kj r.kj))
        go true = refl
        go false = rw (ne_eqb c r.c d)

    pub other_decides : c ≡ r.c → ltb kj r.kj ≡ kinds_before (record { i = i; j = j; ki = ki; c = c; kj = kj }) r
    unfolding kinds_before
    other_decides e = rw (le-ltb ki r.ki (omega arith), eq-eqb ki r.ki same, le-ltb c r.c (omega arith), eq-eqb c r.c e) refl

-- WHAT A PROGRAM READS of record t
module _ (code : List ℕ) (t : ℕ) where
  pub read_i : get_or code (5 * t) 0 ≡ (record_of code t).i
  read_i = ap (λ (r : Rec). r.i) (record_read code t)

  pub read_j : get_or code (5 * t + 1) 0 ≡ (record_of code t).j
  read_j = ap (λ (r : Rec). r.j) (record_read code t)

  pub read_ki : get_or code (5 * t + 2) 0 ≡ (record_of code t).ki
  read_ki = ap (λ (r : Rec). r.ki) (record_read code t)

  pub read_c : get_or code (5 * t + 3) 0 ≡ (record_of code t).c
  read_c = ap (λ (r : Rec). r.c) (record_read code t)

  pub read_kj : get_or code (5 * t + 4) 0 ≡ (record_of code t).kj
  read_kj = ap (λ (r : Rec). r.kj) (record_read code t)

  module _ (ki c kj : ℕ) where
    pub kind_differs : (ki ≡ get_or code (5 * t + 2) 0 → ⊥) → ltb ki (get_or code (5 * t + 2) 0) ≡ kinds_before (with_labels ki c kj) (record_of code t)
    kind_differs d = rw read_ki (kind_decides 0 1 ki c kj (record_of code t) (λ e. d (e ∙ sym read_ki)))

    pub cable_differs :
        ki ≡ get_or code (5 * t + 2) 0 → (c ≡ get_or code (5 * t + 3) 0 → ⊥)
        → ltb c (get_or code (5 * t + 3) 0) ≡ kinds_before (with_labels ki c kj) (record_of code t)
    cable_differs k d = rw read_c (cable_decides 0 1 ki c kj (record_of code t) (k ∙ read_ki) (λ e. d (e ∙ sym read_c)))

    pub other_left :
        ki ≡ get_or code (5 * t + 2) 0 → c ≡ get_or code (5 * t + 3) 0
        → ltb kj (get_or code (5 * t + 4) 0) ≡ kinds_before (with_labels ki c kj) (record_of code t)
    other_left k e = rw read_kj (other_decides 0 1 ki c kj (record_of code t) (k ∙ read_ki) (e ∙ read_c))

  -- whether a cable comes before record t from its own device
  pub overlooked_told :
      (a c kj ki : ℕ) (b : Bool) → get_or code (5 * t) 0 ≡ a → a < get_or code (5 * t + 1) 0 → ki ≡ get_or code (5 * t + 2) 0
      → b ≡ kinds_before (with_labels ki c kj) (record_of code t) → Decides b (OverlookedBy code t a c kj)
  unfolding kinds_before
  overlooked_told a c kj ki b is up k e =
      record {
        holds = λ said.
            record {
              forward = omega (arith, read_i, read_j, is);
              from = sym is ∙ read_i;
              earlier = subst (λ (x : ℕ). kinds_before (with_labels x c kj) (record_of code t) ≡ true) (k ∙ read_ki) (sym e ∙ said);
            };
        fails = λ said o.
            true_and_false o.earlier
            (subst (λ (x : ℕ). kinds_before (with_labels x c kj) (record_of code t) ≡ false) (k ∙ read_ki) (sym e ∙ said));
      }

  -- a record from another device, or a backward one, is none
  pub other_device : (a c kj : ℕ) → (get_or code (5 * t) 0 ≡ a → ⊥) → OverlookedBy code t a c kj → ⊥
  other_device a c kj n o = n (read_i ∙ sym o.from)

  pub not_forward : (a c kj : ℕ) → get_or code (5 * t + 1) 0 ≤ a → OverlookedBy code t a c kj → ⊥
  not_forward a c kj h o = omega (arith, read_j, o.from, o.forward)

-- A LIST AT ONE OF ITS ELEMENTS
split_at : {A : Type 0} (xs : List A) (t : ℕ) (z : A) → t < length xs → xs ≡ take t xs ++ get_or xs t z ∷ drop (suc t) xs
split_at [] t z h = absurd (not-suc-le-zero h)
split_at (x ∷ xs) zero z h = refl
split_at {A} (x ∷ xs) (suc t) z h = ap (λ (l : List A). x ∷ l) (split_at xs t z (le_of_suc-le-suc h))

pub record_there : (code : List ℕ) (m t : ℕ) (z : Rec) → t < m → get_or (recs_in m code) t z ≡ record_of code t
unfolding recs_in
record_there code m t z h =
    get_d_default (map rec_in (rows 5 m code)) t z (rec_in []) (rw (recs_in_length m code) h)
    ∙ get_or-map rec_in (rows 5 m code) t [] ∙ rw (rows_at 5 m t code h)

-- the element behind others
at_behind : (r : Rec) (ps : List Rec) (s : Rec) (ms : List Rec) (z : Rec) → get_or (r ∷ ps ++ s ∷ ms) (suc (length ps)) z ≡ s
at_behind r [] s ms z = refl
at_behind r (p ∷ ps) s ms z = at_behind p ps s ms z

-- lists with a last element are the same only by both parts
snoc_same : (xs ys : List Rec) (x y : Rec) → snoc xs x ≡ snoc ys y → (xs ≡ ys) × (x ≡ y)
snoc_same [] [] x y e = (refl, ap (λ (l : List Rec). get_or l 0 x) e)
snoc_same [] (b ∷ ys) x y e = absurd (omega (arith, ap length e, snoc_length ys y))
snoc_same (a ∷ xs) [] x y e = absurd (omega (arith, ap length e, snoc_length xs x))
snoc_same (a ∷ xs) (b ∷ ys) x y e =
    let t = snoc_same xs ys x y (ap (drop 1) e) in
    (ap₂ {C = List Rec} (λ z l. z ∷ l) (ap (λ (l : List Rec). get_or l 0 a) e) t.0, t.1)

-- A CODE OF SOME RECORDS γ AND THE RECORD e
module _ (e : Rec) where
  -- THE WHOLE CODE, by its first record
  whole_hopeless :
      (γ : List Rec) → rows_refusal fresh (snoc γ e) ≡ 0 → Pattern (decoded (snoc γ e)) → (r : Rec) (rs : List Rec) → snoc γ e ≡ r ∷ rs
      → (kinds_before (begins_with e.ki e.c e.kj) r ≡ true → Least (decoded (snoc γ e)) (snoc γ e) → ⊥)
      × (kinds_before (begins_with e.kj e.c e.ki) r ≡ true → Least (decoded (snoc γ e)) (snoc γ e) → ⊥)
  whole_hopeless γ ok p r rs is =
      subst
      (λ (w : List Rec).
      (kinds_before (begins_with e.ki e.c e.kj) r ≡ true → Least (decoded w) w → ⊥)
      × (kinds_before (begins_with e.kj e.c e.ki) r ≡ true → Least (decoded w) w → ⊥))
      (sym is) (
        first_hopeless kinds_before kinds_order r rs ok' p' e c,
        reversed_hopeless kinds_before kinds_order r rs ok' p' e c,
      )
    where
      ok' : rows_refusal fresh (r ∷ rs) ≡ 0
      ok' = subst (λ (w : List Rec). rows_refusal fresh w ≡ 0) is ok

      p' : Pattern (decoded (r ∷ rs))
      p' = subst (λ (w : List Rec). Pattern (decoded w)) is p

      c : Rattle.codes.specs.Hopeless.LastCable (decoded (r ∷ rs)) e
      c =
          last_cable (decoded (r ∷ rs)) γ e _
          (subst (λ (w : List Rec). Rattle.codes.specs.Branch.Node (decoded (r ∷ rs)) w
          (Rattle.codes.specs.Hopeless.own kinds_before kinds_order r rs ok' p')) (sym is)
          (own_node kinds_before kinds_order r rs ok' p'))

  -- OVERLOOKED at record t
  pub at_hopeless :
      (xs : List Rec) (t : ℕ) (s : Rec) → rows_refusal fresh (snoc xs e) ≡ 0 → Pattern (decoded (snoc xs e)) → 1 ≤ t → t < length xs → get_or xs t s ≡ s
      → s.i < s.j → Overlooks kinds_before s e → Least (decoded (snoc xs e)) (snoc xs e) → ⊥
  at_hopeless [] t s ok p one h q up v l = not-suc-le-zero h
  at_hopeless (r ∷ rs) zero s ok p one h q up v l = not-suc-le-zero one
  at_hopeless (r ∷ rs) (suc t) s ok p one h q up v l =
      sibling_hopeless kinds_before kinds_order r (take t rs) s (drop (suc t) rs) e (subst (λ (w : List Rec). rows_refusal fresh w ≡ 0) is ok)
      (subst (λ (w : List Rec). Pattern (decoded w)) is p) up v (subst (λ (w : List Rec). Least (decoded w) w) is l)
    where
      is : snoc (r ∷ rs) e ≡ r ∷ take t rs ++ s ∷ snoc (drop (suc t) rs) e
      is =
          ap (λ (w : List Rec). r ∷ snoc w e) (split_at rs t s (le_of_suc-le-suc h) ∙ ap (λ (y : Rec). take t rs ++ y ∷ drop (suc t) rs) q)
          ∙ ap (λ (w : List Rec). r ∷ w) (append_assoc (take t rs) (s ∷ drop (suc t) rs) (e ∷ []))

  -- a forward record from device 0 has the first kind
  first_kind : (r : Rec) (rs : List Rec) → rows_refusal fresh (snoc (r ∷ rs) e) ≡ 0 → e.i < e.j → e.i ≡ r.i → e.ki ≡ r.ki
  unfolding read_rows
  first_kind r rs ok up same = go (step_from_test (read_rows fresh (r ∷ rs)) v e last.step last.kinds)
    where
      split : (rows_refusal fresh (r ∷ rs) ≡ 0) × (rows_refusal (read_rows fresh (r ∷ rs)) (e ∷ []) ≡ 0)
      split = rows_divided fresh (r ∷ rs) (e ∷ []) ok

      v : Invariant (read_rows fresh (r ∷ rs))
      v = rows_invariant r rs split.0

      last : FirstRow (read_rows fresh (r ∷ rs)) e []
      last = rows_cons (read_rows fresh (r ∷ rs)) e [] split.1

      start : FirstRow fresh r rs
      start = rows_cons fresh r rs split.0

      ends : (r.i ≡ 0) × (r.j ≡ 1)
      ends = begun_from_test r start.step

      kept : get_or (read_rows (stepped fresh r) rs).kinds 0 256 ≡ r.ki
      kept =
          subst (λ (x : Reading). rows_refusal x rs ≡ 0 → get_or (read_rows x rs).kinds 0 256 ≡ r.ki) (sym (begun_is r))
          (λ z. (later_rows (begun r) (invariant_begun r ends.0 ends.1) rs z).kinds 0 (omega arith)) start.rest

      go : Step (read_rows fresh (r ∷ rs)) e → e.ki ≡ r.ki
      go (steps_back b y z) = absurd (omega (arith, b.down))
      go (steps_forward o j h k) =
          sym k ∙ ap (λ (i : ℕ). get_or (read_rows fresh (r ∷ rs)).kinds i 256) (same ∙ ends.0) ∙ kept

  -- OVERLOOKED at the first record
  pub first_record_hopeless :
      (γ : List Rec) (s : Rec) → rows_refusal fresh (snoc γ e) ≡ 0 → Pattern (decoded (snoc γ e)) → 0 < length γ → get_or γ 0 s ≡ s → e.i < e.j
      → e.i ≡ s.i → kinds_before (relabelled s e.c e.kj) s ≡ true → Least (decoded (snoc γ e)) (snoc γ e) → ⊥
  unfolding kinds_before
  first_record_hopeless [] s ok p some q up same earlier l = not-suc-le-zero some
  first_record_hopeless (r ∷ rs) s ok p some q up same earlier l =
      (whole_hopeless (r ∷ rs) ok p r (snoc rs e) refl).0 (rw (first_kind r rs ok up (same ∙ ap (λ (x : Rec). x.i) (sym q)), q) earlier) l

module _ {code : List ℕ} {m : ℕ} {e : Rec} (a : CanLook code m e) where
  pattern : Pattern (decoded (snoc (recs_in m code) e))
  pattern = pattern_from_test (decoded (snoc (recs_in m code) e)) a.drawn

  -- NO RECORD YET: the cable comes first the other way round
  pub lone_hopeless : m ≡ 0 → e.kj < e.ki → Least (decoded (snoc (recs_in m code) e)) (snoc (recs_in m code) e) → ⊥
  unfolding kinds_before recs_in rows
  lone_hopeless none h =
      let is : snoc (recs_in m code) e ≡ e ∷ [] = ap (λ (k : ℕ). snoc (recs_in k code) e) none in
      (whole_hopeless e (recs_in m code) a.accepted pattern e [] is).1 (rw (lt-ltb e.kj e.ki h))

  pub lone_look : m ≡ 0 → HopelessIf code m e (ltb e.kj e.ki)
  lone_look none =
      record { not_least = λ q. lone_hopeless none (ltb-true e.kj e.ki q); hopeful = λ q t one low. absurd (omega arith) }

  -- BEFORE THE FIRST RECORD
  module _ (some : 0 < m) where
    abbrev first : Rec
    first = record_of code 0

    rest : (xs : List Rec) → 0 < length xs → get_or xs 0 first ≡ first → (rs : List Rec) × (snoc xs e ≡ first ∷ rs)
    rest [] h q = absurd (not-suc-le-zero h)
    rest (x ∷ xs) h q = (snoc xs e, ap (λ (y : Rec). y ∷ snoc xs e) q)

    begins : (rs : List Rec) × (snoc (recs_in m code) e ≡ record_of code 0 ∷ rs)
    begins = rest (recs_in m code) (rw (recs_in_length m code) some) (record_there code m 0 (record_of code 0) some)

    pub before_hopeless :
        kinds_before (begins_with e.ki e.c e.kj) (record_of code 0) ≡ true → Least (decoded (snoc (recs_in m code) e))
        (snoc (recs_in m code) e) → ⊥
    before_hopeless = (whole_hopeless e (recs_in m code) a.accepted pattern (record_of code 0) begins.0 begins.1).0

    pub against_hopeless :
        kinds_before (begins_with e.kj e.c e.ki) (record_of code 0) ≡ true → Least (decoded (snoc (recs_in m code) e))
        (snoc (recs_in m code) e) → ⊥
    against_hopeless = (whole_hopeless e (recs_in m code) a.accepted pattern (record_of code 0) begins.0 begins.1).1

  found_hopeless :
      (b k : ℕ) (o : OverlookedAt code m b e.c k) → Overlooks kinds_before (record_of code o.t) e
      → Least (decoded (snoc (recs_in m code) e)) (snoc (recs_in m code) e) → ⊥
  found_hopeless b k o v =
      at_hopeless e (recs_in m code) o.t (record_of code o.t) a.accepted pattern o.some (rw (recs_in_length m code) o.below)
      (record_there code m o.t (record_of code o.t) o.below) o.by.forward v

  pub edge_hopeless : (r : Bool) → e.i < e.j → Decides r (OverlookedAt code m e.i e.c e.kj) → HopelessIf code m e r
  edge_hopeless r up f =
      record {
        not_least = λ q. let o = f.holds q in found_hopeless e.i e.kj o (by_edge up o.by.from o.by.earlier);
        hopeful = λ q t one low ahead v. none q t one low ahead v;
      }
    where
      none : r ≡ false → (t : ℕ) → 1 ≤ t → t < m → (record_of code t).i < (record_of code t).j → Overlooks kinds_before (record_of code t) e → ⊥
      none q t one low ahead (by_edge a i z) =
          f.fails q (record { t = t; some = one; below = low; by = record { forward = ahead; from = i; earlier = z } })
      none q t one low ahead (by_chord a i z) = omega arith

  pub chord_hopeless : (r : Bool) → e.j ≤ e.i → Decides r (OverlookedAt code m e.j e.c e.ki) → HopelessIf code m e r
  chord_hopeless r down f =
      record {
        not_least = λ q. let o = f.holds q in found_hopeless e.j e.ki o (by_chord down o.by.from o.by.earlier);
        hopeful = λ q t one low ahead v. none q t one low ahead v;
      }
    where
      none : r ≡ false → (t : ℕ) → 1 ≤ t → t < m → (record_of code t).i < (record_of code t).j → Overlooks kinds_before (record_of code t) e → ⊥
      none q t one low ahead (by_edge a i z) = omega arith
      none q t one low ahead (by_chord a i z) =
          f.fails q (record { t = t; some = one; below = low; by = record { forward = ahead; from = i; earlier = z } })

  -- a certain no
  pub told_hopeless :
      (Least (decoded (snoc (recs_in m code) e)) (snoc (recs_in m code) e) → ⊥) → HopelessIf code m e true
  told_hopeless n = record { not_least = λ q. n; hopeful = λ q. absurd (true≢false q) }

-- A CODE THAT GROWS by a record that overlooks none grows well, where it is greedy itself
module _ (code : List ℕ) (m : ℕ) (e : Rec) (greedy : Greedy kinds_before (decoded (recs_in m code)) [] (recs_in m code))
    (hopeful : (t : ℕ) → 1 ≤ t → t < m → (record_of code t).i < (record_of code t).j → Overlooks kinds_before (record_of code t) e → ⊥) where
  record_behind :
      (r : Rec) (qs : List Rec) → recs_in m code ≡ r ∷ qs → (ps : List Rec) (s : Rec) (ms : List Rec) → ps ++ s ∷ ms ≡ qs
      → (suc (length ps) < m) × (record_of code (suc (length ps)) ≡ s)
  record_behind r qs is ps s ms at =
      let whole : recs_in m code ≡ r ∷ ps ++ s ∷ ms = is ∙ ap (λ (xs : List Rec). r ∷ xs) (sym at) in
      let low : suc (length ps) < m =
      omega (arith, sym (recs_in_length m code) ∙ ap length whole, length-append ps (s ∷ ms)) in
      (low, sym (record_there code m (suc (length ps)) s low) ∙ ap (λ (xs : List Rec). get_or xs (suc (length ps)) s) whole ∙ at_behind r ps s ms s)

  pub grown_well : WellGrown (snoc (recs_in m code) e)
  grown_well =
      record {
        greedy = λ δ f is.
            subst (λ (γ : List Rec). Greedy kinds_before (decoded γ) [] γ) (snoc_same (recs_in m code) δ e f is).0 greedy;
        hopeful = λ r qs f is ps s ms at o up.
            let same = snoc_same (recs_in m code) (r ∷ qs) e f is in
            let behind = record_behind r qs same.0 ps s ms at in
            hopeful (suc (length ps)) (omega arith) behind.0 (subst (λ (x : Rec). x.i < x.j) (sym behind.1) up)
            (subst (λ (x : Rec). Overlooks kinds_before x e) (sym behind.1) (subst (Overlooks kinds_before s) (sym same.1) o));
      }
