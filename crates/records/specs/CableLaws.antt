-- A walk over the cables of a drawing's record: what is read at a place, and the cables before it and from it on.
-- Rests on the laws of records of any size. Assumes nothing.
use Rattle.std.specs.Prelude.{◌≡◌, Bool, ◌||◌, List, [], ◌∷◌, map, ℕ, zero, suc, ◌+◌, ◌*◌, ◌-◌, ◌/◌, ◌≤◌, ◌<◌, eqb, length, get_or, drop}
use Rattle.std.proofs.Math.Path.{refl, ap}
use Rattle.std.proofs.Common.{◌∙◌, arith, add-one, add-zero, not-suc-le-zero, le_of_suc-le-suc, get_or-drop}
use Rattle.std.proofs.Math.Bool.{true, false, cond}
use borrow.Author.Tests.{eq-eqb, ne_eqb, le-leb, lt-leb, leb-false}
use Rattle.std.proofs.Math.Dec.{leb}
use Rattle.std.proofs.lemmas.List.{length-map}
use Rattle.std.proofs.Math.ListN.{get_or-eq_default, get_or-map}
use Rattle.laws.specs.Lists.{snoc, map_append}
use Rattle.laws.specs.Rows.{row, rows, rows_length, rows_at, rows_snoc, row_at, left_start, left_next, left_end}
use Rattle.graphs.specs.Drawing.{Cable, cable_in, cables_in, joined_by, cable_refusal}
use Rattle.records.specs.Refusals.{first_of}
use Rattle.records.specs.RefusalLaws.{first_some, first_none, first_test}
use Rattle.records.specs.DrawingCables.{cable_at, cables_before, cables_from, cable_fault, fault_at}

-- byte i of cable c
cable_byte : (bs : List ℕ) (c i : ℕ) → i < 3 → get_or (row 3 c (drop 12 bs)) i 0 ≡ get_or bs (12 + 3 * c + i) 0
cable_byte bs c i h =
    let e : 12 + (3 * c + i) ≡ 12 + 3 * c + i = omega arith in
    row_at 3 c (drop 12 bs) i 0 h ∙ get_or-drop 12 bs (3 * c + i) 0 ∙ ap (λ (k : ℕ). get_or bs k 0) e

-- THE BYTES of cable c
pub cable_read : (bs : List ℕ) (c : ℕ)
    → record { a = get_or bs (12 + 3 * c) 0; b = get_or bs (12 + 3 * c + 1) 0; kind = get_or bs (12 + 3 * c + 2) 0 } ≡ cable_at bs c
unfolding cable_at cable_in
cable_read bs c =
    rw (cable_byte bs c 0 (omega arith), cable_byte bs c 1 (omega arith), cable_byte bs c 2 (omega arith), add-zero (12 + 3 * c))

-- past the end of the bytes
pub cable_past : (bs : List ℕ) (c : ℕ) → length bs / 3 ≤ c → record { a = 0; b = 0; kind = 0 } ≡ cable_at bs c
cable_past bs c h =
    let first : get_or bs (12 + 3 * c) 0 ≡ 0 = gone (12 + 3 * c) (omega arith) in
    let second : get_or bs (12 + 3 * c + 1) 0 ≡ 0 = gone (12 + 3 * c + 1) (omega arith) in
    let third : get_or bs (12 + 3 * c + 2) 0 ≡ 0 = gone (12 + 3 * c + 2) (omega arith) in
    rw (first, second, third) at (cable_read bs c)
  where
    gone : (k : ℕ) → length bs ≤ k → get_or bs k 0 ≡ 0
    gone k l = get_or-eq_default bs 0 l

-- THE CABLES FROM c ON, of m
module _ (m : ℕ) (bs : List ℕ) where
  pub from_start : cables_before m bs ≡ cables_from m 0 bs
  unfolding cables_from cables_in
  from_start = ap (map cable_in) (left_start 3 m (drop 12 bs))

  pub from_next : (c : ℕ) → c < m → cables_from m c bs ≡ cable_at bs c ∷ cables_from m (c + 1) bs
  unfolding cables_from cable_at
  from_next c h = ap (map cable_in) (left_next 3 m (drop 12 bs) c h)

  pub from_end : (c : ℕ) → m ≤ c → cables_from m c bs ≡ []
  unfolding cables_from
  from_end c h = ap (map cable_in) (left_end 3 m (drop 12 bs) c h)

-- THE FIRST m CABLES
pub before_length : (m : ℕ) (bs : List ℕ) → length (cables_before m bs) ≡ m
unfolding cables_in
before_length m bs = length-map (rows 3 m (drop 12 bs)) cable_in ∙ rows_length 3 m (drop 12 bs)

pub before_at : (m : ℕ) (bs : List ℕ) (c : ℕ) → c < m → get_or (cables_before m bs) c (cable_in []) ≡ cable_at bs c
unfolding cables_in cable_at
before_at m bs c h = get_or-map cable_in (rows 3 m (drop 12 bs)) c [] ∙ ap cable_in (rows_at 3 m c (drop 12 bs) h)

-- and one more
pub before_next : (c : ℕ) (bs : List ℕ) → cables_before (c + 1) bs ≡ snoc (cables_before c bs) (cable_at bs c)
unfolding cables_in cable_at
before_next c bs = rw (add-one, rows_snoc) (map_append cable_in (rows 3 c (drop 12 bs)) (row 3 c (drop 12 bs) ∷ []))

-- ONE CABLE refused, or not
module _ (n : ℕ) (es : List Cable) (c : Cable) where
  pub fault_first_end : n ≤ c.a → cable_fault n es c ≡ 4
  unfolding cable_fault
  fault_first_end h = simp (le-leb _ _ h)

  pub fault_second_end : c.a < n → n ≤ c.b → cable_fault n es c ≡ 4
  unfolding cable_fault
  fault_second_end g h = simp (lt-leb _ _ g, le-leb _ _ h)

  module _ (p : c.a < n) (q : c.b < n) where
    pub fault_loop : c.a ≡ c.b → cable_fault n es c ≡ 5
    unfolding cable_fault
    fault_loop e = simp (lt-leb _ _ p, lt-leb _ _ q, eq-eqb _ _ e)

    pub fault_none : (c.a ≡ c.b → ⊥) → joined_by c.a c.b es ≡ false → cable_fault n es c ≡ 0
    unfolding cable_fault
    fault_none d e = simp (lt-leb _ _ p, lt-leb _ _ q, ne_eqb _ _ d, e)

-- CABLE BY CABLE
cable_by_cable : (n : ℕ) (es cs : List Cable) (c : Cable)
    → cable_refusal n es (c ∷ cs) ≡ first_of (cable_fault n es c) (cable_refusal n (snoc es c) cs)
unfolding cable_refusal cable_fault
cable_by_cable n es cs c = rw (← first_test, ← first_test, ← first_test, first_none 0)

module _ (n m c : ℕ) (bs : List ℕ) where
  -- what the cables from c on give, after those before c
  abbrev pub refusal_from : ℕ
  refusal_from = cable_refusal n (cables_before c bs) (cables_from m c bs)

  pub refusal_start : c ≡ 0 → cable_refusal n [] (cables_before m bs) ≡ refusal_from
  unfolding cables_in rows
  refusal_start e = rw (e, from_start m bs)

  pub refusal_here : c < m → 0 < fault_at n c bs → refusal_from ≡ fault_at n c bs
  refusal_here h g =
      rw (from_next m bs c h, cable_by_cable) (first_some _ _ g)

  pub refusal_later : c < m → fault_at n c bs ≡ 0
      → refusal_from ≡ cable_refusal n (cables_before (c + 1) bs) (cables_from m (c + 1) bs)
  refusal_later h e = rw (from_next m bs c h, cable_by_cable, before_next c bs) (first_none _ _ e)

  pub refusal_none : m ≤ c → refusal_from ≡ 0
  unfolding cable_refusal
  refusal_none h = rw (from_end m bs c h)

-- A CABLE OF A SOUND LIST has its ends below n
module _ (n : ℕ) where
  pub sound_split : (es cs : List Cable) (c : Cable) → cable_refusal n es (c ∷ cs) ≡ 0
      → (c.a < n) × (c.b < n) × (cable_refusal n (snoc es c) cs ≡ 0)
  unfolding cable_refusal
  sound_split es cs c e =
      go (leb n c.a) (leb n c.b) (eqb c.a c.b) (joined_by c.a c.b es) (cable_refusal n (snoc es c) cs) refl refl e
    where
      go : (p q r s : Bool) (x : ℕ) → leb n c.a ≡ p → leb n c.b ≡ q
          → cond (p || q) 4 (cond r 5 (cond s 6 x)) ≡ 0 → (c.a < n) × (c.b < n) × (x ≡ 0)
      go true q r s x f g h = absurd (omega arith)
      go false true r s x f g h = absurd (omega arith)
      go false false true s x f g h = absurd (omega arith)
      go false false false true x f g h = absurd (omega arith)
      go false false false false x f g h = (leb-false n c.a f, leb-false n c.b g, h)

  sound_at : (es cs : List Cable) (z : Cable) → cable_refusal n es cs ≡ 0
      → (k : ℕ) → k < length cs → ((get_or cs k z).a < n) × ((get_or cs k z).b < n)
  sound_at es [] z e k h = absurd (not-suc-le-zero h)
  sound_at es (c ∷ cs) z e zero h = let s = sound_split es cs c e in (s.0, s.1)
  sound_at es (c ∷ cs) z e (suc k) h = sound_at (snoc es c) cs z (sound_split es cs c e).2 k (le_of_suc-le-suc h)

  module _ (m : ℕ) (bs : List ℕ) (sound : cable_refusal n [] (cables_before m bs) ≡ 0) (c : ℕ) (h : c < m) where
    low : ((cable_at bs c).a < n) × ((cable_at bs c).b < n)
    low = rw (before_at m bs c h) at (sound_at [] (cables_before m bs) (cable_in []) sound c (rw (before_length m bs) h))

    pub sound_first : (cable_at bs c).a < n
    sound_first = low.0

    pub sound_second : (cable_at bs c).b < n
    sound_second = low.1
