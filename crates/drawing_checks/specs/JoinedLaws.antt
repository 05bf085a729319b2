-- Marks-joined of the cables read so far: none, one more, and what the mark of the next cable's pair says: refusal 6. Assumes nothing.
use Rattle.std.specs.Prelude.{◌≡◌, refl, Bool, true, false, cond, ℕ, ◌+◌, ◌≤◌, ◌<◌, min, max, eqb, replicate}
use Rattle.std.proofs.Common.{sym, ap, ◌∙◌, eqb-true}
use mathlib.Core.List.{List, [], ◌∷◌}
use native.Mathlib.Omega.{arith}
use Rattle.std.proofs.lemmas.Bool.{eqb-false}
use Rattle.laws.specs.Tests.{true_and_false, or_right}
use Rattle.laws.specs.Lists.{snoc}
use Rattle.laws.specs.Rows.{rows}
use Rattle.laws.specs.Grids.{grid_cell, grid_set, grid_filled, filled_cell, grid_kept, cell_same, cell_other}
use Rattle.graphs.specs.Drawing.{Cable, cables_in, joins, joined_by, cable_refusal}
use Rattle.graphs.specs.Cables.{
  Joins,
  along,
  against,
  Has,
  joins_from_test,
  joins_to_test,
  joined_from_test,
  joined_to_test,
}
use Rattle.records.specs.Refusals.{first_of}
use Rattle.records.specs.RefusalLaws.{first_some, first_none, first_test}
use Rattle.records.specs.declared.cable.Cable as held
use Rattle.records.specs.DrawingCables.{as_cable, cable_at, cables_before, cable_fault, fault_at}
use Rattle.records.specs.CableLaws.{before_next, refusal_from, refusal_here, refusal_later, sound_split}
use Rattle.drawing_checks.specs.declared.cables.Pair as held_pair
use Rattle.drawing_checks.specs.Joined.{ends_fault, PairOf, pair_mark, MarksJoined}

-- A PAIR is the ends of a cable exactly if the cable joins it
module _ (u v : ℕ) (c : Cable) where
  pair_joined : min u v ≡ min c.a c.b → max u v ≡ max c.a c.b → Joins u v c
  pair_joined p q = go (eqb c.a u) refl
    where
      go : (t : Bool) → eqb c.a u ≡ t → Joins u v c
      go true e = let a : c.a ≡ u = eqb-true c.a u e in along a (omega arith)
      go false e = let a : c.a ≡ u → ⊥ = eqb-false c.a u e in against (omega arith) (omega arith)

  joined_low : Joins u v c → min u v ≡ min c.a c.b
  joined_low (along p q) = omega arith
  joined_low (against p q) = omega arith

  joined_high : Joins u v c → max u v ≡ max c.a c.b
  joined_high (along p q) = omega arith
  joined_high (against p q) = omega arith

-- JOINED BY ONE MORE
module _ (u v : ℕ) (c : Cable) where
  joined_by_last : (cs : List Cable) → joins u v c ≡ true → joined_by u v (snoc cs c) ≡ true
  unfolding joined_by
  joined_by_last [] e = simp e
  joined_by_last (d ∷ cs) e = or_right (joins u v d) (joined_by_last cs e)

  joined_by_others : (cs : List Cable) → joins u v c ≡ false → joined_by u v (snoc cs c) ≡ joined_by u v cs
  unfolding joined_by
  joined_by_others [] e = simp e
  joined_by_others (d ∷ cs) e = rw (joined_by_others cs e)

-- WHAT A MARK SAYS, in relations: set exactly if some cable joins the two, and one mark whichever of them stands first
module _ {marks : List (List Bool)} {cs : List Cable} (m : MarksJoined marks cs) (u v : ℕ) (p : u < 10) (q : v < 10) where
  pub marked_has : pair_mark marks u v ≡ true → (k : ℕ) × Has u v k cs
  marked_has e = joined_from_test u v cs (sym (m.says u v p q) ∙ e)

  pub has_marked : {k : ℕ} → Has u v k cs → pair_mark marks u v ≡ true
  has_marked h = m.says u v p q ∙ joined_to_test cs h

pub mark_either_way : (marks : List (List Bool)) (u v : ℕ) → pair_mark marks u v ≡ pair_mark marks v u
mark_either_way marks u v =
    let low : min u v ≡ min v u = omega arith in
    let high : max u v ≡ max v u = omega arith in
    rw (low, high)

-- NO CABLE yet, no mark
pub marks_of_none : MarksJoined (replicate 10 (replicate 10 false)) []
unfolding joined_by
marks_of_none =
    record {
      table = grid_filled 10 10 false;
      says = λ u v p q. filled_cell 10 10 false (min u v) (max u v) false (omega arith) (omega arith);
    }

-- ONE MORE CABLE, one more mark
module _ {marks : List (List Bool)} {cs : List Cable} (m : MarksJoined marks cs) (c : Cable) (low high : ℕ) where
  pub marks_of_more : low ≡ min c.a c.b → high ≡ max c.a c.b → high < 10
      → MarksJoined (grid_set marks low high true) (snoc cs c)
  marks_of_more p q h =
      record {
        table = grid_kept m.table low high true (omega arith);
        says = λ u v f g. at u v f g (joins u v c) refl;
      }
    where
      at : (u v : ℕ) → u < 10 → v < 10 → (t : Bool) → joins u v c ≡ t
          → pair_mark (grid_set marks low high true) u v ≡ joined_by u v (snoc cs c)
      at u v f g true e =
          let j = joins_from_test u v c e in
          let same_low : min u v ≡ low = joined_low u v c j ∙ sym p in
          let same_high : max u v ≡ high = joined_high u v c j ∙ sym q in
          rw (same_low, same_high, joined_by_last u v c cs e) (cell_same m.table low high true (omega arith) false h)
      at u v f g false e =
          cell_other m.table low high true (omega arith) (min u v) (max u v) false
          (λ r s. true_and_false (joins_to_test u v c (pair_joined u v c (r ∙ p) (s ∙ q))) e)
          ∙ m.says u v f g
          ∙ sym (joined_by_others u v c cs e)

-- THE FAULT OF A CABLE: its ends first, then its pair
module _ (n : ℕ) (c : Cable) where
  fault_parts : (es : List Cable) → cable_fault n es c ≡ first_of (ends_fault n c) (cond (joined_by c.a c.b es) 6 0)
  unfolding cable_fault joined_by
  fault_parts es = rw (← first_test, ← first_test, first_none 0)

  -- ends that are not refused are devices, so that they have marks
  pub ends_there : n ≤ 10 → ends_fault n c ≡ 0 → (c.a < 10) × (c.b < 10)
  unfolding cable_fault joined_by cable_refusal
  ends_there few e = let s = sound_split n [] [] c e in (omega arith, omega arith)

  -- REFUSAL 6 is what the mark of the cable's pair says
  pub mark_tells : {marks : List (List Bool)} {es : List Cable} → n ≤ 10 → ends_fault n c ≡ 0 → MarksJoined marks es
      → cable_fault n es c ≡ cond (pair_mark marks c.a c.b) 6 0
  mark_tells {marks} {es} few fine told =
      let there = ends_there few fine in
      fault_parts es
      ∙ first_none (ends_fault n c) _ fine
      ∙ ap (λ (t : Bool). cond t 6 0) (sym (told.says c.a c.b there.0 there.1))

-- THE CABLES OF A RECORD: before the first, and cable c as the program holds it
pub marks_of_start : (bs : List ℕ) → MarksJoined (replicate 10 (replicate 10 false)) (cables_before 0 bs)
unfolding cables_in rows
marks_of_start bs = marks_of_none

-- what the mark of its pair tells of cable c, and the marks with it
pub record MarkTold (n m c : ℕ) (bs : List ℕ) (marks : List (List Bool)) (p : held_pair.Pair) : Type 0 where
  pub again : grid_cell marks p.low p.high false ≡ true → refusal_from n m c bs ≡ 6
  pub first : grid_cell marks p.low p.high false ≡ false → refusal_from n m c bs ≡ refusal_from n m (c + 1) bs
  pub next : MarksJoined (grid_set marks p.low p.high true) (cables_before (c + 1) bs)

module _ (n m c : ℕ) (bs : List ℕ) (k : held.Cable) (is : as_cable k ≡ cable_at bs c) (below : c < m) where
  pub ends_here : 0 < ends_fault n (as_cable k) → refusal_from n m c bs ≡ ends_fault n (as_cable k)
  ends_here h =
      let e : fault_at n c bs ≡ ends_fault n (as_cable k) = rw (← is) (fault_parts n (as_cable k) (cables_before c bs) ∙ first_some _ _ h) in
      refusal_here n m c bs below (rw e h) ∙ e

  pub pair_told : {marks : List (List Bool)} {p : held_pair.Pair} → n ≤ 10 → ends_fault n (as_cable k) ≡ 0
      → MarksJoined marks (cables_before c bs) → PairOf k p → MarkTold n m c bs marks p
  pair_told {marks} {p} few fine told of =
      record {
        again = λ e. let f : fault_at n c bs ≡ 6 = fault ∙ simp e in refusal_here n m c bs below (omega arith) ∙ f;
        first = λ e. refusal_later n m c bs below (fault ∙ simp e);
        next = rw (before_next c bs, ← is) (marks_of_more told (as_cable k) p.low p.high of.low of.high of.place);
      }
    where
      fault : fault_at n c bs ≡ cond (grid_cell marks p.low p.high false) 6 0
      fault = rw (← is, of.low, of.high) (mark_tells n (as_cable k) few fine told)
