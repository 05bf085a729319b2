-- Sheets of one crane: a cell counted by cranes is the cell of its cranes, and how the program counts, a drawing after another. Rests on
-- CellLaws, CraneCounts and LowestBits. Assumes nothing.
use Rattle.std.specs.Prelude.{◌≡◌, Bool, ◌&&◌, not, List, [], ◌∷◌, length, get_or, drop}
use Rattle.std.proofs.Math.Path.{refl, ap}
use Rattle.std.proofs.Common.{sym, ◌∙◌, add-one, length-drop, get_or-drop}
use Rattle.std.proofs.Math.Bool.{true, false, cond}
use Prim.Native.Nat.{ℕ, zero, suc, ◌+◌, ◌-◌, ◌^◌, ◌≤◌, ◌<◌}
use native.Mathlib.Omega.{arith}
use Rattle.std.proofs.Math.Decide.{ℕ_discrete}
use Rattle.std.proofs.Math.Dec.{eqb}
use Rattle.std.specs.Int.Bits.{bit_and, and_zero_r}
use Rattle.std.proofs.lemmas.Nat.{and_le_l}
use Rattle.std.specs.Int.Count.{count_trailing_zeros}
use borrow.Author.Tests.{eqb-true, eqb-false, eq-eqb, ne_eqb, not-true}
use Rattle.laws.specs.Tests.{same_truth}
use Rattle.laws.specs.Lists.{Mem, mem_eq}
use Rattle.laws.specs.Masks.{Bit, bit_and_lem, bit_and_both, bit_some}
use Rattle.laws.specs.LowestBits.{lowest_bit}
use Rattle.graphs.specs.Drawing.{member}
use Rattle.graphs.specs.Cables.{mem_from_test, mem_to_test}
use Rattle.graphs.specs.Survey.{count_true, marked_cranes, each_once, crane_count}
use Rattle.graphs.specs.CraneCounts.{MarkedDrawing, marked_from, marked_crane}
use Rattle.growth.specs.Places.{set_number, in_set, cell_number, crane_cell, cell_set, cell_count}
use Rattle.growth.specs.CellLaws.{set_number_below, cell_set_is, cell_count_is, in_set_is, member_below}
use Rattle.growth.specs.Sheets.{
  LaterSheet,
  later_in,
  repeated_in,
  RepeatsTold,
  SheetsNoted,
  is_repeated,
  repeated_before,
  by_cranes,
  CountsCranes,
}

-- A SUM over the first n drawings, and its first part
unfoldable sum_of : (f : ℕ → ℕ) (n : ℕ) → ℕ
sum_of f zero = 0
sum_of f (suc n) = sum_of f n + f n

sum_front : (f : ℕ → ℕ) (n : ℕ) → sum_of f (suc n) ≡ f 0 + sum_of (λ d. f (suc d)) n
unfolding sum_of
sum_front f zero = omega arith
sum_front f (suc n) = omega (arith, sum_front f n)

sum_none : (n : ℕ) → sum_of (λ d. 0) n ≡ 0
unfolding sum_of
sum_none zero = refl
sum_none (suc n) = omega (arith, sum_none n)

sum_same : (f g : ℕ → ℕ) (n : ℕ) → ((d : ℕ) → f d ≡ g d) → sum_of f n ≡ sum_of g n
unfolding sum_of
sum_same f g zero h = refl
sum_same f g (suc n) h = omega (arith, sum_same f g n h, h n)

sum_most : (f g : ℕ → ℕ) (n : ℕ) → ((d : ℕ) → f d ≤ g d) → sum_of f n ≤ sum_of g n
unfolding sum_of
sum_most f g zero h = omega arith
sum_most f g (suc n) h = omega (arith, sum_most f g n h, h n)

repeated_sum : (sheets : List ℕ) (s n : ℕ) → repeated_before sheets s n ≡ sum_of (is_repeated sheets s) n
unfolding sum_of repeated_before
repeated_sum sheets s zero = refl
repeated_sum sheets s (suc n) = omega (arith, repeated_sum sheets s n)

-- THE MARKS of a set
abbrev mark_at : List Bool → ℕ → ℕ
mark_at bs d = cond (get_or bs d false) 1 0

marks_sum : (bs : List Bool) (n : ℕ) → sum_of (mark_at bs) n ≤ count_true bs
unfolding count_true
marks_sum [] n = omega (arith, sum_none n)
marks_sum (b ∷ bs) zero = unfold sum_of in omega arith
marks_sum (b ∷ bs) (suc n) = omega (arith, sum_front (mark_at (b ∷ bs)) n, marks_sum bs n)

is_repeated_marked :
    (sheets : List ℕ) (bs : List Bool) (d : ℕ)
    → is_repeated sheets (set_number bs) d ≡ cond (get_or bs d false && not (eqb (bit_and (set_number bs) (later_in sheets d)) 0)) 1 0
unfolding is_repeated
is_repeated_marked sheets bs d = rw (in_set_is bs d) (go (get_or bs d false) _)
  where
    go : (b t : Bool) → cond {A = ℕ} (eqb (cond b 1 0) 1 && t) 1 0 ≡ cond (b && t) 1 0
    go true t = refl
    go false t = refl

is_repeated_most : (sheets : List ℕ) (bs : List Bool) (d : ℕ) → is_repeated sheets (set_number bs) d ≤ mark_at bs d
is_repeated_most sheets bs d = rw (is_repeated_marked sheets bs d) (go (get_or bs d false) _)
  where
    go : (b t : Bool) → cond {A = ℕ} (b && t) 1 0 ≤ cond b 1 0
    go true true = omega arith
    go true false = omega arith
    go false t = omega arith

-- AT MOST AS MANY are repeated as there are
pub repeated_bound : (sheets : List ℕ) (bs : List Bool) (n : ℕ) → repeated_before sheets (set_number bs) n ≤ count_true bs
repeated_bound sheets bs n =
    omega (
      arith,
      repeated_sum sheets (set_number bs) n,
      sum_most (is_repeated sheets (set_number bs)) (mark_at bs) n (is_repeated_most sheets bs),
      marks_sum bs n,
    )

-- of a cell: its count has all that is taken off
pub repeated_in_cell :
    (sheets : List ℕ) (bs : List Bool) (cell n : ℕ) → length bs ≤ 32 → cell ≡ cell_number bs
    → repeated_before sheets (cell_set cell) n ≤ cell_count cell
repeated_in_cell sheets bs cell n h e = rw (e, cell_set_is bs h, cell_count_is bs h) (repeated_bound sheets bs n)

-- A BIT of a set is a mark
pub marked_bit : (bs : List Bool) (d : ℕ) → get_or bs d false ≡ true → Bit (set_number bs) d
unfolding Bit
marked_bit bs d e = in_set_is bs d ∙ ap (λ (b : Bool). cond b 1 0) e

pub bit_marked : (bs : List Bool) (d : ℕ) → Bit (set_number bs) d → get_or bs d false ≡ true
unfolding Bit
bit_marked bs d h = go (get_or bs d false) (sym (in_set_is bs d) ∙ h)
  where
    go : (b : Bool) → ◌≡◌ {A = ℕ} (cond b 1 0) 1 → b ≡ true
    go true e = refl
    go false e = absurd (omega arith)

-- A REPEAT: a marked drawing, and another of its crane is marked behind it
abbrev cranes_behind : (cr : List ℕ) (bs : List Bool) (d : ℕ) → List ℕ
cranes_behind cr bs d = marked_cranes (drop (suc d) cr) (drop (suc d) bs)

abbrev crane_behind : (cr : List ℕ) (bs : List Bool) (d : ℕ) → Bool
crane_behind cr bs d = member (get_or cr d 256) (cranes_behind cr bs d)

abbrev repeat_at : (cr : List ℕ) (bs : List Bool) (d : ℕ) → ℕ
repeat_at cr bs d = cond (get_or bs d false && crane_behind cr bs d) 1 0

-- the cranes and the repeats are all the marks
cranes_and_repeats :
    (cr : List ℕ) (bs : List Bool) (n : ℕ) → length bs ≡ length cr → length cr ≤ n
    → crane_count cr bs + sum_of (repeat_at cr bs) n ≡ count_true bs
unfolding count_true marked_cranes each_once
cranes_and_repeats [] [] n e h = omega (arith, sum_none n)
cranes_and_repeats [] (b ∷ bs) n e h = absurd (omega arith)
cranes_and_repeats (c ∷ cr) [] n e h = absurd (omega arith)
cranes_and_repeats (c ∷ cr) (b ∷ bs) zero e h = absurd (omega arith)
cranes_and_repeats (c ∷ cr) (true ∷ bs) (suc n) e h =
    go (member c (marked_cranes cr bs)) (sum_front (repeat_at (c ∷ cr) (true ∷ bs)) n) (cranes_and_repeats cr bs n (omega arith) (omega arith))
  where
    go :
        (t : Bool) → sum_of (repeat_at (c ∷ cr) (true ∷ bs)) (suc n) ≡ cond t 1 0 + sum_of (repeat_at cr bs) n
        → length (each_once (marked_cranes cr bs)) + sum_of (repeat_at cr bs) n ≡ count_true bs
        → length (cond t (each_once (marked_cranes cr bs)) (c ∷ each_once (marked_cranes cr bs)))
        + sum_of (repeat_at (c ∷ cr) (true ∷ bs)) (suc n)
        ≡ 1 + count_true bs
    go true s r = omega arith
    go false s r = omega arith
cranes_and_repeats (c ∷ cr) (false ∷ bs) (suc n) e h =
    omega (arith, sum_front (repeat_at (c ∷ cr) (false ∷ bs)) n, cranes_and_repeats cr bs n (omega arith) (omega arith))

-- the sheets that a drawing has behind it in the set
abbrev shared_sheets : (sheets : List ℕ) (bs : List Bool) (d : ℕ) → ℕ
shared_sheets sheets bs d = bit_and (set_number bs) (later_in sheets d)

-- a drawing of the set has a later sheet in the set exactly if its crane is marked behind it
module _ {cr sheets : List ℕ} (noted : SheetsNoted cr sheets) (bs : List Bool) (size : length bs ≡ length cr) (most : length cr ≤ 32)
    (d : ℕ) (low : d < length cr) where
  shared_behind : (shared_sheets sheets bs d ≡ 0 → ⊥) → Mem (get_or cr d 256) (cranes_behind cr bs d)
  shared_behind some =
      go (count_trailing_zeros 32 (shared_sheets sheets bs d))
      (bit_and_both (set_number bs) (later_in sheets d) _ (lowest_bit 32 (shared_sheets sheets bs d) fits some).set)
    where
      fits : shared_sheets sheets bs d < 2 ^ 32
      fits = omega (arith, and_le_l (set_number bs) (later_in sheets d), set_number_below bs (omega arith))

      at : (e : ℕ) → LaterSheet cr d e → get_or bs e false ≡ true → Mem (get_or cr d 256) (cranes_behind cr bs d)
      at e l m =
          let k : suc d + (e - suc d) ≡ e = omega (arith, l.later) in
          mem_eq (get_or-drop (suc d) cr (e - suc d) 256 ∙ ap (λ (i : ℕ). get_or cr i 256) k ∙ l.same)
          (marked_crane (drop (suc d) cr) (drop (suc d) bs) (e - suc d) (rw length-drop (omega (arith, l.later, l.below)))
          (get_or-drop (suc d) bs (e - suc d) false ∙ ap (λ (i : ℕ). get_or bs i false) k ∙ m))

      go : (e : ℕ) → Bit (set_number bs) e × Bit (later_in sheets d) e → Mem (get_or cr d 256) (cranes_behind cr bs d)
      go e b = at e (noted.sheets_are.only d e low b.1) (bit_marked bs e b.0)

  behind_shared : Mem (get_or cr d 256) (cranes_behind cr bs d) → shared_sheets sheets bs d ≡ 0 → ⊥
  behind_shared m = go (marked_from (drop (suc d) cr) (drop (suc d) bs) (get_or cr d 256) m)
    where
      go : MarkedDrawing (drop (suc d) cr) (drop (suc d) bs) (get_or cr d 256) → shared_sheets sheets bs d ≡ 0 → ⊥
      go t =
          bit_some (shared_sheets sheets bs d) (suc d + t.k)
          (bit_and_lem (set_number bs) (later_in sheets d) (suc d + t.k)
          (marked_bit bs (suc d + t.k) (sym (get_or-drop (suc d) bs t.k false) ∙ t.marked))
          (noted.sheets_are.has d (suc d + t.k) low
          (record {
            later = omega arith;
            below = omega (arith, rw length-drop at t.below);
            same = sym (get_or-drop (suc d) cr t.k 256) ∙ t.crane_is;
          })))

  shared_test : not (eqb (shared_sheets sheets bs d) 0) ≡ crane_behind cr bs d
  shared_test =
      same_truth _ _
      (λ e. mem_to_test (get_or cr d 256) _ (shared_behind (λ z. eqb-false _ 0 (not-true _ e) z)))
      (λ e. ap not (ne_eqb _ 0 (behind_shared (mem_from_test (get_or cr d 256) _ e))))

repeated_is :
    {cr sheets : List ℕ} → SheetsNoted cr sheets → (bs : List Bool) → length bs ≡ length cr → length cr ≤ 32 → (d : ℕ)
    → is_repeated sheets (set_number bs) d ≡ repeat_at cr bs d
repeated_is {cr} {sheets} noted bs size most d = is_repeated_marked sheets bs d ∙ go (get_or bs d false) refl
  where
    go :
        (b : Bool) → get_or bs d false ≡ b
        → cond {A = ℕ} (b && not (eqb (shared_sheets sheets bs d) 0)) 1 0 ≡ cond (b && crane_behind cr bs d) 1 0
    go true e = ap (λ (t : Bool). cond {A = ℕ} t 1 0) (shared_test noted bs size most d (omega (arith, member_below bs d e)))
    go false e = refl

-- THE LAW: taking the repeats off leaves the cranes
pub cell_by_cranes :
    (cr sheets : List ℕ) → SheetsNoted cr sheets → (bs : List Bool) → length bs ≡ length cr → length cr ≤ 32
    → by_cranes sheets (cell_number bs) ≡ crane_cell cr bs
unfolding by_cranes
cell_by_cranes cr sheets noted bs size most =
    rw (cell_set_is bs (omega arith))
    (omega (
      arith,
      repeated_sum sheets (set_number bs) 32,
      sum_same (is_repeated sheets (set_number bs)) (repeat_at cr bs) 32 (repeated_is noted bs size most),
      cranes_and_repeats cr bs 32 size most,
    ))

-- A DRAWING AFTER ANOTHER, as the program counts them
module _ (sheets : List ℕ) (s : ℕ) where
  pub repeated_next : (d : ℕ) → repeated_before sheets s (d + 1) ≡ repeated_before sheets s d + is_repeated sheets s d
  unfolding repeated_before
  repeated_next d = rw (add-one d)

  pub is_repeated_one : (d : ℕ) → Bit s d → (bit_and s (later_in sheets d) ≡ 0 → ⊥) → is_repeated sheets s d ≡ 1
  unfolding is_repeated Bit
  is_repeated_one d b some = rw (eq-eqb (in_set s d) 1 b, ne_eqb (bit_and s (later_in sheets d)) 0 some)

  pub is_repeated_none : (d : ℕ) → bit_and s (later_in sheets d) ≡ 0 → is_repeated sheets s d ≡ 0
  unfolding is_repeated
  is_repeated_none d e = rw (eq-eqb (bit_and s (later_in sheets d)) 0 e) (go (eqb (in_set s d) 1))
    where
      go : (t : Bool) → cond {A = ℕ} (t && false) 1 0 ≡ 0
      go true = refl
      go false = refl

  -- one that is not in the set, or has no later sheet
  pub is_repeated_unless :
      RepeatsTold sheets → (d : ℕ) → d < 32 → (Bit (bit_and s (repeated_in sheets)) d → ⊥) → is_repeated sheets s d ≡ 0
  unfolding is_repeated Bit
  is_repeated_unless told d low unset = go (eqb (in_set s d) 1) refl
    where
      apart : eqb (in_set s d) 1 ≡ true → bit_and s (later_in sheets d) ≡ 0
      apart e =
          ap (bit_and s) (told d low (λ b. unset (bit_and_lem s (repeated_in sheets) d (eqb-true (in_set s d) 1 e) b))) ∙ and_zero_r s

      go : (t : Bool) → eqb (in_set s d) 1 ≡ t → cond {A = ℕ} (t && not (eqb (bit_and s (later_in sheets d)) 0)) 1 0 ≡ 0
      go true e = rw (eq-eqb (bit_and s (later_in sheets d)) 0 (apart e))
      go false e = refl

  -- none of those from r up to k
  pub repeated_skip :
      (r k : ℕ) → r ≤ k → ((d : ℕ) → r ≤ d → d < k → is_repeated sheets s d ≡ 0) → repeated_before sheets s k ≡ repeated_before sheets s r
  unfolding repeated_before
  repeated_skip r zero h none = let e : r ≡ 0 = omega arith in rw e (unfold repeated_before in refl)
  repeated_skip r (suc k) h none = go (ℕ_discrete r (suc k)) (λ l. repeated_skip r k l (λ d low high. none d low (omega arith)))
    where
      go : Dec (r ≡ suc k) → (r ≤ k → repeated_before sheets s k ≡ repeated_before sheets s r)
          → repeated_before sheets s k + is_repeated sheets s k ≡ repeated_before sheets s r
      go (yes e) next = rw e (unfold repeated_before in refl)
      go (no n) next = omega (arith, next (omega arith), none k (omega arith) (omega arith))

pub sheets_count_cranes : {cr sheets : List ℕ} → length cr ≤ 32 → SheetsNoted cr sheets → CountsCranes cr sheets
sheets_count_cranes {cr} {sheets} h s = record { few = h; told = s.told; counted = λ bs e. cell_by_cranes cr sheets s bs e h }
