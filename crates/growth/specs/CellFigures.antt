-- The figures of a cell counted by cranes are those of its set: its lowest bit is the first drawing that is marked. Rests on CellLaws and on the
-- lowest bit of a number. Assumes nothing.
use Rattle.std.specs.Prelude.{◌≡◌, refl, Bool, true, false, cond, List, ℕ, ◌/◌, ◌%◌, ◌^◌, ◌≤◌, length, get_or}
use Rattle.std.proofs.Common.{sym, ap, ap₂, ◌∙◌, arith}
use Rattle.std.proofs.Math.Nat.{zero-div}
use Rattle.std.specs.Int.Count.{count_trailing_zeros}
use Rattle.laws.specs.Masks.{Bit}
use Rattle.laws.specs.LowestBits.{LowestBit, lowest_bit}
use Rattle.graphs.specs.Survey.{crane_count, first_true}
use Rattle.graphs.specs.FirstMarks.{first_true_is}
use Rattle.growth.specs.Catalogue.{figures}
use Rattle.growth.specs.Places.{set_number, crane_cell, cell_figures}
use Rattle.growth.specs.CellLaws.{set_number_below, crane_cell_set, crane_cell_count, in_set_is}

-- A MARK is a bit of the set's number
marked_bit : (bs : List Bool) (i : ℕ) → get_or bs i false ≡ true → Bit (set_number bs) i
unfolding Bit
marked_bit bs i e = in_set_is bs i ∙ ap (λ (b : Bool). cond {A = ℕ} b 1 0) e

bit_marked : (bs : List Bool) (i : ℕ) → Bit (set_number bs) i → get_or bs i false ≡ true
unfolding Bit
bit_marked bs i e = go (get_or bs i false) (sym (in_set_is bs i) ∙ e)
  where
    go : (b : Bool) → cond {A = ℕ} b 1 0 ≡ 1 → b ≡ true
    go true h = refl
    go false h = absurd (omega arith)

-- THE LOWEST BIT is the first mark
module _ (bs : List Bool) (few : length bs ≤ 32) (i : ℕ) (some : get_or bs i false ≡ true) where
  not_empty : set_number bs ≡ 0 → ⊥
  not_empty e = omega (arith, sym (in_set_is bs i ∙ ap (λ (b : Bool). cond {A = ℕ} b 1 0) some), ap (λ (n : ℕ). n / 2 ^ i % 2) e, zero-div (2 ^ i))

  lowest_mark : count_trailing_zeros 32 (set_number bs) ≡ first_true bs
  lowest_mark =
      let l : LowestBit 32 (set_number bs) (count_trailing_zeros 32 (set_number bs)) =
      lowest_bit 32 (set_number bs) (set_number_below bs few) not_empty in
      first_true_is bs (count_trailing_zeros 32 (set_number bs)) (bit_marked bs _ l.set) (λ r h e. l.zeros r h (marked_bit bs r e))

  pub crane_cell_figures : (cr : List ℕ) → cell_figures (crane_cell cr bs) ≡ figures (crane_count cr bs) (first_true bs)
  crane_cell_figures cr =
      ap₂ figures (crane_cell_count cr bs few) (ap (count_trailing_zeros 32) (crane_cell_set cr bs few) ∙ lowest_mark)
