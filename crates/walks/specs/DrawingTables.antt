-- The tables of labels of a survey's drawings, one after another, and their slots. Assumes nothing: these are definitions.
use Rattle.std.specs.Prelude.{◌≡◌, List, ℕ, ◌+◌, ◌<◌, length}
use Rattle.laws.specs.Rows.{row}
use Rattle.graphs.specs.Drawing.{drawing_in}
use Rattle.codes.specs.BranchState.{Labels}
use Rattle.graphs.specs.Survey.{drawing_count}
use Rattle.growth.specs.Sizes.{tables_size}
use Rattle.walks.specs.Slots.{SlotsIn}

-- those of the first n drawings, in room for 32
pub record TablesBefore (n : ℕ) (survey labels : List ℕ) : Type 0 where
  pub size : length labels ≡ tables_size
  pub table : (d : ℕ) → d < n → Labels (drawing_in (row 73 d survey)) (row 100 d labels)
  pub slots : (d : ℕ) → d < n → SlotsIn labels d

-- all of them
abbrev pub Tables : (survey labels : List ℕ) → Type 0
Tables bs ls = TablesBefore (drawing_count bs) bs ls

-- A DRAWING'S TABLE and its slots are put in their places, and the other rows are as they were
pub record DrawingPut (t : List ℕ) (d : ℕ) (before after : List ℕ) : Type 0 where
  pub size : length after ≡ tables_size
  pub table_is : row 100 d after ≡ t
  pub slots : SlotsIn after d
  pub other : (j : ℕ) → (j ≡ d → ⊥) → (j ≡ 32 + d → ⊥) → (j ≡ 64 + d → ⊥) → row 100 j after ≡ row 100 j before
