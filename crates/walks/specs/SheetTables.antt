-- The table of sheets of one crane, behind the tables of a survey's drawings. Assumes nothing: these are definitions.
use Rattle.std.specs.Prelude.{◌≡◌, List, ℕ, ◌<◌, length}
use Rattle.laws.specs.Rows.{row}

-- labels, slots, groups' ends and bits of 32 drawings stand in front of it
abbrev pub sheets_of : (labels : List ℕ) → List ℕ
sheets_of labels = row 100 128 labels

-- those are as they were
pub record BesideSheets (before after : List ℕ) : Type 0 where
  pub size : length after ≡ length before
  pub same : (j : ℕ) → j < 128 → row 100 j after ≡ row 100 j before
