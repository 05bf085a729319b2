-- The kinds that occur in a survey. Assumes nothing: these are definitions.
use Rattle.std.specs.Prelude.{◌≡◌, Bool, true, false, List, ℕ, ◌+◌, ◌<◌, length, get_or}
use Rattle.laws.specs.Rows.{row}
use Rattle.graphs.specs.Survey.{drawing_count}

-- a mark for each kind; the first n places of a drawing record are marked, and what was marked is
pub record Noted (drawing : List ℕ) (n : ℕ) (before after : List Bool) : Type 0 where
  pub size : length after ≡ 256
  pub kept : (k : ℕ) → get_or before k false ≡ true → get_or after k false ≡ true
  pub noted : (u : ℕ) → u < n → get_or after (get_or drawing (2 + u) 0) false ≡ true

-- the first n drawings of a survey are marked
pub record OccursBefore (n : ℕ) (survey : List ℕ) (marks : List Bool) : Type 0 where
  pub size : length marks ≡ 256
  pub noted : (d u : ℕ) → d < n → u < 10 → get_or marks (get_or (row 73 d survey) (2 + u) 0) false ≡ true

-- all of them
abbrev pub Occurs : (survey : List ℕ) (marks : List Bool) → Type 0
Occurs bs marks = OccursBefore (drawing_count bs) bs marks
