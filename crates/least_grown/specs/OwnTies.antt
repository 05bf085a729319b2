-- Ties of a code's own numbering. Assumes nothing: these are definitions.
use Rattle.std.specs.Prelude.{◌≡◌, List, ℕ, suc, ◌≤◌, ◌<◌}
use Rattle.laws.specs.Rows.{row}
use Rattle.codes.specs.Code.{rec_in}
use Rattle.codes.specs.BranchState.{label_at}
use Rattle.least_seen.specs.Accepting.{wanted_label}

-- a cable with this label from device i to one above j
pub record LabelAbove (t : List ℕ) (n i j wanted : ℕ) : Type 0 where
  pub w : ℕ
  pub above : j < w
  pub below : w < n
  pub label : label_at t i w ≡ wanted

-- record k goes forward, and could have gone to a device above its own
pub record TieAt (t bs : List ℕ) (n k : ℕ) : Type 0 where
  pub up : (rec_in (row 5 k bs)).i ≤ (rec_in (row 5 k bs)).j
  pub other : LabelAbove t n (rec_in (row 5 k bs)).i (rec_in (row 5 k bs)).j (wanted_label bs k)

-- a record of m, but the first and the last, does
pub record OwnTie (t bs : List ℕ) (m n : ℕ) : Type 0 where
  pub k : ℕ
  pub some : 1 ≤ k
  pub low : suc k < m
  pub tie : TieAt t bs n k
