-- A table of labels while it is filled, cable by cable. Assumes nothing: these are definitions.
use Rattle.std.specs.Prelude.{◌≡◌, List, ℕ, ◌+◌, ◌*◌, length, take, set}
use Rattle.graphs.specs.Drawing.{Cable, Drawing}
use Rattle.codes.specs.BranchState.{label_of, Labels}

-- the drawing with the first k of its cables
abbrev pub first_cables : Drawing → (k : ℕ) → Drawing
first_cables d k = record { kinds = d.kinds; cables = take k d.cables }

-- ten rows of ten labels
pub record Table (d : Drawing) (t : List ℕ) : Type 0 where
  pub size : length t ≡ 100
  pub labels : Labels d t

-- a cable between devices of the kinds ka and kb, put in both ways round
unfoldable pub put_cable : List ℕ → Cable → (ka kb : ℕ) → List ℕ
put_cable t c ka kb = set (set t (10 * c.a + c.b) (label_of c.kind kb)) (10 * c.b + c.a) (label_of c.kind ka)
