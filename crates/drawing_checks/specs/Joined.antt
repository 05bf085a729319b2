-- What the marks of the joined pairs say. Assumes nothing: these are definitions.
use Rattle.std.specs.Prelude.{◌≡◌, Bool, false, List, [], ℕ, ◌<◌, min, max}
use Rattle.laws.specs.Grids.{Grid, grid_cell}
use Rattle.graphs.specs.Drawing.{Cable, joined_by}
use Rattle.records.specs.declared.cable.Cable as held
use Rattle.records.specs.DrawingCables.{cable_fault}
use Rattle.drawing_checks.specs.declared.cables.Pair as held_pair

-- what a cable is refused for by its ends alone, 4 or 5: as if none stood before it
abbrev pub ends_fault : (n : ℕ) → Cable → ℕ
ends_fault n c = cable_fault n [] c

-- the ends of a cable, the lower first: where its mark is
pub record PairOf (c : held.Cable) (p : held_pair.Pair) : Type 0 where
  pub low : p.low ≡ min c.a c.b
  pub high : p.high ≡ max c.a c.b
  pub row : p.low < 10
  pub place : p.high < 10

-- the mark of two devices: in the row of the lower one, whichever stands first
abbrev pub pair_mark : (marks : List (List Bool)) (u v : ℕ) → Bool
pair_mark marks u v = grid_cell marks (min u v) (max u v) false

-- ten rows of ten marks: that of two devices is set exactly if one of the cables joins them, whichever end stands first
pub record MarksJoined (marks : List (List Bool)) (cs : List Cable) : Type 0 where
  pub table : Grid 10 10 marks
  pub says : (u v : ℕ) → u < 10 → v < 10 → pair_mark marks u v ≡ joined_by u v cs
