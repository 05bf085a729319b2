-- `note::later_sheets` meets its contract. The invariant: the later sheets among the first e drawings are there. Assumes nothing.
use mathlib.Core.Path.{◌≡◌}
use Prim.Native.Nat.{◌<◌}
use Rattle.graphs.specs.Survey.{cranes, drawing_count}
use Rattle.growth.specs.Sheets.{LaterBefore}
use Rattle.sheets.proofs.note.later_sheets.Given as goal

abbrev pub invariant-loop-e : goal.invariant-loop-e
invariant-loop-e l =
    (l.drawings ≡ drawing_count l.survey) × (l.d < l.e) × LaterBefore l.e (cranes l.survey) l.d l.later
