-- `note::sheet_table` meets its contract. The invariant: the later sheets of the first d drawings are there, and which of these have any.
-- Assumes nothing.
use mathlib.Core.Path.{◌≡◌}
use Prim.Native.Nat.{◌≤◌}
use Rattle.graphs.specs.Survey.{cranes, drawing_count}
use Rattle.growth.specs.Sheets.{SheetsBefore}
use Rattle.growth.specs.SheetNotes.{ToldBefore}
use Rattle.sheets.proofs.note.sheet_table.Given as goal

abbrev pub invariant-loop-d : goal.invariant-loop-d
invariant-loop-d l =
    (l.d-end ≡ drawing_count l.survey) × (l.d ≤ l.d-end) × SheetsBefore l.d (cranes l.survey) l.sheets × ToldBefore l.d l.sheets l.repeated
