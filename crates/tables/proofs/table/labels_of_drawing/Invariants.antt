-- `table::labels_of_drawing` meets its contract. The invariant: the table is that of the first c cables. Assumes
-- nothing.
use Rattle.graphs.specs.Drawing.{drawing_in}
use Rattle.tables.specs.Tables.{first_cables, Table}
use Rattle.tables.proofs.table.labels_of_drawing.Given as goal

abbrev pub invariant-loop-c : goal.invariant-loop-c
invariant-loop-c l = Table (first_cables (drawing_in l.drawing) l.c) l.table
