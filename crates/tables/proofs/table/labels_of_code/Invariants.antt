-- `table::labels_of_code` meets its contract. The invariant: the table is that of the first k records' cables.
-- Assumes nothing.
use Rattle.codes.specs.Code.{decoded, code_records}
use Rattle.tables.specs.Tables.{first_cables, Table}
use Rattle.tables.proofs.table.labels_of_code.Given as goal

abbrev pub invariant-loop-k : goal.invariant-loop-k
invariant-loop-k l = Table (first_cables (decoded (code_records l.code)) l.k) l.table
