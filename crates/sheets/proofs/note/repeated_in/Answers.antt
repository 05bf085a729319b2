-- `note::repeated_in` meets its contract. Assumes nothing.
use mathlib.Core.Path.{sym}
use native.Mathlib.Omega.{arith}
use Rattle.laws.specs.Rows.{row_at}
use Rattle.sheets.proofs.note.repeated_in.Goals as goal

pub returns : goal.returns
returns c = sym (row_at 100 128 c.args.labels.now 32 0 (omega arith))
