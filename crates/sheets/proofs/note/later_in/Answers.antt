-- `note::later_in` meets its contract. Assumes nothing.
use mathlib.Core.Path.{sym}
use native.Mathlib.Omega.{arith}
use Rattle.laws.specs.Rows.{row_at}
use Rattle.sheets.proofs.note.later_in.Goals as goal

pub returns : goal.returns
returns c =
    let a = c.args in
    sym (row_at 100 128 a.labels.now a.d 0 (omega arith))
