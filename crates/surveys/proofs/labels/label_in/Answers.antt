-- `labels::label_in` meets its contract. Assumes nothing.
use mathlib.Core.Path.{sym}
use Prim.Native.Nat.{◌+◌, ◌*◌}
use native.Mathlib.Omega.{arith}
use Rattle.laws.specs.Rows.{row_at}
use Rattle.surveys.proofs.labels.label_in.Goals as goal

pub returns : goal.returns
returns c =
    let a = c.args in
    sym (row_at 100 a.d a.labels.now (10 * a.u + a.v) 0 (omega arith))
