-- `labels::group_end` meets its contract. Assumes nothing.
use mathlib.Core.Path.{sym}
use Prim.Native.Nat.{◌+◌, ◌*◌}
use native.Mathlib.Omega.{arith}
use Rattle.laws.specs.Rows.{row_at}
use Rattle.surveys.proofs.labels.group_end.Goals as goal

pub returns : goal.returns
returns c =
    let a = c.args in
    sym (row_at 100 (64 + a.d) a.labels.now (10 * a.u + a.k) 0 (omega arith))
