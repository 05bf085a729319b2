-- `extension::append` meets its contract: what the record meets is set, and all before it stays. Assumes nothing.
use native.Mathlib.Omega.{arith}
use Rattle.extending.specs.AppendLaws.{forward_low, backward_appended, forward_appended}
use Rattle.extending.proofs.extension.append.Goals as goal

pub returns-then-next : goal.returns-then-next
returns-then-next c =
    backward_appended c.requires c.put_record.ensures c.if-next.true

-- the record's devices stay within the array
pub bounds-kinds-i : goal.bounds-kinds-i
bounds-kinds-i c = omega (arith, forward_low c.requires c.if-next.false, c.if-next.false)

pub bounds-kinds-j : goal.bounds-kinds-j
bounds-kinds-j c = omega (arith, forward_low c.requires c.if-next.false)

pub returns : goal.returns
returns c =
    forward_appended c.requires c.put_record.ensures c.if-next.false
