-- `check::holds` meets its contract. Assumes nothing.
use Prim.Native.Nat.{◌^◌, ◌<◌}
use lib.ListN.{length}
use native.Mathlib.Omega.{arith}
use Rattle.laws.specs.Decides.{decides_equal}
use Rattle.mining.specs.ListCheckLaws.{holds_all, holds_not}
use borrow.Author.Rules.{rules}
use Rattle.mining.proofs.check.holds.Goals as goal

pub returns-in_default : goal.returns-in_default
returns-in_default c =
    holds_not c.requires c.args.list.now (rw c.in_default.is at c.mine_survey.ensures)

pub overflow_mul-result : goal.overflow_mul-result
overflow_mul-result c =
    let low : length c.args.list.now < 2 ^ 64 = search rules in
    record { fits = omega (arith, (rw c.in-Some.is at c.mine_survey.ensures).room, low) }

pub returns : goal.returns
returns c =
    holds_all c.requires c.args.list.now c.in-Some.entries (rw c.in-Some.is at c.mine_survey.ensures)
    (decides_equal _ _)
