-- `clear::starts_after` meets its contract. Assumes nothing.
use Rattle.std.proofs.Common.{rules, arith}
use Rattle.tables.specs.RangeTests.{decides_all}
use Rattle.least_grown.specs.ClearlyLeast.{RecordAfter}
use Rattle.least_grown.proofs.clear.starts_after.Goals as goal

pub returns : goal.returns
returns c =
    let d = decides_all (RecordAfter c.args.code.now c.args.first) (λ x b q k. search rules) c.all.ensures.ran in
    record { holds = λ e k. d.holds e k (omega arith); fails = λ e x. d.fails e (λ k l. x k) }
