-- `ties::own_tie` meets its contract. Assumes nothing.
use Rattle.std.proofs.Common.{rules, arith}
use Rattle.tables.specs.RangeTests.{decides_any}
use Rattle.least_grown.specs.OwnTies.{TieAt}
use Rattle.least_grown.proofs.ties.own_tie.Goals as goal

pub returns : goal.returns
returns c =
    let a = c.args in
    let d = decides_any (TieAt a.table.now a.code.now a.n) (λ x b q k. search rules) c.any.ensures.ran in
    record {
      holds = λ e. let w = d.holds e in record { k = w.k; some = w.from; low = omega (arith, w.below); tie = w.is };
      fails = λ e x. d.fails e (record { k = x.k; from = x.some; below = omega (arith, x.low); is = x.tie });
    }
