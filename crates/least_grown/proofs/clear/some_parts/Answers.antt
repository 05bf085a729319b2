-- `clear::some_parts` meets its contract. Assumes nothing.
use Rattle.std.proofs.Common.{rules, arith}
use Rattle.tables.specs.RangeTests.{decides_any}
use Rattle.least_grown.specs.ClearlyLeast.{PartsAgain}
use Rattle.least_grown.proofs.clear.some_parts.Goals as goal

pub returns : goal.returns
returns c =
    let d = decides_any (PartsAgain c.args.code.now c.args.m) (λ x b q k. search rules) c.any.ensures.ran in
    record {
      holds = λ e. let w = d.holds e in record { k = w.k; some = w.from; low = omega (arith, w.below); parts = w.is };
      fails = λ e x. d.fails e (record { k = x.k; from = x.some; below = omega (arith, x.low); is = x.parts });
    }
