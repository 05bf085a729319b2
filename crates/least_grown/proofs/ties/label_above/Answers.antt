-- `ties::label_above` meets its contract. Assumes nothing.
use Rattle.std.proofs.Common.{rules, ◌≡◌, arith}
use Rattle.codes.specs.BranchState.{label_at}
use Rattle.tables.specs.RangeTests.{decides_any}
use Rattle.least_grown.proofs.ties.label_above.Goals as goal

pub returns : goal.returns
returns c =
    let a = c.args in
    let d = decides_any (λ w. label_at a.table.now a.i w ≡ a.wanted) (λ x b q k. search rules) c.any.ensures.ran in
    record {
      holds = λ e. let w = d.holds e in record { w = w.k; above = omega (arith, w.from); below = w.below; label = w.is };
      fails = λ e x. d.fails e (record { k = x.w; from = omega (arith, x.above); below = x.below; is = x.label });
    }
