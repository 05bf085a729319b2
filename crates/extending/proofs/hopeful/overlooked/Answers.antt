-- `hopeful::overlooked` meets its contract. Assumes nothing.
use Rattle.std.proofs.Common.{rules}
use Rattle.tables.specs.RangeTests.{decides_any}
use Rattle.walks.specs.Hopes.{OverlookedBy}
use Rattle.extending.proofs.hopeful.overlooked.Goals as goal

pub returns : goal.returns
returns c =
    let a = c.args in
    let d = decides_any (λ t. OverlookedBy a.code.now t a.a a.c a.kj) (λ x b q k. search rules) c.any.ensures.ran in
    record {
      holds = λ e. let w = d.holds e in record { t = w.k; some = w.from; below = w.below; by = w.is };
      fails = λ e x. d.fails e (record { k = x.t; from = x.some; below = x.below; is = x.by });
    }
