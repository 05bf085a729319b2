-- `seen::some_edge` meets its contract: a label that is not 0 is that of a cable to a device without a number. Assumes nothing.
use Rattle.std.proofs.Common.{◌≡◌, ◌<◌, Bool, true, false, get_or, arith, tests}
use Rattle.std.proofs.lemmas.Grind.{common_steps}
use Rattle.laws.specs.Decides.{Decides}
use Rattle.codes.specs.BranchState.{label_at}
use Rattle.tables.specs.RangeTests.{SomeBetween, decides_any}
use Rattle.least_seen.specs.Accepting.{EdgeFrom}
use Rattle.least_seen.proofs.seen.some_edge.Goals as goal

pub returns : goal.returns
returns c =
    let a = c.args in
    told _ (decides_any (λ w. (get_or a.used.now w true ≡ false) × (0 < label_at a.table.now a.u w))
    (λ w b q k. grind (arith, tests, common_steps)) c.any.ensures.ran)
  where
    told :
        (r : Bool)
        → Decides r (SomeBetween (λ w. (get_or c.args.used.now w true ≡ false) × (0 < label_at c.args.table.now c.args.u w)) 0 c.args.n)
        → Decides r (EdgeFrom c.args.table.now c.args.used.now c.args.n c.args.u)
    told r d =
        record {
          holds = λ e. let z = d.holds e in record { w = z.k; below = z.below; free = z.is.0; some = z.is.1 };
          fails = λ e x. d.fails e (record { k = x.w; from = omega arith; below = x.below; is = (x.free, x.some) });
        }
