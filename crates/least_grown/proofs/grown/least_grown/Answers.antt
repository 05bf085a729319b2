-- `grown::least_grown` meets its contract: an accepted code is least exactly if no start comes before it. Assumes nothing.
use Rattle.std.proofs.lemmas.Bool.{not-true, not-false}
use Rattle.laws.specs.Decides.{decides_true}
use Rattle.least_grown.specs.FrontLaws.{front_grown, front_not_least, front_least}
use Rattle.least_grown.proofs.grown.least_grown.Goals as goal

pub clearly_least-requires : goal.clearly_least-requires
clearly_least-requires c =
    let g = front_grown c.requires.0 c.requires.1 in
    (g.accepted, g.records, g.well)

pub start_before-requires : goal.start_before-requires
start_before-requires c = front_grown c.requires.0 c.requires.1

pub returns-then-clearly_least : goal.returns-then-clearly_least
returns-then-clearly_least c =
    rw c.if-clearly_least.true (decides_true (front_least c.requires.0 c.fits-code (c.clearly_least.ensures c.if-clearly_least.true)))

pub returns-else-clearly_least : goal.returns-else-clearly_least
returns-else-clearly_least c =
    record {
      holds = λ e. front_least c.requires.0 c.fits-code (c.start_before.ensures.fails (not-true c.start_before.result e));
      fails = λ e. front_not_least c.requires.0 c.fits-code (c.start_before.ensures.holds (not-false c.start_before.result e));
    }
