-- The measure: the records left, twice, and one more before the next record is told to be forward. The loop's invariant: what the ways
-- to devices below w tell, and every number given is taken back. Assumes nothing.
use Rattle.std.proofs.Common.{◌+◌, ◌-◌, ◌*◌, ◌≤◌}
use Rattle.branches.specs.Branches.{in_place, SameArrays}
use Rattle.least_seen.specs.FirstBetterLaws.{WaysTried}
use Rattle.least_branches.proofs.better.+first_better_first_better_ahead.Given as goal

abbrev pub decreases-first_better : goal.decreases-first_better
decreases-first_better l = 2 * (l.m - l.t) + 1

abbrev pub decreases-first_better_ahead : goal.decreases-first_better_ahead
decreases-first_better_ahead l = 2 * (l.m - l.t)

abbrev pub invariant-first_better_ahead-loop-w : goal.invariant-first_better_ahead-loop-w
invariant-first_better_ahead-loop-w l =
    (l.w ≤ l.n)
    × SameArrays l.fn.numbers l.numbers l.fn.used l.used l.fn.path l.path
    × WaysTried l.table l.code l.m l.t (in_place l.fn.numbers l.fn.used l.fn.path l.count l.given l.low) l.q l.bound l.w
