-- The measure: the cables that no record lists, three times, one more before the next record is told to be forward, and one more
-- before the best's own record is held against what goes on. The loop's invariant: the ways below `from` are searched, and every
-- number given is taken back. Assumes nothing.
use Rattle.std.proofs.Common.{◌≡◌, ◌+◌, ◌-◌, ◌*◌, ◌≤◌, length, Some}
use Rattle.branches.specs.declared.extension.Extension.TheVariants.{Edge}
use Rattle.branches.specs.Branches.{in_place, SameArrays}
use Rattle.least_below.specs.Searches.{WaysDone}
use Rattle.least_below.proofs.below.+search_anew_search_below_search_edges.Given as goal

abbrev pub decreases-search_anew : goal.decreases-search_anew
decreases-search_anew l = 3 * (l.m - l.t) + 1

abbrev pub decreases-search_below : goal.decreases-search_below
decreases-search_below l = 3 * (l.m - l.t) + 2

abbrev pub decreases-search_edges : goal.decreases-search_edges
decreases-search_edges l = 3 * (l.m - l.t)

abbrev pub invariant-search_edges-loop-w : goal.invariant-search_edges-loop-w
invariant-search_edges-loop-w l =
    (l.from ≤ 10)
    × SameArrays l.fn.numbers l.numbers l.fn.used l.used l.fn.path l.path
    × (length l.best ≡ 100)
    × WaysDone l.drawing l.table l.t (in_place l.fn.numbers l.fn.used l.fn.path l.count l.given l.low) (Some (Edge l.q l.l)) l.fn.best l.held l.best l.kept l.from

abbrev pub decreases-search_edges-loop-w : goal.decreases-search_edges-loop-w
decreases-search_edges-loop-w l = 10 - l.from
