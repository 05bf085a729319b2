-- Growing and walking take turns, and each turn of the two has one cable more. The walk's invariant: what goes on by the records below t is listed.
use mathlib.Core.Path.{◌≡◌}
use Prim.Native.Nat.{◌*◌, ◌-◌}
use Rattle.books.specs.SmallRecords.{next_count}
use Rattle.small_patterns.specs.SmallWalk.{SmallSoFar}
use Rattle.small_patterns.proofs.grow.+grow_small_walk_small.Given as goal

abbrev pub decreases-grow_small : goal.decreases-grow_small
decreases-grow_small l = 2 * (l.bounds.limit - l.cables)

abbrev pub decreases-walk_small : goal.decreases-walk_small
decreases-walk_small l = 2 * (l.bounds.limit - l.cables) - 1

abbrev pub invariant-walk_small-loop-t : goal.invariant-walk_small-loop-t
invariant-walk_small-loop-t l =
    (l.most ≡ next_count l.devices)
    × SmallSoFar l.bounds l.initial.code l.cables l.devices l.initial.output l.count l.t l.code l.output l.written
