-- `grow::grow` and `grow::walk` meet their contracts. The walk's invariant: what goes on by the candidates below k is listed.
use mathlib.Core.Path.{◌≡◌}
use Prim.Native.Nat.{◌+◌, ◌*◌, ◌-◌}
use lib.ListN.{length}
use Rattle.codes.specs.Code.{recs_in}
use Rattle.growth.specs.Page.{page}
use Rattle.extending.specs.HeldCode.{CodeKept}
use Rattle.walks.specs.EmbeddingLists.{ListsKept}
use Rattle.growing.specs.GrowthOutcomes.{OnTheWay}
use Rattle.growing.proofs.grow.+grow_walk.Given as goal

-- twice the size left, and one less for a walk, which grows what is larger
abbrev pub decreases-grow : goal.decreases-grow
decreases-grow l = 2 * (l.settings.limit - l.cables)

abbrev pub decreases-walk : goal.decreases-walk
decreases-walk l = 2 * (l.settings.limit - l.cables) - 1

abbrev pub invariant-walk-loop-next : goal.invariant-walk-loop-next
invariant-walk-loop-next l =
    OnTheWay l.survey l.alphabet l.settings l.kind (recs_in l.cables l.initial.code) l.initial.list l.from l.top
    (page l.settings.checking l.given l.initial.output) l.count l.k l.cells l.seen l.list
    (page l.settings.checking l.given l.output) l.written
    × CodeKept l.cables l.devices l.initial.code l.initial.kinds l.code l.kinds
    × ListsKept (l.cables + 1) l.initial.kept l.initial.ends l.kept l.ends × (length l.output ≡ length l.initial.output)

abbrev pub decreases-walk-loop-next : goal.decreases-walk-loop-next
decreases-walk-loop-next l = l.top - l.k
