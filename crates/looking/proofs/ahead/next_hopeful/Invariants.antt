-- `ahead::next_hopeful` meets its contract. The invariant: the candidates below k were passed over. Assumes nothing.
use Prim.Native.Nat.{◌-◌}
use Rattle.looking.specs.Looking.{PassedOver}
use Rattle.looking.proofs.ahead.next_hopeful.Given as goal

abbrev pub invariant-loop-k : goal.invariant-loop-k
invariant-loop-k l =
    PassedOver l.initial.code l.initial.kinds l.cables l.kind l.alphabet l.n l.list l.from l.top l.code l.kinds l.k

abbrev pub decreases-loop-k : goal.decreases-loop-k
decreases-loop-k l = l.top - l.k
