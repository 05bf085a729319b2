-- `extension::least_edge` meets its contract. The invariant: the least label to a free device below w. Assumes
-- nothing.
use Prim.Native.Nat.{ℕ, ◌≤◌, ◌-◌}
use Rattle.branches.specs.Branches.{in_place}
use Rattle.branches.specs.Extensions.{LeastEdge}
use Rattle.branches.proofs.extension.least_edge.Given as goal

abbrev pub invariant-loop-w : goal.invariant-loop-w
invariant-loop-w l =
    (l.w ≤ 10) × ((count given low : ℕ) → LeastEdge l.table (in_place l.numbers l.used l.path count given low) l.q l.w l.least)

abbrev pub decreases-loop-w : goal.decreases-loop-w
decreases-loop-w l = 10 - l.w
