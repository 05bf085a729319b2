-- `extension::deepest_edge` meets its contract. The invariant: no edge starts from the places left behind. Assumes
-- nothing.
use Rattle.std.proofs.Common.{arith}
use Rattle.branches.specs.ExtensionLaws.{places_next, edge_here}
use Rattle.branches.proofs.extension.deepest_edge.Goals as goal

pub returns-then-least-ne0 : goal.returns-then-least-ne0
returns-then-least-ne0 c given low none =
    edge_here (c.least_edge-least.ensures _ given low) c.loop-q.q (omega arith) (c.loop-q.invariant given low) (omega arith) none (omega arith)

pub loop-q-preserved : goal.loop-q-preserved
loop-q-preserved c given low =
    places_next (c.least_edge-least.ensures _ given low) c.loop-q.q (omega arith) (c.loop-q.invariant given low) (omega arith)
