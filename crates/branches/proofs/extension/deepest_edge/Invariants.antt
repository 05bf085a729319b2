-- `extension::deepest_edge` meets its contract. The invariant: no edge starts from the places left behind. Assumes
-- nothing.
use Rattle.std.proofs.Common.{ℕ}
use Rattle.branches.specs.Branches.{in_place}
use Rattle.branches.specs.ExtensionLaws.{NoEdgeFrom}
use Rattle.branches.proofs.extension.deepest_edge.Given as goal

abbrev pub invariant-loop-q : goal.invariant-loop-q
invariant-loop-q l =
    (given low : ℕ) → NoEdgeFrom l.table (in_place l.numbers l.used l.path l.count given low) l.q
