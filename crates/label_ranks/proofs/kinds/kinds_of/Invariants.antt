-- `kinds::kinds_of` meets its contract. The invariant: the kinds of the first d drawings are marked. Assumes nothing.
use mathlib.Core.Path.{◌≡◌}
use Prim.Native.Nat.{◌≤◌, ◌-◌}
use Rattle.graphs.specs.Survey.{drawing_count}
use Rattle.walks.specs.Kinds.{OccursBefore}
use Rattle.label_ranks.proofs.kinds.kinds_of.Given as goal

abbrev pub invariant-loop-d : goal.invariant-loop-d
invariant-loop-d l = (l.drawings ≡ drawing_count l.survey) × (l.d ≤ l.drawings) × OccursBefore l.d l.survey l.occurs
