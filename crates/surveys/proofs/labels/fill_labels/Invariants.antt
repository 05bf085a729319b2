-- `labels::fill_labels` meets its contract. The invariant: the tables of the first d drawings are there. Assumes nothing.
use mathlib.Core.Path.{◌≡◌}
use Prim.Native.Nat.{◌≤◌}
use Rattle.graphs.specs.Survey.{drawing_count}
use Rattle.walks.specs.DrawingTables.{TablesBefore}
use Rattle.surveys.proofs.labels.fill_labels.Given as goal

abbrev pub invariant-loop-d : goal.invariant-loop-d
invariant-loop-d l = (l.drawings ≡ drawing_count l.survey) × (l.d ≤ l.drawings) × TablesBefore l.d l.survey l.labels
