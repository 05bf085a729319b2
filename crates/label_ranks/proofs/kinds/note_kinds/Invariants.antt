-- `kinds::note_kinds` meets its contract. The invariant: the kinds of the places so far are marked. Assumes nothing.
use Prim.Native.Nat.{◌≤◌}
use Rattle.walks.specs.Kinds.{Noted}
use Rattle.label_ranks.proofs.kinds.note_kinds.Given as goal

abbrev pub invariant-loop-kind : goal.invariant-loop-kind
invariant-loop-kind l = (l.kind-index ≤ 10) × Noted l.drawing l.kind-index l.initial.occurs l.occurs
