-- `bits::note_bits` meets its contract. The invariant: the tables are as they were, and the bits of the first d drawings are there. Assumes
-- nothing.
use mathlib.Core.Path.{◌≡◌}
use Prim.Native.Nat.{◌≤◌}
use Rattle.graphs.specs.Survey.{drawing_count}
use Rattle.walks.specs.DrawingTables.{Tables}
use Rattle.walks.specs.LabelBits.{sweep_most, BitsBefore}
use Rattle.surveys.proofs.bits.note_bits.Given as goal

abbrev pub invariant-loop-d : goal.invariant-loop-d
invariant-loop-d l =
    (l.drawings ≡ drawing_count l.survey) × (l.d ≤ l.drawings) × (l.n ≤ sweep_most) × Tables l.survey l.labels × BitsBefore l.d l.labels l.rank
