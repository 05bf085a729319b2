-- `extension::first_chord` meets its contract. The invariant: no chord goes below place q. Assumes nothing.
use native.Mathlib.Omega.{arith}
use borrow.Author.Rules.{rules}
use Rattle.branches.specs.ExtensionLaws.{chords_next, chord_here}
use Rattle.branches.proofs.extension.first_chord.Goals as goal

pub returns-then-l-ne0 : goal.returns-then-l-ne0
returns-then-l-ne0 c used given =
    chord_here (c.loop-q.invariant.1 used given) (c.chord_label-l.ensures used given) (omega arith)

pub loop-q-preserved : goal.loop-q-preserved
loop-q-preserved c = (
  search rules,
  λ used given. chords_next (c.loop-q.invariant.1 used given) (c.chord_label-l.ensures used given) (omega arith),
)
