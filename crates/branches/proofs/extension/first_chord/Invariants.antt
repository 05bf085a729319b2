-- `extension::first_chord` meets its contract. The invariant: no chord goes below place q. Assumes nothing.
use mathlib.Core.Bool.{Bool}
use mathlib.Core.List.{List}
use Prim.Native.Nat.{ℕ, ◌≤◌, ◌-◌}
use Rattle.branches.specs.Branches.{in_place}
use Rattle.branches.specs.ExtensionLaws.{NoChordBelow}
use Rattle.branches.proofs.extension.first_chord.Given as goal

abbrev pub invariant-loop-q : goal.invariant-loop-q
invariant-loop-q l =
    (l.q ≤ l.count) × ((used : List Bool) (given : ℕ) → NoChordBelow l.table (in_place l.numbers used l.path l.count given l.low) l.q)

abbrev pub decreases-loop-q : goal.decreases-loop-q
decreases-loop-q l = l.count - l.q
