-- `twins::has_free_twin` meets its contract. The invariant: u, below ten, is a twin below w. The measure: u and one, or nothing at
-- ten. Assumes nothing.
use mathlib.Core.List.{List}
use Prim.Native.Nat.{ℕ, ◌≤◌, ◌<◌, ◌+◌, ◌%◌}
use Rattle.codes.specs.Twins.{TwinsNoted}
use Rattle.codes.specs.TwinLaws.{TwinBelow}
use Rattle.tables.proofs.twins.has_free_twin.Given as goal

abbrev pub invariant-loop-u : goal.invariant-loop-u
invariant-loop-u l = (l.u ≤ 10) × ((t : List ℕ) → TwinsNoted t l.twins → l.u < 10 → TwinBelow t l.u l.w)

abbrev pub decreases-loop-u : goal.decreases-loop-u
decreases-loop-u l = (l.u + 1) % 11
