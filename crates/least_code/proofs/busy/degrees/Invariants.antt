-- `busy::degrees` meets its contract. The invariant: no count is above twice the number of cables counted. Assumes nothing.
use mathlib.Core.Path.{◌≡◌}
use Prim.Native.Nat.{◌≤◌, ◌*◌}
use lib.ListN.{length}
use Rattle.least_code.specs.Degrees.{DegreesWithin}
use Rattle.least_code.proofs.busy.degrees.Given as goal

abbrev pub invariant-loop-c : goal.invariant-loop-c
invariant-loop-c l = (l.c ≤ l.m) × (length l.counts ≡ 10) × DegreesWithin (2 * l.c) l.counts
