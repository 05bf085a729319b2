-- `reached::all_reached` meets its contract. The invariant: the marks are of what the rounds so far reach, and few.
-- Assumes nothing.
use Prim.Native.Nat.{◌≤◌, ◌+◌, ◌*◌}
use Rattle.drawing_checks.specs.Reached.{MarksDevices}
use Rattle.drawing_checks.specs.ReachedLaws.{after_rounds}
use Rattle.drawing_checks.proofs.reached.all_reached.Given as goal

abbrev pub invariant-loop-round : goal.invariant-loop-round
invariant-loop-round l =
    (l.round ≤ l.n) × MarksDevices l.reached (after_rounds l.drawing l.counts l.round) × (l.reached.count ≤ 1 + 20 * l.round)
