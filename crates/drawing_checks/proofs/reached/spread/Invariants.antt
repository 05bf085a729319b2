-- `reached::spread` meets its contract. The invariant: the marks have what the cables before c take up. Assumes nothing.
use Prim.Native.Nat.{◌≤◌}
use Rattle.drawing_checks.specs.Reached.{MarksSpread}
use Rattle.drawing_checks.proofs.reached.spread.Given as goal

abbrev pub invariant-loop-c : goal.invariant-loop-c
invariant-loop-c l = (l.c ≤ l.m) × MarksSpread l.c l.drawing l.initial.reached l.reached
