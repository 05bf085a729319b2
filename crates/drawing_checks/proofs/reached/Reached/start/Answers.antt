-- `reached::Reached::start` meets its contract: no mark, and then one. Assumes nothing.
use native.Mathlib.Omega.{arith}
use Rattle.drawing_checks.specs.ReachedLaws.{marks_none, marks_more}
use Rattle.drawing_checks.proofs.reached.Reached.start.Goals as goal

pub returns : goal.returns
returns c = marks_more _ _ 0 (omega arith) marks_none
