-- `run_all` ends: each turn goes on in the list, and the measure is what is left of it. Assumes nothing.
use Rattle.std.proofs.Common.{length}
use Rattle.vectors.proofs.list.run_all.Given as goal

abbrev pub decreases-loop-left : goal.decreases-loop-left
decreases-loop-left l = length l.left
