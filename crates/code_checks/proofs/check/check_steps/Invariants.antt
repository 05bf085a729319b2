-- `check::check_steps` meets its contract. The invariant: k records are read, and what those left give is what all give.
-- Assumes nothing.
use Rattle.code_checks.specs.CheckLaws.{Read}
use Rattle.code_checks.proofs.check.check_steps.Given as goal

abbrev pub invariant-loop-k : goal.invariant-loop-k
invariant-loop-k l = Read l.code l.k l.reading
