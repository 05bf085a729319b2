-- `compare::codes_compared` meets its contract. The invariant: k records are equal, and those from k on decide. Assumes nothing.
use Rattle.std.proofs.Common.{◌≡◌}
use Rattle.codes.specs.Code.{code_records}
use Rattle.comparing.specs.Comparing.{codes_answer}
use Rattle.comparing.specs.ComparingLaws.{compared_from}
use Rattle.comparing.proofs.compare.codes_compared.Given as goal

abbrev pub invariant-loop-k : goal.invariant-loop-k
invariant-loop-k l = codes_answer (code_records l.first) (code_records l.second) ≡ compared_from l.first l.second l.k
