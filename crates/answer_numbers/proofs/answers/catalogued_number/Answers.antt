-- `answers::catalogued_number` meets its contract, case by case. Assumes nothing.
use Rattle.std.proofs.Common.{rules}
use Rattle.graphs.specs.Survey as surveys
use Rattle.answer_numbers.proofs.answers.catalogued_number.Goals as goal

pub refused-requires : goal.refused-requires
unfolding surveys.refusal
refused-requires c = rw c.in-Err.is at c.requires

pub returns-in-Ok : goal.returns-in-Ok
unfolding surveys.refusal
returns-in-Ok c = rw c.in-Ok.is (search rules)

pub returns-in-Err : goal.returns-in-Err
unfolding surveys.refusal
returns-in-Err c = rw c.in-Err.is c.refused.ensures
