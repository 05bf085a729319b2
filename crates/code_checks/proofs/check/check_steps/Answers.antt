-- `check::check_steps` meets its contract: before the first record none is refused. Assumes nothing.
use Rattle.std.proofs.Common.{sym, ◌∙◌}
use Rattle.code_checks.specs.CheckLaws.{read_start}
use Rattle.code_checks.proofs.check.check_steps.Goals as goal

pub loop-k-init : goal.loop-k-init
loop-k-init c =
    read_start _ (sym c.check_length.ensures ∙ c.in_ok-check_length.was) c.new-reading.result c.new-reading.ensures
