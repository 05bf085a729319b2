-- `catalogue::write_accepted` meets its contract. Assumes nothing.
use Rattle.mining.specs.WriteLaws.{writes_all, writes_empty}
use Rattle.mining.proofs.catalogue.write_accepted.Goals as goal

pub returns-in_default : goal.returns-in_default
returns-in_default c =
    rw c.from.ensures
    (writes_empty c.requires c.args.output.now c.mine_survey.new.output _
    (rw c.in_default.is at c.mine_survey.ensures) c.mine_survey.auto.output
    c.clear.ensures)

pub returns : goal.returns
returns c =
    writes_all c.requires c.args.output.now _ _ (rw c.in-Some.is at c.mine_survey.ensures)
    c.mine_survey.auto.output
