-- `check::check_list` meets its contract. Assumes nothing.
use borrow.Author.Rules.{rules}
use Rattle.growth.specs.Settings.{accepted_settings}
use Rattle.mining.specs.ListCheckLaws.{check_turned_back, given_fine, check_told}
use Rattle.mining.proofs.check.check_list.Goals as goal

pub returns-in_err-check_given : goal.returns-in_err-check_given
returns-in_err-check_given c =
    let a = c.args in
    let told = check_turned_back a.survey.now a.threshold a.limit a.list.now _ c.check_given.ensures c.in_err-check_given.was in
    search (rules, told)

pub holds-requires : goal.holds-requires
holds-requires c =
    let a = c.args in
    let fine = given_fine a.survey.now a.threshold a.limit a.list.now c.check_given.ensures c.in_ok-check_given.was in
    accepted_settings a.survey.now a.threshold a.limit fine.0

pub returns : goal.returns
returns c =
    let a = c.args in
    let fine = given_fine a.survey.now a.threshold a.limit a.list.now c.check_given.ensures c.in_ok-check_given.was in
    check_told a.survey.now a.threshold a.limit a.list.now fine.0 fine.1 c.holds.ensures
