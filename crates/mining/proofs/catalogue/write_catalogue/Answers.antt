-- `catalogue::write_catalogue` meets its contract. Assumes nothing.
use mathlib.Core.Path.{refl}
use borrow.Author.Rules.{rules}
use Rattle.mining.specs.SettingsLaws.{settings_refused, settings_number, settings_fine}
use Rattle.mining.proofs.SaysLaws.{says_turned_back, says_written}
use Rattle.mining.proofs.catalogue.write_catalogue.Goals as goal

pub returns-in_err-check_settings : goal.returns-in_err-check_settings
returns-in_err-check_settings c =
    let a = c.args in
    let told = says_turned_back a.survey.now a.threshold a.limit a.output.now _ _
    (settings_refused _ _ _ c.check_settings.ensures c.in_err-check_settings.was) refl in
    search (rules, told)

pub write_accepted-requires : goal.write_accepted-requires
write_accepted-requires c = settings_fine _ _ _ c.check_settings.ensures c.in_ok-check_settings.was

pub returns : goal.returns
returns c =
    let a = c.args in
    says_written a.survey.now a.threshold a.limit a.output.now _ c.write_accepted.result
    (settings_number _ _ _ c.check_settings.ensures c.in_ok-check_settings.was)
    c.write_accepted.ensures
