-- `settings::check_given` meets its contract. Assumes nothing.
use mathlib.Core.Path.{◌≡◌, ap, ◌∙◌}
use Rattle.std.specs.Prelude.{refl, ℕ, Result, Ok, Err}
use Rattle.std.specs.Result.{result_and}
use Rattle.records.specs.declared.refusal.Fault.{Fault}
use Rattle.records.specs.Surveys.{survey_checked}
use Rattle.mining.specs.CheckSays.{first_checked}
use Rattle.mining.specs.ListCheckLaws.{given_checked}
use Rattle.mining.proofs.settings.check_given.Goals as goal

-- std's `and` is the first that refuses, or the second
and_first : (a b : Result ℕ Fault) → result_and a b ≡ first_checked a b
and_first (Ok n) b = refl
and_first (Err f) b = refl

pub returns : goal.returns
returns c =
    let a = c.args in
    ap survey_checked
    (c.and.ensures ∙ and_first c.check_settings-asked.result c.check_entries-whole.result ∙ ap (first_checked c.check_settings-asked.result) c.check_entries-whole.ensures)
    ∙ given_checked a.survey.now a.threshold a.limit a.list.now c.check_settings-asked.ensures
