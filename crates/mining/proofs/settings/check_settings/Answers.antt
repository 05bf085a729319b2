-- `settings::check_settings` meets its contract: each return has the tests that lead to it. Assumes nothing.
use mathlib.Core.Logic.{inl, inr, ⊎_elim}
use native.Mathlib.Omega.{arith}
use borrow.Author.Tests.{ltb-true, ltb-false}
use Rattle.mining.specs.SettingsLaws.{settings_threshold, settings_limit, settings_survey}
use Rattle.mining.proofs.settings.check_settings.Goals as goal

pub returns-then-s-lt-LEAST_DRAWINGS : goal.returns-then-s-lt-LEAST_DRAWINGS
returns-then-s-lt-LEAST_DRAWINGS c =
    let a = c.args in
    rw c.from.ensures
    (settings_threshold a.survey.now a.threshold a.limit
    (⊎_elim (λ w. inl (omega arith)) (λ w. inr (omega (arith, ltb-true))) c.then-s-lt-LEAST_DRAWINGS.either))

pub returns-then-l-lt1 : goal.returns-then-l-lt1
returns-then-l-lt1 c =
    let a = c.args in
    rw c.from-then-l-lt1.ensures
    (settings_limit a.survey.now a.threshold a.limit (omega arith) (omega (arith, ltb-false))
    (⊎_elim (λ w. inl (omega arith)) (λ w. inr (omega (arith, ltb-true))) c.then-l-lt1.either))

pub returns : goal.returns
returns c =
    let a = c.args in
    settings_survey a.survey.now a.threshold a.limit (omega arith) (omega (arith, ltb-false)) (omega arith) (omega (arith, ltb-false))
    c.check_survey.ensures
