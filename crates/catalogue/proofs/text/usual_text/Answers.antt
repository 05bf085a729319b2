-- `text::usual_text` meets its contract: the catalogue call, then the text of what it answers and leaves. Assumes nothing.
use Rattle.std.proofs.Common.{arith, rules}
use Rattle.catalogue.specs.SurveyTextLaws.{survey_text_made}
use Rattle.catalogue.proofs.text.usual_text.Goals as goal

pub returns : goal.returns
returns c =
    let w = c.write_text in
    let u = c.usual_catalogue-answer in
    let a = c.args in
    survey_text_made a.survey.now _ _ (omega arith) u.result a.entries.now u.new.output u.ensures
    (omega arith) (omega arith) u.auto.output (λ i. search rules)
    w.result a.text.now w.new.text w.ensures
