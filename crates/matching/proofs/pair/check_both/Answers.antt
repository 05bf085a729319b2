-- `pair::check_both` meets its contract. Assumes nothing.
use Rattle.std.proofs.Common.{◌≡◌, rules, sym, ◌∙◌}
use Rattle.graphs.specs.Drawing.{drawing_refusal}
use Rattle.records.specs.Refusals.{number_of, first_of}
use Rattle.records.specs.RefusalLaws.{first_some, first_none, refused_number, refused_positive, accepted_zero}
use Rattle.matching.proofs.pair.check_both.Goals as goal

pub returns-in_err-check_drawing : goal.returns-in_err-check_drawing
returns-in_err-check_drawing c =
    let r = c.in_err-check_drawing.was in
    let e = c.check_drawing.ensures in
    let first = drawing_refusal c.args.first.now in
    let told : number_of c.in_err-check_drawing.field-0.0 ≡ first_of first (drawing_refusal c.args.second.now) =
    refused_number e r ∙ sym (first_some first _ (refused_positive e r)) in
    search (rules, told)

pub returns : goal.returns
returns c =
    let e = accepted_zero c.check_drawing.ensures c.in_ok-check_drawing.was in
    c.check_drawing-2.ensures ∙ sym (first_none _ _ e)
