-- `same::same` meets its contract: the refusals in their order, then the counts, then what the search finds. Assumes nothing.
use Rattle.std.proofs.Common.{◌≡◌, rules, Err, refl, sym, ap, ◌∙◌}
use Rattle.std.proofs.Math.Logic.{⊎_elim}
use Rattle.records.specs.declared.drawing.Drawing.{Drawing}
use Rattle.records.specs.RefusalLaws.{refused_number, refused_positive, accepted_zero}
use Rattle.matching.specs.MatchAnswerLaws.{both_accepted, same_refused, same_not_counts, same_told}
use Rattle.matching.proofs.same.same.Goals as goal

pub returns-in_err-check_both : goal.returns-in_err-check_both
returns-in_err-check_both c =
    let r = c.in_err-check_both.was in
    let e = c.check_both.ensures in
    let is : c.from_residual.result ≡ Err c.in_err-check_both.field-0.0 = search rules in
    rw is (same_refused _ _ refl (refused_positive e r) _ (refused_number e r))

pub returns-then-a-b : goal.returns-then-a-b
returns-then-a-b c =
    let devices = λ (x : Drawing). x.devices in
    let cables = λ (x : Drawing). x.cables in
    same_not_counts _ _ (accepted_zero c.check_both.ensures c.in_ok-check_both.was)
    (⊎_elim (λ x n m. x (ap devices c.counted-a.ensures ∙ n ∙ sym (ap devices c.counted-b.ensures)))
    (λ x n m. x.1 (ap cables c.counted-a.ensures ∙ m ∙ sym (ap cables c.counted-b.ensures))) c.then-a-b.either)

pub least_map-requires : goal.least_map-requires
least_map-requires c = both_accepted _ _ (accepted_zero c.check_both.ensures c.in_ok-check_both.was)

pub returns : goal.returns
returns c =
    let devices = λ (x : Drawing). x.devices in
    let cables = λ (x : Drawing). x.cables in
    rw c.is_some.ensures
    (same_told _ _ (accepted_zero c.check_both.ensures c.in_ok-check_both.was)
    (sym (ap devices c.counted-a.ensures) ∙ c.if-a-b.false ∙ ap devices c.counted-b.ensures)
    (sym (ap cables c.counted-a.ensures) ∙ c.if-a-b-2.false ∙ ap cables c.counted-b.ensures) _ c.least_map.ensures)
