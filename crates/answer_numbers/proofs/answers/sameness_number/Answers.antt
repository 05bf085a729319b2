-- `answers::sameness_number` meets its contract: what is counted is 1 or 0. Assumes nothing.
use Rattle.std.proofs.Common.{◌≡◌, ℕ, Bool, true, false, cond, Result, Ok, Err, refl, ap, ◌∙◌, rules}
use Rattle.records.specs.declared.refusal.Refusal.{Refusal}
use Rattle.code_checks.specs.Answers.{written_numbers}
use Rattle.matching.specs.MatchAnswers.{same_refusal, same_value}
use Rattle.answer_numbers.specs.Packed.{packed, packed_numbers}
use Rattle.answer_numbers.proofs.Mapped.{with_value, mapped}
use Rattle.answer_numbers.proofs.answers.sameness_number.Goals as goal

count : Bool → ℕ
count b = cond b 1 0

told : (a : Result Bool Refusal) → packed_numbers (written_numbers (with_value count a)) ≡ packed (same_refusal a) (same_value a) 0
unfolding count
told (Ok true) = refl
told (Ok false) = refl
told (Err e) = refl

pub returns : goal.returns
unfolding count
returns c =
    let a = c.args.answer in
    let same = mapped count a c.map.result c.map.ensures.cases (λ b n p. search rules) in
    c.written_number.ensures ∙ ap (λ (r : Result ℕ Refusal). packed_numbers (written_numbers r)) same ∙ told a
