-- `answers::compared_number` meets its contract: what is counted is the order beside the agreement. Assumes nothing.
use Rattle.std.proofs.Common.{◌≡◌, ◌+◌, ◌*◌, ℕ, Result, Ok, Err, refl, ap, ◌∙◌, rules}
use Rattle.records.specs.declared.refusal.Refusal.{Refusal}
use Rattle.code_checks.specs.declared.answer.Comparison.{Comparison}
use Rattle.code_checks.specs.Answers.{order_number, written_numbers, compared_numbers}
use Rattle.answer_numbers.specs.Packed.{packed_numbers}
use Rattle.answer_numbers.proofs.Mapped.{with_value, mapped}
use Rattle.answer_numbers.proofs.answers.compared_number.Goals as goal

count : Comparison → ℕ
count v = 256 * v.agreement + order_number v.order

told : (a : Result Comparison Refusal) → written_numbers (with_value count a) ≡ compared_numbers a
unfolding count
told (Ok v) = refl
told (Err e) = refl

pub returns : goal.returns
unfolding count
returns c =
    let a = c.args.answer in
    let same = mapped count a c.map.result c.map.ensures.cases (λ v n p. search rules) in
    c.written_number.ensures ∙ ap packed_numbers (ap written_numbers same ∙ told a)
