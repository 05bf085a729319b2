-- `answers::matched_number` meets its contract: what is counted is the map's devices, 0 without one. Assumes nothing.
use Rattle.std.proofs.Common.{◌≡◌, ℕ, Option, Some, None, Result, Ok, Err, refl, ap, ◌∙◌, rules}
use Rattle.std.specs.Option.{unwrap_or}
use Rattle.records.specs.declared.refusal.Refusal.{Refusal}
use Rattle.code_checks.specs.Answers.{written_numbers}
use Rattle.matching.specs.MatchAnswers.{match_refusal, match_count}
use Rattle.answer_numbers.specs.Packed.{packed, packed_numbers}
use Rattle.answer_numbers.proofs.Mapped.{with_value, mapped}
use Rattle.answer_numbers.proofs.answers.matched_number.Goals as goal

count : Option ℕ → ℕ
count m = unwrap_or m 0

told : (a : Result (Option ℕ) Refusal) → packed_numbers (written_numbers (with_value count a)) ≡ packed (match_refusal a) (match_count a) 0
unfolding count
told (Ok (Some n)) = refl
told (Ok None) = refl
told (Err e) = refl

pub returns : goal.returns
unfolding count
returns c =
    let a = c.args.answer in
    let same = mapped count a c.map.result c.map.ensures.cases (λ m n p. search rules) in
    c.written_number.ensures ∙ ap (λ (r : Result ℕ Refusal). packed_numbers (written_numbers r)) same ∙ told a
