-- `answers::written_number` meets its contract: a refusal that names no drawing names drawing 0. Assumes nothing.
use Rattle.std.proofs.Common.{◌≡◌, ◌<◌, ℕ, Result, Ok, Err, refl, ap, ◌∙◌, lit<, rules}
use Rattle.graphs.specs.Survey as surveys
use Rattle.records.specs.declared.refusal.Refusal.{Refusal}
use Rattle.records.specs.declared.refusal.Fault.{Fault}
use Rattle.records.specs.Refusals.{lone_fault}
use Rattle.records.specs.Catalogued.{catalogued_refusal, catalogued_count}
use Rattle.code_checks.specs.Answers.{written_numbers}
use Rattle.answer_numbers.specs.Packed.{packed, packed_numbers}
use Rattle.answer_numbers.proofs.Mapped.{with_error, mapped_err}
use Rattle.answer_numbers.proofs.answers.written_number.Goals as goal

first_drawing : (a : Result ℕ Refusal) → (catalogued_refusal (with_error lone_fault a)).drawing < 32
unfolding surveys.refusal
first_drawing (Ok n) = lit< tt
first_drawing (Err r) = lit< tt

packed_answer : Result ℕ Fault → ℕ
packed_answer r = packed (catalogued_refusal r).number (catalogued_count r) (catalogued_refusal r).drawing

told : (a : Result ℕ Refusal) → packed_answer (with_error lone_fault a) ≡ packed_numbers (written_numbers a)
unfolding packed_answer surveys.refusal
told (Ok n) = refl
told (Err r) = refl

pub catalogued_number-requires : goal.catalogued_number-requires
catalogued_number-requires c =
    let a = c.args.answer in
    let same = mapped_err lone_fault a c.map_err.result c.map_err.ensures.cases (λ r f p. search rules) in
    rw same (first_drawing a)

pub returns : goal.returns
unfolding packed_answer
returns c =
    let a = c.args.answer in
    let same = mapped_err lone_fault a c.map_err.result c.map_err.ensures.cases (λ r f p. search rules) in
    c.catalogued_number.ensures ∙ ap packed_answer same ∙ told a
