-- `answers::list_number` meets its contract: what is counted is 1 or 0. Assumes nothing.
use Rattle.std.proofs.Common.{◌≡◌, ℕ, Bool, true, false, cond, Result, Ok, Err, refl, ◌∙◌, rules}
use Rattle.records.specs.declared.refusal.Fault.{Fault}
use Rattle.records.specs.Catalogued.{catalogued_refusal, catalogued_count}
use Rattle.records.specs.ListsChecked.{list_refusal, list_value}
use Rattle.answer_numbers.proofs.Mapped.{with_value, mapped}
use Rattle.answer_numbers.proofs.answers.list_number.Goals as goal

count : Bool → ℕ
count b = cond b 1 0

refusal_told : (a : Result Bool Fault) → catalogued_refusal (with_value count a) ≡ list_refusal a
refusal_told (Ok b) = refl
refusal_told (Err f) = refl

count_told : (a : Result Bool Fault) → catalogued_count (with_value count a) ≡ list_value a
unfolding count
count_told (Ok true) = refl
count_told (Ok false) = refl
count_told (Err f) = refl

pub catalogued_number-requires : goal.catalogued_number-requires
unfolding count
catalogued_number-requires c =
    let a = c.args.answer in
    let same = mapped count a c.map.result c.map.ensures.cases (λ b n p. search rules) in
    rw (same, refusal_told a) c.requires

pub returns : goal.returns
unfolding count
returns c =
    let a = c.args.answer in
    let same = mapped count a c.map.result c.map.ensures.cases (λ b n p. search rules) in
    c.catalogued_number.ensures ∙ rw (same, refusal_told a, count_told a) refl
