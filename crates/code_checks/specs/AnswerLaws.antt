-- Answers in the paper's numbers. Assumes nothing.
use Rattle.std.specs.Prelude.{◌≡◌, refl, cond, List, ℕ, eqb, length, Result, Ok, Err, ⊤}
use Rattle.std.proofs.Common.{sym, ap, ◌∙◌, arith, ne_eqb}
use Rattle.records.specs.declared.refusal.Refusal.{Refusal}
use Rattle.records.specs.Refusals.{number_of, number_positive, checked_number, first_of, or_else}
use Rattle.records.specs.RefusalLaws.{first_some, first_none}
use Rattle.code_checks.specs.Answers.{numbers, written_numbers, put_answer, PutSays}

-- the first that applies of two checks has the first number that applies
pub or_else_number : (a b : Result ⊤ Refusal) → checked_number (or_else a b) ≡ first_of (checked_number a) (checked_number b)
or_else_number (Ok _) b = sym (first_none 0 (checked_number b) refl)
or_else_number (Err r) b = sym (first_some (number_of r) (checked_number b) (number_positive r))

-- what a call that writes bytes answers: its refusal and no count, or no refusal and their number
put_answer_numbers :
    (c : Result ⊤ Refusal) (bs : List ℕ)
    → written_numbers (put_answer c bs) ≡ numbers (checked_number c) (cond (eqb (checked_number c) 0) (length bs) 0)
put_answer_numbers (Ok _) bs = refl
put_answer_numbers (Err r) bs =
    let d : number_of r ≡ 0 → ⊥ = λ e. omega (arith, number_positive r) in
    rw (ne_eqb (number_of r) 0 d)

pub put_numbers :
    (c : Result ⊤ Refusal) (bs : List ℕ) (r : Result ℕ Refusal) (o z : List ℕ) → PutSays c bs r o z
    → written_numbers r ≡ numbers (checked_number c) (cond (eqb (checked_number c) 0) (length bs) 0)
put_numbers c bs r o z p = ap written_numbers p.answer ∙ put_answer_numbers c bs
