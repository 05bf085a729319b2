-- What an answer says in the paper's numbers, and what a call that writes bytes answers and leaves. Assumes nothing:
-- these are definitions.
use Rattle.std.specs.Prelude.{◌≡◌, cond, List, ℕ, ◌+◌, ◌*◌, length, Result, Ok, Err, ⊤}
use Rattle.std.specs.declared.cmp.Ordering.{Ordering}
use Rattle.std.specs.declared.cmp.Ordering.TheVariants.{Less, Equal, Greater}
use Rattle.records.specs.declared.refusal.Refusal.{Refusal}
use Rattle.records.specs.Refusals.{number_of}
use Rattle.code_checks.specs.declared.answer.Comparison.{Comparison}
use Rattle.code_checks.specs.declared.answer.Verdict.{Verdict}
use Rattle.laws.specs.Lent.{in_front}

-- THE NUMBERS of an answer: its refusal, 0 for none, and its count, 0 where it refuses
pub record Numbers : Type 0 where
  pub refusal : ℕ
  pub count : ℕ

abbrev pub numbers : (refusal count : ℕ) → Numbers
numbers n c = record { refusal = n; count = c }

-- the number of bytes written
abbrev pub written_numbers : Result ℕ Refusal → Numbers
written_numbers (Ok n) = numbers 0 n
written_numbers (Err r) = numbers (number_of r) 0

-- how far two codes agree, 0 where it refuses
abbrev pub compared_agreement : Result Comparison Refusal → ℕ
compared_agreement (Ok c) = c.agreement
compared_agreement (Err r) = 0

-- 0 equal, 1 the first before, 2 after, and 256 times their agreement
abbrev pub order_number : Ordering → ℕ
order_number Equal = 0
order_number Less = 1
order_number Greater = 2

abbrev pub compared_numbers : Result Comparison Refusal → Numbers
compared_numbers (Ok c) = numbers 0 (256 * c.agreement + order_number c.order)
compared_numbers (Err r) = numbers (number_of r) 0

-- how far a code agrees with the least one, 0 where it refuses
abbrev pub verdict_agreement : Result Verdict Refusal → ℕ
verdict_agreement (Ok v) = v.agreement
verdict_agreement (Err r) = 0

-- 1 yes, 0 no, and 256 times that agreement
abbrev pub verdict_numbers : Result Verdict Refusal → Numbers
verdict_numbers (Ok v) = numbers 0 (256 * v.agreement + cond v.least 1 0)
verdict_numbers (Err r) = numbers (number_of r) 0

-- what is answered, and what the lent bytes are then: a refusal writes nothing
abbrev pub put_answer : Result ⊤ Refusal → (bytes : List ℕ) → Result ℕ Refusal
put_answer (Ok _) bs = Ok (length bs)
put_answer (Err r) bs = Err r

abbrev pub put_bytes : Result ⊤ Refusal → (bytes out : List ℕ) → List ℕ
put_bytes (Ok _) bs o = in_front bs o
put_bytes (Err r) bs o = o

-- a call that is turned back as a check says, or writes these bytes
pub record PutSays (check : Result ⊤ Refusal) (bytes : List ℕ) (r : Result ℕ Refusal) (out out_now : List ℕ) : Type 0 where
  pub answer : r ≡ put_answer check bytes
  pub output : out_now ≡ put_bytes check bytes out
