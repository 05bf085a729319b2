-- The three numbers of an answer. Assumes nothing: these are definitions.
use Rattle.std.specs.Prelude.{◌≡◌, ℕ, Result, Ok, Err, ⊤}
use Rattle.records.specs.declared.refusal.Refusal.{Refusal}
use Rattle.records.specs.declared.refusal.Refusal.TheVariants.{Step, Kind}
use Rattle.records.specs.declared.refusal.Fault.{Fault}
use Rattle.records.specs.Refusals.{number_of, lone_fault}
use Rattle.transcript.specs.declared.answer.Answer.{Answer}

-- where a refusal is at fault: the code record that it names, or else the drawing d
abbrev pub fault_place : Refusal → (d : ℕ) → ℕ
fault_place (Step k) d = k
fault_place (Kind k) d = k
fault_place r d = d

abbrev pub fault_answer : Fault → Answer
fault_answer f = record { refusal = number_of f.refusal; at = fault_place f.refusal f.drawing; count = 0 }

-- a check that accepts answers three zeros, and else its reason, with no drawing at fault
abbrev pub CheckAnswers : Result ⊤ Refusal → Result Answer Fault → Type 0
CheckAnswers (Ok _) a = a ≡ Ok record { refusal = 0; at = 0; count = 0 }
CheckAnswers (Err r) a = a ≡ Err (lone_fault r)
