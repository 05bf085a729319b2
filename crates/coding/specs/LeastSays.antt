-- What the least test answers. Assumes nothing: these are definitions.
use Rattle.std.specs.Prelude.{◌≡◌, true, false, List, ℕ, eqb, length, Result, Ok, Err, ⊤}
use Rattle.codes.specs.Code.{Rec, code_records}
use Rattle.codes.specs.SectionCode.{section_of, LeastSection}
use Rattle.codes.specs.Agreement.{agreement}
use Rattle.records.specs.declared.refusal.Refusal.{Refusal}
use Rattle.code_checks.specs.declared.answer.Verdict.{Verdict}
use Rattle.code_checks.specs.SectionChecks.{section_code_checked}

-- THE VERDICT on a code of n records that agrees with the least one in k: yes exactly if that is the whole length
abbrev pub verdict_of : (agreement records : ℕ) → Verdict
verdict_of k n = record { least = eqb k n; agreement = k }

-- yes, and no, with the agreement
abbrev pub yes : (agreement : ℕ) → Verdict
yes k = record { least = true; agreement = k }

abbrev pub no : (agreement : ℕ) → Verdict
no k = record { least = false; agreement = k }

-- on these records, against the least code of the drawing that they describe
pub record LeastTold (rs : List Rec) (v : Result Verdict Refusal) : Type 0 where
  pub code : List Rec
  pub least : LeastSection (section_of rs) code
  pub answer : v ≡ Ok (verdict_of (agreement rs code) (length rs))

abbrev pub LeastAnswer : Result ⊤ Refusal → List Rec → Result Verdict Refusal → Type 0
LeastAnswer (Err x) rs v = v ≡ Err x
LeastAnswer (Ok _) rs v = LeastTold rs v

-- THE OUTCOME: 9, 10 or 11, or the verdict
abbrev pub LeastSays : (code : List ℕ) → Result Verdict Refusal → Type 0
LeastSays bs v = LeastAnswer (section_code_checked bs) (code_records bs) v
