-- What coding a drawing answers and leaves behind. Assumes nothing: these are definitions.
use Rattle.std.specs.Prelude.{◌≡◌, cond, List, ℕ, zero, suc, ◌*◌, ltb, length, Result, Ok}
use Rattle.graphs.specs.Drawing.{Drawing, drawing_in, drawing_refusal}
use Rattle.codes.specs.Code.{Rec, rec_bytes}
use Rattle.codes.specs.SectionCode.{section_records, LeastSection}
use Rattle.records.specs.declared.refusal.Refusal.{Refusal}
use Rattle.records.specs.Refusals.{first_of}
use Rattle.code_checks.specs.Answers.{numbers, written_numbers}
use Rattle.laws.specs.Lent.{in_front}

-- 1 to 8, then 15: output too short for the whole answer, 5 bytes a record
unfoldable pub coding_refusal : (drawing out : List ℕ) → ℕ
coding_refusal xs o = first_of (drawing_refusal xs) (cond (ltb (length o) (5 * section_records (drawing_in xs))) 15 0)

-- a refusal writes nothing
pub record TurnedBack (n : ℕ) (r : Result ℕ Refusal) (out out_now : List ℕ) : Type 0 where
  pub answer : written_numbers r ≡ numbers n 0
  pub output : out_now ≡ out

-- the least code is in front, and lent bytes past it keep their content
pub record LeastWritten (d : Drawing) (r : Result ℕ Refusal) (out out_now : List ℕ) : Type 0 where
  pub code : List Rec
  pub least : LeastSection d code
  pub answer : r ≡ Ok (length (rec_bytes code))
  pub output : out_now ≡ in_front (rec_bytes code) out

unfoldable pub CodeAs : (refusal : ℕ) → Drawing → Result ℕ Refusal → (out out_now : List ℕ) → Type 0
CodeAs zero d r o z = LeastWritten d r o z
CodeAs (suc n) d r o z = TurnedBack (suc n) r o z

-- CODING A DRAWING
unfoldable pub CodeSays : (drawing : List ℕ) → Result ℕ Refusal → (out out_now : List ℕ) → Type 0
CodeSays xs r o z = CodeAs (coding_refusal xs o) (drawing_in xs) r o z
