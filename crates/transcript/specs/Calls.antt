-- The numbers by which a list asks for calls. Assumes nothing: these are definitions.
use Rattle.std.specs.Prelude.{◌≡◌, ℕ, ◌<◌, Result, MatchResult}
use Rattle.transcript.specs.declared.call.Question.{Question}
use Rattle.transcript.specs.declared.call.Question.TheVariants as question
use Rattle.transcript.specs.declared.call.Writing.{Writing}
use Rattle.transcript.specs.declared.call.Writing.TheVariants as writing
use Rattle.transcript.specs.declared.call.CatalogueCall.{CatalogueCall}
use Rattle.transcript.specs.declared.call.CatalogueCall.TheVariants as catalogue
use Rattle.transcript.specs.declared.call.ListCheck.{ListCheck}
use Rattle.transcript.specs.declared.call.ListCheck.TheVariants as list_check
use Rattle.transcript.specs.declared.call.Call as calls
use Rattle.transcript.specs.declared.call.Call.TheVariants as call
use Rattle.transcript.specs.declared.call.NoSuchCall.{NoSuchCall}

abbrev pub question_number : Question → ℕ
question_number question.CheckDrawing = 1
question_number question.CheckSurvey = 2
question_number question.CheckCode = 3
question_number question.IsLeast = 4
question_number question.Compare = 5
question_number question.Same = 6

abbrev pub writing_number : Writing → ℕ
writing_number writing.CodeDrawing = 8
writing_number writing.Decode = 9
writing_number writing.MatchDrawing = 10

abbrev pub catalogue_number : CatalogueCall → ℕ
catalogue_number catalogue.Asked = 11
catalogue_number catalogue.Usual = 12

abbrev pub list_check_number : ListCheck → ℕ
list_check_number list_check.Asked = 14
list_check_number list_check.Usual = 15
list_check_number list_check.Four = 16

abbrev pub call_number : calls.Call → ℕ
call_number (call.Question q) = question_number q
call_number call.Fetch = 7
call_number (call.Writing w) = writing_number w
call_number (call.Catalogue c) = catalogue_number c
call_number call.Book = 13
call_number (call.ListCheck l) = list_check_number l

-- the call of this number, or else it is none of 1 to 16
abbrev pub Asks : ℕ → Result calls.Call NoSuchCall → Type 0
Asks n r = MatchResult r (λ c. call_number c ≡ n) (λ _. 0 < n → 16 < n)
