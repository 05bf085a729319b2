-- What the check of a survey says, as the paper's numbers. Assumes nothing: these are definitions.
use Rattle.std.specs.Prelude.{◌≡◌, List, ℕ, Result, Ok, Err}
use Rattle.graphs.specs.Survey as surveys
use Rattle.records.specs.declared.refusal.Fault.{Fault}
use Rattle.records.specs.Refusals.{number_of}
use Rattle.graphs.specs.Survey.{drawing_count}

-- the number, 0 where there is nothing to refuse, and the drawing
abbrev pub survey_checked : Result ℕ Fault → surveys.Refusal
survey_checked (Ok n) = surveys.refusal 0 0
survey_checked (Err f) = surveys.refusal (number_of f.refusal) f.drawing

-- r tells a refusal of the survey bs, or where there is none its number of drawings
pub record SurveyAnswer (told : surveys.Refusal) (bs : List ℕ) (r : Result ℕ Fault) : Type 0 where
  pub refusal : survey_checked r ≡ told
  pub drawings : (n : ℕ) → r ≡ Ok n → n ≡ drawing_count bs
