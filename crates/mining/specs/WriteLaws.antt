-- Writing the catalogue of an accepted survey. Rests on WrittenLaws and Frequent. Assumes nothing.
use Rattle.std.specs.Prelude.{◌≡◌, false, List, ℕ, length, replicate, Some, None, Result, Ok, Err}
use Rattle.graphs.specs.Survey.{survey, cranes}
use Rattle.growth.specs.Catalogue.{OftenIn, figures_of}
use Rattle.growth.specs.Frequent.{often_closed, figures_kept}
use Rattle.growth.specs.Settings.{AcceptedSettings}
use Rattle.records.specs.declared.refusal.Refusal.TheVariants.{OutputLength}
use Rattle.records.specs.declared.refusal.Fault.{Fault}
use Rattle.records.specs.Refusals.{lone_fault}
use Rattle.entries.specs.Written.{ListWritten}
use Rattle.entries.specs.WrittenLaws.{list_written, list_too_long}
use Rattle.survey_patterns.specs.SurveyMined.{SurveyListed}

-- the catalogue is written, or 15
abbrev pub Writes : (bytes : List ℕ) (s l : ℕ) (out : List ℕ) → Result ℕ Fault → (out_now : List ℕ) → Type 0
Writes bs s l o r z = ListWritten (OftenIn bs s) (figures_of bs) l o r z

module _ {bs : List ℕ} {s l : ℕ} (a : AcceptedSettings bs s l) where
  -- WRITTEN TO THE END
  pub writes_all : (o z : List ℕ) (k : ℕ) → SurveyListed bs s l false o (Some k) z → length z ≡ length o → Writes bs s l o (Ok k) z
  writes_all =
      list_written (OftenIn bs s) (figures_of bs) l (often_closed (cranes bs) (survey bs) s) (figures_kept (cranes bs) (survey bs)) a.limit_high

  -- DOES NOT FIT
  pub writes_empty :
      (o y z : List ℕ) → SurveyListed bs s l false o None y → length y ≡ length o → z ≡ replicate (length y) 0
      → Writes bs s l o (Err (lone_fault OutputLength)) z
  writes_empty =
      list_too_long (OftenIn bs s) (figures_of bs) l (often_closed (cranes bs) (survey bs) s) (figures_kept (cranes bs) (survey bs)) a.limit_high
