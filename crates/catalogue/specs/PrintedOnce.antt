-- What is printed follows from what is read: each survey has just one text, and an input of 2,409 bytes is refused, whatever would
-- follow it. Assumes nothing.
use Rattle.std.specs.Prelude.{◌≡◌, List, ℕ, length, take}
use Rattle.graphs.specs.Survey as surveys
use Rattle.graphs.specs.Survey.{length_refusal, bytes_refusal, survey_refusal}
use Rattle.mining.specs.UsualSettings.{usual}
use Rattle.text_lines.specs.Texts.{refusal_text}
use Rattle.printing.specs.ListTextLaws.{whole_text_once}
use Rattle.catalogue.specs.SurveyText.{SurveyText, ProgramText}

-- ONE TEXT: the printed bytes and their number are the same
pub program_text_once :
    (bs : List ℕ) (m n : ℕ) (o p y z : List ℕ) → ProgramText bs m o y → ProgramText bs n p z → (m ≡ n) × (take m y ≡ take n z)
program_text_once bs = whole_text_once _ _ _ _ _

-- AS FAR AS IT IS READ: 33 drawings
cut_is_14 : (bs : List ℕ) → length bs ≡ 2409 → survey_refusal bs usual.threshold usual.limit ≡ surveys.refusal 14 0
unfolding survey_refusal bytes_refusal length_refusal
cut_is_14 bs e = rw e

pub cut_refused :
    (bs : List ℕ) (room : ℕ) (t : List ℕ) → length bs ≡ 2409 → SurveyText bs usual.threshold usual.limit room t → t ≡ refusal_text 14 0
unfolding surveys.refusal
cut_refused bs room t e h = rw (cut_is_14 bs e) at h
