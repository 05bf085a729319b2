-- The settings of a catalogue and its survey, checked one after another. Rests on the refusals of a survey. Assumes nothing.
use Rattle.std.specs.Prelude.{◌≡◌, ◌&&◌, not, List, ◌⊎◌, ℕ, ◌≤◌, ◌<◌, Result, Ok, Err}
use Rattle.std.proofs.Common.{sym, ◌∙◌, inl, inr, arith}
use Rattle.std.proofs.Math.Path.{ap}
use Rattle.std.proofs.Math.Bool.{cond}
use Rattle.std.proofs.Math.Dec.{leb}
use borrow.Author.Tests.{le-leb, lt-leb}
use Rattle.graphs.specs.Survey as surveys
use Rattle.graphs.specs.Survey.{survey_refusal, bytes_refusal, refusal}
use Rattle.growth.specs.Settings.{AcceptedSettings, accepted_settings}
use Rattle.records.specs.declared.refusal.Refusal.TheVariants.{Threshold, SizeLimit}
use Rattle.records.specs.declared.refusal.Fault.{Fault}
use Rattle.records.specs.Refusals.{number_of, lone_fault}
use Rattle.records.specs.Surveys.{SurveyAnswer, survey_checked}
use Rattle.checks.specs.SurveyLaws.{answer_refused}

module _ (bs : List ℕ) (s l : ℕ) where
  -- 12
  pub settings_threshold : (s < 1) ⊎ (32 < s) → SurveyAnswer (survey_refusal bs s l) bs (Err (lone_fault Threshold))
  unfolding survey_refusal
  settings_threshold w = answer_refused (survey_refusal bs s l) bs Threshold 0 (sym (go w))
    where
      go : (s < 1) ⊎ (32 < s)
          → cond (not (leb 1 s && leb s 32)) (refusal 12 0) (cond (not (leb 1 l && leb l 8)) (refusal 13 0) (bytes_refusal bs)) ≡ refusal 12 0
      go (inl h) = rw (lt-leb 1 s h)
      go (inr h) = rw (le-leb 1 s (omega arith), lt-leb s 32 h)

  module _ (one : 1 ≤ s) (most : s ≤ 32) where
    -- 13
    pub settings_limit : (l < 1) ⊎ (8 < l) → SurveyAnswer (survey_refusal bs s l) bs (Err (lone_fault SizeLimit))
    unfolding survey_refusal
    settings_limit w = answer_refused (survey_refusal bs s l) bs SizeLimit 0 (sym (go w))
      where
        go : (l < 1) ⊎ (8 < l)
            → cond (not (leb 1 s && leb s 32)) (refusal 12 0) (cond (not (leb 1 l && leb l 8)) (refusal 13 0) (bytes_refusal bs)) ≡ refusal 13 0
        go (inl h) = rw (le-leb 1 s one, le-leb s 32 most, lt-leb 1 l h)
        go (inr h) = rw (le-leb 1 s one, le-leb s 32 most, le-leb 1 l (omega arith), lt-leb l 8 h)

    -- 1, 14, and 2 to 8 with the drawing; or the number of drawings
    pub settings_survey : 1 ≤ l → l ≤ 8 → {a : Result ℕ Fault} → SurveyAnswer (bytes_refusal bs) bs a → SurveyAnswer (survey_refusal bs s l) bs a
    unfolding survey_refusal
    settings_survey some small t =
        record { refusal = t.refusal ∙ rw (le-leb 1 s one, le-leb s 32 most, le-leb 1 l some, le-leb l 8 small); drawings = t.drawings }

  -- WHAT THE ANSWER TELLS
  module _ {a : Result ℕ Fault} (t : SurveyAnswer (survey_refusal bs s l) bs a) where
    pub settings_refused : {f : Fault} → a ≡ Err f → survey_refusal bs s l ≡ refusal (number_of f.refusal) f.drawing
    settings_refused e = sym t.refusal ∙ ap survey_checked e

    pub settings_number : {n : ℕ} → a ≡ Ok n → (survey_refusal bs s l).number ≡ 0
    unfolding refusal
    settings_number e = ap (λ (f : surveys.Refusal). f.number) (sym t.refusal ∙ ap survey_checked e)

    pub settings_fine : {n : ℕ} → a ≡ Ok n → AcceptedSettings bs s l
    settings_fine e = accepted_settings bs s l (settings_number e)
