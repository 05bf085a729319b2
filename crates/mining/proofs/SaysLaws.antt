-- The outcome of writing a catalogue: what is turned back, and what is written. Rests on WrittenLaws. Assumes nothing.
use Rattle.std.specs.Prelude.{◌≡◌, List, ℕ, Result, Err}
use Rattle.std.proofs.Common.{sym}
use Rattle.graphs.specs.Survey.{survey_refusal, refusal}
use Rattle.growth.specs.Catalogue.{OftenIn, figures_of}
use Rattle.records.specs.declared.refusal.Fault.{Fault}
use Rattle.records.specs.Refusals.{number_of, number_positive}
use Rattle.entries.specs.WrittenLaws.{says_refused, says_list}
use Rattle.mining.specs.CatalogueSays.{CatalogueSays}
use Rattle.mining.specs.WriteLaws.{Writes}

-- THE OUTCOME OF THE CALL
module _ (bs : List ℕ) (s l : ℕ) (o z : List ℕ) where
  -- 12, 13, 1, 14, 2 to 8
  pub says_turned_back : (f : Fault) → survey_refusal bs s l ≡ refusal (number_of f.refusal) f.drawing → z ≡ o → CatalogueSays bs s l (Err f) o z
  unfolding refusal
  says_turned_back f e =
      says_refused (survey_refusal bs s l) (OftenIn bs s) (figures_of bs) l (Err f) o z (rw e (number_positive f.refusal)) (sym e)

  -- the catalogue, or 15
  pub says_written : (r : Result ℕ Fault) → (survey_refusal bs s l).number ≡ 0 → Writes bs s l o r z → CatalogueSays bs s l r o z
  says_written r e w = says_list (survey_refusal bs s l) (OftenIn bs s) (figures_of bs) l r o z e w
