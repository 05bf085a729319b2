-- What is printed of whatever a catalogue call answers and leaves is the text of the survey: the drawing at fault is one of the survey's, so
-- its number is one of the machine's. Rests on ListTextLaws. Assumes nothing.
use Rattle.std.specs.Prelude.{◌≡◌, Bool, true, false, ◌&&◌, not, cond, List, [], ◌∷◌, Option, Result, ℕ, suc, ◌+◌, ◌/◌, ◌^◌, ◌≤◌, ◌<◌, leb, eqb, length}
use Rattle.std.proofs.Common.{arith}
use Rattle.laws.specs.Rows.{rows_length}
use Rattle.graphs.specs.Drawing.{drawing_refusal}
use Rattle.graphs.specs.Survey as surveys
use Rattle.graphs.specs.Survey.{records_in, drawings_refusal, length_refusal, bytes_refusal, survey_refusal}
use Rattle.growth.specs.Catalogue.{OftenIn, figures_of}
use Rattle.mining.specs.CatalogueSays.{CatalogueSays}
use Rattle.records.specs.declared.refusal.Fault.{Fault}
use Rattle.printing.specs.TextSizes.{BytesIn}
use Rattle.printing.specs.Says.{TextSays}
use Rattle.printing.specs.ListTextLaws.{list_text_made}
use Rattle.catalogue.specs.SurveyText.{SurveyTextSays}

-- THE DRAWING AT FAULT is one of the survey's
either : (most : ℕ) (t : Bool) (f g : surveys.Refusal) → f.drawing ≤ most → g.drawing ≤ most → (cond t f g).drawing ≤ most
either most true f g h k = h
either most false f g h k = k

drawings_low : (d : ℕ) (rs : List (List ℕ)) → (drawings_refusal d rs).drawing ≤ d + length rs
unfolding drawings_refusal surveys.refusal
drawings_low d [] = omega arith
drawings_low d (r ∷ rs) =
    either (d + length (r ∷ rs)) (eqb (drawing_refusal r) 0) (drawings_refusal (suc d) rs) (surveys.refusal (drawing_refusal r) d)
    (omega (arith, drawings_low (suc d) rs))
    (omega arith)

drawing_low : (bs : List ℕ) (s l : ℕ) → (survey_refusal bs s l).drawing ≤ length bs
unfolding survey_refusal bytes_refusal records_in surveys.refusal
drawing_low bs s l =
    either (length bs) (not (leb 1 s && leb s 32)) (surveys.refusal 12 0) _ (omega arith)
    (either (length bs) (not (leb 1 l && leb l 8)) (surveys.refusal 13 0) (bytes_refusal bs) (omega arith)
    (either (length bs) (eqb (length_refusal bs) 0) (drawings_refusal 0 (records_in bs)) (surveys.refusal (length_refusal bs) 0)
    (omega (arith, drawings_low 0 (records_in bs), rows_length 73 (length bs / 73) bs))
    (omega arith)))

-- MAKING IT: the catalogue call, then the text of what it answers and leaves
pub survey_text_made :
    (bs : List ℕ) (s l : ℕ) → l ≤ 8 → (a : Result ℕ Fault) (es es_now : List ℕ) → CatalogueSays bs s l a es es_now
    → length bs < 10 ^ 20 → length es < 10 ^ 20 → length es_now ≡ length es → BytesIn es_now
    → (r : Option ℕ) (out out_now : List ℕ) → TextSays a es_now r out out_now → SurveyTextSays bs s l (length es) r out out_now
survey_text_made bs s l low a es es_now says small =
    list_text_made (survey_refusal bs s l) (OftenIn bs s) (figures_of bs) l (λ e. low) (omega (arith, drawing_low bs s l))
    a es es_now says
