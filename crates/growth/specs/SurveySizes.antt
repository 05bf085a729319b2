-- An accepted survey is at most 32 simple drawings of at most 20 cables, so that no catalogue has more than 8,446,368 entries. Rests on
-- what is accepted and on the count of entries. Assumes nothing.
use Rattle.std.specs.Prelude.{◌≡◌, List, [], ℕ, ◌≤◌, ◌<◌, length, get_or}
use Rattle.std.proofs.Common.{ap, ◌∙◌, arith}
use Rattle.std.proofs.lemmas.List.{length-map}
use Rattle.std.proofs.Math.ListN.{get_or-map}
use Rattle.laws.specs.Rows.{row, rows, rows_at, rows_length}
use Rattle.graphs.specs.Drawing.{drawing_in}
use Rattle.graphs.specs.Survey.{survey, cranes, records_in, bytes_refusal, drawing_count, survey_refusal}
use Rattle.graphs.specs.Patterns.{accepted_parts}
use Rattle.graphs.specs.AcceptedDrawing.{accepted_simple, accepted_cables}
use Rattle.graphs.specs.AcceptedSurvey.{AcceptedSurvey, accepted_survey}
use Rattle.growth.specs.Catalogue.{Entry, Catalogue}
use Rattle.growth.specs.Settings.{accepted_settings}
use Rattle.growth.specs.EntryCount.{SizedSurvey, entries_most}

-- drawing j of a survey is that of its j-th record
drawing_at : (bs : List ℕ) (j : ℕ) → j < drawing_count bs → get_or (survey bs) j (drawing_in []) ≡ drawing_in (row 73 j bs)
unfolding survey records_in
drawing_at bs j h = get_or-map drawing_in (rows 73 (drawing_count bs) bs) j [] ∙ ap drawing_in (rows_at 73 (drawing_count bs) j bs h)

survey_length : (bs : List ℕ) → length (survey bs) ≡ drawing_count bs
unfolding survey records_in
survey_length bs = length-map (rows 73 (drawing_count bs) bs) drawing_in ∙ rows_length 73 (drawing_count bs) bs

pub sized_survey : (bs : List ℕ) → (bytes_refusal bs).number ≡ 0 → SizedSurvey (drawing_in []) (survey bs)
sized_survey bs fine =
    record {
      most = omega (arith, survey_length bs, a.most);
      simple = λ j h. rw (drawing_at bs j (low j h)) (accepted_simple (row 73 j bs) (a.drawing j (low j h)));
      cables = λ j h. rw (drawing_at bs j (low j h)) (few j (low j h));
    }
  where
    a : AcceptedSurvey bs
    a = accepted_survey bs fine

    low : (j : ℕ) → j < length (survey bs) → j < drawing_count bs
    low j h = omega (arith, survey_length bs)

    few : (j : ℕ) → j < drawing_count bs → length (drawing_in (row 73 j bs)).cables ≤ 20
    few j h =
        let ok = a.drawing j h in
        omega (arith, accepted_cables (row 73 j bs) ok, (accepted_parts (row 73 j bs) ok).cables_high)

-- THE MOST ENTRIES
pub catalogue_most : (bs : List ℕ) (s l : ℕ) (es : List Entry) → (survey_refusal bs s l).number ≡ 0 → Catalogue (cranes bs) (survey bs) s l es
    → length es ≤ 8446368
catalogue_most bs s l es fine c =
    let t = accepted_settings bs s l fine in
    entries_most (drawing_in []) (survey bs) (sized_survey bs t.drawings) (cranes bs) s l t.threshold_low t.limit_high es c
