-- The text of the catalogue of a survey, and what making it answers and leaves: that of a list, for the patterns that are frequent in the
-- survey. Assumes nothing: these are definitions.
use Rattle.std.specs.Prelude.{List, Option, ℕ, ◌*◌}
use Rattle.graphs.specs.Survey.{survey_refusal}
use Rattle.growth.specs.Sizes.{entry_size}
use Rattle.growth.specs.Catalogue.{OftenIn, figures_of}
use Rattle.mining.specs.UsualSettings.{usual}
use Rattle.printing.specs.ListTexts.{ListText, ListTextSays, ListTextWhole}

-- THE TEXT of a survey, with room for so many bytes of entries
abbrev pub SurveyText : (bytes : List ℕ) (s l room : ℕ) → (text : List ℕ) → Type 0
SurveyText bs s l = ListText (survey_refusal bs s l) (OftenIn bs s) (figures_of bs) l

-- THE OUTCOME of making it
abbrev pub SurveyTextSays : (bytes : List ℕ) (s l room : ℕ) (r : Option ℕ) (out out_now : List ℕ) → Type 0
SurveyTextSays bs s l = ListTextSays (survey_refusal bs s l) (OftenIn bs s) (figures_of bs) l

-- at the usual settings
abbrev pub UsualTextSays : (bytes : List ℕ) (room : ℕ) (r : Option ℕ) (out out_now : List ℕ) → Type 0
UsualTextSays bs = SurveyTextSays bs usual.threshold usual.limit

-- THE ROOM OF THE PROGRAM, 1,560 entries: 67,080 bytes
abbrev pub program_room : ℕ
program_room = entry_size * 1560

-- THE TEXT OF THE PROGRAM: the whole text of the survey's usual catalogue, with that room for entries
abbrev pub ProgramText : (bytes : List ℕ) (r : ℕ) (out out_now : List ℕ) → Type 0
ProgramText bs =
    ListTextWhole (survey_refusal bs usual.threshold usual.limit) (OftenIn bs usual.threshold) (figures_of bs) usual.limit
    program_room
