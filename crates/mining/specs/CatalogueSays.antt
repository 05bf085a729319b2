-- What writing a catalogue answers, and what it leaves in the lent bytes. Assumes nothing: these are definitions.
use Rattle.std.specs.Prelude.{List, ℕ, Result}
use Rattle.graphs.specs.Survey.{survey_refusal}
use Rattle.growth.specs.Catalogue.{OftenIn, figures_of}
use Rattle.entries.specs.Written.{ListSays}
use Rattle.records.specs.declared.refusal.Fault.{Fault}

-- THE OUTCOME: 12, 13, 1, 14, 2 to 8 with the drawing; 15; or the catalogue
abbrev pub CatalogueSays : (bytes : List ℕ) (s l : ℕ) → Result ℕ Fault → (out out_now : List ℕ) → Type 0
CatalogueSays bs s l = ListSays (survey_refusal bs s l) (OftenIn bs s) (figures_of bs) l
