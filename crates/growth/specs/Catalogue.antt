-- Lists of patterns, each with its least code and a figure, over any order of the labels; catalogues, the frequent patterns of a
-- survey with their supports, are such lists. Assumes nothing: these are definitions.
use Rattle.std.specs.Prelude.{◌≡◌, Bool, true, List, [], ◌∷◌, ◌++◌, map, ℕ, ◌*◌, ◌-◌, ◌≤◌, leb, length, get_or, replicate}
use Rattle.laws.specs.Lists.{Mem, concat}
use Rattle.laws.specs.Passing.{passing}
use Rattle.laws.specs.Rising.{Rises}
use Rattle.laws.specs.Rows.{rows}
use Rattle.graphs.specs.Drawing.{Drawing, is_pattern, byte_list}
use Rattle.graphs.specs.Survey.{survey, cranes, survey_refusal, support, example}
use Rattle.codes.specs.Code.{Rec, rec_bytes, before_by, LeastBy, kinds_before}
use Rattle.growth.specs.Sizes.{entry_size}

-- THE FIGURES OF AN ENTRY, what it tells of its pattern beside the code: the support, and the example, the number of a drawing
pub record Figures : Type 0 where
  pub support : ℕ
  pub example : ℕ

abbrev pub figures : (support example : ℕ) → Figures
figures n d = record { support = n; example = d }

pub record Entry : Type 0 where
  pub figures : Figures
  pub code : List Rec

abbrev pub entry : (figures : Figures) → (code : List Rec) → Entry
entry f rs = record { figures = f; code = rs }

-- WHAT AN ENTRY SAYS, of a family of patterns (those that are wanted) with figures for each: a wanted pattern of at most l cables,
-- its least code and its figures
pub record EntryOf (labels : Rec → Rec → Bool) (Wanted : Drawing → Type 0) (figure : Drawing → Figures) (l : ℕ) (e : Entry) : Type 0 where
  pub pattern : Drawing
  pub is_one : is_pattern pattern ≡ true
  pub least : LeastBy labels pattern e.code
  pub size : length e.code ≤ l
  pub figures_are : figure pattern ≡ e.figures
  pub wanted : Wanted pattern

-- THE LIST OF A FAMILY: codes rise; each entry is a wanted pattern's; each wanted pattern has one
pub record ListOf (labels : Rec → Rec → Bool) (Wanted : Drawing → Type 0) (figure : Drawing → Figures) (l : ℕ) (es : List Entry) : Type 0 where
  pub rise : Rises (before_by labels) (map (λ e. e.code) es)
  pub sound : (e : Entry) → Mem e es → EntryOf labels Wanted figure l e
  pub whole :
      (p : Drawing) (rs : List Rec) → is_pattern p ≡ true → length p.cables ≤ l → Wanted p → LeastBy labels p rs
      → Mem (entry (figure p) rs) es

-- the entries of at most l cables, in their order: a code has a record for each cable
abbrev pub few_cables : (l : ℕ) → Entry → Bool
few_cables l e = leb (length e.code) l

abbrev pub entries_within : (l : ℕ) → List Entry → List Entry
entries_within l = passing (few_cables l)

-- A CATALOGUE: the patterns that drawings of at least s cranes contain, each with its support, and as its example the lowest number of a
-- drawing that contains it. `cr` has the crane of each drawing.
abbrev pub Often : (cr : List ℕ) (ds : List Drawing) (s : ℕ) → Drawing → Type 0
Often cr ds s p = s ≤ support p cr ds

abbrev pub figures_in : (cr : List ℕ) (ds : List Drawing) → Drawing → Figures
figures_in cr ds p = figures (support p cr ds) (example p ds)

-- of a survey's bytes
abbrev pub OftenIn : (bytes : List ℕ) (s : ℕ) → Drawing → Type 0
OftenIn bs = Often (cranes bs) (survey bs)

abbrev pub figures_of : (bytes : List ℕ) → Drawing → Figures
figures_of bs = figures_in (cranes bs) (survey bs)

abbrev pub FrequentEntry : (labels : Rec → Rec → Bool) (cr : List ℕ) (ds : List Drawing) (s l : ℕ) → Entry → Type 0
FrequentEntry labels cr ds s = EntryOf labels (Often cr ds s) (figures_in cr ds)

abbrev pub CatalogueBy : (labels : Rec → Rec → Bool) (cr : List ℕ) (ds : List Drawing) (s l : ℕ) (es : List Entry) → Type 0
CatalogueBy labels cr ds s = ListOf labels (Often cr ds s) (figures_in cr ds)

abbrev pub Catalogue : (cr : List ℕ) (ds : List Drawing) (s l : ℕ) (es : List Entry) → Type 0
Catalogue = CatalogueBy kinds_before

-- AS BYTES: number of cables, support, the code's records, then zeros up to 8 records, and the example
unfoldable pub entry_bytes : Entry → List ℕ
entry_bytes e =
    (length e.code ∷ e.figures.support ∷ []) ++ rec_bytes e.code
    ++ replicate (40 - 5 * length e.code) 0 ++ (e.figures.example ∷ [])

unfoldable pub all_bytes : List Entry → List ℕ
all_bytes es = concat (map entry_bytes es)

-- of n entries as bytes, those of at most l cables: byte 0 is the number of cables
abbrev pub entries_up_to : (l n : ℕ) → (bytes : List ℕ) → List ℕ
entries_up_to l n bs = concat (passing (λ (r : List ℕ). leb (get_or r 0 0) l) (rows entry_size n bs))

-- THE STATEMENT: each accepted survey has just one catalogue
unfoldable pub CatalogueThere : Type 0
CatalogueThere =
    (bs : List ℕ) (s l : ℕ) → byte_list bs ≡ true → (survey_refusal bs s l).number ≡ 0
    → (es : List Entry) × Catalogue (cranes bs) (survey bs) s l es × ((gs : List Entry) → Catalogue (cranes bs) (survey bs) s l gs → gs ≡ es)
