-- Surveys: 1 to 32 drawings one after another; their refusals; their cranes; the drawings that contain a pattern, its support and its example.
-- Assumes nothing: these are definitions.
use Rattle.std.specs.Prelude.{Bool, true, false, ◌&&◌, not, cond, List, [], ◌∷◌, map, ℕ, suc, ◌+◌, ◌/◌, ◌%◌, leb, eqb, length}
use Rattle.laws.specs.Rows.{rows}
use Rattle.graphs.specs.Drawing.{Drawing, drawing_in, crane_in, drawing_refusal, member}
use Rattle.graphs.specs.Map.{contains}

-- the drawing records of a survey
unfoldable pub records_in : List ℕ → List (List ℕ)
records_in bs = rows 73 (length bs / 73) bs

unfoldable pub survey : List ℕ → List Drawing
survey bs = map drawing_in (records_in bs)

-- the number of the crane that each is a sheet of
unfoldable pub cranes : List ℕ → List ℕ
cranes bs = map crane_in (records_in bs)

-- a refusal's number, 0 for none, and for 2 to 8 the drawing counted from 0
pub record Refusal : Type 0 where
  pub number : ℕ
  pub drawing : ℕ

unfoldable pub refusal : (number drawing : ℕ) → Refusal
refusal n d = record { number = n; drawing = d }

-- the lower drawing is checked fully before the next
unfoldable pub drawings_refusal : (d : ℕ) → (records : List (List ℕ)) → Refusal
drawings_refusal d [] = refusal 0 0
drawings_refusal d (r ∷ rs) =
    cond (eqb (drawing_refusal r) 0) (drawings_refusal (suc d) rs) (refusal (drawing_refusal r) d)

-- the length place: 1 no multiple of 73; then 14 no drawing, or over 32
unfoldable pub length_refusal : List ℕ → ℕ
length_refusal bs =
    cond (not (eqb (length bs % 73) 0)) 1 (cond (not (leb 1 (length bs / 73) && leb (length bs / 73) 32)) 14 0)

unfoldable pub bytes_refusal : List ℕ → Refusal
bytes_refusal bs =
    cond (eqb (length_refusal bs) 0) (drawings_refusal 0 (records_in bs)) (refusal (length_refusal bs) 0)

-- a catalogue's survey and settings: 12, then 13, then the survey's
unfoldable pub survey_refusal : (bytes : List ℕ) → (s l : ℕ) → Refusal
survey_refusal bs s l =
    cond (not (leb 1 s && leb s 32)) (refusal 12 0) (cond (not (leb 1 l && leb l 8)) (refusal 13 0) (bytes_refusal bs))

-- the drawings that contain a pattern, one mark each
unfoldable pub containing : Drawing → List Drawing → List Bool
containing p ds = map (contains p) ds

unfoldable pub count_true : List Bool → ℕ
count_true [] = 0
count_true (b ∷ bs) = cond b 1 0 + count_true bs

-- THE CRANES of a set of drawings, which has a mark for each: one number for each drawing that is marked
unfoldable pub marked_cranes : (cranes : List ℕ) → (marks : List Bool) → List ℕ
marked_cranes [] ms = []
marked_cranes (c ∷ cs) [] = []
marked_cranes (c ∷ cs) (true ∷ ms) = c ∷ marked_cranes cs ms
marked_cranes (c ∷ cs) (false ∷ ms) = marked_cranes cs ms

-- each number once, where it stands last
unfoldable pub each_once : List ℕ → List ℕ
each_once [] = []
each_once (x ∷ xs) = cond (member x xs) (each_once xs) (x ∷ each_once xs)

-- how many different cranes the marked drawings have
abbrev pub crane_count : (cranes : List ℕ) → (marks : List Bool) → ℕ
crane_count cs ms = length (each_once (marked_cranes cs ms))

-- the support of a pattern: the number of different cranes among the drawings that contain it
unfoldable pub support : Drawing → (cranes : List ℕ) → List Drawing → ℕ
support p cs ds = crane_count cs (containing p ds)

-- the first that is marked; where none is, as many as there are
unfoldable pub first_true : List Bool → ℕ
first_true [] = 0
first_true (b ∷ bs) = cond b 0 (suc (first_true bs))

-- THE EXAMPLE of a pattern: the lowest number of a drawing that contains it, whatever its crane
unfoldable pub example : Drawing → List Drawing → ℕ
example p ds = first_true (containing p ds)

-- the number of whole drawings
abbrev pub drawing_count : List ℕ → ℕ
drawing_count bs = length bs / 73
