-- Codes of sections: the one record of a lone device, or a DFS code; the drawing that such a code describes, and the least of them.
-- Assumes nothing: these are definitions.
use Rattle.std.specs.Prelude.{◌≡◌, Bool, true, false, ◌&&◌, not, cond, List, [], ◌∷◌, ℕ, leb, eqb, length}
use Rattle.graphs.specs.Drawing.{Drawing}
use Rattle.graphs.specs.Map.{same_by}
use Rattle.graphs.specs.Graph.{lone_drawing}
use Rattle.codes.specs.Code.{
  Rec,
  fresh,
  rows_refusal,
  code_records,
  code_refusal,
  decoded,
  kinds_before,
  LeastAmong,
}

-- THE CODE OF A LONE DEVICE: one record, from device 0 to itself
unfoldable pub lone_record : (kind : ℕ) → Rec
lone_record k = record { i = 0; j = 0; ki = k; c = 0; kj = k }

abbrev pub lone_code : (kind : ℕ) → List Rec
lone_code k = lone_record k ∷ []

-- a row that is read so: no DFS code has such a record
unfoldable pub lone_row : List Rec → Bool
lone_row [] = false
lone_row (r ∷ []) = eqb r.i 0 && eqb r.j 0
lone_row (r ∷ s ∷ rs) = false

-- 10 a cable kind other than 0; 11 unequal kinds
unfoldable pub lone_refusal : List Rec → ℕ
lone_refusal [] = 10
lone_refusal (r ∷ rs) = cond (not (eqb r.c 0)) 10 (cond (not (eqb r.ki r.kj)) 11 0)

unfoldable pub lone_kind : List Rec → ℕ
lone_kind [] = 256
lone_kind (r ∷ rs) = r.ki

-- THE REFUSAL of a code: of its records, and of its bytes
unfoldable pub records_refusal : List Rec → ℕ
records_refusal rs = cond (lone_row rs) (lone_refusal rs) (rows_refusal fresh rs)

-- bytes that are read as a lone device's code
unfoldable pub lone_bytes : List ℕ → Bool
lone_bytes bs = eqb (length bs) 5 && lone_row (code_records bs)

unfoldable pub section_code_refusal : List ℕ → ℕ
section_code_refusal bs = cond (lone_bytes bs) (lone_refusal (code_records bs)) (code_refusal bs)

-- a row of 1 to 20 records that is not refused
unfoldable pub records_good : List Rec → Bool
records_good rs = (leb 1 (length rs) && leb (length rs) 20) && eqb (records_refusal rs) 0

-- THE DRAWING that a code describes
unfoldable pub section_of : List Rec → Drawing
section_of rs = cond (lone_row rs) (lone_drawing (lone_kind rs)) (decoded rs)

-- how many records the codes of a section have: one for each cable, and one where there is none
unfoldable pub section_records : Drawing → ℕ
section_records d = cond (eqb (length d.cables) 0) 1 (length d.cables)

-- A CODE OF A SECTION: it describes one that is the same by some map
pub record SectionCode (d : Drawing) (rs : List Rec) : Type 0 where
  pub good : records_good rs ≡ true
  pub numbers : List ℕ
  pub describes : same_by (section_of rs) d numbers ≡ true

-- THE LEAST of them
abbrev pub LeastSectionBy : (labels : Rec → Rec → Bool) → Drawing → List Rec → Type 0
LeastSectionBy labels d = LeastAmong labels (SectionCode d)

abbrev pub LeastSection : Drawing → List Rec → Type 0
LeastSection = LeastSectionBy kinds_before
