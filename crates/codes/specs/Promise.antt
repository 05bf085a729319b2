-- What is promised of codes and maps: statements, each a type that Proved.antt proves. Assumes nothing.
use Rattle.std.specs.Prelude.{◌≡◌, Bool, true, List, ℕ}
use Rattle.std.proofs.Math.Option.{some}
use Rattle.graphs.specs.Drawing.{Drawing, drawing_in, accepted, is_pattern}
use Rattle.graphs.specs.Map.{Same, maps_into, least_map, contains, Found}
use Rattle.graphs.specs.Survey.{support}
use Rattle.graphs.specs.Graph.{Section, Pattern}
use Rattle.codes.specs.Code.{Rec, LeastBy, rec_bytes}
use Rattle.codes.specs.SectionCode.{records_good, section_of, SectionCode, LeastSectionBy, LeastSection}
use Rattle.codes.specs.CodeOrder.{LabelOrder}
use Rattle.codes.specs.Decoded.{rows_bytes}

-- THE THIRD DEMAND: least codes are equal exactly when a map of all devices keeps every kind and cable
unfoldable pub CodesTell : Type 0
CodesTell =
    (xs ys : List ℕ) (rs ss : List Rec) → accepted xs ≡ true → accepted ys ≡ true → LeastSection (drawing_in xs) rs
    → LeastSection (drawing_in ys) ss
    → (rs ≡ ss → Same (drawing_in xs) (drawing_in ys)) × (Same (drawing_in xs) (drawing_in ys) → rs ≡ ss)

-- the same over code bytes, and over any order of the labels
unfoldable pub BytesTell : Type 0
BytesTell =
    (labels : Rec → Rec → Bool) → LabelOrder labels → (xs ys : List ℕ) (rs ss : List Rec) → accepted xs ≡ true → accepted ys ≡ true
    → LeastSectionBy labels (drawing_in xs) rs → LeastSectionBy labels (drawing_in ys) ss
    → (rec_bytes rs ≡ rec_bytes ss → Same (drawing_in xs) (drawing_in ys)) × (Same (drawing_in xs) (drawing_in ys) → rec_bytes rs ≡ rec_bytes ss)

-- support doesn't depend on how a pattern is drawn
unfoldable pub SupportSame : Type 0
SupportSame =
    (p q : Drawing) (cr : List ℕ) (ds : List Drawing) → is_pattern p ≡ true → is_pattern q ≡ true → Same p q → support p cr ds ≡ support q cr ds

-- THE SECOND DEMAND: every accepted drawing has its least code
unfoldable pub LeastThere : Type 0
LeastThere = (xs : List ℕ) → accepted xs ≡ true → (rs : List Rec) × LeastSection (drawing_in xs) rs

-- more: every section has, in any order of the labels, and just one
unfoldable pub LeastOnce : Type 0
LeastOnce =
    (labels : Rec → Rec → Bool) → LabelOrder labels → (d : Drawing) → Section d
    → (rs : List Rec) × LeastSectionBy labels d rs × ((ss : List Rec) → LeastSectionBy labels d ss → ss ≡ rs)

-- that of a pattern is its least DFS code
unfoldable pub LeastPattern : Type 0
LeastPattern =
    (labels : Rec → Rec → Bool) → (d : Drawing) (rs : List Rec) → Pattern d
    → (LeastSectionBy labels d rs → LeastBy labels d rs) × (LeastBy labels d rs → LeastSectionBy labels d rs)

-- a code turned back is a section that has it as a code
unfoldable pub DecodedCoded : Type 0
DecodedCoded = (rs : List Rec) → records_good rs ≡ true → rows_bytes rs ≡ true → Section (section_of rs) × SectionCode (section_of rs) rs

-- maps: the least is found, exactly where some map is
unfoldable pub MapRight : Type 0
MapRight =
    (xs ys f g : List ℕ) → accepted xs ≡ true → accepted ys ≡ true
    → (least_map (drawing_in xs) (drawing_in ys) ≡ some f → Found (drawing_in xs) (drawing_in ys) f)
    × (maps_into (drawing_in xs) (drawing_in ys) g ≡ true → contains (drawing_in xs) (drawing_in ys) ≡ true)
