-- What the paper says of its starred drawings, D1 to D12, of sections with one device and of sheets of one crane: the kinds of case, what
-- each means, how each is computed, and the table. Assumes nothing: these are definitions.
use Rattle.std.specs.Prelude.{◌≡◌, Bool, true, false, ◌&&◌, not, cond, List, [], ◌∷◌, ◌++◌, map, ℕ, leb, eqb, length, replicate}
use Rattle.std.proofs.Math.Option.{Option, none, some}
use Rattle.graphs.specs.Drawing.{Cable, Drawing, kind, drawing_in, drawing_bytes, byte_list, accepted}
use Rattle.graphs.specs.Map.{same_by, maps_into, least_map, contains, Found}
use Rattle.graphs.specs.Survey.{survey, cranes, survey_refusal}
use Rattle.codes.specs.Code.{Rec, kinds_before, rows_good, rec_bytes, decoded, CodeOf}
use Rattle.codes.specs.SectionCode.{lone_code, section_code_refusal, LeastSection}
use Rattle.codes.specs.Agreement.{agreement}
use Rattle.codes.specs.LeastSearch.{rows_same, is_least_code}
use Rattle.growth.specs.Catalogue.{Figures, figures, Entry, entry, Catalogue}
use Rattle.growth.specs.Mined.{mined_entries}

pub data Case : Type 0 where
  -- the drawing is accepted, and this is its least code
  coded : (drawing : List ℕ) (code : List Rec) → Case
  -- the drawing is accepted and has cables, and this is a DFS code of it, not its least
  other_code : (drawing : List ℕ) (code : List Rec) → Case
  -- the two codes agree in so many records before they part
  agree : (first second : List Rec) (records : ℕ) → Case
  -- the code's bytes are refused with this number
  refused_code : (code : List ℕ) (number : ℕ) → Case
  -- both drawings are accepted, and this is the least map of the first into the second
  matched : (pattern drawing : List ℕ) (map : List ℕ) → Case
  -- both are accepted, and no map is
  not_contained : (pattern drawing : List ℕ) → Case
  -- the survey and the settings are accepted, and this is the catalogue
  catalogued : (survey : List ℕ) (s l : ℕ) (entries : List Entry) → Case

-- WHAT A CASE MEANS
unfoldable pub Holds : Case → Type 0
Holds (coded bs rs) = (accepted bs ≡ true) × LeastSection (drawing_in bs) rs
Holds (other_code bs rs) = (accepted bs ≡ true) × CodeOf (drawing_in bs) rs × (LeastSection (drawing_in bs) rs → ⊥)
Holds (agree rs ss n) = agreement rs ss ≡ n
Holds (refused_code bs n) = section_code_refusal bs ≡ n
Holds (matched ps ds f) = (accepted ps ≡ true) × (accepted ds ≡ true) × Found (drawing_in ps) (drawing_in ds) f
Holds (not_contained ps ds) =
    (accepted ps ≡ true) × (accepted ds ≡ true) × ((g : List ℕ) → maps_into (drawing_in ps) (drawing_in ds) g ≡ true → ⊥)
Holds (catalogued bs s l es) = (byte_list bs ≡ true) × ((survey_refusal bs s l).number ≡ 0) × Catalogue (cranes bs) (survey bs) s l es

-- HOW IT IS COMPUTED: a code by the least map of what it describes, the least code by search, the catalogue by growth
unfoldable pub same_by_found : Drawing → Drawing → Option (List ℕ) → Bool
same_by_found d e none = false
same_by_found d e (some f) = same_by d e f

unfoldable pub is_code_of : Drawing → List Rec → Bool
is_code_of d rs = rows_good rs && same_by_found (decoded rs) d (least_map (decoded rs) d)

-- without cables, the least code is the one record
unfoldable pub has_cables : Drawing → Bool
has_cables d = leb 1 (length d.cables)

unfoldable pub is_least_section : Drawing → List Rec → Bool
is_least_section d rs = cond (has_cables d) (is_least_code kinds_before d rs) (rows_same rs (lone_code (kind d 0)))

unfoldable pub same_numbers : (f g : List ℕ) → Bool
same_numbers [] [] = true
same_numbers [] (y ∷ g) = false
same_numbers (x ∷ f) [] = false
same_numbers (x ∷ f) (y ∷ g) = eqb x y && same_numbers f g

unfoldable pub is_map : Option (List ℕ) → List ℕ → Bool
is_map none f = false
is_map (some g) f = same_numbers g f

unfoldable pub same_figures : (f g : Figures) → Bool
same_figures f g = eqb f.support g.support && eqb f.example g.example

unfoldable pub same_entries : (es gs : List Entry) → Bool
same_entries [] [] = true
same_entries [] (g ∷ gs) = false
same_entries (e ∷ es) [] = false
same_entries (e ∷ es) (g ∷ gs) = (same_figures e.figures g.figures && rows_same e.code g.code) && same_entries es gs

unfoldable pub meets : Case → Bool
meets (coded bs rs) = accepted bs && is_least_section (drawing_in bs) rs
meets (other_code bs rs) =
    accepted bs && (has_cables (drawing_in bs) && (is_code_of (drawing_in bs) rs && not (is_least_code kinds_before (drawing_in bs) rs)))
meets (agree rs ss n) = eqb (agreement rs ss) n
meets (refused_code bs n) = eqb (section_code_refusal bs) n
meets (matched ps ds f) = accepted ps && (accepted ds && is_map (least_map (drawing_in ps) (drawing_in ds)) f)
meets (not_contained ps ds) = accepted ps && (accepted ds && not (contains (drawing_in ps) (drawing_in ds)))
meets (catalogued bs s l es) =
    byte_list bs && (eqb (survey_refusal bs s l).number 0 && same_entries (mined_entries kinds_before (cranes bs) (survey bs) s l) es)

unfoldable pub all_meet : List Case → Bool
all_meet [] = true
all_meet (c ∷ cs) = meets c && all_meet cs

-- DRAWINGS AND CODES as the paper writes them: the bytes of a drawing from the kinds of its devices and its cables
abbrev pub cable : (a b kind : ℕ) → Cable
cable a b k = record { a = a; b = b; kind = k }

abbrev pub tuple : (i j ki c kj : ℕ) → Rec
tuple i j ki c kj = record { i = i; j = j; ki = ki; c = c; kj = kj }

unfoldable pub drawing_of : (kinds : List ℕ) → List Cable → List ℕ
drawing_of ks cs = drawing_bytes 0 (record { kinds = ks; cables = cs })

-- D3 to D10 have kind 1 and cable 5 throughout: pairs alone tell them
abbrev pub Pairs : Type 0
Pairs = List (ℕ × ℕ)

unfoldable pub plain_sheet : (crane devices : ℕ) → Pairs → List ℕ
plain_sheet k n ps = drawing_bytes k (record { kinds = replicate n 1; cables = map (λ p. cable p.0 p.1 5) ps })

unfoldable pub plain_code : Pairs → List Rec
plain_code ps = map (λ p. tuple p.0 p.1 1 5 1) ps

-- the pairs are the drawing's cables and its least code alike
unfoldable pub alike : (devices : ℕ) → Pairs → Case
alike n ps = coded (plain_sheet 0 n ps) (plain_code ps)

-- D3 and D4 as sheets of a crane
abbrev path_of_3 : (crane : ℕ) → List ℕ
path_of_3 k = plain_sheet k 3 ((0, 1) ∷ (1, 2) ∷ [])

abbrev triangle : (crane : ℕ) → List ℕ
triangle k = plain_sheet k 3 ((0, 1) ∷ (1, 2) ∷ (2, 0) ∷ [])

-- the codes of D3's first record, D3, D4 with these figures
abbrev path_and_triangle : (cable path ring : Figures) → List Entry
path_and_triangle a b c =
    entry a (plain_code ((0, 1) ∷ []))
    ∷ entry b (plain_code ((0, 1) ∷ (1, 2) ∷ []))
    ∷ entry c (plain_code ((0, 1) ∷ (1, 2) ∷ (2, 0) ∷ []))
    ∷ []

-- those of the first two alone
abbrev cable_and_path : (cable path : Figures) → List Entry
cable_and_path a b = entry a (plain_code ((0, 1) ∷ [])) ∷ entry b (plain_code ((0, 1) ∷ (1, 2) ∷ [])) ∷ []

-- THE TABLE
unfoldable pub table : List Case
table =
    -- D1 kinds 2, 1, cable 7
    coded (drawing_of (2 ∷ 1 ∷ []) (cable 0 1 7 ∷ [])) (tuple 0 1 1 7 2 ∷ [])
    -- D2 centre kind 1, cable 9 to kind 2, cable 4 to kind 3
    ∷ coded (drawing_of (1 ∷ 2 ∷ 3 ∷ []) (cable 0 1 9 ∷ cable 0 2 4 ∷ [])) (tuple 0 1 1 4 3 ∷ tuple 0 2 1 9 2 ∷ [])
    -- D3 path of 3
    ∷ alike 3 ((0, 1) ∷ (1, 2) ∷ [])
    -- D4 triangle
    ∷ alike 3 ((0, 1) ∷ (1, 2) ∷ (2, 0) ∷ [])
    -- D5 triangle with a tail
    ∷ alike 4 ((0, 1) ∷ (1, 2) ∷ (2, 0) ∷ (2, 3) ∷ [])
    -- D6 ring of 4
    ∷ alike 4 ((0, 1) ∷ (1, 2) ∷ (2, 3) ∷ (3, 0) ∷ [])
    -- D7 star of 3
    ∷ alike 4 ((0, 1) ∷ (1, 2) ∷ (1, 3) ∷ [])
    -- D8 a DFS code of D3, not its least
    ∷ other_code (path_of_3 0) (plain_code ((0, 1) ∷ (0, 2) ∷ []))
    -- it parts from D3's least code behind the first record; D3's begins D4's, and each agrees with itself in all
    ∷ agree (plain_code ((0, 1) ∷ (0, 2) ∷ [])) (plain_code ((0, 1) ∷ (1, 2) ∷ [])) 1
    ∷ agree (plain_code ((0, 1) ∷ (1, 2) ∷ [])) (plain_code ((0, 1) ∷ (1, 2) ∷ (2, 0) ∷ [])) 2
    ∷ agree (plain_code ((0, 1) ∷ (1, 2) ∷ (2, 0) ∷ [])) (plain_code ((0, 1) ∷ (1, 2) ∷ (2, 0) ∷ [])) 3
    -- D1's and D2's part in the first record
    ∷ agree (tuple 0 1 1 7 2 ∷ []) (tuple 0 1 1 4 3 ∷ tuple 0 2 1 9 2 ∷ []) 0
    -- D9 refusal 10
    ∷ refused_code (rec_bytes (plain_code ((0, 1) ∷ (1, 2) ∷ (0, 3) ∷ (1, 4) ∷ []))) 10
    -- D10 refusal 10
    ∷ refused_code (rec_bytes (plain_code ((0, 1) ∷ (1, 0) ∷ []))) 10
    -- D11 D3 in D4, and D4 in D3
    ∷ matched (path_of_3 0) (triangle 0) (0 ∷ 1 ∷ 2 ∷ [])
    ∷ not_contained (triangle 0) (path_of_3 0)
    -- D12 D3 then D4 as cranes 0 and 1, s = 1, L = 4
    ∷ catalogued (path_of_3 0 ++ triangle 1) 1 4 (path_and_triangle (figures 2 0) (figures 2 0) (figures 1 1))
    -- what the program prints of them, s = 2: with L = 6 as with L = 4
    ∷ catalogued (path_of_3 0 ++ triangle 1) 2 4 (cable_and_path (figures 2 0) (figures 2 0))
    ∷ catalogued (path_of_3 0 ++ triangle 1) 2 6 (cable_and_path (figures 2 0) (figures 2 0))
    -- one device, kinds 7 and 8
    ∷ coded (drawing_of (7 ∷ []) []) (lone_code 7)
    ∷ coded (drawing_of (8 ∷ []) []) (lone_code 8)
    -- the same code agrees in its one record, another in none
    ∷ agree (lone_code 7) (lone_code 7) 1
    ∷ agree (lone_code 7) (lone_code 8) 0
    -- a cable kind, unequal kinds, both, the record twice, and behind a code
    ∷ refused_code (0 ∷ 0 ∷ 7 ∷ 1 ∷ 7 ∷ []) 10
    ∷ refused_code (0 ∷ 0 ∷ 7 ∷ 0 ∷ 8 ∷ []) 11
    ∷ refused_code (0 ∷ 0 ∷ 7 ∷ 1 ∷ 8 ∷ []) 10
    ∷ refused_code (rec_bytes (lone_code 7 ++ lone_code 7)) 10
    ∷ refused_code (rec_bytes (plain_code ((0, 1) ∷ []) ++ lone_code 1)) 10
    -- kind 1 in D3, and not the other way round
    ∷ matched (drawing_of (1 ∷ []) []) (path_of_3 0) (0 ∷ [])
    ∷ not_contained (path_of_3 0) (drawing_of (1 ∷ []) [])
    -- among D3 and D4 they add no entry, and are drawings with numbers of their own; alone they have no entry
    ∷ catalogued (drawing_of (1 ∷ []) [] ++ path_of_3 0 ++ drawing_of (7 ∷ []) [] ++ triangle 1) 1 4
    (path_and_triangle (figures 2 1) (figures 2 1) (figures 1 3))
    ∷ catalogued (drawing_of (7 ∷ []) [] ++ drawing_of (7 ∷ []) []) 1 4 []
    -- D3 and D4 as two sheets of crane 0 count once: at s = 2 there is no entry
    ∷ catalogued (path_of_3 0 ++ triangle 0) 1 4 (path_and_triangle (figures 1 0) (figures 1 0) (figures 1 1))
    ∷ catalogued (path_of_3 0 ++ triangle 0) 2 4 []
    -- sheets of one crane need not stand side by side
    ∷ catalogued (triangle 0 ++ path_of_3 255 ++ triangle 0) 1 4 (path_and_triangle (figures 2 0) (figures 2 0) (figures 1 0))
    -- an example is a drawing's number, not its crane's
    ∷ catalogued (path_of_3 9 ++ triangle 7) 1 4 (path_and_triangle (figures 2 0) (figures 2 0) (figures 1 1))
    -- codes and maps ignore the crane
    ∷ coded (triangle 255) (plain_code ((0, 1) ∷ (1, 2) ∷ (2, 0) ∷ []))
    ∷ matched (path_of_3 7) (triangle 255) (0 ∷ 1 ∷ 2 ∷ [])
    ∷ []
