-- DFS codes, their order over any order of labels, the least code of a drawing. Assumes nothing: these are definitions.
use Rattle.std.specs.Prelude.{◌≡◌, Bool, true, false, ◌&&◌, ◌||◌, not, cond, List, [], ◌∷◌, ◌++◌, map, ℕ, ◌/◌, ◌%◌, ltb, leb, eqb, length, get_or}
use Rattle.laws.specs.Rows.{rows}
use Rattle.graphs.specs.Drawing.{Cable, Drawing, member}
use Rattle.graphs.specs.Map.{same_by}

-- a code record (i, j, kind of i, cable kind, kind of j): the 5-tuple of a DFS code
pub record Rec : Type 0 where
  pub i : ℕ
  pub j : ℕ
  pub ki : ℕ
  pub c : ℕ
  pub kj : ℕ

-- AS BYTES: five for each record
unfoldable pub rec_in : List ℕ → Rec
rec_in bs = record { i = get_or bs 0 0; j = get_or bs 1 0; ki = get_or bs 2 0; c = get_or bs 3 0; kj = get_or bs 4 0 }

unfoldable pub recs_in : (n : ℕ) → List ℕ → List Rec
recs_in n bs = map rec_in (rows 5 n bs)

-- the records of a code's bytes
abbrev pub code_records : List ℕ → List Rec
code_records bs = recs_in (length bs / 5) bs

unfoldable pub rec_bytes : List Rec → List ℕ
rec_bytes [] = []
rec_bytes (r ∷ rs) = r.i ∷ r.j ∷ r.ki ∷ r.c ∷ r.kj ∷ rec_bytes rs

-- READING: kinds by device, the rightmost path from its end down to 0, the j of a backward record before (10 for none), the cables so far
pub record Reading : Type 0 where
  pub kinds : List ℕ
  pub path : List ℕ
  pub back : ℕ
  pub cables : List Cable

unfoldable pub fresh : Reading
fresh = record { kinds = []; path = []; back = 10; cables = [] }

unfoldable pub forward : Rec → Bool
forward r = ltb r.i r.j

-- the highest device: the path's end
unfoldable pub end : List ℕ → ℕ
end [] = 10
end (r ∷ rs) = r

-- the device from which the path's end was reached
unfoldable pub second : List ℕ → ℕ
second [] = 10
second (r ∷ []) = 10
second (r ∷ s ∷ rs) = s

-- backward, (r, j): j below r on the rightmost path, not the device from which r was reached, and above the j of the
-- record before if that one was backward
unfoldable pub backward_good : Reading → Rec → Bool
backward_good x r =
    (eqb r.i (end x.path) && (ltb r.j r.i && member r.j x.path))
    && (not (eqb r.j (second x.path)) && (eqb x.back 10 || ltb x.back r.j))

-- forward, (i, r+1): i on the rightmost path, r+1 at most 9
unfoldable pub forward_good : Reading → Rec → Bool
forward_good x r = (eqb r.j (length x.kinds) && leb r.j 9) && member r.i x.path

-- the first is (0, 1)
unfoldable pub step_good : Reading → Rec → Bool
step_good x r =
    cond (eqb (length x.kinds) 0) (eqb r.i 0 && eqb r.j 1) (cond (forward r) (forward_good x r) (backward_good x r))

-- a device keeps the kind it was first given
unfoldable pub kinds_match : Reading → Rec → Bool
kinds_match x r =
    cond (eqb (length x.kinds) 0) true
    (eqb (get_or x.kinds r.i 256) r.ki && (forward r || eqb (get_or x.kinds r.j 256) r.kj))

-- the path is cut back to i, then goes on to j
unfoldable pub cut_to : (i : ℕ) → List ℕ → List ℕ
cut_to i [] = []
cut_to i (p ∷ ps) = cond (eqb p i) (p ∷ ps) (cut_to i ps)

unfoldable pub cable_of : Rec → Cable
cable_of r = record { a = r.i; b = r.j; kind = r.c }

abbrev pub begun : Rec → Reading
begun r = record { kinds = r.ki ∷ r.kj ∷ []; path = 1 ∷ 0 ∷ []; back = 10; cables = cable_of r ∷ [] }

abbrev pub forwarded : Reading → Rec → Reading
forwarded x r = record { kinds = x.kinds ++ (r.kj ∷ []); path = r.j ∷ cut_to r.i x.path; back = 10; cables = x.cables ++ (cable_of r ∷ []) }

abbrev pub backed : Reading → Rec → Reading
backed x r = record { kinds = x.kinds; path = x.path; back = r.j; cables = x.cables ++ (cable_of r ∷ []) }

unfoldable pub stepped : Reading → Rec → Reading
stepped x r = cond (eqb (length x.kinds) 0) (begun r) (cond (forward r) (forwarded x r) (backed x r))

-- each code record, rising: 10 not a permitted step; 11 a kind differs from the first one given
unfoldable pub rows_refusal : Reading → List Rec → ℕ
rows_refusal x [] = 0
rows_refusal x (r ∷ rs) = cond (not (step_good x r)) 10 (cond (not (kinds_match x r)) 11 (rows_refusal (stepped x r) rs))

unfoldable pub read_rows : Reading → List Rec → Reading
read_rows x [] = x
read_rows x (r ∷ rs) = read_rows (stepped x r) rs

unfoldable pub rows_good : List Rec → Bool
rows_good rs = (leb 1 (length rs) && leb (length rs) 20) && eqb (rows_refusal fresh rs) 0

-- 9 zero, over 100, or no multiple of 5; then each record
unfoldable pub code_refusal : List ℕ → ℕ
code_refusal bs =
    cond (eqb (length bs) 0 || (ltb 100 (length bs) || not (eqb (length bs % 5) 0))) 9 (rows_refusal fresh (code_records bs))

-- what a reading has read so far
abbrev pub drawn : Reading → Drawing
drawn x = record { kinds = x.kinds; cables = x.cables }

-- THE DRAWING A CODE DESCRIBES: devices as the code numbers them, cables in record order, ends as i then j
unfoldable pub decoded : List Rec → Drawing
decoded rs = drawn (read_rows fresh rs)

-- A DFS CODE OF A DRAWING: it describes one that is the same by some map
pub record CodeOf (d : Drawing) (rs : List Rec) : Type 0 where
  pub good : rows_good rs ≡ true
  pub numbers : List ℕ
  pub describes : same_by (decoded rs) d numbers ≡ true

-- ORDER of the labels, smaller first: kind of i, then cable kind, then kind of j
unfoldable pub kinds_before : Rec → Rec → Bool
kinds_before a b =
    ltb a.ki b.ki || (eqb a.ki b.ki && (ltb a.c b.c || (eqb a.c b.c && ltb a.kj b.kj)))

-- ORDER of two records, over any order of the labels: backward before forward; two backward: smaller j first; two forward: greater i first
unfoldable pub rec_before_by : (labels : Rec → Rec → Bool) → Rec → Rec → Bool
rec_before_by labels a b =
    cond (forward a)
    (cond (forward b) (ltb b.i a.i || (eqb a.i b.i && (ltb a.j b.j || (eqb a.j b.j && labels a b)))) false)
    (cond (forward b) true (ltb a.j b.j || (eqb a.j b.j && (ltb a.i b.i || (eqb a.i b.i && labels a b)))))

unfoldable pub rec_same : Rec → Rec → Bool
rec_same a b =
    (eqb a.i b.i && eqb a.j b.j) && (eqb a.ki b.ki && (eqb a.c b.c && eqb a.kj b.kj))

-- ORDER of two codes, at the first record that differs; a code that begins another comes before it
unfoldable pub before_by : (labels : Rec → Rec → Bool) → List Rec → List Rec → Bool
before_by labels rs [] = false
before_by labels [] (s ∷ ss) = true
before_by labels (r ∷ rs) (s ∷ ss) = cond (rec_same r s) (before_by labels rs ss) (rec_before_by labels r s)

-- THE LEAST of a family of codes: that one which comes before every other of them
pub record LeastAmong (labels : Rec → Rec → Bool) (Codes : List Rec → Type 0) (rs : List Rec) : Type 0 where
  pub code : Codes rs
  pub least : (ss : List Rec) → Codes ss → (ss ≡ rs → ⊥) → before_by labels rs ss ≡ true

-- THE LEAST CODE of a drawing: of all its DFS codes
abbrev pub LeastBy : (labels : Rec → Rec → Bool) → Drawing → List Rec → Type 0
LeastBy labels d = LeastAmong labels (CodeOf d)

-- the paper's order
abbrev pub rec_before : Rec → Rec → Bool
rec_before = rec_before_by kinds_before

abbrev pub before : List Rec → List Rec → Bool
before = before_by kinds_before

abbrev pub Least : Drawing → List Rec → Type 0
Least = LeastBy kinds_before
