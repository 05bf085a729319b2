-- The least code by search, breadth first, over any order of the labels: all numberings of the rows so far are kept, the
-- next record is the least that goes on from one of them. It computes on small drawings. Assumes nothing: these are
-- definitions.
use Rattle.std.specs.Prelude.{Bool, true, false, ◌&&◌, not, List, [], ◌∷◌, ◌++◌, map, ℕ, zero, suc, eqb, length}
use Rattle.laws.specs.Lists.{snoc}
use Rattle.laws.specs.Selections.{each, only_if, least_of}
use Rattle.graphs.specs.Drawing.{Cable, Drawing, member}
use Rattle.graphs.specs.Map.{image}
use Rattle.codes.specs.Code.{Rec, Reading, fresh, end, step_good, stepped, decoded, rec_before_by, rec_same}
use Rattle.codes.specs.Extension.{edge_record, chord_record}
use Rattle.codes.specs.FirstRecord.{first_record}

-- a record that goes on, and the numbering after it
pub record Choice : Type 0 where
  pub e : Rec
  pub numbering : List ℕ

abbrev pub choice : Rec → (numbering : List ℕ) → Choice
choice e g = record { e = e; numbering = g }

-- every cable each way round
abbrev pub way : (u w k : ℕ) → Cable
way u w k = record { a = u; b = w; kind = k }

unfoldable pub ways : List Cable → List Cable
ways [] = []
ways (c ∷ cs) = c ∷ way c.b c.a c.kind ∷ ways cs

-- THE FIRST RECORDS
unfoldable pub first_choice : Drawing → Cable → Choice
first_choice d c = choice (first_record d c.a c.b c.kind) (c.a ∷ c.b ∷ [])

unfoldable pub firsts : Drawing → List Choice
firsts d = map (first_choice d) (ways d.cables)

-- THE RECORDS LOCAL to a numbering f of the rows so far
module _ (d : Drawing) (x : Reading) (f : List ℕ) where
  -- an edge: from the path device p to a device without a number
  unfoldable pub edge_choice : Cable → (p : ℕ) → List Choice
  edge_choice c p =
      only_if (eqb (image f p) c.a && not (member c.b f))
      (choice (edge_record d x p c.kind c.b) (snoc f c.b) ∷ [])

  -- a chord: from the path's end to the path device p, where that is a permitted step
  unfoldable pub chord_choice : Cable → (p : ℕ) → List Choice
  chord_choice c p =
      let e = chord_record x (end x.path) p c.kind in
      only_if ((eqb (image f (end x.path)) c.a && eqb (image f p) c.b) && step_good x e) (choice e f ∷ [])

  unfoldable pub locals : List Choice
  locals = each (ways d.cables) λ c. each x.path λ p. edge_choice c p ++ chord_choice c p

-- the numberings after one record: the ties
unfoldable pub after_record : Rec → List Choice → List (List ℕ)
after_record e cs = each cs λ c. only_if (rec_same c.e e) (c.numbering ∷ [])

-- the least record of some choices
unfoldable pub least_record : (labels : Rec → Rec → Bool) → Choice → List Choice → Rec
least_record labels c cs = least_of (rec_before_by labels) c.e (map (λ c. c.e) cs)

-- one record after another: the least, then what is local to a numbering after it
unfoldable pub search_rows : (labels : Rec → Rec → Bool) → Drawing → (left : ℕ) → Reading → List Choice → List Rec
search_rows labels d zero x cs = []
search_rows labels d (suc n) x [] = []
search_rows labels d (suc n) x (c ∷ cs) =
    let e = least_record labels c cs in
    e ∷ search_rows labels d n (stepped x e) (each (after_record e (c ∷ cs)) (locals d (stepped x e)))

-- THE LEAST CODE: a first record, then one for each further cable
unfoldable pub least_code : (labels : Rec → Rec → Bool) → Drawing → List Rec
least_code labels d = search_rows labels d (length d.cables) fresh (firsts d)

-- two rows of records are equal
unfoldable pub rows_same : List Rec → List Rec → Bool
rows_same [] [] = true
rows_same [] (s ∷ ss) = false
rows_same (r ∷ rs) [] = false
rows_same (r ∷ rs) (s ∷ ss) = rec_same r s && rows_same rs ss

-- rows are the least code of a drawing
unfoldable pub is_least_code : (labels : Rec → Rec → Bool) → Drawing → List Rec → Bool
is_least_code labels d rs = rows_same rs (least_code labels d)

-- THE LEAST TEST: rows are the least code of what they describe
unfoldable pub is_least : (labels : Rec → Rec → Bool) → List Rec → Bool
is_least labels rs = is_least_code labels (decoded rs) rs
