-- A catalogue by growth, over any order of the labels: every record that may go on is tried in order, and each frequent
-- least code is grown in its turn. It computes on small surveys. Assumes nothing: these are definitions.
use Rattle.std.specs.Prelude.{Bool, ◌&&◌, List, [], ◌∷◌, map, ℕ, zero, suc, leb}
use Rattle.laws.specs.Lists.{snoc}
use Rattle.laws.specs.Selections.{each, only_if}
use Rattle.laws.specs.Rising.{sorted}
use Rattle.graphs.specs.Drawing.{Drawing, is_pattern}
use Rattle.graphs.specs.Survey.{support, example}
use Rattle.codes.specs.Code.{Rec, fresh, end, read_rows, rows_good, decoded, rec_before_by}
use Rattle.codes.specs.Extension.{edge_record, chord_record}
use Rattle.codes.specs.FirstRecord.{first_record}
use Rattle.codes.specs.LeastSearch.{ways, is_least}
use Rattle.growth.specs.Catalogue.{figures, Entry, entry}

-- THE RECORDS THAT MAY GO ON in a drawing: first any cable, each way round; then along any cable from a device of the
-- rightmost path to a new device, and from the path's end to a device of the path
unfoldable pub next_records : (rows : List Rec) → Drawing → List Rec
next_records [] d = map (λ c. first_record d c.a c.b c.kind) (ways d.cables)
next_records (r ∷ rs) d =
    let x = read_rows fresh (r ∷ rs) in
    each (ways d.cables) λ c.
    each x.path λ p.
    edge_record d x p c.kind c.b ∷ chord_record x (end x.path) p c.kind ∷ []

module _ (labels : Rec → Rec → Bool) (cr : List ℕ) (ds : List Drawing) (s : ℕ) where
  -- rows are the least code of a pattern that drawings of at least s cranes contain
  unfoldable pub is_frequent : List Rec → Bool
  is_frequent rs = rows_good rs && (is_pattern (decoded rs) && (is_least labels rs && leb s (support (decoded rs) cr ds)))

  -- what goes on from some rows by at most so many records
  unfoldable pub mined : (left : ℕ) → (rows : List Rec) → List (List Rec)
  mined zero γ = []
  mined (suc n) γ =
      each (sorted (rec_before_by labels) (each ds (next_records γ))) λ e.
      only_if (is_frequent (snoc γ e)) (snoc γ e ∷ mined n (snoc γ e))

  -- THE CATALOGUE: each with its support and its example
  unfoldable pub mined_entries : (l : ℕ) → List Entry
  mined_entries l = map (λ rs. entry (figures (support (decoded rs) cr ds) (example (decoded rs) ds)) rs) (mined l [])
