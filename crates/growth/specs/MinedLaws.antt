-- The catalogue by growth is the catalogue: the test tells what is frequent, and every record that goes on is tried.
-- Rests on Growth and Catalogues. Assumes nothing.
use Rattle.std.specs.Prelude.{◌≡◌, Bool, true, leb, length, get_or}
use Rattle.std.proofs.Math.Path.{refl}
use Rattle.std.proofs.Common.{sym, ap, ◌∙◌, arith}
use Rattle.std.proofs.Math.Bool.{false}
use mathlib.Core.List.{List, [], ◌∷◌, ◌++◌}
use Prim.Native.Nat.{ℕ, zero, suc, ◌+◌, ◌≤◌}
use borrow.Author.Tests.{leb-true, le-leb}
use Rattle.laws.specs.Tests.{and_split, and_both, true_and_false}
use Rattle.laws.specs.Lists.{Mem, snoc, snoc_length, concat, mem_eq, mem_map}
use Rattle.laws.specs.Selections.{each, each_has, only_if}
use Rattle.laws.specs.Rising.{Rises, rises_head, rises_tail, sorted, sorted_rises, sorted_has}
use Rattle.graphs.specs.Drawing.{Cable, Drawing, is_pattern}
use Rattle.graphs.specs.Survey.{survey, cranes, survey_refusal, support}
use Rattle.graphs.specs.Patterns.{pattern_from_test}
use Rattle.codes.specs.Code.{Rec, fresh, read_rows, rows_good, decoded, kinds_before, rec_before_by}
use Rattle.codes.specs.CodeOrder.{LabelOrder, kinds_order, rec_eq, rec_before_strict}
use Rattle.codes.specs.ReadRows.{rows_divided, rows_invariant}
use Rattle.codes.specs.Greedy.{Fits, fits_extension}
use Rattle.codes.specs.Extension.{edge_record, chord_record, Local, chord_at, edge_at, extension_seen}
use Rattle.codes.specs.FirstRecord.{first_record, fits_first}
use Rattle.codes.specs.LeastSearch.{ways, is_least, is_least_code}
use Rattle.codes.specs.LeastSearchLocals.{ways_has}
use Rattle.codes.specs.LeastSearchLaws.{least_from_test, least_to_test}
use Rattle.growth.specs.Catalogue.{CatalogueBy, Catalogue}
use Rattle.growth.specs.Settings.{accepted_settings}
use Rattle.growth.specs.Growth.{Listed, ListedBy, listed_leaf, listed_none, listed_all, listed_skip, listed_take}
use Rattle.growth.specs.Frequent.{Frequent, frequent_prefix}
use Rattle.growth.specs.Counted.{frequent_fits}
use Rattle.growth.specs.Catalogues.{listed_catalogue}
use Rattle.growth.specs.Mined.{next_records, is_frequent, mined, mined_entries}

-- WHAT FITS A DRAWING goes on by one of its next records
local_next :
    (d : Drawing) (r : Rec) (rs : List Rec) (f : List ℕ) (e : Rec) → Local d (read_rows fresh (r ∷ rs)) f e → Mem e (next_records (r ∷ rs) d)
unfolding next_records edge_record chord_record
local_next d r rs f e (chord_at b h y z) =
    let x = read_rows fresh (r ∷ rs) in
    each_has (ways d.cables) _ (ways_has h)
    (each_has x.path _ b.on_path
    (Mem.there (Mem.here (rec_eq _ e (sym b.is_end) refl (ap (λ (i : ℕ). get_or x.kinds i 256) (sym b.is_end) ∙ y) refl z))))
local_next d r rs f e (edge_at w o j n h y z) =
    each_has (ways d.cables) _ (ways_has h)
    (each_has (read_rows fresh (r ∷ rs)).path _ o (Mem.here (rec_eq _ e refl (sym j) y refl z)))

pub fits_next : (d : Drawing) (γ : List Rec) (e : Rec) → Fits d (snoc γ e) → Mem e (next_records γ d)
unfolding next_records
fits_next d [] e t =
    let g = fits_first d e t in
    mem_eq g.record_is (mem_map (λ (c : Cable). first_record d c.a c.b c.kind) (ways_has g.has))
fits_next d (r ∷ rs) e t =
    let v = rows_invariant r rs (rows_divided fresh (r ∷ rs) (e ∷ []) t.accepted).0 in
    let s = extension_seen d (read_rows fresh (r ∷ rs)) v e (fits_extension d r rs e t) in
    local_next d r rs s.numbering e s.local

module _ (labels : Rec → Rec → Bool) (o : LabelOrder labels) (cr : List ℕ) (ds : List Drawing) (s : ℕ) where
  -- THE TEST tells what is frequent
  pub frequent_from_test : (rs : List Rec) → is_frequent labels cr ds s rs ≡ true → Frequent labels cr ds s rs
  unfolding is_frequent is_least
  frequent_from_test rs h =
      let t = and_split (rows_good rs) _ h in
      let u = and_split (is_pattern (decoded rs)) _ t.1 in
      let w = and_split (is_least_code labels (decoded rs) rs) (leb s (support (decoded rs) cr ds)) u.1 in
      record {
        drawn = u.0;
        least = least_from_test labels o (decoded rs) (pattern_from_test (decoded rs) u.0) rs w.0;
        wanted = leb-true s (support (decoded rs) cr ds) w.1;
      }

  pub frequent_to_test : (rs : List Rec) → Frequent labels cr ds s rs → is_frequent labels cr ds s rs ≡ true
  unfolding is_frequent is_least
  frequent_to_test rs f =
      and_both f.least.code.good
      (and_both f.drawn
      (and_both (least_to_test labels o (decoded rs) (pattern_from_test (decoded rs) f.drawn) rs f.least)
      (le-leb s (support (decoded rs) cr ds) f.wanted)))

  module _ (one : 1 ≤ s) (l : ℕ) where
    -- every record by which a frequent code goes on is tried
    next_all : (γ : List Rec) (e : Rec) (more : List Rec) → Frequent labels cr ds s (γ ++ e ∷ more) → Mem e (each ds (next_records γ))
    next_all γ e more f =
        let q = frequent_fits labels cr ds s one γ e (frequent_prefix labels o cr ds s γ e more f) in
        each_has ds (next_records γ) q.1 (fits_next q.0 γ e q.2)

    -- each in its turn, with all that goes on from it
    siblings :
        (γ : List Rec) → suc (length γ) ≤ l → (below : Rec → List (List Rec))
        → ((e : Rec) → Listed labels o (Frequent labels cr ds s) l (snoc γ e) (below e)) → (es : List Rec) → Rises (rec_before_by labels) es
        → ListedBy labels o (Frequent labels cr ds s) l γ es (each es λ e. only_if (is_frequent labels cr ds s (snoc γ e)) (snoc γ e ∷ below e))
    unfolding each concat only_if
    siblings γ n below t [] r = listed_none labels o (Frequent labels cr ds s) l γ
    siblings γ n below t (e ∷ es) r = go (is_frequent labels cr ds s (snoc γ e)) refl
        (siblings γ n below t es (rises_tail (rec_before_by labels) e es r))
      where
        later : List (List Rec)
        later = each es λ e. only_if (is_frequent labels cr ds s (snoc γ e)) (snoc γ e ∷ below e)

        go :
            (b : Bool) → is_frequent labels cr ds s (snoc γ e) ≡ b → ListedBy labels o (Frequent labels cr ds s) l γ es later
            → ListedBy labels o (Frequent labels cr ds s) l γ (e ∷ es) (only_if b (snoc γ e ∷ below e) ++ later)
        go true q u = unfold only_if in
            listed_take labels o (Frequent labels cr ds s) l (frequent_prefix labels o cr ds s) γ e es (below e) later
            (frequent_from_test (snoc γ e) q)
            (rw snoc_length n) (rises_head (rec_before_by labels) e es r) (t e) u
        go false q u = unfold only_if in
            listed_skip labels o (Frequent labels cr ds s) l (frequent_prefix labels o cr ds s) γ e es later
            (λ f. true_and_false (frequent_to_test (snoc γ e) f) q) u

    mined_listed : (n : ℕ) (γ : List Rec) → length γ + n ≡ l → Listed labels o (Frequent labels cr ds s) l γ (mined labels cr ds s n γ)
    unfolding mined
    mined_listed zero γ h = listed_leaf labels o (Frequent labels cr ds s) l γ (omega arith)
    mined_listed (suc n) γ h =
        let next = each ds (next_records γ) in
        let es = sorted (rec_before_by labels) next in
        listed_all labels o (Frequent labels cr ds s) l γ es _
        (λ e more f. sorted_has (rec_before_by labels) (rec_before_strict labels o) e next (next_all γ e more f))
        (siblings γ (omega arith) (λ e. mined labels cr ds s n (snoc γ e)) (λ e. mined_listed n (snoc γ e) (rw snoc_length (omega arith))) es
        (sorted_rises (rec_before_by labels) (rec_before_strict labels o) next))

    -- IT IS THE CATALOGUE
    pub mined_is_catalogue : CatalogueBy labels cr ds s l (mined_entries labels cr ds s l)
    unfolding mined_entries
    mined_is_catalogue = listed_catalogue labels o cr ds s l (mined labels cr ds s l []) (mined_listed l [] (omega arith))

-- of each accepted survey
pub catalogue_mined :
    (bs : List ℕ) (s l : ℕ) → (survey_refusal bs s l).number ≡ 0
    → Catalogue (cranes bs) (survey bs) s l (mined_entries kinds_before (cranes bs) (survey bs) s l)
catalogue_mined bs s l h = mined_is_catalogue kinds_before kinds_order (cranes bs) (survey bs) s (accepted_settings bs s l h).threshold_low l
