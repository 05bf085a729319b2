-- The starred drawings are as the paper says: one statement over the table, computed by the checker, and its meaning.
-- Rests on the laws of the search for the least code. Assumes nothing.
use Rattle.std.specs.Prelude.{◌≡◌, refl, Bool, true, false, ◌&&◌, not, cond, List, [], ◌∷◌, ◌⊎◌, ℕ, eqb, length}
use Rattle.std.proofs.Common.{ap, ap₂, subst, ◌∙◌, inl, inr, eqb-true, leb-true, le-leb}
use Rattle.std.proofs.lemmas.Bool.{false≢true, not-true}
use Rattle.std.proofs.Math.Option.{Option, none, some}
use Rattle.laws.specs.Tests.{and_split, true_and_false}
use Rattle.laws.specs.Lists.{Mem, concat}
use Rattle.laws.specs.CommonFronts.{common_front}
use Rattle.laws.specs.Rows.{rows}
use Rattle.laws.specs.Selections.{each, only_if, least_of}
use Rattle.laws.specs.Rising.{placed, sorted}
use Rattle.graphs.specs.Drawing.{
  Drawing,
  kind,
  cables_fit,
  cable_in,
  cables_in,
  drawing_in,
  crane_in,
  cable_bytes,
  drawing_bytes,
  joins,
  joined_by,
  cable_refusal,
  all_zero,
  unused_zero,
  member,
  with_ends,
  spread,
  reached,
  connected,
  drawing_refusal,
  byte_list,
  accepted,
  is_pattern,
}
use Rattle.graphs.specs.Map.{
  has_cable,
  all_different,
  kinds_kept,
  cables_land,
  maps_into,
  inverse_at,
  inverse_from,
  same_by,
  fits_so_far,
  or_map,
  try_each,
  when,
  step_fits,
  search_from,
  least_map,
  is_some,
  contains,
  Found,
}
use Rattle.graphs.specs.Survey.{
  records_in,
  survey,
  cranes,
  refusal,
  drawings_refusal,
  length_refusal,
  bytes_refusal,
  survey_refusal,
  containing,
  marked_cranes,
  each_once,
  support,
  first_true,
  example,
}
use Rattle.graphs.specs.Patterns.{accepted_section}
use Rattle.graphs.specs.Graph.{Section, Pattern, lone_drawing}
use Rattle.graphs.specs.Sections.{section_pattern, lone_or_pattern}
use Rattle.graphs.specs.Embedding.{EndsInRange}
use Rattle.graphs.specs.Embeddings.{embedding_from_test}
use Rattle.graphs.specs.LeastMap.{least_map_found, contains_from_embedding}
use Rattle.codes.specs.Code.{
  Rec,
  rec_in,
  recs_in,
  rec_bytes,
  fresh,
  forward,
  end,
  second,
  backward_good,
  forward_good,
  step_good,
  kinds_match,
  cut_to,
  cable_of,
  stepped,
  rows_refusal,
  read_rows,
  rows_good,
  code_refusal,
  decoded,
  CodeOf,
  kinds_before,
  rec_before_by,
  rec_same,
}
use Rattle.codes.specs.Agreement.{agreement}
use Rattle.codes.specs.CodeOrder.{kinds_order}
use Rattle.codes.specs.SectionCode.{
  lone_record,
  lone_code,
  lone_row,
  lone_refusal,
  lone_bytes,
  section_code_refusal,
  LeastSection,
}
use Rattle.codes.specs.SectionCodes.{lone_least, least_pattern, pattern_least}
use Rattle.codes.specs.Extension.{edge_record, chord_record}
use Rattle.codes.specs.FirstRecord.{first_record}
use Rattle.codes.specs.LeastSearch.{
  ways,
  first_choice,
  firsts,
  edge_choice,
  chord_choice,
  locals,
  after_record,
  least_record,
  search_rows,
  least_code,
  rows_same,
  is_least_code,
  is_least,
}
use Rattle.codes.specs.LeastSearchLaws.{least_from_test, least_to_test, rows_same_from_test}
use Rattle.growth.specs.Catalogue.{Figures, figures, Entry, Catalogue}
use Rattle.growth.specs.FamilyLists.{entry_eq}
use Rattle.growth.specs.Mined.{next_records, is_frequent, mined, mined_entries}
use Rattle.growth.specs.MinedLaws.{catalogue_mined}
use Rattle.starred.specs.Cases.{
  Case,
  coded,
  other_code,
  agree,
  refused_code,
  matched,
  not_contained,
  catalogued,
  Holds,
  same_by_found,
  is_code_of,
  has_cables,
  is_least_section,
  same_numbers,
  is_map,
  same_figures,
  same_entries,
  meets,
  all_meet,
  drawing_of,
  plain_sheet,
  plain_code,
  alike,
  table,
}

-- THE STARRED DRAWINGS, computed
pub starred : all_meet table ≡ true
unfolding table has_cables is_least_section cables_fit lone_record lone_row lone_refusal lone_bytes section_code_refusal
    alike is_map same_numbers contains is_some plain_code plain_sheet drawing_of all_meet meets is_code_of same_by_found
    is_least_code rows_same least_code search_rows least_record after_record locals chord_choice edge_choice firsts first_choice ways
    first_record edge_record chord_record least_of only_if each concat rows
    code_refusal recs_in rec_in rec_bytes rows_good rows_refusal kinds_match step_good forward_good backward_good second end forward
    stepped cut_to cable_of read_rows fresh decoded rec_same rec_before_by kinds_before agreement common_front
    least_map search_from step_fits when try_each or_map fits_so_far same_by inverse_from inverse_at maps_into cables_land kinds_kept
    all_different has_cable accepted byte_list drawing_refusal connected reached spread with_ends member unused_zero all_zero
    cable_refusal joined_by joins drawing_bytes cable_bytes drawing_in cables_in cable_in
    same_figures same_entries mined_entries mined is_frequent next_records sorted placed is_least is_pattern support marked_cranes each_once
    first_true example
    containing cranes crane_in
    survey_refusal bytes_refusal length_refusal drawings_refusal refusal survey records_in
starred = refl

-- WHAT IS COMPUTED IS SO
code_from_test : (d : Drawing) (rs : List Rec) → is_code_of d rs ≡ true → CodeOf d rs
unfolding is_code_of same_by_found
code_from_test d rs e =
    let s = and_split (rows_good rs) (same_by_found (decoded rs) d (least_map (decoded rs) d)) e in
    go s.0 (least_map (decoded rs) d) s.1
  where
    go : rows_good rs ≡ true → (f : Option (List ℕ)) → same_by_found (decoded rs) d f ≡ true → CodeOf d rs
    go g none h = absurd (false≢true h)
    go g (some f) h = record { good = g; numbers = f; describes = h }

with_cables : (d : Drawing) → Section d → has_cables d ≡ true → Pattern d
unfolding has_cables
with_cables d s h = section_pattern s (leb-true 1 (length d.cables) h)

least_section_from_test : (d : Drawing) → Section d → (rs : List Rec) → is_least_section d rs ≡ true → LeastSection d rs
unfolding is_least_section
least_section_from_test d s rs e = go (has_cables d) refl e
  where
    lone : ((k : ℕ) × (d ≡ lone_drawing k)) ⊎ Pattern d → has_cables d ≡ false → rows_same rs (lone_code (kind d 0)) ≡ true → LeastSection d rs
    lone (inl (k, is)) t h =
        let code : rs ≡ lone_code k = rows_same_from_test rs (lone_code (kind d 0)) h ∙ ap (λ (x : Drawing). lone_code (kind x 0)) is in
        rw (is, code) (lone_least kinds_before k)
    lone (inr p) t h = unfold has_cables in absurd (true_and_false (le-leb 1 (length d.cables) p.cables_low) t)

    go : (t : Bool) → has_cables d ≡ t → cond t (is_least_code kinds_before d rs) (rows_same rs (lone_code (kind d 0))) ≡ true → LeastSection d rs
    go true t h =
        let p = with_cables d s t in
        least_pattern kinds_before p (least_from_test kinds_before kinds_order d p rs h)
    go false t h = lone (lone_or_pattern d s) t h

numbers_from_test : (f g : List ℕ) → same_numbers f g ≡ true → f ≡ g
unfolding same_numbers
numbers_from_test [] [] e = refl
numbers_from_test [] (y ∷ g) e = absurd (false≢true e)
numbers_from_test (x ∷ f) [] e = absurd (false≢true e)
numbers_from_test (x ∷ f) (y ∷ g) e =
    let s = and_split (eqb x y) (same_numbers f g) e in
    ap₂ {C = List ℕ} (λ a b. a ∷ b) (eqb-true x y s.0) (numbers_from_test f g s.1)

map_from_test : (p d : Drawing) (f : List ℕ) → EndsInRange p → is_map (least_map p d) f ≡ true → Found p d f
unfolding is_map
map_from_test p d f ends e = least_map_found p d f ends (go (least_map p d) e)
  where
    go : (m : Option (List ℕ)) → is_map m f ≡ true → m ≡ some f
    go none h = absurd (false≢true h)
    go (some g) h = ap some (numbers_from_test g f h)

figures_from_test : (f g : Figures) → same_figures f g ≡ true → f ≡ g
unfolding same_figures
figures_from_test f g h =
    let s = and_split (eqb f.support g.support) (eqb f.example g.example) h in
    ap₂ figures (eqb-true f.support g.support s.0) (eqb-true f.example g.example s.1)

entries_from_test : (es gs : List Entry) → same_entries es gs ≡ true → es ≡ gs
unfolding same_entries
entries_from_test [] [] h = refl
entries_from_test [] (g ∷ gs) h = absurd (false≢true h)
entries_from_test (e ∷ es) [] h = absurd (false≢true h)
entries_from_test (e ∷ es) (g ∷ gs) h =
    let s = and_split (same_figures e.figures g.figures && rows_same e.code g.code) (same_entries es gs) h in
    let t = and_split (same_figures e.figures g.figures) (rows_same e.code g.code) s.0 in
    ap₂ {C = List Entry} (λ a b. a ∷ b)
    (entry_eq e g (figures_from_test e.figures g.figures t.0) (rows_same_from_test e.code g.code t.1))
    (entries_from_test es gs s.1)

pub meets_holds : (c : Case) → meets c ≡ true → Holds c
unfolding meets Holds
meets_holds (coded bs rs) h =
    let s = and_split (accepted bs) (is_least_section (drawing_in bs) rs) h in
    (s.0, least_section_from_test (drawing_in bs) (accepted_section bs s.0) rs s.1)
meets_holds (other_code bs rs) h =
    let d = drawing_in bs in
    let s = and_split (accepted bs) (has_cables d && (is_code_of d rs && not (is_least_code kinds_before d rs))) h in
    let u = and_split (has_cables d) (is_code_of d rs && not (is_least_code kinds_before d rs)) s.1 in
    let t = and_split (is_code_of d rs) (not (is_least_code kinds_before d rs)) u.1 in
    let other = not-true (is_least_code kinds_before d rs) t.1 in
    let pattern = with_cables d (accepted_section bs s.0) u.0 in
    let to_test = least_to_test kinds_before kinds_order d pattern rs in
    (s.0, code_from_test d rs t.0, λ l. true_and_false (to_test (pattern_least kinds_before pattern l)) other)
meets_holds (agree rs ss n) h = eqb-true (agreement rs ss) n h
meets_holds (refused_code bs n) h = eqb-true (section_code_refusal bs) n h
meets_holds (matched ps ds f) h =
    let s = and_split (accepted ps) (accepted ds && is_map (least_map (drawing_in ps) (drawing_in ds)) f) h in
    let t = and_split (accepted ds) (is_map (least_map (drawing_in ps) (drawing_in ds)) f) s.1 in
    (s.0, t.0, map_from_test (drawing_in ps) (drawing_in ds) f (accepted_section ps s.0).simple.ends t.1)
meets_holds (not_contained ps ds) h =
    let p = drawing_in ps in
    let d = drawing_in ds in
    let s = and_split (accepted ps) (accepted ds && not (contains p d)) h in
    let t = and_split (accepted ds) (not (contains p d)) s.1 in
    let ends = (accepted_section ps s.0).simple.ends in
    (s.0, t.0, λ g m. true_and_false (contains_from_embedding p d g ends (embedding_from_test p d g m)) (not-true (contains p d) t.1))
meets_holds (catalogued bs s l es) h =
    let grown = mined_entries kinds_before (cranes bs) (survey bs) s l in
    let t = and_split (byte_list bs) (eqb (survey_refusal bs s l).number 0 && same_entries grown es) h in
    let u = and_split (eqb (survey_refusal bs s l).number 0) (same_entries grown es) t.1 in
    let fine = eqb-true (survey_refusal bs s l).number 0 u.0 in
    (t.0, fine, subst (Catalogue (cranes bs) (survey bs) s l) (entries_from_test grown es u.1) (catalogue_mined bs s l fine))

all_hold : (cs : List Case) → all_meet cs ≡ true → (c : Case) → Mem c cs → Holds c
unfolding all_meet
all_hold [] h c m = elim m [ ]
all_hold (b ∷ cs) h c (Mem.here e) = subst Holds e (meets_holds b (and_split (meets b) (all_meet cs) h).0)
all_hold (b ∷ cs) h c (Mem.there m) = all_hold cs (and_split (meets b) (all_meet cs) h).1 c m

-- EVERY CASE OF THE TABLE HOLDS
pub starred_holds : (c : Case) → Mem c table → Holds c
starred_holds = all_hold table starred
