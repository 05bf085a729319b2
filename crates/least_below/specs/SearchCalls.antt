-- A search below a branch, call by call: the laws of SearchLaws and SearchWays for the codes that the program holds.
-- Assumes nothing.
use Rattle.std.specs.Prelude.{◌≡◌, refl, List, [], ◌∷◌, ◌++◌, ℕ, ◌+◌, ◌≤◌, ◌<◌, length, Option, Some, None}
use Rattle.std.proofs.Common.{sym, ap, ◌∙◌, append_assoc, arith}
use Rattle.laws.specs.Lists.{snoc, snoc_length}
use Rattle.laws.specs.Rows.{row}
use Rattle.graphs.specs.Drawing.{drawing_in}
use Rattle.codes.specs.Code.{Rec, rec_in, recs_in, kinds_before}
use Rattle.codes.specs.CodeOrder.{kinds_order}
use Rattle.codes.specs.CodeBytes.{recs_in_length}
use Rattle.codes.specs.Searched.{Chosen, chosen_best}
use Rattle.codes.specs.BranchState.{label_of, State, with_chord}
use Rattle.std.specs.declared.cmp.Ordering.{Ordering}
use Rattle.std.specs.declared.cmp.Ordering.TheVariants.{Less, Equal, Greater}
use Rattle.branches.specs.declared.extension.Extension.{Extension}
use Rattle.branches.specs.declared.extension.Extension.TheVariants.{Chord, Edge}
use Rattle.branches.specs.Extensions.{ExtensionFound}
use Rattle.branches.specs.Branches.{chorded, OnPath}
use Rattle.branches.specs.InPlaceLaws.{chorded_is, places_at, bounds_places}
use Rattle.branches.specs.NextRecords.{found_record}
use Rattle.branches.specs.Ways.{TiesWay, Way, Passed, followed}
use Rattle.least_seen.specs.declared.met.Met.TheVariants.{Earlier, Back, Front, Later}
use Rattle.least_seen.specs.BetterLaws.{tie_room}
use Rattle.least_seen.specs.Meetings.{RowNext, RowMet}
use Rattle.least_below.specs.Searches.{
  SearchFrom,
  SearchDone,
  Against,
  nothing_there,
  is_there,
  chosen_rows,
  AnewFrom,
  NextChosen,
  EdgesFrom,
  WaysDone,
}
use Rattle.least_below.specs.SearchBest.{first_records, best_begins, record_behind, against_chosen}
use Rattle.least_below.specs.SearchLaws.{
  search_bounds,
  chord_record_is,
  edge_record_is,
  never_none,
  search_sees,
  best_most,
  best_rows,
  search_ended,
  best_row_next,
  search_cut,
  search_lowers,
}
use Rattle.least_below.specs.SearchWays.{
  WaysSearched,
  ways_begin,
  ways_passed,
  way_search,
  way_searched,
  ways_done,
}

-- ON THE WAY IN: how many records the best has, and whether a cable is left to list
module _ {bs table : List ℕ} {m : ℕ} {b : State} (t : ℕ) (best : List ℕ) (held : ℕ)
    (s : SearchFrom bs table m (recs_in t best) b (recs_in held best)) where
  size : length (recs_in t best) ≡ t
  size = recs_in_length t best

  cables_most : m ≤ 20
  cables_most = omega (arith, s.given.cables, s.given.pattern.cables_high)

  pub best_counts : (t ≤ held) × (held ≤ 20)
  best_counts =
      let count = recs_in_length held best in
      (omega (arith, size, count, best_rows s), omega (arith, count, cables_most, best_most s))

  pub search_end : t ≡ m → SearchDone bs (recs_in t best) b (recs_in held best) (recs_in held best)
  search_end e = search_ended s (size ∙ e)

  pub cable_left : (t ≡ m → ⊥) → (t < m) × (m ≤ 20)
  cable_left more = (omega (arith, size, s.few), cables_most)

-- THE WAYS of the next record, one after another
module _ {bs table : List ℕ} {m t : ℕ} {b : State} {best : List Rec} {e : Option Extension} {first : List ℕ} {held : ℕ}
    (z : NextChosen bs table m t b best e first held) where
  less : length (recs_in t first) < m
  less = omega (arith, recs_in_length t first, z.more)

  pub chosen_most : m ≤ 20
  chosen_most = omega (arith, z.from.given.cables, z.from.given.pattern.cables_high)

  longer : List Rec
  longer = snoc (recs_in t first) (found_record (drawing_in bs) b e)

  longer_size : length longer ≡ t + 1
  unfolding longer
  longer_size = rw snoc_length (omega (arith, recs_in_length t first))

  first_rows : recs_in (t + 1) first ≡ longer
  unfolding longer
  first_rows =
      best_begins (drawing_in bs) longer first held (t + 1)
      (chosen_best kinds_before kinds_order (drawing_in bs) (recs_in t first) _ best (recs_in held first) z.from.so_far
      z.chosen) longer_size

  pub ways_first : WaysDone bs table t b e first held first held 0
  unfolding longer
  ways_first = rw first_rows (ways_begin z.from e z.found less (recs_in held first) z.chosen)

  module _ (now : List ℕ) (kept n : ℕ) (so : WaysDone bs table t b e first held now kept n) where
    so_rows : WaysSearched z.from e z.found less (recs_in held first) (recs_in kept now) n
    unfolding longer
    so_rows = rw first_rows at so

    pub ways_skip :
        (k : ℕ) → ((w : ℕ) → n ≤ w → w < k → Way table b e w → Passed table b e w) → WaysDone bs table t b e first held now kept k
    unfolding longer
    ways_skip k each =
        rw first_rows (ways_passed z.from e z.found less (recs_in held first) (recs_in kept now) n so_rows k each)

    now_rows : recs_in (t + 1) now ≡ longer
    unfolding longer
    now_rows = best_begins (drawing_in bs) longer now kept (t + 1) so_rows.best longer_size

    module _ (way : Way table b e n) (b' : State) (is : b' ≡ followed b e n) where
      pub way_call : SearchFrom bs table m (recs_in (t + 1) now) b' (recs_in kept now)
      unfolding longer
      way_call = rw (is, now_rows) (way_search z.from e z.found less (recs_in held first) (recs_in kept now) n so_rows way)

      pub way_return :
          (after : List ℕ) (left : ℕ) → SearchDone bs (recs_in (t + 1) now) b' (recs_in kept now) (recs_in left after)
          → WaysDone bs table t b e first held after left (n + 1)
      unfolding longer
      way_return after left done =
          rw first_rows
          (way_searched z.from e z.found less (recs_in held first) (recs_in kept now) n so_rows way (recs_in left after)
          (rw (is, now_rows) at done))

  pub ways_last :
      (after : List ℕ) (left : ℕ) → WaysDone bs table t b e first held after left 10
      → SearchDone bs (recs_in t first) b best (recs_in left after)
  unfolding longer
  ways_last after left so =
      ways_done z.from e z.found less (recs_in held first) (recs_in left after) z.chosen (rw first_rows at so)

-- a backward one has one way
module _ {bs table : List ℕ} {m t : ℕ} {b : State} {best : List Rec} {q l : ℕ} {first : List ℕ} {held : ℕ}
    (z : NextChosen bs table m t b best (Some (Chord q l)) first held) (b' : State) (is : b' ≡ with_chord b q) where
  chord_call : SearchFrom bs table m (recs_in (t + 1) first) b' (recs_in held first)
  chord_call = way_call z first held 0 (ways_first z) refl b' is

  chord_done :
      (after : List ℕ) (left : ℕ) → SearchDone bs (recs_in (t + 1) first) b' (recs_in held first) (recs_in left after)
      → SearchDone bs (recs_in t first) b best (recs_in left after)
  chord_done after left done =
      ways_last z after left
      (ways_skip z after left 1 (way_return z first held 0 (ways_first z) refl b' is after left done) 10 (λ w h g e. omega arith))

-- a forward one needs room for a number
module _ {bs table : List ℕ} {m t : ℕ} {b : State} {best : List Rec} {q l : ℕ} {first : List ℕ} {held : ℕ}
    (z : NextChosen bs table m t b best (Some (Edge q l)) first held) where
  pub edge_placed : OnPath b.numbers b.path q × (length b.used ≡ 10)
  edge_placed = (places_at (bounds_places b (search_bounds z.from)) q z.found.place, z.from.represents.used_size)

  pub edge_tie_room : (w : ℕ) → TiesWay table b q l w → (b.given < 10) × (q < 9) × (w < 10)
  edge_tie_room w k = tie_room (search_sees z.from) q l w z.found k

-- IT IS FOUND and compared with the best
pub record NextMet (bs table : List ℕ) (m t : ℕ) (b : State) (best : List ℕ) (old : List Rec) (e : Option Extension) (next : Rec) (o : Ordering) : Type 0 where
  pub from : SearchFrom bs table m (recs_in t best) b old
  pub more : t < m
  pub found : ExtensionFound table b e
  pub is : next ≡ found_record (drawing_in bs) b e
  pub against : Against (recs_in t best) old next o

module _ {bs table : List ℕ} {m t : ℕ} {b : State} {best : List ℕ} {old : List Rec} {e : Option Extension} {next : Rec} {o : Ordering}
    (z : NextMet bs table m t b best old e next o) where
  -- it is chosen, and the best is then the first `kept` records of `first`
  module _
      (n : o ≡ Greater → ⊥)
      (first : List ℕ)
      (kept : ℕ)
      (rows : recs_in kept first ≡ chosen_rows o (recs_in t best) next old) where
    chosen :
        Chosen kinds_before kinds_order (drawing_in bs) (recs_in t best) (found_record (drawing_in bs) b e) old
        (recs_in kept first)
    chosen = rw (rows, ← z.is) (against_chosen (drawing_in bs) (recs_in t best) old next o z.against n)

    rows_same : recs_in t first ≡ recs_in t best
    rows_same =
        let longer =
        chosen_best kinds_before kinds_order (drawing_in bs) (recs_in t best) (found_record (drawing_in bs) b e) old
        (recs_in kept first) z.from.so_far chosen in
        first_records first kept t (recs_in t best) (found_record (drawing_in bs) b e ∷ longer.rest)
        (longer.is ∙ append_assoc (recs_in t best) (found_record (drawing_in bs) b e ∷ []) longer.rest) (recs_in_length t best)

    met_chosen : NextChosen bs table m t b old e first kept
    met_chosen =
        record {
          from = rw rows_same z.from;
          more = z.more;
          found = z.found;
          chosen = rw rows_same chosen;
        }

    -- backward: the branch that it leads to, and what is done below it
    module _ (q l : ℕ) (back : e ≡ Some (Chord q l)) where
      back_chosen : NextChosen bs table m t b old (Some (Chord q l)) first kept
      back_chosen = rw back at met_chosen

      back_low : chorded b next.j ≡ with_chord b q
      back_low =
          sym (chorded_is b q next.j (sym (ap (λ (r : Rec). r.j) (z.is ∙ ap (found_record (drawing_in bs) b) back))))

      pub back_call : SearchFrom bs table m (recs_in (t + 1) first) (chorded b next.j) (recs_in kept first)
      back_call = chord_call back_chosen _ back_low

      pub back_done :
          (after : List ℕ) (left : ℕ) → SearchDone bs (recs_in (t + 1) first) (chorded b next.j) (recs_in kept first) (recs_in left after)
          → SearchDone bs (recs_in t best) b old (recs_in left after)
      back_done after left done = rw rows_same at (chord_done back_chosen _ back_low after left done)

    -- forward: its ways, and what is done when all are searched
    module _ (q l : ℕ) (front : e ≡ Some (Edge q l)) where
      front_chosen : NextChosen bs table m t b old (Some (Edge q l)) first kept
      front_chosen = rw front at met_chosen

      pub front_call : EdgesFrom bs table m t b q l first kept
      front_call = (old, front_chosen)

      pub front_done :
          (after : List ℕ) (left : ℕ) → WaysDone bs table t b (Some (Edge q l)) first kept after left 10
          → SearchDone bs (recs_in t best) b old (recs_in left after)
      front_done after left so = rw rows_same at (ways_last front_chosen after left so)

    -- a cable is left, so that something goes on
    pub never_nothing : e ≡ None → ⊥
    never_nothing nothing =
        never_none z.from (omega (arith, recs_in_length t best, z.more)) (rw nothing at z.found)

-- NO RECORD OF THE BEST is behind the rows
pub none_behind :
    {bs table : List ℕ} {m : ℕ} {b : State} (t : ℕ) (best : List ℕ) (held : ℕ)
    → SearchFrom bs table m (recs_in t best) b (recs_in held best) → t < m → held ≤ t
    → AnewFrom bs table m (recs_in t best) b (recs_in held best)
none_behind t best held s less h =
    let z : held ≡ t = omega (arith, best_counts t best held s) in
    record {
      from = s;
      more = omega (arith, recs_in_length t best);
      before = λ e c. nothing_there (ap (λ (i : ℕ). recs_in i best) z);
    }

-- THE RECORD r of the best is
pub record BestRow (bs table : List ℕ) (m t : ℕ) (b : State) (best : List ℕ) (held : ℕ) (r : Rec) : Type 0 where
  pub from : SearchFrom bs table m (recs_in t best) b (recs_in held best)
  pub more : t < m
  pub there : t < held
  pub is : r ≡ rec_in (row 5 t best)

module _ {bs table : List ℕ} {m t : ℕ} {b : State} {best : List ℕ} {held : ℕ} {r : Rec} (z : BestRow bs table m t b best held r) where
  behind : (rest : List Rec) × (recs_in held best ≡ recs_in t best ++ r ∷ rest)
  behind = rw z.is (record_behind best held t r z.there)

  pub row_behind : RowNext (drawing_in bs) table (recs_in t best) b r
  row_behind = best_row_next z.from r behind.0 behind.1

  pub row_later : RowMet (drawing_in bs) table (recs_in t best) b r Later
      → SearchDone bs (recs_in t best) b (recs_in held best) (recs_in held best)
  row_later y = search_cut z.from r behind.0 behind.1 y

  pub row_earlier : RowMet (drawing_in bs) table (recs_in t best) b r Earlier → AnewFrom bs table m (recs_in t best) b (recs_in held best)
  row_earlier y =
      record {
        from = z.from;
        more = omega (arith, z.more, recs_in_length t best);
        before = search_lowers z.from r behind.0 behind.1 y;
      }

  row_found :
      (e : Option Extension) → ExtensionFound table b e → r ≡ found_record (drawing_in bs) b e
      → NextMet bs table m t b best (recs_in held best) e r Equal
  row_found e c q = record { from = z.from; more = z.more; found = c; is = q; against = is_there behind.0 behind.1 }

  pub row_back_met : (y : RowMet (drawing_in bs) table (recs_in t best) b r Back)
      → NextMet bs table m t b best (recs_in held best) (Some (Chord y.0 (label_of r.c r.kj))) r Equal
  row_back_met y = row_found (Some (Chord y.0 (label_of r.c r.kj))) y.1 (sym (chord_record_is z.from y.0 _ ∙ y.2))

  pub row_front_met : (q l : ℕ) → RowMet (drawing_in bs) table (recs_in t best) b r (Front q l)
      → NextMet bs table m t b best (recs_in held best) (Some (Edge q l)) r Equal
  row_front_met q l y = row_found (Some (Edge q l)) y.0 (sym (edge_record_is z.from q l y.0.place ∙ y.1))

-- WHAT IS FOUND ANEW comes before the best
pub anew_left :
    {bs table : List ℕ} {m : ℕ} {b : State} (t : ℕ) (best : List ℕ) {old : List Rec} → AnewFrom bs table m (recs_in t best) b old
    → (t < m) × (m ≤ 20)
anew_left t best z = (
  omega (arith, z.more, recs_in_length t best),
  omega (arith, z.from.given.cables, z.from.given.pattern.cables_high),
)

pub anew_met :
    {bs table : List ℕ} {m : ℕ} {b : State} (t : ℕ) (best : List ℕ) {old : List Rec} → AnewFrom bs table m (recs_in t best) b old
    → (e : Option Extension) → ExtensionFound table b e → (next : Rec) → next ≡ found_record (drawing_in bs) b e
    → NextMet bs table m t b best old e next Less
anew_met t best z e c next q =
    record { from = z.from; more = (anew_left t best z).0; found = c; is = q; against = rw q (z.before e c) }
