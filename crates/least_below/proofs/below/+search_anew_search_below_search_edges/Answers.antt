-- `below::search_below`, `search_anew` and `search_edges`, which call each other, meet their contracts. Assumes nothing.
use Rattle.std.proofs.Common.{ℕ, ◌+◌, ◌<◌, List, refl, ◌∙◌, ap, subst, arith, Some}
use Rattle.graphs.specs.Drawing.{drawing_in}
use Rattle.codes.specs.Code.{Rec, recs_in}
use Rattle.codes.specs.BranchState.{State}
use Rattle.std.specs.declared.cmp.Ordering.TheVariants.{Less}
use Rattle.code_records.specs.Records.{as_rec}
use Rattle.branches.specs.declared.extension.Extension.{Extension}
use Rattle.branches.specs.declared.extension.Extension.TheVariants.{Edge}
use Rattle.branches.specs.Branches.{in_place}
use Rattle.branches.specs.InPlaceLaws.{bounds_places, all_same, same_place, same_placed, given_place, taken_place}
use Rattle.branches.specs.Ways.{PassedBelow, FirstWay}
use Rattle.least_below.specs.Searches.{AnewFrom, WaysDone}
use Rattle.least_below.specs.SearchBest.{before_goes_on, equal_goes_on}
use Rattle.least_below.specs.SearchLaws.{search_bounds, makes_record}
use Rattle.least_below.specs.SearchCalls.{best_counts, search_end, cable_left, ways_first, ways_skip, way_call, way_return, edge_placed, edge_tie_room, NextMet, back_call, back_done, front_call, front_done, never_nothing, none_behind, BestRow, row_behind, row_later, row_earlier, row_back_met, row_front_met, anew_left, anew_met}
use Rattle.least_below.proofs.below.+search_anew_search_below_search_edges.Goals as goal
use Rattle.least_below.proofs.below.+search_anew_search_below_search_edges.Goals.{search_anew-After-put_record, search_below-After-at-row, search_below-Joined-t-held, search_below-then-t-held+in-Earlier, search_below-else-t-held, search_edges-In-Some}

-- ANEW
pub search_anew-least_extension-found-requires : goal.search_anew-least_extension-found-requires
search_anew-least_extension-found-requires t c =
    let p = c.requires.0.1.from in
    (bounds_places _ (search_bounds p), p.represents.used_size)

pub search_anew-next_record-next-requires : goal.search_anew-next_record-next-requires
search_anew-next_record-next-requires t c =
    makes_record c.requires.0.1.from c.least_extension-found.result (c.least_extension-found.ensures c.args.given)

pub search_anew-put_record-requires : goal.search_anew-put_record-requires
search_anew-put_record-requires t c = (omega (arith, anew_left c.args.t c.args.best.now c.requires.0.1), c.requires.2)

-- what was found, whatever the best was
met_at :
    (t : ℕ) (c : search_anew-After-put_record t)
    → let a = c.args in
    (old : List Rec)
    → AnewFrom a.drawing.now a.table.now a.m (recs_in a.t a.best.now)
    (in_place a.numbers.now a.used.now a.path.now a.count a.given a.low) old
    → NextMet a.drawing.now a.table.now a.m a.t
    (in_place a.numbers.now a.used.now a.path.now a.count a.given a.low) a.best.now old
    c.least_extension-found.result (as_rec c.next_record-next.result) Less
met_at t c old z =
    let a = c.args in
    anew_met a.t a.best.now z c.least_extension-found.result (c.least_extension-found.ensures a.given) _
    (c.next_record-next.ensures a.used.now a.low)

pub search_anew-overflow_add-t : goal.search_anew-overflow_add-t
search_anew-overflow_add-t t c = omega (arith, anew_left c.args.t c.args.best.now c.requires.0.1)

pub search_anew-overflow_add-t-in-Chord : goal.search_anew-overflow_add-t-in-Chord
search_anew-overflow_add-t-in-Chord t c = omega (arith, anew_left c.args.t c.args.best.now c.requires.0.1)

pub search_anew-search_below-requires : goal.search_anew-search_below-requires
search_anew-search_below-requires t c =
    let z = c.requires.0 in
    let p = (goal.at.search_anew-search_below-requires t c).After-put_record in (
      omega (arith, c.decreases, anew_left c.args.t c.args.best.now z.1),
      (
        rw c.from.ensures
            (back_call (met_at t p z.0 z.1) before_goes_on c.put_record.new.code (c.args.t + 1) c.put_record.ensures.records
            c.in-Chord.field-0 c.in-Chord.field-1 (c.in-Some.is ∙ ap (λ (e : Extension). Some e) c.in-Chord.is)),
        c.requires.1,
        c.put_record.ensures.long ∙ c.requires.2,
      ),
    )

pub search_anew-overflow_add-t-in-Edge : goal.search_anew-overflow_add-t-in-Edge
search_anew-overflow_add-t-in-Edge t c = omega (arith, anew_left c.args.t c.args.best.now c.requires.0.1)

pub search_anew-search_edges-requires : goal.search_anew-search_edges-requires
search_anew-search_edges-requires t c =
    let z = c.requires.0 in
    let p = (goal.at.search_anew-search_edges-requires t c).After-put_record in (
      omega (arith, c.decreases, anew_left c.args.t c.args.best.now z.1),
      (
        front_call (met_at t p z.0 z.1) before_goes_on c.put_record.new.code (c.args.t + 1) c.put_record.ensures.records
            c.in-Edge.q c.in-Edge.l (c.in-Some.is ∙ ap (λ (e : Extension). Some e) c.in-Edge.is),
        c.requires.1,
        c.put_record.ensures.long ∙ c.requires.2,
      ),
    )

pub search_anew-returns-in-Chord : goal.search_anew-returns-in-Chord
search_anew-returns-in-Chord t c =
    let p = (goal.at.search_anew-returns-in-Chord t c).After-put_record in (
      λ old z.
          back_done (met_at t p old z) before_goes_on c.put_record.new.code (c.args.t + 1) c.put_record.ensures.records
          c.in-Chord.field-0 c.in-Chord.field-1 (c.in-Some.is ∙ ap (λ (e : Extension). Some e) c.in-Chord.is) _ c.search_below.result c.search_below.ensures.0,
      c.search_below.ensures.1,
      c.search_below.ensures.2,
    )

pub search_anew-returns-in-Edge : goal.search_anew-returns-in-Edge
search_anew-returns-in-Edge t c =
    let p = (goal.at.search_anew-returns-in-Edge t c).After-put_record in (
      λ old z.
          front_done (met_at t p old z) before_goes_on c.put_record.new.code (c.args.t + 1) c.put_record.ensures.records
          c.in-Edge.q c.in-Edge.l (c.in-Some.is ∙ ap (λ (e : Extension). Some e) c.in-Edge.is) _ c.search_edges.result c.search_edges.ensures.0,
      c.search_edges.ensures.1,
      c.search_edges.ensures.2,
    )

pub search_anew-overflow_add-result : goal.search_anew-overflow_add-result
search_anew-overflow_add-result t c = omega (arith, anew_left c.args.t c.args.best.now c.requires.0.1)

pub search_anew-returns-in_default : goal.search_anew-returns-in_default
search_anew-returns-in_default t c =
    let z = c.requires.0 in
    let p = (goal.at.search_anew-returns-in_default t c).After-put_record in
    absurd (never_nothing (met_at t p z.0 z.1) before_goes_on c.put_record.new.code (c.args.t + 1) c.put_record.ensures.records c.in_default.is)

-- AGAINST THE BEST
pub search_below-returns-then-t-m : goal.search_below-returns-then-t-m
search_below-returns-then-t-m t c =
    (search_end c.args.t c.args.best.now c.args.held c.requires.0 c.if-t-m.true, all_same, c.requires.2)

pub search_below-at-row-requires : goal.search_below-at-row-requires
search_below-at-row-requires t c =
    omega (arith, c.if-t-held.true, best_counts c.args.t c.args.best.now c.args.held c.requires.0, c.requires.2)

-- the best's record
there_at :
    (t : ℕ) (c : search_below-After-at-row t)
    → let a = c.args in
    BestRow a.drawing.now a.table.now a.m a.t
    (in_place a.numbers.now a.used.now a.path.now a.count a.given a.low) a.best.now a.held
    (as_rec c.at-row.result)
there_at t c =
    record {
      from = c.requires.0;
      more = (cable_left c.args.t c.args.best.now c.args.held c.requires.0 c.if-t-m.false).0;
      there = c.if-t-held.true;
      is = c.at-row.ensures;
    }

pub search_below-meet_row-requires : goal.search_below-meet_row-requires
search_below-meet_row-requires t c =
    (drawing_in c.args.drawing.now, recs_in c.args.t c.args.best.now, c.args.given, row_behind (there_at t c))

pub search_below-returns-in-Later : goal.search_below-returns-in-Later
search_below-returns-in-Later t c =
    let a = c.args in
    let there = there_at t (goal.at.search_below-returns-in-Later t c).After-at-row in (
      row_later there (c.in-Later.ensures (drawing_in a.drawing.now) (recs_in a.t a.best.now) a.given (row_behind there)),
      all_same,
      c.requires.2,
    )

pub search_below-search_below-requires : goal.search_below-search_below-requires
search_below-search_below-requires t c =
    let a = c.args in
    let there = there_at t (goal.at.search_below-search_below-requires t c).After-at-row in
    let met = row_back_met there (c.in-Back.ensures (drawing_in a.drawing.now) (recs_in a.t a.best.now) a.given (row_behind there)) in (
      omega (arith, c.decreases, there.more),
      (rw c.from.ensures (back_call met equal_goes_on a.best.now a.held refl _ _ refl), c.requires.1, c.requires.2),
    )

pub search_below-returns-in-Back : goal.search_below-returns-in-Back
search_below-returns-in-Back t c =
    let a = c.args in
    let there = there_at t (goal.at.search_below-returns-in-Back t c).After-at-row in
    let met = row_back_met there (c.in-Back.ensures (drawing_in a.drawing.now) (recs_in a.t a.best.now) a.given (row_behind there)) in (
      back_done met equal_goes_on a.best.now a.held refl _ _ refl _ c.search_below.result c.search_below.ensures.0,
      c.search_below.ensures.1,
      c.search_below.ensures.2,
    )

pub search_below-search_edges-requires : goal.search_below-search_edges-requires
search_below-search_edges-requires t c =
    let a = c.args in
    let there = there_at t (goal.at.search_below-search_edges-requires t c).After-at-row in
    let met = row_front_met there c.in-Front.q c.in-Front.l
    (c.in-Front.ensures (drawing_in a.drawing.now) (recs_in a.t a.best.now) a.given (row_behind there)) in (
      omega (arith, c.decreases, there.more),
      (front_call met equal_goes_on a.best.now a.held refl _ _ refl, c.requires.1, c.requires.2),
    )

pub search_below-returns-in-Front : goal.search_below-returns-in-Front
search_below-returns-in-Front t c =
    let a = c.args in
    let there = there_at t (goal.at.search_below-returns-in-Front t c).After-at-row in
    let met = row_front_met there c.in-Front.q c.in-Front.l
    (c.in-Front.ensures (drawing_in a.drawing.now) (recs_in a.t a.best.now) a.given (row_behind there)) in (
      front_done met equal_goes_on a.best.now a.held refl _ _ refl _ c.search_edges.result c.search_edges.ensures.0,
      c.search_edges.ensures.1,
      c.search_edges.ensures.2,
    )

-- the best has no record there, or what goes on comes before it
anew_after :
    (t : ℕ) (c : search_below-Joined-t-held t)
    → let a = c.args in
    AnewFrom a.drawing.now a.table.now a.m (recs_in a.t a.best.now)
    (in_place a.numbers.now a.used.now a.path.now a.count a.given a.low) (recs_in a.held a.best.now)
anew_after t c =
    let a = c.args in
    let more = (cable_left a.t a.best.now a.held c.requires.0 c.if-t-m.false).0 in
    elim c.if-t-held.branch [
      | search_below-then-t-held+in-Earlier w ↦
          let there : BestRow a.drawing.now a.table.now a.m a.t
          (in_place a.numbers.now a.used.now a.path.now a.count a.given a.low) a.best.now a.held (as_rec w.at-row.result) =
          record { from = c.requires.0; more = more; there = w.if-t-held.true; is = w.at-row.ensures } in
          row_earlier there (w.in-Earlier.ensures (drawing_in a.drawing.now) (recs_in a.t a.best.now) a.given (row_behind there))
      | search_below-else-t-held w ↦ none_behind a.t a.best.now a.held c.requires.0 more (omega (arith, w.if-t-held.false))
    ]

pub search_below-search_anew-requires : goal.search_below-search_anew-requires
search_below-search_anew-requires t c =
    let a = c.args in
    let anew = anew_after t (goal.at.search_below-search_anew-requires t c).Joined-t-held in (
      omega (arith, c.decreases, cable_left a.t a.best.now a.held c.requires.0 c.if-t-m.false),
      ((recs_in a.held a.best.now, anew), c.requires.1, c.requires.2),
    )

pub search_below-returns : goal.search_below-returns
search_below-returns t c = (
  c.search_anew.ensures.0 (recs_in c.args.held c.args.best.now) (anew_after t (goal.at.search_below-returns t c).Joined-t-held),
  c.search_anew.ensures.1,
  c.search_anew.ensures.2,
)

-- EACH WAY
pub search_edges-loop-w-init : goal.search_edges-loop-w-init
search_edges-loop-w-init t c = (omega arith, all_same, c.requires.2, ways_first c.requires.0.1)

pub search_edges-next_tie-requires : goal.search_edges-next_tie-requires
search_edges-next_tie-requires t c =
    let h = same_placed c.loop-w.invariant.1 _ (edge_placed c.requires.0.1) in
    (h.0, h.1, c.requires.1)

-- the next way is found, and those before it are searched or passed over
next_at :
    (t : ℕ) (c : search_edges-In-Some t)
    → let a = c.args in
    FirstWay a.table.now (in_place a.numbers.now a.used.now a.path.now a.count a.given a.low) (Some (Edge a.q a.l))
    c.loop-w.from c.in-Some.w
next_at t c =
    let a = c.args in
    subst (λ (b : State). FirstWay a.table.now b (Some (Edge a.q a.l)) c.loop-w.from c.in-Some.w)
    (same_place c.loop-w.invariant.1 a.count a.given a.low)
    (rw c.in-Some.is at (c.next_tie.ensures a.count a.given a.low))

ways_at :
    (t : ℕ) (c : search_edges-In-Some t)
    → let a = c.args in
    WaysDone a.drawing.now a.table.now a.t
    (in_place a.numbers.now a.used.now a.path.now a.count a.given a.low) (Some (Edge a.q a.l)) a.best.now a.held
    c.loop-w.best c.loop-w.kept c.in-Some.w
ways_at t c =
    let l = c.loop-w in
    ways_skip c.requires.0.1 l.best l.kept l.from l.invariant.3 c.in-Some.w (next_at t c).first

-- there is room for its number
room_at : (t : ℕ) (c : search_edges-In-Some t) → (c.args.given < 10) × (c.args.q < 9) × (c.in-Some.w < 10)
room_at t c = edge_tie_room c.requires.0.1 c.in-Some.w (next_at t c).way

pub search_edges-give_number-was-requires : goal.search_edges-give_number-was-requires
search_edges-give_number-was-requires t c = room_at t (goal.at.search_edges-give_number-was-requires t c).In-Some

pub search_edges-overflow_add-q : goal.search_edges-overflow_add-q
search_edges-overflow_add-q t c = omega (arith, room_at t (goal.at.search_edges-overflow_add-q t c).In-Some)

pub search_edges-search_below-kept-requires : goal.search_edges-search_below-kept-requires
search_edges-search_below-kept-requires t c =
    let k = (goal.at.search_edges-search_below-kept-requires t c).In-Some in
    let z = c.requires.0.1 in
    let l = c.loop-w in (
      omega (arith, c.decreases, z.more),
      (
        way_call z l.best l.kept c.in-Some.w (ways_at t k) (next_at t k).way _
            (given_place l.invariant.1 c.give_number-was.ensures c.args.count c.args.low),
        c.requires.1,
        l.invariant.2,
      ),
    )

pub search_edges-take_number-requires : goal.search_edges-take_number-requires
search_edges-take_number-requires t c = room_at t (goal.at.search_edges-take_number-requires t c).In-Some

pub search_edges-overflow_add-from : goal.search_edges-overflow_add-from
search_edges-overflow_add-from t c = omega (arith, room_at t (goal.at.search_edges-overflow_add-from t c).In-Some)

pub search_edges-loop-w-smaller : goal.search_edges-loop-w-smaller
search_edges-loop-w-smaller t c =
    let next = next_at t (goal.at.search_edges-loop-w-smaller t c).In-Some in
    omega (arith, next.rises, next.low)

pub search_edges-loop-w-preserved : goal.search_edges-loop-w-preserved
search_edges-loop-w-preserved t c =
    let k = (goal.at.search_edges-loop-w-preserved t c).In-Some in
    let next = next_at t k in
    let l = c.loop-w in
    let g = c.give_number-was.ensures in
    let done = c.search_below-kept.ensures in (
      omega (arith, next.low),
      taken_place l.invariant.1 g done.1 c.take_number.ensures next.way.free.unused,
      done.2,
      way_return c.requires.0.1 l.best l.kept c.in-Some.w (ways_at t k) next.way _
          (given_place l.invariant.1 g c.args.count c.args.low) _ c.search_below-kept.result done.0,
    )

-- no way is left
pub search_edges-returns : goal.search_edges-returns
search_edges-returns t c =
    let a = c.args in
    let l = c.loop-w in
    let none = subst (λ (b : State). PassedBelow a.table.now b (Some (Edge a.q a.l)) l.from 10)
    (same_place l.invariant.1 a.count a.given a.low)
    (rw c.in_default.is at (c.next_tie.ensures a.count a.given a.low)) in
    (ways_skip c.requires.0.1 l.best l.kept l.from l.invariant.3 10 none, l.invariant.1, l.invariant.2)
