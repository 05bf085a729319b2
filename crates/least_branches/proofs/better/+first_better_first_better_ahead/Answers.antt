-- `better::first_better` and `better::first_better_ahead`, which call each other, meet their contracts. Assumes nothing.
use Rattle.std.proofs.Common.{◌≡◌, ℕ, ◌+◌, ◌≤◌, ◌<◌, Bool, List, length, sym, ap, ◌∙◌, subst, arith, rules}
use mathlib.Core.Logic.{⊎_elim}
use Rattle.codes.specs.BranchState.{State}
use Rattle.std.specs.declared.cmp.Ordering.{Ordering}
use Rattle.std.specs.declared.cmp.Ordering.TheVariants.{Less, Equal, Greater}
use Rattle.branches.specs.Branches.{in_place, device_placed, SameArrays}
use Rattle.branches.specs.InPlaceLaws.{all_same, joined, given_place, taken_place}
use Rattle.least_seen.specs.Betters.{FirstBetter}
use Rattle.least_seen.specs.Accepting.{ChordTold, FreeLabel, CountedLabel, Lower, wanted_label, TestGoesOn}
use Rattle.least_seen.specs.AcceptedSteps.{counted_free, wanted_label_some, TriedWay, goes_two, goes_below, goes_count, goes_places, goes_marked, back_on_path, chord_goes, front_on_path, not_lower_way, edge_way_room, edge_goes, twin_way}
use Rattle.least_seen.specs.FirstBetterLaws.{first_ended, goes_of, first_chord_before, first_chord_after, first_chord_on, first_edge_before, first_edge_lower, WaysTried, ways_begun, ways_skipped, ways_enough, ways_followed, ways_all}
use Rattle.least_branches.proofs.better.+first_better_first_better_ahead.Goals as goal
use Rattle.least_branches.proofs.better.+first_better_first_better_ahead.Goals.{first_better-After-chord_order, first_better_ahead-Then-l-wanted, first_better_ahead-then-l-wanted+else-bound-enough, first_better_ahead-else-l-wanted}

-- what is told of a backward record
told :
    (t : ℕ) (c : first_better-After-chord_order t) (o : Ordering)
    → let a = c.args in
    ChordTold a.table.now a.numbers.now a.path.now a.count a.low c.place_of-q.result c.wanted_label.result o
    → ChordTold a.table.now a.numbers.now a.path.now a.count a.low c.place_of-q.result (wanted_label a.code.now a.t) o
told t c o x =
    let a = c.args in
    subst (λ (w : ℕ). ChordTold a.table.now a.numbers.now a.path.now a.count a.low c.place_of-q.result w o) c.wanted_label.ensures.0 x

pub first_better-returns-then-t-m : goal.first_better-returns-then-t-m
first_better-returns-then-t-m t c =
    let a = c.args in
    let last : a.m ≤ a.t = omega (arith, c.if-t-m.true) in
    (first_ended a.code.now a.m a.enough a.t (in_place a.numbers.now a.used.now a.path.now a.count a.given a.low) last, all_same)

pub first_better-first_better_ahead-requires : goal.first_better-first_better_ahead-requires
first_better-first_better_ahead-requires t c =
    let h : c.args.t < c.args.m = omega (arith, c.requires.0.low, c.if-t-m.false) in
    (omega (arith, c.decreases), (record { goes = c.requires.0; more = h; ahead = c.if-i-j.true }, c.requires.1))

pub first_better-place_of-q-requires : goal.first_better-place_of-q-requires
first_better-place_of-q-requires t c =
    let p = c.requires.0 in
    (goes_count p, back_on_path p (omega (arith, p.low, c.if-t-m.false)) (λ h. omega (arith, h, c.if-i-j.false)))

pub first_better-chord_order-requires : goal.first_better-chord_order-requires
first_better-chord_order-requires t c = (goes_places c.requires.0, c.place_of-q.ensures.0)

pub first_better-first_better-requires : goal.first_better-first_better-requires
first_better-first_better-requires t c =
    let p = c.requires.0 in
    let h : c.args.t < c.args.m = omega (arith, p.low, c.if-t-m.false) in (
      omega (arith, c.decreases),
      (
        rw c.from.ensures
            (chord_goes p h (λ h. omega (arith, h, c.if-i-j.false)) c.place_of-q.result c.place_of-q.ensures.0 c.place_of-q.ensures.1
            c.wanted_label.ensures.1 (told t (goal.at.first_better-first_better-requires t c).After-chord_order Equal c.in-Equal.ensures)),
        c.requires.1,
      ),
    )

pub first_better-returns-in-Less : goal.first_better-returns-in-Less
first_better-returns-in-Less t c =
    let p = c.requires.0 in (
      first_chord_before p (omega (arith, p.low, c.if-t-m.false)) (λ h. omega (arith, h, c.if-i-j.false))
          c.place_of-q.result c.place_of-q.ensures.0 c.place_of-q.ensures.1 c.wanted_label.ensures.1
          (told t (goal.at.first_better-returns-in-Less t c).After-chord_order Less c.in-Less.ensures),
      all_same,
    )

pub first_better-returns-in-Equal : goal.first_better-returns-in-Equal
first_better-returns-in-Equal t c =
    let p = c.requires.0 in (
      first_chord_on p (omega (arith, p.low, c.if-t-m.false)) (λ h. omega (arith, h, c.if-i-j.false))
          c.place_of-q.result c.place_of-q.ensures.0 c.place_of-q.ensures.1 c.wanted_label.ensures.1
          (told t (goal.at.first_better-returns-in-Equal t c).After-chord_order Equal c.in-Equal.ensures)
          c.first_better.ensures.0,
      c.first_better.ensures.1,
    )

pub first_better-returns-in-Greater : goal.first_better-returns-in-Greater
first_better-returns-in-Greater t c =
    let p = c.requires.0 in (
      first_chord_after p (omega (arith, p.low, c.if-t-m.false)) (λ h. omega (arith, h, c.if-i-j.false))
          c.place_of-q.result c.place_of-q.ensures.0 c.place_of-q.ensures.1 c.wanted_label.ensures.1
          (told t (goal.at.first_better-returns-in-Greater t c).After-chord_order Greater c.in-Greater.ensures),
      all_same,
    )

-- WHERE IT IS FORWARD: a device's label
counted_at :
    {used used' : List Bool} {u u' : ℕ} (table : List ℕ) (w l : ℕ) → used ≡ used' → u ≡ u'
    → CountedLabel table used u w l → CountedLabel table used' u' w l
counted_at {used' = used'} {u = u} table w l same is x =
    subst (λ (v : ℕ). CountedLabel table used' v w l) is (subst (λ (marks : List Bool). CountedLabel table marks u w l) same x)

-- the label wanted is found
own :
    (t : ℕ) (c : first_better_ahead-Then-l-wanted t) → c.counted_label-l.result ≡ wanted_label c.args.code.now c.args.t
own t c = c.if-l-wanted.true ∙ c.wanted_label-wanted.ensures.0

tied_at :
    (t : ℕ) (c : first_better_ahead-Then-l-wanted t)
    → let a = c.args in
    FreeLabel a.table.now a.used.now (device_placed a.numbers.now a.path.now c.place_of-q.result) c.loop-w.w c.counted_label-l.result
tied_at t c =
    counted_free
    (counted_at c.args.table.now c.loop-w.w c.counted_label-l.result c.loop-w.invariant.1.used_same c.device_at-from.ensures.0
    c.counted_label-l.ensures)
    (wanted_label_some c.args.code.now c.args.t (own t c))

-- there is room for its number
room :
    (t : ℕ) (c : first_better_ahead-Then-l-wanted t) → (c.args.given < 10) × (c.place_of-q.result < 9) × (c.loop-w.w < 10)
room t c =
    let p = c.requires.0 in
    let given =
    edge_way_room p.goes p.more p.ahead c.place_of-q.result c.place_of-q.ensures.0 c.place_of-q.ensures.1 c.wanted_label-wanted.ensures.1
    c.loop-w.w c.loop-w-test.true (tied_at t c) (own t c)
    in
    (given, omega (arith, given, c.place_of-q.ensures.0, goes_below p.goes), omega (arith, c.loop-w-test.true, (goes_marked p.goes).low))

pub first_better_ahead-place_of-q-requires : goal.first_better_ahead-place_of-q-requires
first_better_ahead-place_of-q-requires t c =
    let p = c.requires.0 in
    (goes_count p.goes, front_on_path p.goes p.more p.ahead)

pub first_better_ahead-some_before-requires : goal.first_better_ahead-some_before-requires
first_better_ahead-some_before-requires t c =
    let p = c.requires.0.goes in
    (goes_two p, c.place_of-q.ensures.0, goes_places p, goes_marked p)

pub first_better_ahead-returns-then-some_before : goal.first_better_ahead-returns-then-some_before
first_better_ahead-returns-then-some_before t c =
    let p = c.requires.0 in (
      first_edge_before p.goes p.more p.ahead c.place_of-q.result c.place_of-q.ensures.0 c.place_of-q.ensures.1
          (c.some_before.ensures.holds c.if-some_before.true),
      all_same,
    )

pub first_better_ahead-device_at-from-requires : goal.first_better_ahead-device_at-from-requires
first_better_ahead-device_at-from-requires t c =
    let p = goes_places c.requires.0.goes in
    let h = c.place_of-q.ensures.0 in
    (omega (arith, p.count_low, h), p.on_path _ h, p.lands _ h)

pub first_better_ahead-loop-w-init : goal.first_better_ahead-loop-w-init
first_better_ahead-loop-w-init t c = (search rules, all_same, ways_begun c.requires.0.more)

pub first_better_ahead-counted_label-l-requires : goal.first_better_ahead-counted_label-l-requires
first_better_ahead-counted_label-l-requires t c =
    let d = goes_marked c.requires.0.goes in (
      c.device_at-from.ensures.1,
      omega (arith, d.low, c.loop-w-test.true),
      ap length c.loop-w.invariant.1.used_same ∙ d.size,
      c.requires.1,
    )

pub first_better_ahead-returns-then-is_lower : goal.first_better_ahead-returns-then-is_lower
first_better_ahead-returns-then-is_lower t c =
    let p = c.requires.0 in
    let lower = c.is_lower.ensures.holds c.if-is_lower.true in
    let counted = counted_at c.args.table.now c.loop-w.w c.counted_label-l.result c.loop-w.invariant.1.used_same c.device_at-from.ensures.0
    c.counted_label-l.ensures in (
      first_edge_lower p.goes p.more p.ahead c.place_of-q.result c.place_of-q.ensures.0 c.place_of-q.ensures.1
          c.wanted_label-wanted.ensures.1 c.loop-w.w c.loop-w-test.true (counted_free counted lower.0)
          (subst (Lower c.counted_label-l.result) c.wanted_label-wanted.ensures.0 lower),
      c.loop-w.invariant.1,
    )

pub first_better_ahead-give_number-was-requires : goal.first_better_ahead-give_number-was-requires
first_better_ahead-give_number-was-requires t c = room t (goal.at.first_better_ahead-give_number-was-requires t c).Then-l-wanted

pub first_better_ahead-overflow_add-q : goal.first_better_ahead-overflow_add-q
first_better_ahead-overflow_add-q t c =
    omega (arith, room t (goal.at.first_better_ahead-overflow_add-q t c).Then-l-wanted)

pub first_better_ahead-first_better-bound-requires :
    goal.first_better_ahead-first_better-bound-requires
first_better_ahead-first_better-bound-requires t c =
    let k = (goal.at.first_better_ahead-first_better-bound-requires t c).Then-l-wanted in
    let a = c.args in
    let p = c.requires.0 in
    let l = c.loop-w in
    let W = l.invariant.2 in
    let lowered = goes_of p.goes l.bound (omega (arith, W.left)) W.within in (
      omega (arith, c.decreases, W.left, W.within),
      (
        subst (TestGoesOn a.table.now a.code.now l.bound a.n (a.t + 1))
            (sym (given_place l.invariant.1 c.give_number-was.ensures a.count a.low))
            (edge_goes lowered W.left p.ahead c.place_of-q.result c.place_of-q.ensures.0 c.place_of-q.ensures.1
            c.wanted_label-wanted.ensures.1 l.w c.loop-w-test.true (tied_at t k) (own t k)),
        c.requires.1,
      ),
    )

pub first_better_ahead-take_number-requires : goal.first_better_ahead-take_number-requires
first_better_ahead-take_number-requires t c = room t (goal.at.first_better_ahead-take_number-requires t c).Then-l-wanted

pub first_better_ahead-returns-then-bound-enough :
    goal.first_better_ahead-returns-then-bound-enough
first_better_ahead-returns-then-bound-enough t c =
    let k = (goal.at.first_better_ahead-returns-then-bound-enough t c).Then-l-wanted in
    let a = c.args in
    let p = c.requires.0 in
    let l = c.loop-w in
    let g = c.give_number-was.ensures in
    let r = c.first_better-bound in (
      ways_enough p.goes p.more p.ahead c.place_of-q.result c.place_of-q.ensures.0 c.place_of-q.ensures.1 c.wanted_label-wanted.ensures.1
          l.invariant.2 c.loop-w-test.true (tied_at t k) (own t k)
          (subst (λ (b : State). FirstBetter a.code.now l.bound a.enough (a.t + 1) b r.result)
          (given_place l.invariant.1 g a.count a.low) r.ensures.0)
          c.if-bound-enough.true,
      taken_place l.invariant.1 g r.ensures.1 c.take_number.ensures
          ((tied_at t k).taken (wanted_label_some a.code.now a.t (own t k))),
    )

pub first_better_ahead-loop-w-preserved : goal.first_better_ahead-loop-w-preserved
first_better_ahead-loop-w-preserved t c =
    let a = c.args in
    let p = c.requires.0 in
    let l = c.loop-w in
    let Ways : ℕ → Type 0 = λ bound.
    WaysTried a.table.now a.code.now a.m a.t (in_place a.numbers.now a.used.now a.path.now a.count a.given a.low)
    c.place_of-q.result bound (l.w + 1)
    in
    let counted = counted_at a.table.now l.w c.counted_label-l.result l.invariant.1.used_same c.device_at-from.ensures.0
    c.counted_label-l.ensures in
    let wanted = c.wanted_label-wanted.ensures.0 in
    let way : SameArrays a.numbers.now c.if-l-wanted.numbers a.used.now c.if-l-wanted.used a.path.now c.if-l-wanted.path × Ways c.if-l-wanted.bound =
    elim c.if-l-wanted.branch [
      | first_better_ahead-then-l-wanted+else-bound-enough w ↦
          let own_label = w.if-l-wanted.true ∙ wanted in
          let some = wanted_label_some a.code.now a.t own_label in
          let tied = counted_free counted some in
          let g = w.give_number-was.ensures in
          let r = w.first_better-bound in (
            joined (taken_place l.invariant.1 g r.ensures.1 w.take_number.ensures (tied.taken some)) w.numbers-is w.used-is w.path-is,
            subst Ways (sym w.bound-is)
                (ways_followed p.goes p.more p.ahead c.place_of-q.result c.place_of-q.ensures.0 c.place_of-q.ensures.1
                c.wanted_label-wanted.ensures.1 l.invariant.2 c.loop-w-test.true tied own_label
                (subst (λ (b : State). FirstBetter a.code.now l.bound a.enough (a.t + 1) b r.result)
                (given_place l.invariant.1 g a.count a.low) r.ensures.0)
                w.if-bound-enough.false),
          )
      | first_better_ahead-else-l-wanted w ↦
          let G = goes_of p.goes l.bound (omega (arith, l.invariant.2.left)) l.invariant.2.within in
          let passed : TriedWay a.table.now a.code.now l.bound a.t
          (in_place a.numbers.now a.used.now a.path.now a.count a.given a.low) c.place_of-q.result l.w =
          ⊎_elim
          (λ y.
          not_lower_way G l.invariant.2.left p.ahead c.place_of-q.result c.place_of-q.ensures.0 c.place_of-q.ensures.1
          c.wanted_label-wanted.ensures.1 l.w c.loop-w-test.true y
          (λ m. c.is_lower.ensures.fails c.if-is_lower.false (subst (Lower c.counted_label-l.result) (sym wanted) m))
          (λ e. w.if-l-wanted.false (e ∙ sym wanted)))
          (λ y.
          twin_way G l.invariant.2.left p.ahead c.place_of-q.result c.place_of-q.ensures.0 c.place_of-q.ensures.1
          c.wanted_label-wanted.ensures.1 l.w c.loop-w-test.true y.1 l.invariant.2.tried)
          counted
          in (
            joined l.invariant.1 w.numbers-is w.used-is w.path-is,
            subst Ways (sym w.bound-is) (ways_skipped l.invariant.2 passed),
          )
    ]
    in
    (omega (arith, c.loop-w-test.true), way.0, way.1)

pub first_better_ahead-returns : goal.first_better_ahead-returns
first_better_ahead-returns t c =
    let p = c.requires.0 in
    let l = c.loop-w in (
      ways_all p.goes p.more p.ahead c.place_of-q.result c.place_of-q.ensures.0 c.place_of-q.ensures.1 c.wanted_label-wanted.ensures.1
          l.invariant.2 (omega (arith, c.loop-w-test.false))
          (c.some_before.ensures.fails c.if-some_before.false),
      l.invariant.1,
    )
