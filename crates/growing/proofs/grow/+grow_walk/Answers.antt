-- `grow::grow` and `grow::walk` meet their contracts. The walk's invariant: what goes on by the candidates below k is listed.
use mathlib.Core.Path.{refl, ◌∙◌}
use native.Mathlib.Omega.{arith}
use Rattle.codes.specs.CodeBytes.{recs_in_length}
use Rattle.extending.specs.HeldCodeLaws.{code_same, code_grown}
use Rattle.taking.specs.TakingLaws.{taken_goes_on}
use Rattle.walks.specs.EmbeddingListLaws.{lists_kept_same}
use Rattle.growing.specs.PatternGrowth.{grow_takes_up, grow_counts, grow_over, grow_ended, grow_room, grow_walks, grow_went}
use Rattle.growing.specs.ListsHanded.{lists_made, lists_walked, lists_grow, lists_after}
use Rattle.growing.specs.CandidateWalk.{
  walk_starts,
  walk_looks,
  walk_ends_all,
  walk_turned,
  walk_grows,
  walk_fills,
  walk_goes_on,
}
use Rattle.growing.proofs.grow.+grow_walk.Goals as goal

pub grow-take_on-requires : goal.grow-take_on-requires
grow-take_on-requires t c = grow_takes_up c.requires.1 c.requires.0

pub grow-returns-in-Over : goal.grow-returns-in-Over
grow-returns-in-Over t c = (
  grow_over c.requires.0 c.take_on.ensures c.in-Over.is,
  code_same c.requires.1.sized,
  lists_kept_same c.requires.2.sized,
)

pub grow-returns-in-Stopped : goal.grow-returns-in-Stopped
grow-returns-in-Stopped t c = (
  grow_ended c.requires.0 c.take_on.ensures c.in-Stopped.is,
  code_same c.requires.1.sized,
  lists_kept_same c.requires.2.sized,
)

pub grow-choose_next-next-requires : goal.grow-choose_next-next-requires
grow-choose_next-next-requires t c =
    let p = c.requires in
    let o = taken_goes_on c.take_on.ensures c.in-On.is in (
      record { alphabet = c.args.alphabet.now; prepared = p.0.set_up.prepared },
      p.0.at_hand.blank,
      record {
        accepted = p.0.set_up.prepared.accepted;
        tables = p.0.set_up.prepared.tables;
        can = grow_counts p.1 p.0 o.smaller;
        sized = p.2.sized;
        below = p.2.below;
      },
      grow_room p.0 o,
    )

pub grow-walk-requires : goal.grow-walk-requires
grow-walk-requires t c =
    let p = c.requires in
    let o = taken_goes_on c.take_on.ensures c.in-On.is in (
      omega (arith, c.decreases, p.0.most, recs_in_length c.args.cables c.args.code.now, o.smaller),
      (grow_walks p.0 o c.choose_next-next.ensures.0, p.1, lists_made c.choose_next-next.ensures.1),
    )

pub grow-returns : goal.grow-returns
grow-returns t c =
    let p = c.requires in
    let o = taken_goes_on c.take_on.ensures c.in-On.is in (
      grow_went p.0 o c.choose_next-next.ensures.0 c.walk.ensures.0,
      c.walk.ensures.1,
      lists_walked (omega (arith, p.0.some, recs_in_length c.args.cables c.args.code.now)) c.choose_next-next.ensures.1 c.walk.ensures.2,
    )

pub walk-loop-next-init : goal.walk-loop-next-init
walk-loop-next-init t c =
    let p = c.requires in
    (walk_starts p.0, code_same p.1.sized, lists_kept_same p.2.sized, refl)

pub walk-next_hopeful-requires : goal.walk-next_hopeful-requires
walk-next_hopeful-requires t c =
    let p = c.requires in
    let l = c.loop-next in
    walk_looks p.1 p.0 l.invariant.1 l.invariant.0

pub walk-overflow_add-cables : goal.walk-overflow_add-cables
walk-overflow_add-cables t c =
    omega (arith, recs_in_length c.args.cables c.args.code.now, c.requires.0.more, c.requires.0.set_up.small)

pub walk-grow-requires : goal.walk-grow-requires
walk-grow-requires t c =
    let p = c.requires in
    let l = c.loop-next in
    let h = c.next_hopeful in
    let b = c.in-Some.is in
    let size = recs_in_length c.args.cables c.args.code.now in (
      omega (arith, c.decreases, p.0.more, size),
      (
        walk_grows p.1 p.0 l.invariant.1 l.invariant.0 h.ensures b,
        (h.ensures.some _ b).grown.appended.held,
        lists_grow p.0.set_up _ (walk_turned p.1 p.0 l.invariant.1 l.invariant.0 h.ensures b) size p.2 l.invariant.2,
      ),
    )

pub walk-returns-in_err-written : goal.walk-returns-in_err-written
walk-returns-in_err-written t c =
    let p = c.requires in
    let l = c.loop-next in
    let h = c.next_hopeful in
    let b = c.in-Some.is in (
      rw c.from_residual.ensures (walk_fills p.1 p.0 l.invariant.1 l.invariant.0 h.ensures b c.in_err-written.ensures.0),
      code_grown l.invariant.1 (h.ensures.some _ b).grown.appended c.grow.ensures.1,
      lists_after p.0.set_up _ (walk_turned p.1 p.0 l.invariant.1 l.invariant.0 h.ensures b) (recs_in_length _ _) p.2 l.invariant.2
          c.grow.ensures.2,
    )

pub walk-loop-next-preserved : goal.walk-loop-next-preserved
walk-loop-next-preserved t c =
    let p = c.requires in
    let l = c.loop-next in
    let h = c.next_hopeful in
    let b = c.in-Some.is in (
      walk_goes_on p.1 p.0 l.invariant.1 l.invariant.0 h.ensures b (rw c.in_ok-written.was at c.grow.ensures.0),
      code_grown l.invariant.1 (h.ensures.some _ b).grown.appended c.grow.ensures.1,
      lists_after p.0.set_up _ (walk_turned p.1 p.0 l.invariant.1 l.invariant.0 h.ensures b) (recs_in_length _ _) p.2 l.invariant.2
          c.grow.ensures.2,
      c.grow.auto.output ∙ l.invariant.3,
    )

-- none is left
pub walk-returns : goal.walk-returns
walk-returns t c =
    let p = c.requires in
    let l = c.loop-next in
    let w = walk_ends_all p.1 p.0 l.invariant.1 l.invariant.0 c.next_hopeful.ensures c.in_default.is in
    (w.0, w.1, l.invariant.2)
