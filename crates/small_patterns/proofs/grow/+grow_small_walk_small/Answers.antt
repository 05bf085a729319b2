-- `grow::grow_small` and `grow::walk_small` meet their contracts. Assumes nothing.
use native.Mathlib.Omega.{arith}
use Rattle.small_patterns.specs.SmallGrowth.{
  small_full,
  small_leaf,
  small_went,
  walk_wide,
  small_starts,
  small_passed,
  small_grows,
  small_fills,
  small_next,
}
use Rattle.small_patterns.proofs.grow.+grow_small_walk_small.Goals as goal
use Rattle.small_patterns.proofs.grow.+grow_small_walk_small.Goals.{walk_small-then-try_record+in_ok-written, walk_small-else-try_record}

-- the code's own entry found no room, or stands there
pub grow_small-returns-then-not-write_next : goal.grow_small-returns-then-not-write_next
grow_small-returns-then-not-write_next t c = small_full c.requires c.if-not-write_next.ensures

pub grow_small-returns-then-cables-bounds : goal.grow_small-returns-then-cables-bounds
grow_small-returns-then-cables-bounds t c =
    small_leaf c.requires (rw c.new-head.ensures at c.if-not-write_next.ensures) c.if-cables-bounds.true

pub grow_small-returns : goal.grow_small-returns
grow_small-returns t c =
    small_went c.requires (rw c.new-head.ensures at c.if-not-write_next.ensures) c.if-cables-bounds.false c.walk_small.ensures

pub walk_small-next_count-most-requires : goal.walk_small-next_count-most-requires
walk_small-next_count-most-requires t c = walk_wide c.requires

pub walk_small-loop-t-init : goal.walk_small-loop-t-init
walk_small-loop-t-init t c = (c.next_count-most.ensures, small_starts c.requires)

pub walk_small-nth_record-next-requires : goal.walk_small-nth_record-next-requires
walk_small-nth_record-next-requires t c =
    let w = walk_wide c.requires in
    (w.0, w.1, omega (arith, c.loop-t-test.true, c.loop-t.invariant.0))

pub walk_small-widened-wider-requires : goal.walk_small-widened-wider-requires
walk_small-widened-wider-requires t c = (walk_wide c.requires).1

pub walk_small-grow_small-requires : goal.walk_small-grow_small-requires
walk_small-grow_small-requires t c = (
  omega (arith, c.decreases, c.requires.less),
  small_grows c.requires c.loop-t.invariant.1 (omega (arith, c.loop-t-test.true, c.loop-t.invariant.0)) c.nth_record-next.ensures
      c.try_record.ensures c.if-try_record.true c.widened-wider.ensures,
)

pub walk_small-returns-in_err-written : goal.walk_small-returns-in_err-written
walk_small-returns-in_err-written t c =
    rw c.from_residual.ensures
    (small_fills c.requires c.loop-t.invariant.1 (omega (arith, c.loop-t-test.true, c.loop-t.invariant.0)) c.nth_record-next.ensures
    c.try_record.ensures c.if-try_record.true c.in_err-written.ensures)

pub walk_small-loop-t-preserved : goal.walk_small-loop-t-preserved
walk_small-loop-t-preserved t c =
    elim c.if-try_record.branch [
      | walk_small-then-try_record+in_ok-written w ↦ rw (w.code-is, w.output-is, w.written-is) (
        c.loop-t.invariant.0,
        small_next c.requires c.loop-t.invariant.1 (omega (arith, c.loop-t-test.true, c.loop-t.invariant.0)) c.nth_record-next.ensures
            c.try_record.ensures w.if-try_record.true w.in_ok-written.ensures,
      )
      | walk_small-else-try_record w ↦ rw (w.code-is, w.output-is, w.written-is) (
        c.loop-t.invariant.0,
        small_passed c.requires c.loop-t.invariant.1 (omega (arith, c.loop-t-test.true, c.loop-t.invariant.0)) c.nth_record-next.ensures
            c.try_record.ensures w.if-try_record.false,
      )
    ]
