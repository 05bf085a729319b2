-- `extension::record_at_place` meets its contract: what each branch makes is the record at the place. Assumes nothing.
use native.Mathlib.Omega.{arith}
use Rattle.extending.specs.NextRecordLaws.{row_most, rank_below, label_some, label_most, off_first, off_backward, off_forward, off_most}
use Rattle.extending.proofs.extension.record_at_place.Goals as goal

pub offset_bounds-alphabet-place : goal.offset_bounds-alphabet-place
offset_bounds-alphabet-place c = omega (arith, rank_below c.requires.can_read)

pub bounds-alphabet-place : goal.bounds-alphabet-place
bounds-alphabet-place c = rank_below c.requires.can_read

pub labelled-requires : goal.labelled-requires
labelled-requires c = let p = c.requires.can_read in (omega arith, omega arith, label_some p, label_most p)

pub returns-then-devices-eq0 : goal.returns-then-devices-eq0
returns-then-devices-eq0 c = off_first c.requires.wide _ c.if-devices-eq0.true c.labelled.ensures

pub bounds-kinds-newest : goal.bounds-kinds-newest
bounds-kinds-newest c = omega (arith, off_most c.requires)

pub labelled-requires-then-row-lt-BACKWARD_ROWS : goal.labelled-requires-then-row-lt-BACKWARD_ROWS
labelled-requires-then-row-lt-BACKWARD_ROWS c =
    let p = c.requires.can_read in
    (omega (arith, off_most c.requires), omega (arith, row_most p), label_some p, label_most p)

pub returns-then-row-lt-BACKWARD_ROWS : goal.returns-then-row-lt-BACKWARD_ROWS
returns-then-row-lt-BACKWARD_ROWS c =
    off_backward c.requires.wide _ c.if-devices-eq0.false c.if-row-lt-BACKWARD_ROWS.true c.labelled-then-row-lt-BACKWARD_ROWS.ensures

pub overflow_sub-from : goal.overflow_sub-from
overflow_sub-from c = row_most c.requires.can_read

pub labelled-requires-2 : goal.labelled-requires-2
labelled-requires-2 c =
    let p = c.requires.can_read in
    (omega arith, omega (arith, off_most c.requires), label_some p, label_most p)

pub returns : goal.returns
returns c =
    off_forward c.requires.wide _ c.if-devices-eq0.false (omega (arith, c.if-row-lt-BACKWARD_ROWS.false)) c.labelled-2.ensures
