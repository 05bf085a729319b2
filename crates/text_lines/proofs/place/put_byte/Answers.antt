-- `place::put_byte` meets its contract, case by case. Assumes nothing.
use Rattle.text_lines.specs.WritingLaws.{wrote_past, wrote_full, wrote_byte, wrote_outside}
use Rattle.text_lines.proofs.place.put_byte.Goals as goal
use Rattle.text_lines.proofs.place.put_byte.Goals.{then-at-text, else-at-text}

pub returns-in_err-at : goal.returns-in_err-at
returns-in_err-at c = rw (c.from_residual.ensures, c.in_err-at.was) (wrote_past _ _)

pub returns-then-room-at : goal.returns-then-room-at
returns-then-room-at c = rw c.in_ok-at.was (wrote_full _ _ _ _ c.if-room-at.true)

pub returns : goal.returns
returns c =
    let room = c.if-room-at.false in
    elim c.if-at-text.branch [
      | then-at-text w ↦ rw (w.text-is, c.in_ok-at.was) (wrote_byte _ _ _ _ room)
      | else-at-text w ↦ rw (w.text-is, c.in_ok-at.was) (wrote_outside _ _ _ _ room w.if-at-text.false)
    ]
