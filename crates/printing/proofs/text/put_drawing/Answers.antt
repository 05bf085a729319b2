-- `text::put_drawing` meets its contract, case by case. Assumes nothing.
use Rattle.std.proofs.Common.{◌≡◌, ◌<◌, ◌≤◌, ℕ, [], ◌⊎◌, inl, inr, arith}
use Rattle.text_lines.specs.Texts.{drawing_text}
use Rattle.text_lines.specs.TextLaws.{drawing_none_below, drawing_none_above, drawing_told}
use Rattle.text_lines.specs.WritingLaws.{wrote_none, wrote_then, wrote_cut, wrote_as}
use Rattle.printing.proofs.text.put_drawing.Goals as goal

outside : (n d : ℕ) → (n < 2) ⊎ ((2 ≤ n) × (8 < n)) → [] ≡ drawing_text n d
outside n d (inl h) = drawing_none_below n d h
outside n d (inr h) = drawing_none_above n d h.1

pub returns-then-number-lt2 : goal.returns-then-number-lt2
returns-then-number-lt2 c = wrote_as (outside c.args.number c.args.drawing c.then-number-lt2.either) (wrote_none _ _)

pub returns-in_err-next : goal.returns-in_err-next
returns-in_err-next c =
    let a = c.args in
    wrote_as (drawing_told a.number a.drawing (omega arith) (omega arith)) (wrote_cut _ c.from_residual.ensures c.in_err-next.ensures)

pub returns : goal.returns
returns c =
    let a = c.args in
    wrote_as (drawing_told a.number a.drawing (omega arith) (omega arith)) (wrote_then c.in_ok-next.ensures c.put_number.ensures)
