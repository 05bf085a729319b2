-- `text::put_refusal` meets its contract: the word, the number, the drawing at fault and the line's end. Assumes nothing.
use Rattle.std.proofs.Common.{refl}
use Rattle.records.specs.Refusals.{number_of}
use Rattle.text_lines.specs.Texts.{line_end, decimal, drawing_text, refusal_text}
use Rattle.text_lines.specs.WritingLaws.{wrote_then, wrote_cut}
use Rattle.printing.proofs.text.put_refusal.Goals as goal

pub returns-in_err-next : goal.returns-in_err-next
unfolding refusal_text
returns-in_err-next c =
    let n = number_of c.args.fault.refusal in
    let word = wrote_cut (drawing_text n c.args.fault.drawing) refl (wrote_cut (decimal n) refl c.in_err-next.ensures) in
    wrote_cut line_end c.from_residual.ensures word

pub returns-in_err-next-2 : goal.returns-in_err-next-2
unfolding refusal_text
returns-in_err-next-2 c =
    let none = c.from_residual-in_err-next-2.ensures in
    rw (← c.number-number.ensures) (wrote_cut _ none (wrote_cut _ refl (wrote_then c.in_ok-next.ensures c.in_err-next-2.ensures)))

pub returns-in_err-next-3 : goal.returns-in_err-next-3
unfolding refusal_text
returns-in_err-next-3 c =
    let none = c.from_residual-in_err-next-3.ensures in
    let words = wrote_then c.in_ok-next.ensures c.in_ok-next-2.ensures in
    rw (← c.number-number.ensures) (wrote_cut _ none (wrote_then words c.in_err-next-3.ensures))

pub returns : goal.returns
unfolding refusal_text
returns c =
    let words = wrote_then c.in_ok-next.ensures c.in_ok-next-2.ensures in
    rw (← c.number-number.ensures) (wrote_then (wrote_then words c.in_ok-next-3.ensures) c.put_byte.ensures)
