-- `line::put_field` meets its contract: the mark, then the number. Assumes nothing.
use Rattle.text_lines.specs.WritingLaws.{wrote_then, wrote_cut}
use Rattle.text_lines.proofs.line.put_field.Goals as goal

pub returns-in_err-next : goal.returns-in_err-next
returns-in_err-next c = wrote_cut _ c.from_residual.ensures c.in_err-next.ensures

pub returns : goal.returns
returns c = rw c.from.ensures at (wrote_then c.in_ok-next.ensures c.put_number.ensures)
