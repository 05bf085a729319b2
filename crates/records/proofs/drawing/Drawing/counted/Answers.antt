-- `drawing::Drawing::counted` meets its contract: each count is the byte read. Assumes nothing.
use Rattle.records.proofs.drawing.Drawing.counted.Goals as goal

pub returns : goal.returns
returns c = rw (c.byte_or_zero.ensures, c.byte_or_zero-2.ensures)
