-- `cable::Cable::at` meets its contract: all bytes are there, or each field is the byte read, and past the end there is none. Assumes nothing.
use Rattle.records.specs.CableLaws.{cable_read, cable_past}
use Rattle.records.proofs.cable.Cable.at.Goals as goal

pub returns-then-drawing-c : goal.returns-then-drawing-c
returns-then-drawing-c c = cable_past _ _ c.if-drawing-c.true

pub returns : goal.returns
returns c =
    rw (c.byte_or_zero.ensures, c.byte_or_zero-2.ensures, c.byte_or_zero-3.ensures) (cable_read _ _)
