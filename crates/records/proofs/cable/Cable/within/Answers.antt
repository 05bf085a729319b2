-- `cable::Cable::within` meets its contract: each field is the byte read. Assumes nothing.
use Rattle.records.specs.CableLaws.{cable_read}
use Rattle.records.proofs.cable.Cable.within.Goals as goal

pub returns : goal.returns
returns c =
    rw (c.from.ensures, c.from-2.ensures, c.from-3.ensures) (cable_read _ _)
