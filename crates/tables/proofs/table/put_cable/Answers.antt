-- `table::put_cable` meets its contract: two stores. Assumes nothing.
use Rattle.tables.specs.Tables.{put_cable}
use Rattle.tables.proofs.table.put_cable.Goals as goal

pub returns : goal.returns
unfolding put_cable
returns c = rw (c.label_of.ensures.0, c.label_of-2.ensures.0)
