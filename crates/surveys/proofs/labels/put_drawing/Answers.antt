-- `labels::put_drawing` meets its contract: three tables, each in its place. Assumes nothing.
use Rattle.walks.specs.DrawingTableLaws.{drawing_put}
use Rattle.surveys.proofs.labels.put_drawing.Goals as goal

pub returns : goal.returns
returns c =
    rw (c.put_table-3.ensures, c.put_table-2.ensures, c.put_table.ensures)
    (drawing_put c.args.d c.args.table.now _ _ c.args.labels.now c.requires.0 c.requires.2 c.requires.1
    c.slots_of-slots.ensures c.ends_of-ends.ensures)
