-- `record::Record::order` meets its contract: one comparison after another, by the directions. Assumes nothing.
use Rattle.code_records.specs.Records.{as_rec}
use Rattle.code_records.specs.RecordLaws.{order_forward, order_backward}
use Rattle.code_records.proofs.record.Record.order.Goals as goal

pub returns-then-other : goal.returns-then-other
returns-then-other c =
    rw (c.then.ensures, c.cmp-then-other.ensures, c.then-forward.ensures, c.cmp.ensures, c.order_of_labels-labels.ensures)
    (order_forward (as_rec c.args.self) (as_rec c.args.other) c.if-self.true c.if-other.true)

pub returns : goal.returns
returns c =
    rw (c.then-2.ensures, c.cmp-3.ensures, c.then-backward.ensures, c.cmp-2.ensures, c.order_of_labels-labels.ensures)
    (order_backward (as_rec c.args.self) (as_rec c.args.other) c.if-self.false c.if-other-2.false)
