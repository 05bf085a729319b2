-- `ahead::lengthen` meets its contract. Assumes nothing.
use Rattle.looking.specs.LookingLaws.{may_read_off, may_look, may_append, looked_hopeless, looked_grown}
use Rattle.looking.proofs.ahead.lengthen.Goals as goal

pub record_at_place-next-requires : goal.record_at_place-next-requires
record_at_place-next-requires c = may_read_off c.requires

pub hopeless-requires : goal.hopeless-requires
hopeless-requires c = may_look c.requires c.record_at_place-next.ensures

pub returns-then-hopeless : goal.returns-then-hopeless
returns-then-hopeless c =
    looked_hopeless c.requires c.record_at_place-next.ensures c.if-hopeless.true c.hopeless.ensures

pub append-requires : goal.append-requires
append-requires c =
    may_append c.requires c.record_at_place-next.ensures

pub returns : goal.returns
returns c =
    looked_grown c.requires c.record_at_place-next.ensures c.if-hopeless.false c.hopeless.ensures c.append.ensures
