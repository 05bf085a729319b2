-- `code::lone_code` meets its contract: a code without records takes one. Assumes nothing.
use mathlib.Core.Path.{refl}
use Rattle.codes.specs.SectionCode.{lone_record}
use Rattle.coding.specs.CodeDrawingLaws.{only_held}
use Rattle.coding.proofs.code.lone_code.Goals as goal

pub returns : goal.returns
unfolding lone_record
returns c =
    let n = c.new in
    only_held n.result c.with_record.result _ c.args.kind n.ensures.records_none c.with_record.ensures refl
