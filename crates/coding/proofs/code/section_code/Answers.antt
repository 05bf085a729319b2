-- `code::section_code` meets its contract: a drawing without cables is a lone device, another one is a pattern. Assumes nothing.
use mathlib.Core.Path.{sym, ◌∙◌}
use native.Mathlib.Omega.{arith}
use Rattle.tables.specs.TableOfDrawing.{ByteRecord, record_size}
use Rattle.coding.specs.CodeDrawingLaws.{lone_drawn_least, cabled_drawn_least}
use Rattle.coding.proofs.code.section_code.Goals as goal

pub bounds-drawing-2 : goal.bounds-drawing-2
bounds-drawing-2 c =
    let k : ByteRecord c.args.drawing.now = record { bytes = λ i. omega (arith, c.type_inv.drawing i); accepted = c.requires.0 } in
    omega (arith, record_size k)

pub returns-then-m-eq0 : goal.returns-then-m-eq0
returns-then-m-eq0 c =
    let k : ByteRecord c.args.drawing.now = record { bytes = λ i. omega (arith, c.type_inv.drawing i); accepted = c.requires.0 } in
    lone_drawn_least _ k _ (sym c.requires.1 ∙ c.if-m-eq0.true) c.lone_code.ensures

pub returns : goal.returns
returns c =
    let k : ByteRecord c.args.drawing.now = record { bytes = λ i. omega (arith, c.type_inv.drawing i); accepted = c.requires.0 } in
    cabled_drawn_least _ k _ (λ e. c.if-m-eq0.false (c.requires.1 ∙ e)) c.least_code.ensures
