-- `next::next_record` meets its contract, case by case of what was found. Assumes nothing.
use Rattle.std.proofs.Common.{sym, ap, ◌∙◌, Some}
use Rattle.graphs.specs.Drawing.{kind, drawing_in}
use Rattle.branches.specs.declared.extension.Extension.{Extension}
use Rattle.branches.specs.Branches.{in_place}
use Rattle.branches.specs.Ways.{chord_with, edge_with}
use Rattle.branches.specs.NextRecords.{found_record}
use Rattle.branches.proofs.next.next_record.Goals as goal

pub returns-in-Chord : goal.returns-in-Chord
returns-in-Chord c used low =
    let a = c.args in
    let d = drawing_in a.drawing.now in
    let b = in_place a.numbers.now used a.path.now a.count a.given low in
    c.chord_record.ensures a.numbers.now used a.given low
    ∙ ap (chord_with b c.in-Chord.q c.in-Chord.l)
    (c.kind_of.ensures ∙ ap (kind d) c.device_at.ensures.0)
    ∙ ap (found_record d b) (sym (c.in-Some.is ∙ ap (λ (e : Extension). Some e) c.in-Chord.is))

pub returns-in-Edge : goal.returns-in-Edge
returns-in-Edge c used low =
    let a = c.args in
    let d = drawing_in a.drawing.now in
    let b = in_place a.numbers.now used a.path.now a.count a.given low in
    c.edge_record.ensures a.numbers.now used a.count low
    ∙ ap (edge_with b c.in-Edge.q c.in-Edge.l)
    (c.kind_of-in-Edge.ensures ∙ ap (kind d) c.device_at-in-Edge.ensures.0)
    ∙ ap (found_record d b) (sym (c.in-Some.is ∙ ap (λ (e : Extension). Some e) c.in-Edge.is))
