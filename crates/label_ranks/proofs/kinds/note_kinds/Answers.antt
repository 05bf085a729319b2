-- `kinds::note_kinds` meets its contract. The invariant: the kinds of the places so far are marked. Assumes nothing.
use Rattle.std.proofs.Common.{ℕ, ◌+◌, ◌<◌, ◌≤◌, ◌≡◌, length, drop, get_or, ◌∙◌, arith}
use Rattle.std.proofs.lemmas.List.{get_or-take, get_or-drop, length-take}
use Rattle.graphs.specs.Patterns.{accepted_parts}
use Rattle.walks.specs.KindLaws.{noted_next}
use Rattle.label_ranks.proofs.kinds.note_kinds.Goals as goal

pub slice_bounds-kind-items-end : goal.slice_bounds-kind-items-end
slice_bounds-kind-items-end c =
    let size : 12 ≤ length c.args.drawing.now = omega (arith, (accepted_parts c.args.drawing.now c.requires.0).size) in
    omega arith

pub loop-kind-preserved : goal.loop-kind-preserved
loop-kind-preserved c =
    let l = c.loop-kind in
    let drawing = c.args.drawing.now in
    let low : l.kind-index < 10 = omega (arith, c.loop-kind-test.true, length-take 10 (drop 2 drawing)) in
    let e : c.from.result ≡ get_or drawing (2 + l.kind-index) 0
    = c.from.ensures ∙ get_or-take 10 (drop 2 drawing) l.kind-index 0 low ∙ get_or-drop 2 drawing l.kind-index 0 in
    (omega arith, rw e (noted_next drawing l.kind-index c.args.occurs.now l.occurs l.invariant.1 (omega (arith, c.type_inv.drawing (2 + l.kind-index)))))
