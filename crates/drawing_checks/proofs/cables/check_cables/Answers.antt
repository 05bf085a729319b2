-- `cables::check_cables` meets its contract. The invariant: what the cables from c on give is what all give, and the marks are those of the
-- pairs that the cables before c join. Assumes nothing.
use Prim.Native.Nat.{◌+◌, ◌≤◌}
use mathlib.Core.Path.{refl, sym, ◌∙◌}
use native.Mathlib.Omega.{arith}
use borrow.Author.Rules.{rules}
use Rattle.records.specs.RefusalLaws.{refused_number, refused_positive, accepted_zero}
use Rattle.records.specs.DrawingLaws.{devices_few}
use Rattle.records.specs.CableLaws.{refusal_start, refusal_none}
use Rattle.drawing_checks.specs.JoinedLaws.{marks_of_start, ends_there, ends_here, pair_told}
use Rattle.drawing_checks.proofs.cables.check_cables.Goals as goal

pub loop-c-init : goal.loop-c-init
loop-c-init c =
    let a = c.args in
    (search rules, marks_of_start a.drawing.now, refusal_start a.n a.m 0 a.drawing.now refl)

pub returns-in_err-check_ends : goal.returns-in_err-check_ends
returns-in_err-check_ends c =
    let a = c.args in
    let l = c.loop-c in
    let r = c.in_err-check_ends.was in
    let e = c.check_ends.ensures in
    let told = refused_number e r
    ∙ sym (l.invariant.2 ∙ ends_here a.n a.m l.c a.drawing.now _ c.at-cable.ensures (omega arith) (refused_positive e r)) in
    search (rules, told)

-- at most ten devices, and ends that are not refused
pub pair_of-pair-requires : goal.pair_of-pair-requires
pair_of-pair-requires c = ends_there _ _ (devices_few _ c.requires) (accepted_zero c.check_ends.ensures c.in_ok-check_ends.was)

-- what the mark tells
pub returns-then-again : goal.returns-then-again
returns-then-again c =
    let few = devices_few _ c.requires in
    let fine = accepted_zero c.check_ends.ensures c.in_ok-check_ends.was in
    let told = pair_told _ _ _ _ _ c.at-cable.ensures (omega arith) few fine c.loop-c.invariant.1 c.pair_of-pair.ensures in
    sym (c.loop-c.invariant.2 ∙ told.again c.if-again.true)

pub loop-c-preserved : goal.loop-c-preserved
loop-c-preserved c =
    let below : c.loop-c.c + 1 ≤ c.args.m = omega arith in
    let few = devices_few _ c.requires in
    let fine = accepted_zero c.check_ends.ensures c.in_ok-check_ends.was in
    let told = pair_told _ _ _ _ _ c.at-cable.ensures (omega arith) few fine c.loop-c.invariant.1 c.pair_of-pair.ensures in
    (below, told.next, c.loop-c.invariant.2 ∙ told.first c.if-again.false)

pub returns : goal.returns
returns c =
    let a = c.args in
    sym (c.loop-c.invariant.2 ∙ refusal_none a.n a.m c.loop-c.c a.drawing.now c.loop-c-test.false)
