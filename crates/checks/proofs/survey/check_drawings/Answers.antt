-- `survey::check_drawings` meets its contract. The invariant: what the drawings that are left give is what all give. Assumes nothing.
use Rattle.std.proofs.Common.{rules, ℕ, sym, ◌∙◌, ap}
use Rattle.std.specs.Iterator.Adapters.{enumerate_count}
use Rattle.graphs.specs.Drawing.{drawing_refusal}
use Rattle.graphs.specs.Survey.{refusal}
use Rattle.records.specs.RefusalLaws.{refused_number, refused_positive, accepted_zero}
use Rattle.checks.specs.SurveyLaws.{drawings_start, drawing_refused, drawing_passed, drawings_end, answer_refused, answer_accepted}
use Rattle.checks.proofs.Pieces.{piece_below, piece_row, piece_left, none_left}
use Rattle.checks.proofs.survey.check_drawings.Goals as goal

pub loop-drawing-init : goal.loop-drawing-init
loop-drawing-init c =
    let bs = c.args.survey.now in
    let is = c.into_iter-drawing-iterator.ensures.into_iter_gives in
    rw (is, c.enumerate-drawing-items.ensures.source, c.enumerate-drawing-items.ensures.count)
    (search rules, search rules, c.chunks_exact.ensures.size, c.chunks_exact.ensures.rest, drawings_start bs)

pub returns-in-Err : goal.returns-in-Err
returns-in-Err c =
    let bs = c.args.survey.now in
    let d = enumerate_count c.loop-drawing.drawing-iterator in
    let i = c.loop-drawing.invariant in
    let s = c.in-Some.ensures.steps in
    let cut = sym i.3 ∙ s.0.1.0 in
    let whole = s.0.1.1 ∙ i.2 in
    let r = c.in-Err.is in
    let e = c.check_drawing.ensures ∙ ap drawing_refusal (piece_row bs _ _ d cut whole) in
    let told = drawing_refused bs d (piece_below bs _ _ d cut whole) (refused_positive e r) in
    rw s.1 (answer_refused _ bs _ d (ap (λ (n : ℕ). refusal n d) (refused_number e r) ∙ sym (i.4 ∙ told)))

pub loop-drawing-preserved : goal.loop-drawing-preserved
loop-drawing-preserved c =
    let bs = c.args.survey.now in
    let d = enumerate_count c.loop-drawing.drawing-iterator in
    let i = c.loop-drawing.invariant in
    let s = c.in-Some.ensures.steps in
    let cut = sym i.3 ∙ s.0.1.0 in
    let whole = s.0.1.1 ∙ i.2 in
    let e = c.check_drawing.ensures ∙ ap drawing_refusal (piece_row bs _ _ d cut whole) in
    let passed = drawing_passed bs d (piece_below bs _ _ d cut whole) (accepted_zero e c.in_default.is) in
    (search rules, search rules, s.0.0 ∙ i.2, rw s.2 (piece_left bs _ _ d cut whole), rw s.2 (i.4 ∙ passed))

pub returns : goal.returns
returns c =
    let bs = c.args.survey.now in
    let d = enumerate_count c.loop-drawing.drawing-iterator in
    let i = c.loop-drawing.invariant in
    let short = rw i.2 at c.in-None.ensures.steps.0.1.0 in
    answer_accepted _ bs _ c.counted.ensures (sym (i.4 ∙ drawings_end bs d (none_left bs _ d i.3 short)))
