-- `labels::fill_labels` meets its contract. The invariant: the tables of the first d drawings are there. Assumes nothing.
use mathlib.Core.Path.{◌≡◌}
use native.Mathlib.Omega.{arith}
use lib.ListN.{length}
use borrow.Author.Rules.{rules}
use Rattle.laws.specs.Rows.{row}
use Rattle.graphs.specs.AcceptedSurvey.{drawing_part, accepted_survey}
use Rattle.walks.specs.LocalPlaces.{labels_low}
use Rattle.walks.specs.PreparedLaws.{labelled_section}
use Rattle.walks.specs.DrawingTableLaws.{tables_next}
use Rattle.surveys.proofs.labels.fill_labels.Goals as goal

pub labels_of_drawing-table-requires : goal.labels_of_drawing-table-requires
labels_of_drawing-table-requires c =
    let l = c.loop-d in
    rw (drawing_part c.args.survey.now l.d) ((accepted_survey c.args.survey.now c.requires.0).drawing l.d (omega arith))

pub put_drawing-requires : goal.put_drawing-requires
put_drawing-requires c =
    let l = c.loop-d in
    let t = c.labels_of_drawing-table in
    let ten : length t.result ≡ 100 = search rules in
    let a = accepted_survey c.args.survey.now c.requires.0 in
    let labels = rw (drawing_part c.args.survey.now l.d) at t.ensures in
    let p = labelled_section (row 73 l.d c.args.survey.now) t.result (a.drawing l.d (omega arith)) labels in
    (omega (arith, a.most), ten, l.invariant.2.size, labels_low _ p labels)

pub loop-d-preserved : goal.loop-d-preserved
loop-d-preserved c =
    let l = c.loop-d in
    let t = c.labels_of_drawing-table in (
      search rules,
      search rules,
      tables_next c.args.survey.now l.d (omega (arith, (accepted_survey c.args.survey.now c.requires.0).most))
          (rw (drawing_part c.args.survey.now l.d) at t.ensures) c.put_drawing.ensures l.invariant.2,
    )
