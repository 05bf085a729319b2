-- `kinds::kinds_of` meets its contract. The invariant: the kinds of the first d drawings are marked. Assumes nothing.
use native.Mathlib.Omega.{arith}
use borrow.Author.Rules.{rules}
use Rattle.graphs.specs.AcceptedSurvey.{drawing_part, accepted_survey}
use Rattle.walks.specs.KindLaws.{occurs_next}
use Rattle.label_ranks.proofs.kinds.kinds_of.Goals as goal

pub note_kinds-requires : goal.note_kinds-requires
note_kinds-requires c =
    let l = c.loop-d in
    (rw (drawing_part c.args.survey.now l.d) ((accepted_survey c.args.survey.now c.requires).drawing l.d (omega arith)), l.invariant.2.size)

pub loop-d-preserved : goal.loop-d-preserved
loop-d-preserved c =
    let l = c.loop-d in (
      l.invariant.0,
      search rules,
      occurs_next c.args.survey.now l.d l.occurs _ l.invariant.2
          (rw (drawing_part c.args.survey.now l.d) at c.note_kinds.ensures),
    )
