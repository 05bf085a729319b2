-- `note::later_sheets` meets its contract. The invariant: the later sheets among the first e drawings are there. Assumes nothing.
use native.Mathlib.Omega.{arith}
use borrow.Author.Rules.{rules}
use Prim.Native.Nat.{◌<◌}
use Rattle.graphs.specs.AcceptedSurvey.{accepted_survey}
use Rattle.growth.specs.SheetNotes.{later_none, later_with, later_skip}
use Rattle.walks.specs.SheetTableLaws.{cranes_counted}
use Rattle.sheets.proofs.note.later_sheets.Goals as goal
use Rattle.sheets.proofs.note.later_sheets.Goals.{then-crane_of-crane, else-crane_of-crane}

pub loop-e-init : goal.loop-e-init
loop-e-init c = (c.counted-drawings.ensures, search rules, later_none)

pub overflow_cast-later : goal.overflow_cast-later
overflow_cast-later c = omega (arith, (accepted_survey c.args.survey.now c.requires.0).most)

pub overflow_shl-later : goal.overflow_shl-later
overflow_shl-later c = omega (arith, (accepted_survey c.args.survey.now c.requires.0).most)

pub loop-e-preserved : goal.loop-e-preserved
loop-e-preserved c =
    let l = c.loop-e in
    let same = c.crane_of.ensures in
    let crane = c.crane_of-crane.ensures in
    let low : l.e < 32 = omega (arith, (accepted_survey c.args.survey.now c.requires.0).most) in (
      search rules,
      search rules,
      elim c.if-crane_of-crane.branch [
        | then-crane_of-crane w ↦
            rw w.later-is
            (later_with l.invariant.2 low
            (record {
              later = l.invariant.1;
              below = omega (arith, cranes_counted c.args.survey.now, l.invariant.0);
              same = omega (arith, same, w.if-crane_of-crane.true, crane);
            }))
        | else-crane_of-crane w ↦
            rw w.later-is (later_skip l.invariant.2 (λ e. omega (arith, same, w.if-crane_of-crane.false, crane, e)))
      ],
    )
