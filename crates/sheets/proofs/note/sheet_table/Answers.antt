-- `note::sheet_table` meets its contract. The invariant: the later sheets of the first d drawings are there, and which of these have any.
-- Assumes nothing.
use mathlib.Core.Path.{◌≡◌}
use mathlib.Core.List.{List}
use Prim.Native.Nat.{ℕ, ◌≤◌, ◌<◌}
use native.Mathlib.Nat.{not-suc-le-zero}
use native.Mathlib.Omega.{arith}
use lib.ListN.{length}
use borrow.Author.Rules.{rules}
use Rattle.graphs.specs.Survey.{bytes_refusal, cranes, drawing_count}
use Rattle.graphs.specs.AcceptedSurvey.{accepted_survey}
use Rattle.growth.specs.Sheets.{LaterBefore}
use Rattle.growth.specs.SheetNotes.{sheets_none, sheets_next, told_with, told_skip, sheets_end}
use Rattle.walks.specs.SheetTableLaws.{cranes_counted}
use Rattle.sheets.proofs.note.sheet_table.Goals as goal
use Rattle.sheets.proofs.note.sheet_table.Goals.{then-later-ne0, else-later-ne0}

-- a survey has at most 32 drawings
low : (survey : List ℕ) (n d : ℕ) → (bytes_refusal survey).number ≡ 0 → n ≡ drawing_count survey → d < n → d < 32
low survey n d accepted is below = omega (arith, (accepted_survey survey accepted).most)

pub loop-d-init : goal.loop-d-init
loop-d-init c =
    (c.counted-d-end.ensures, search rules, sheets_none (cranes c.args.survey.now), λ d h unset. absurd (not-suc-le-zero h))

pub offset_bounds-sheets-d : goal.offset_bounds-sheets-d
offset_bounds-sheets-d c = omega (arith, low c.args.survey.now _ c.loop-d.d c.requires c.loop-d.invariant.0 c.loop-d-test.true)

pub bounds-sheets-d : goal.bounds-sheets-d
bounds-sheets-d c = omega (arith, low c.args.survey.now _ c.loop-d.d c.requires c.loop-d.invariant.0 c.loop-d-test.true)

pub overflow_cast-repeated : goal.overflow_cast-repeated
overflow_cast-repeated c = omega (arith, low c.args.survey.now _ c.loop-d.d c.requires c.loop-d.invariant.0 c.loop-d-test.true)

pub overflow_shl-repeated : goal.overflow_shl-repeated
overflow_shl-repeated c = low c.args.survey.now _ c.loop-d.d c.requires c.loop-d.invariant.0 c.loop-d-test.true

-- the later sheets are those among all drawings
pub loop-d-preserved : goal.loop-d-preserved
loop-d-preserved c =
    let l = c.loop-d in
    let later = c.later_sheets-later.result in
    let below = low c.args.survey.now _ l.d c.requires l.invariant.0 c.loop-d-test.true in
    let of_all : LaterBefore (length (cranes c.args.survey.now)) (cranes c.args.survey.now) l.d later
    = rw (cranes_counted c.args.survey.now) c.later_sheets-later.ensures in (
      search rules,
      search rules,
      sheets_next later l.invariant.2 below of_all,
      elim c.if-later-ne0.branch [
        | then-later-ne0 w ↦ rw w.repeated-is (told_with later l.invariant.2 below l.repeated l.invariant.3)
        | else-later-ne0 w ↦ rw w.repeated-is (told_skip later l.invariant.2 below l.repeated w.if-later-ne0.false l.invariant.3)
      ],
    )

pub returns : goal.returns
returns c =
    let l = c.loop-d in
    let cr = cranes c.args.survey.now in
    let e : l.d ≡ length cr = omega (arith, l.invariant.0, l.invariant.1, cranes_counted c.args.survey.now) in
    let most : length cr ≤ 32 = omega (arith, cranes_counted c.args.survey.now, (accepted_survey c.args.survey.now c.requires).most) in
    sheets_end l.repeated (rw e at l.invariant.2) most (rw e at l.invariant.3)
