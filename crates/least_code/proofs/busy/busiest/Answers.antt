-- `busy::busiest` meets its contract. Assumes nothing.
use Prim.Native.Nat.{◌<◌}
use native.Mathlib.Omega.{arith}
use lib.ListN.{get_or}
use borrow.Author.Rules.{rules}
use Rattle.tables.specs.TableOfDrawing.{cable_low}
use Rattle.least_code.proofs.busy.busiest.Goals as goal
use Rattle.least_code.proofs.busy.busiest.Goals.{After-at-cable, then-most-both, else-most-both}

pub loop-c-init : goal.loop-c-init
loop-c-init c =
    (search rules, c.requires.2)

-- the ends of the cable read in a turn
low : (c : After-at-cable) → (c.at-cable.result.a < 10) × (c.at-cable.result.b < 10) × (c.at-cable.result.kind < 256)
low c =
    let inside : c.loop-c.c < get_or c.args.drawing.now 1 0 = omega (arith, c.requires.1, c.loop-c-test.true) in
    cable_low (record { bytes = λ i. omega (arith, c.type_inv.drawing i); accepted = c.requires.0 }) _ inside c.at-cable.ensures

pub bounds-counts-a : goal.bounds-counts-a
bounds-counts-a c = (low c).0

pub bounds-counts-b : goal.bounds-counts-b
bounds-counts-b c = (low (goal.at.bounds-counts-b c).After-at-cable).1

pub overflow_add-both : goal.overflow_add-both
overflow_add-both c =
    let d = c.degrees-counts.ensures in
    omega (arith, d c.at-cable.result.a, d c.at-cable.result.b)

pub loop-c-preserved : goal.loop-c-preserved
loop-c-preserved c =
    (search rules, elim c.if-most-both.branch [ then-most-both w ↦ omega (arith, w.busy-is, c.loop-c-test.true) | else-most-both w ↦ omega (arith, w.busy-is) ])
