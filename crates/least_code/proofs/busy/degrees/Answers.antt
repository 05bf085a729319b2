-- `busy::degrees` meets its contract. The invariant: no count is above twice the number of cables counted. Assumes nothing.
use mathlib.Core.Path.{refl}
use Prim.Native.Nat.{◌<◌}
use native.Mathlib.Omega.{arith}
use lib.ListN.{get_or}
use borrow.Author.Rules.{rules}
use Rattle.graphs.specs.Patterns.{accepted_parts}
use Rattle.tables.specs.TableOfDrawing.{cable_low}
use Rattle.least_code.specs.Degrees.{none_counted, end_counted, cable_counted}
use Rattle.least_code.proofs.busy.degrees.Goals as goal
use Rattle.least_code.proofs.busy.degrees.Goals.{After-at-cable}

pub loop-c-init : goal.loop-c-init
loop-c-init c = (search rules, refl, none_counted _ 10)

-- the ends of the cable read in a turn
low : (c : After-at-cable) → (c.at-cable.result.a < 10) × (c.at-cable.result.b < 10) × (c.at-cable.result.kind < 256)
low c =
    let inside : c.loop-c.c < get_or c.args.drawing.now 1 0 = omega (arith, c.requires.1, c.loop-c-test.true) in
    cable_low (record { bytes = λ i. omega (arith, c.type_inv.drawing i); accepted = c.requires.0 }) _ inside c.at-cable.ensures

-- what is counted before it, and with one of its ends
few : (c : After-at-cable) → c.loop-c.c < 20
few c =
    omega (arith, c.requires.1, c.loop-c-test.true, (accepted_parts _ c.requires.0).cables_high)

pub bounds-counts-a : goal.bounds-counts-a
bounds-counts-a c = (low c).0

pub overflow_add-counts : goal.overflow_add-counts
overflow_add-counts c = omega (arith, few c, c.loop-c.invariant.2 c.at-cable.result.a)

pub bounds-counts-a-in-loop-c : goal.bounds-counts-a-in-loop-c
bounds-counts-a-in-loop-c c = (low c).0

pub bounds-counts-b : goal.bounds-counts-b
bounds-counts-b c = (low c).1

pub overflow_add-counts-in-loop-c : goal.overflow_add-counts-in-loop-c
overflow_add-counts-in-loop-c c =
    let l = c.loop-c in
    omega (arith, few c, end_counted l.c l.counts c.at-cable.result.a c.at-cable.result.b l.invariant.2 c.at-cable.result.b)

pub bounds-counts-b-in-loop-c : goal.bounds-counts-b-in-loop-c
bounds-counts-b-in-loop-c c = (low c).1

pub loop-c-preserved : goal.loop-c-preserved
loop-c-preserved c =
    let l = c.loop-c in
    (search rules, search rules, cable_counted l.c l.counts c.at-cable.result.a c.at-cable.result.b l.invariant.2)

pub returns : goal.returns
returns c =
    λ i. omega (arith, c.loop-c.invariant.0, c.loop-c.invariant.2 i, c.requires.1, (accepted_parts _ c.requires.0).cables_high)
