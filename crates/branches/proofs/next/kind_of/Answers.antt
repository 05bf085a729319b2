-- `next::kind_of` meets its contract: the byte of a device of an accepted drawing is there. Assumes nothing.
use native.Mathlib.Omega.{arith}
use Rattle.graphs.specs.Patterns.{kind_place, kind_byte}
use Rattle.branches.proofs.next.kind_of.Goals as goal

pub overflow_add-result : goal.overflow_add-result
overflow_add-result c = omega (arith, kind_place c.args.drawing.now c.requires.0 c.args.v c.requires.1)

pub bounds-drawing-v : goal.bounds-drawing-v
bounds-drawing-v c =
    kind_place c.args.drawing.now c.requires.0 c.args.v c.requires.1

pub returns : goal.returns
returns c =
    kind_byte c.args.drawing.now c.requires.0 c.args.v c.requires.1
