-- `count::by_cranes` meets its contract. The invariant: what is repeated below d is taken off, and of the drawings of the set that have a
-- later sheet those from d on are left. Assumes nothing.
use mathlib.Core.Path.{◌≡◌}
use Prim.Native.Nat.{◌*◌, ◌-◌, ◌/◌, ◌^◌, ◌≤◌}
use lib.Bits.{bit_and}
use Rattle.growth.specs.Sheets.{repeated_in, repeated_before}
use Rattle.walks.specs.SheetTables.{sheets_of}
use Rattle.sheets.proofs.count.by_cranes.Given as goal

abbrev pub invariant-loop-left : goal.invariant-loop-left
invariant-loop-left l =
    (l.d ≤ 32) × (l.left ≡ bit_and l.set (repeated_in (sheets_of l.labels)) / 2 ^ l.d)
    × (l.counted ≡ l.cell - (2 ^ 32) * repeated_before (sheets_of l.labels) l.set l.d)

abbrev pub decreases-loop-left : goal.decreases-loop-left
decreases-loop-left l = l.left
