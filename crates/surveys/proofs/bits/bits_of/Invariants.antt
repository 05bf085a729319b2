-- `bits::bits_of` meets its contract. The invariant: the first i bits are there. Assumes nothing.
use Prim.Native.Nat.{◌≤◌}
use Rattle.laws.specs.Rows.{row}
use Rattle.walks.specs.LabelBits.{BitsOfRow}
use Rattle.surveys.proofs.bits.bits_of.Given as goal

abbrev pub invariant-loop-i : goal.invariant-loop-i
invariant-loop-i l = (l.i ≤ 100) × BitsOfRow (row 100 l.d l.labels) l.rank l.i l.bits
