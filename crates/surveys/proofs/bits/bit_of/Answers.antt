-- `bits::bit_of` meets its contract. Assumes nothing.
use native.Mathlib.Omega.{arith}
use Rattle.walks.specs.LabelBitLaws.{no_label_bit, shifted_label_bit}
use Rattle.surveys.proofs.bits.bit_of.Goals as goal

pub returns-then-l-eq0 : goal.returns-then-l-eq0
returns-then-l-eq0 c = no_label_bit c.args.rank.now c.args.l c.if-l-eq0.true

pub returns : goal.returns
returns c =
    shifted_label_bit c.args.rank.now c.args.l (omega arith) (c.requires.1 (omega arith))
