-- `bits::bits_of` meets its contract. The invariant: the first i bits are there. Assumes nothing.
use mathlib.Core.Path.{sym, ap, ◌∙◌}
use native.Mathlib.Omega.{arith}
use borrow.Author.Rules.{rules}
use Rattle.laws.specs.Rows.{row, row_at}
use Rattle.walks.specs.LabelBits.{label_bit}
use Rattle.walks.specs.LabelBitLaws.{row_bits_next}
use Rattle.surveys.proofs.bits.bits_of.Goals as goal

pub bit_of-requires : goal.bit_of-requires
bit_of-requires c =
    let i = c.loop-i.i in
    rw (row_at 100 c.args.d c.args.labels.now i 0 (omega arith)) at (c.requires.1 i (omega arith))

pub loop-i-preserved : goal.loop-i-preserved
loop-i-preserved c =
    let a = c.args in
    let l = c.loop-i in (
      search rules,
      row_bits_next (row 100 a.d a.labels.now) a.rank.now l.i l.bits _ (omega arith)
          (c.bit_of.ensures ∙ ap (label_bit a.rank.now) (sym (row_at 100 a.d a.labels.now l.i 0 (omega arith))))
          l.invariant.1,
    )
