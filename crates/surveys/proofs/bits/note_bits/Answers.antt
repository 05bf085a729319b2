-- `bits::note_bits` meets its contract. The invariant: the tables are as they were, and the bits of the first d drawings are there. Assumes
-- nothing.
use native.Mathlib.Omega.{arith}
use borrow.Author.Rules.{rules}
use Rattle.graphs.specs.AcceptedSurvey.{accepted_survey}
use Rattle.walks.specs.LabelBitLaws.{cell_has_bit, bits_leave_tables, bits_next}
use Rattle.surveys.proofs.bits.note_bits.Goals as goal

pub bits_of-bits-requires : goal.bits_of-bits-requires
bits_of-bits-requires c =
    let l = c.loop-d in (
      omega (arith, (accepted_survey c.args.survey.now c.requires.0).most),
      cell_has_bit c.requires.0 l.invariant.3 c.requires.2.1 l.invariant.2 l.d (omega arith),
    )

pub put_table-requires : goal.put_table-requires
put_table-requires c =
    let l = c.loop-d in (
      omega (arith, (accepted_survey c.args.survey.now c.requires.0).most),
      c.bits_of-bits.ensures.size,
      l.invariant.3.size,
    )

pub loop-d-preserved : goal.loop-d-preserved
loop-d-preserved c =
    let l = c.loop-d in
    let b = c.bits_of-bits.ensures in
    let most = (accepted_survey c.args.survey.now c.requires.0).most in (
      l.invariant.0,
      search rules,
      l.invariant.2,
      rw c.put_table.ensures (bits_leave_tables l.d (omega arith) l.invariant.3 b most),
      rw c.put_table.ensures (bits_next l.d (omega arith) l.invariant.3 b l.invariant.4),
    )
