-- `text::put_lines` meets its contract. The invariant: the lines of the entries in front of the next one are put. Assumes nothing.
use Rattle.std.proofs.Common.{◌+◌, [], arith}
use Rattle.laws.specs.Lists.{concat}
use Rattle.text_lines.specs.Texts.{entry_text, entry_shown}
use Rattle.text_lines.specs.TextLaws.{texts_more, texts_rest}
use Rattle.text_lines.specs.WritingLaws.{wrote_none, wrote_then, wrote_cut, wrote_as}
use Rattle.printing.proofs.text.put_lines.Goals as goal

pub loop-entry-init : goal.loop-entry-init
unfolding concat
loop-entry-init c = wrote_none _ _

pub returns-in_err-next : goal.returns-in_err-next
returns-in_err-next c =
    let l = c.loop-entry in
    let entries = c.args.entries.now in
    let more = texts_more entry_shown entry_text entries l.entry-index [] (omega arith) in
    wrote_as (texts_rest entry_shown entry_text entries (l.entry-index + 1))
    (wrote_cut _ c.from_residual.ensures (wrote_as more (wrote_then l.invariant c.in_err-next.ensures)))

pub loop-entry-preserved : goal.loop-entry-preserved
loop-entry-preserved c =
    let l = c.loop-entry in
    wrote_as (texts_more entry_shown entry_text c.args.entries.now l.entry-index [] (omega arith)) (wrote_then l.invariant c.in_ok-next.ensures)
