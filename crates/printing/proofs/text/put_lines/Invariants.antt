-- `text::put_lines` meets its contract. The invariant: the lines of the entries in front of the next one are put. Assumes nothing.
use Rattle.std.proofs.Common.{Some, take, map}
use Rattle.text_lines.specs.Texts.{lines, entry_shown}
use Rattle.text_lines.specs.Writing.{Wrote}
use Rattle.printing.proofs.text.put_lines.Given as goal

abbrev pub invariant-loop-entry : goal.invariant-loop-entry
invariant-loop-entry l = Wrote l.initial.text (Some l.initial.next) (lines (map entry_shown (take l.entry-index l.entries))) (Some l.next) l.text
