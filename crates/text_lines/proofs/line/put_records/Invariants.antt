-- `line::put_records` meets its contract. The invariant: the records in front of the next one are put. Assumes nothing.
use Rattle.std.proofs.Common.{Some, take, map}
use Rattle.codes.specs.Code.{rec_in}
use Rattle.text_lines.specs.Texts.{records_text}
use Rattle.text_lines.specs.Writing.{Wrote}
use Rattle.text_lines.proofs.line.put_records.Given as goal

abbrev pub invariant-loop-record : goal.invariant-loop-record
invariant-loop-record l =
    Wrote l.initial.text (Some l.initial.next) (records_text (map rec_in (take l.record-index l.records))) (Some l.next) l.text
