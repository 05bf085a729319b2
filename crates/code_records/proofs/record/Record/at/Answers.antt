-- `record::Record::at` meets its contract: each field is the byte read. Assumes nothing.
use Rattle.code_records.specs.RecordLaws.{record_read}
use Rattle.code_records.proofs.record.Record.at.Goals as goal

pub returns : goal.returns
returns c = record_read c.args.code.now c.args.k
