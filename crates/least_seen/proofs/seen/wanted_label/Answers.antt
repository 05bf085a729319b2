-- `seen::wanted_label` meets its contract: two of the record's bytes. Assumes nothing.
use Rattle.code_records.specs.RecordLaws.{record_read}
use Rattle.least_seen.proofs.seen.wanted_label.Goals as goal

pub returns : goal.returns
returns c =
    let a = c.args in
    rw (← record_read a.code.now a.t) c.label_of.ensures
