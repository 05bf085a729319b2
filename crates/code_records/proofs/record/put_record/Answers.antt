-- `record::put_record` meets its contract: five stores behind the records. Assumes nothing.
use native.Mathlib.Omega.{arith}
use Rattle.code_records.specs.Records.{as_rec}
use Rattle.codes.specs.AppendedRecordLaws.{five_stores}
use Rattle.code_records.proofs.record.put_record.Goals as goal

pub returns : goal.returns
returns c =
    let a = c.args in
    five_stores a.code.now a.m (as_rec a.next) (omega arith)
