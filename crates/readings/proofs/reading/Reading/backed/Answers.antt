-- `reading::Reading::backed` meets its contract: a record more, and its j. Assumes nothing.
use Rattle.code_records.specs.Records.{as_rec}
use Rattle.readings.specs.StepLaws.{steps_back}
use Rattle.readings.proofs.reading.Reading.backed.Goals as goal

pub returns : goal.returns
returns c =
    steps_back c.args.self (as_rec c.args.next) c.requires.0 c.with_record.result c.with_record.ensures
    c.requires.1
