-- `reading::Reading::new` meets its contract: no record and no path. Assumes nothing.
use Rattle.readings.specs.ReadingLaws.{nothing_read}
use Rattle.readings.proofs.reading.Reading.new.Goals as goal

pub returns : goal.returns
returns c = nothing_read c.new.result _ c.new.ensures
