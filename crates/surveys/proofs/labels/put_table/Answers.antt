-- `labels::put_table` meets its contract. Assumes nothing.
use Rattle.laws.specs.PutRecordLaws.{put_part}
use Rattle.surveys.proofs.labels.put_table.Goals as goal

pub returns : goal.returns
returns c = rw c.copy_from_slice.ensures.after (put_part 100 c.args.d c.args.table.now c.args.labels.now)
