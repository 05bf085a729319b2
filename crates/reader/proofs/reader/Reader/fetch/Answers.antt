-- `Reader::fetch` meets its contract: the drawing that there is, or the refusal. Assumes nothing.
use Rattle.reader.specs.ReaderLaws.{fetch_of_part}
use Rattle.reader.proofs.reader.Reader.fetch.Goals as goal

pub returns : goal.returns
returns c = rw c.ok_or.ensures.value (fetch_of_part c.args.self c.args.d c.drawing_part.result c.drawing_part.ensures)
