-- `part::check_fetch` meets its contract: each return has the test that leads to it. Assumes nothing.
use Rattle.std.proofs.Common.{sym, arith}
use Rattle.reader.specs.ReaderLaws.{fetch_accepted, fetch_refused}
use Rattle.reader.proofs.part.check_fetch.Goals as goal

pub returns-then-drawings-d : goal.returns-then-drawings-d
returns-then-drawings-d c = let e = c.counted-drawings.ensures in sym (fetch_refused _ _ (omega arith))

pub returns : goal.returns
returns c = let e = c.counted-drawings.ensures in sym (fetch_accepted _ _ (omega arith))
