-- `book::write_small` meets its contract: all that goes on from no record, or 15. Assumes nothing.
use Rattle.std.proofs.Common.{refl}
use Rattle.pattern_book.specs.BookWritten.{book_walks, book_written, book_too_long}
use Rattle.pattern_book.proofs.book.write_small.Goals as goal

pub walk_small-requires : goal.walk_small-requires
walk_small-requires c = book_walks refl c.args.asked.limit_some c.args.output.now

pub returns-in-Some : goal.returns-in-Some
returns-in-Some c = book_written refl c.in-Some.ensures

pub returns-in-None : goal.returns-in-None
returns-in-None c = rw c.into.ensures (book_too_long refl c.in-None.ensures c.clear.ensures)
