-- `catalogue::holvreiz_book` meets its contract: no drawing is at fault. Assumes nothing.
use Rattle.holvreiz.specs.FaultyDrawings.{book_drawing}
use Rattle.holvreiz.proofs.catalogue.holvreiz_book.Goals as goal

pub catalogued_number-requires : goal.catalogued_number-requires
catalogued_number-requires c = book_drawing _ _ _ _ _ _ c.write_book.ensures
