-- `catalogue::holvreiz_catalogue` meets its contract: a drawing at fault is one of the survey's. Assumes nothing.
use Rattle.holvreiz.specs.FaultyDrawings.{says_drawing}
use Rattle.holvreiz.proofs.catalogue.holvreiz_catalogue.Goals as goal

pub catalogued_number-requires : goal.catalogued_number-requires
catalogued_number-requires c = says_drawing _ _ _ _ _ _ c.write_catalogue.ensures
