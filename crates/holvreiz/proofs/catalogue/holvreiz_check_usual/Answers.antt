-- `catalogue::holvreiz_check_usual` meets its contract: a drawing at fault is one of the survey's. Assumes nothing.
use Rattle.holvreiz.specs.FaultyDrawings.{check_drawing}
use Rattle.holvreiz.proofs.catalogue.holvreiz_check_usual.Goals as goal

pub list_number-requires : goal.list_number-requires
list_number-requires c = check_drawing _ _ _ _ _ c.check_usual.ensures
