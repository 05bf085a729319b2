-- `extension::labelled` meets its contract: both kinds are those of the label. Assumes nothing.
use mathlib.Core.Path.{refl}
use Rattle.codes.specs.CodeOrder.{rec_eq}
use Rattle.extending.proofs.extension.labelled.Goals as goal

pub returns : goal.returns
returns c = rec_eq _ _ refl refl refl c.cable_kind.ensures c.other_kind.ensures
