-- `note::crane_of` meets its contract. Assumes nothing.
use mathlib.Core.Path.{sym}
use Rattle.walks.specs.SheetTableLaws.{crane_byte}
use Rattle.sheets.proofs.note.crane_of.Goals as goal

pub returns : goal.returns
returns c = let a = c.args in sym (crane_byte a.survey.now a.d c.requires.1)
