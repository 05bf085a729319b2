-- `survey::mine_survey` meets its contract: the tables are filled in, one after another. Assumes nothing.
use Prim.Native.Nat.{ℕ}
use lib.ListN.{length-replicate}
use Rattle.growth.specs.Sizes.{labels_size, alphabet_size}
use Rattle.walks.specs.LabelMarkLaws.{zeroed}
use Rattle.survey_patterns.specs.SurveyMinedLaws.{tables_ready}
use Rattle.survey_patterns.proofs.survey.mine_survey.Goals as goal

pub rank_labels-n-requires : goal.rank_labels-n-requires
rank_labels-n-requires c = (
  c.requires.drawings,
  length-replicate {A = ℕ} labels_size 0,
  length-replicate {A = ℕ} alphabet_size 0,
  zeroed labels_size,
)

pub mine_prepared-requires : goal.mine_prepared-requires
mine_prepared-requires c =
    tables_ready c.args.checking c.requires c.note_bits.ensures.0 c.rank_labels-n.ensures c.note_bits.ensures.1
    c.note_sheets.ensures.0 c.note_sheets.ensures.1
