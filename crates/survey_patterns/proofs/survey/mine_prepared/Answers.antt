-- `survey::mine_prepared` meets its contract: the arrays are of the lengths that are asked, and blank. Assumes nothing.
use Prim.Native.Nat.{ℕ, ◌+◌, ◌*◌}
use lib.ListN.{length-replicate}
use Rattle.growth.specs.Sizes.{places_size, candidates_size}
use Rattle.walks.specs.LabelMarkLaws.{zeroed}
use Rattle.walks.specs.EmbeddingLists.{rows_most}
use Rattle.survey_patterns.proofs.survey.mine_prepared.Goals as goal

pub mine-requires : goal.mine-requires
mine-requires c = (
  c.requires,
  record {
    zeroed = zeroed places_size;
    sized = record { cells_size = length-replicate {A = ℕ} places_size 0; seen_size = length-replicate {A = ℕ} places_size 0 };
  },
  length-replicate {A = ℕ} candidates_size 0,
  record { kept_size = length-replicate {A = ℕ} (8 * rows_most) 0; ends_size = length-replicate {A = ℕ} (8 * 64 + 8) 0 },
)
