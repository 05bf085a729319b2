-- `mine::mine_kind` meets its contract. Assumes nothing.
use mathlib.Core.Path.{refl}
use native.Mathlib.Omega.{arith}
use borrow.Author.Rules.{rules}
use Rattle.extending.specs.HeldCodeLaws.{nothing_held}
use Rattle.codes.specs.CodeFronts.{no_records}
use Rattle.survey_patterns.specs.SurveyMinedLaws.{mine_chooses, mine_walks, kind_after}
use Rattle.survey_patterns.proofs.mine.mine_kind.Goals as goal

pub choose-top-requires : goal.choose-top-requires
choose-top-requires c =
    mine_chooses c.requires.can c.requires.done c.count_firsts-found.ensures

pub walk-requires : goal.walk-requires
walk-requires c = (
  mine_walks c.requires.can c.requires.done c.count_firsts-found.ensures c.choose-top.ensures (no_records _),
  nothing_held (record { long = refl; wide = refl }),
  record { sized = c.requires.sized; at = λ e z. absurd (omega arith) },
)

pub returns : goal.returns
returns c =
    record {
      after = λ first done.
          kind_after c.requires.can done c.count_firsts-found.ensures c.choose-top.ensures (no_records _) _ (search rules) c.walk.ensures.0;
      sized = c.walk.ensures.2.sized;
      size = c.walk.ensures.0.size;
    }
