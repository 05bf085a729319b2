-- `next::choose_next` meets its contract. Assumes nothing.
use Rattle.codes.specs.Code.{recs_in}
use Rattle.choosing.specs.NextChosenLaws.{counted_chooses, counted_chosen}
use Rattle.choosing.proofs.next.choose_next.Goals as goal

pub choose-top-requires : goal.choose-top-requires
choose-top-requires c =
    counted_chooses c.requires.0 c.requires.3 (recs_in c.args.m c.args.code.now) c.count_next-next.ensures.0

pub returns : goal.returns
returns c = (
  counted_chosen c.requires.0 c.requires.3 (recs_in c.args.m c.args.code.now) c.count_next-next.ensures.0 c.choose-top.ensures,
  c.count_next-next.ensures.1,
)
