-- `grow::try_record` meets its contract: a label out of bounds, or what the least test says. Assumes nothing.
use Rattle.small_patterns.specs.TriedLaws.{tried_within, tried_without}
use Rattle.small_patterns.proofs.grow.try_record.Goals as goal

pub returns-then-not-within : goal.returns-then-not-within
returns-then-not-within c =
    tried_without _ c.requires.0 c.requires.1 c.requires.2 c.put_record.ensures
    (c.within.ensures.fails c.if-not-within.true)

pub returns : goal.returns
returns c =
    tried_within _ c.requires.0 c.requires.1 c.requires.2 c.put_record.ensures
    (c.within.ensures.holds c.if-not-within.false) c.least_so_far.ensures
