-- `search::start_either` meets its contract: the cable is seen one way round, then the other. Assumes nothing.
use Rattle.least_code.specs.SearchStartCalls.{first_start, second_start, both_seen}
use Rattle.least_code.proofs.search.start_either.Goals as goal

pub start-kept-requires : goal.start-kept-requires
start-kept-requires c =
    let p = c.requires in
    (first_start p.0 _ _ _ c.at-cable.ensures, p.1, p.2)

pub start-requires : goal.start-requires
start-requires c =
    let p = c.requires in
    (second_start p.0 _ _ _ c.at-cable.ensures _ c.start-kept.ensures.0, p.1, c.start-kept.ensures.1)

pub returns : goal.returns
returns c =
    let p = c.requires in
    (both_seen p.0 _ _ _ c.at-cable.ensures _ c.start-kept.ensures.0 _ c.start.ensures.0, c.start.ensures.1)
