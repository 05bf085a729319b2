-- `ways::next_tie` meets its contract: it finds the first device that ties and is not passed over. Assumes nothing.
use Rattle.std.proofs.Common.{true, false, rules}
use Rattle.std.proofs.lemmas.Iterator.{first_from_Range}
use Rattle.branches.specs.Ways.{TieTold}
use Rattle.branches.specs.WayLaws.{next_way}
use Rattle.branches.proofs.ways.next_tie.Goals as goal

pub returns : goal.returns
returns c count given low =
    let a = c.args in
    next_way _ _ _ _ _ _ c.device_at-device.ensures.0 _
    (first_from_Range _ _ _ _ (λ w. TieTold a.table.now a.used.now c.device_at-device.result a.l w true)
    (λ w. TieTold a.table.now a.used.now c.device_at-device.result a.l w false) c.find.ensures.ran
    (λ w q k. search rules)
    (λ w q k. search rules))
