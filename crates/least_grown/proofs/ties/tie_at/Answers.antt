-- `ties::tie_at` meets its contract. Assumes nothing.
use Rattle.std.proofs.Common.{arith}
use Rattle.code_records.specs.Records.{as_rec}
use Rattle.least_test.specs.LeastStarts.{seen_along, seen_low}
use Rattle.least_grown.proofs.ties.tie_at.Goals as goal

pub label_above-requires : goal.label_above-requires
label_above-requires c =
    let low = seen_low c.args.code.now c.requires.0.tabled.accepted (seen_along c.args.code.now c.requires.0.tabled.accepted c.args.k
    (omega (arith, c.requires.1, c.requires.0.records)) (as_rec c.at-r.result) c.at-r.ensures) in
    (omega (arith, low.0, c.from.ensures), c.requires.0.most, omega (arith, low.1, c.from-then-r.ensures))
