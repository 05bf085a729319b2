-- `code::holvreiz_is_least` meets its contract. Assumes nothing.
use Rattle.coding.specs.LeastSaysLaws.{least_agreement_most}
use Rattle.holvreiz.proofs.code.holvreiz_is_least.Goals as goal

pub verdict_number-requires : goal.verdict_number-requires
verdict_number-requires c =
    least_agreement_most c.args.code.now c.is_least.result c.is_least.ensures
