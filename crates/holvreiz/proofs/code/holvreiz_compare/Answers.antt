-- `code::holvreiz_compare` meets its contract. Assumes nothing.
use Rattle.comparing.specs.ComparingLaws.{compare_agreement_most}
use Rattle.holvreiz.proofs.code.holvreiz_compare.Goals as goal

pub compared_number-requires : goal.compared_number-requires
compared_number-requires c =
    compare_agreement_most c.args.first.now c.args.second.now c.compare.result c.compare.ensures
