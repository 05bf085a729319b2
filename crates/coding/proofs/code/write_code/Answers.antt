-- `code::write_code` meets its contract: what is copied is in front. Assumes nothing.
use Rattle.std.proofs.Common.{◌≡◌, length, rules}
use Rattle.coding.specs.CodeDrawingLaws.{code_copied}
use Rattle.coding.proofs.code.write_code.Goals as goal

pub returns : goal.returns
returns c =
    let long : length c.args.code.records ≡ 100 = search rules in
    rw c.copy_from_slice.ensures.after (code_copied c.args.code long c.requires.0 c.args.output.now)
