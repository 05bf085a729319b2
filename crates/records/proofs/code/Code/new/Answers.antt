-- `code::Code::new` meets its contract: every byte is zero. Assumes nothing.
use borrow.Author.Rules.{rules}
use Rattle.records.specs.Codes.{code_bytes, code_path}
use Rattle.records.proofs.code.Code.new.Goals as goal

pub returns : goal.returns
unfolding code_bytes code_path
returns c = search rules
