-- `text::write_text` meets its contract: from the two turns of making the text. Assumes nothing.
use Rattle.printing.specs.SaysLaws.{says_short, says_bytes}
use Rattle.printing.proofs.text.write_text.Goals as goal

pub returns-in_err-end : goal.returns-in_err-end
returns-in_err-end c =
    let first = c.put_answer in
    let a = c.args in
    rw c.from_residual.ensures (says_short a.answer a.entries.now a.text.now first.ensures first.auto.text c.in_err-end.was)

pub returns : goal.returns
returns c =
    let first = c.put_answer in
    let a = c.args in
    says_bytes a.answer a.entries.now a.text.now first.ensures first.auto.text _ _ c.in_ok-end.was c.put_answer-2.ensures
