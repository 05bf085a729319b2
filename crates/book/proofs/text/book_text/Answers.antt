-- `text::book_text` meets its contract: the book is written, then the text of what that answers and leaves. Assumes nothing.
use Rattle.std.proofs.Common.{arith, rules}
use Rattle.book.specs.BookTextLaws.{book_text_made}
use Rattle.book.proofs.text.book_text.Goals as goal

pub returns : goal.returns
returns c =
    let w = c.write_text in
    let u = c.write_book-answer in
    let a = c.args in
    book_text_made a.request.devices a.request.cables a.request.limit u.result a.entries.now u.new.output u.ensures
    (omega arith) u.auto.output (λ i. search rules)
    w.result a.text.now w.new.text w.ensures
