-- What is printed of whatever writing a book answers and leaves is the text of the book, and each book has just one. Rests on ListTextLaws.
-- Assumes nothing.
use Rattle.std.specs.Prelude.{◌≡◌, List, ℕ, ◌^◌, ◌<◌, length, take, Option, Result}
use Rattle.std.proofs.Common.{arith, lit<}
use Rattle.graphs.specs.Survey as surveys
use Rattle.books.specs.Book.{Small, unsupported, book_refusal}
use Rattle.books.specs.BookSettings.{settings_fit}
use Rattle.records.specs.declared.refusal.Fault.{Fault}
use Rattle.printing.specs.TextSizes.{BytesIn}
use Rattle.printing.specs.Says.{TextSays}
use Rattle.printing.specs.ListTextLaws.{list_text_made, whole_text_once}
use Rattle.pattern_book.specs.BookSays.{BookSays}
use Rattle.book.specs.BookText.{BookTextSays, book_room, BookPrinted}

-- MAKING IT: the book written, then the text of what that answers and leaves
pub book_text_made :
    (a b l : ℕ) (c : Result ℕ Fault) (es es_now : List ℕ) → BookSays a b l c es es_now
    → length es < 10 ^ 20 → length es_now ≡ length es → BytesIn es_now
    → (r : Option ℕ) (out out_now : List ℕ) → TextSays c es_now r out out_now → BookTextSays a b l (length es) r out out_now
unfolding surveys.refusal
book_text_made a b l c es es_now =
    list_text_made (surveys.refusal (book_refusal a b l) 0) (Small a b) unsupported l (λ e. omega (arith, (settings_fit a b l e).2))
    (lit< tt) c es es_now

-- ONE TEXT: the printed bytes and their number are the same
pub book_printed_once :
    (a b l m n : ℕ) (o p y z : List ℕ) → BookPrinted a b l m o y → BookPrinted a b l n p z → (m ≡ n) × (take m y ≡ take n z)
book_printed_once a b l = whole_text_once (surveys.refusal (book_refusal a b l) 0) (Small a b) unsupported l book_room
