-- What writing the book answers, and what it leaves in the lent bytes. Assumes nothing: these are definitions.
use Rattle.std.specs.Prelude.{List, ℕ, Result}
use Rattle.graphs.specs.Survey as surveys
use Rattle.books.specs.Book.{Small, unsupported, book_refusal}
use Rattle.entries.specs.Written.{ListSays}
use Rattle.records.specs.declared.refusal.Fault.{Fault}

-- THE OUTCOME: 16, 17, which name no drawing; 15; or the book
abbrev pub BookSays : (a b l : ℕ) → Result ℕ Fault → (out out_now : List ℕ) → Type 0
BookSays a b l = ListSays (surveys.refusal (book_refusal a b l) 0) (Small a b) unsupported l
