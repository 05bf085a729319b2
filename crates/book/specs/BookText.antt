-- The text of a book, and what making it answers and leaves: that of a list, for all small patterns. Assumes nothing: these are definitions.
use Rattle.std.specs.Prelude.{List, ℕ, ◌*◌, Option}
use Rattle.graphs.specs.Survey as surveys
use Rattle.growth.specs.Sizes.{entry_size}
use Rattle.books.specs.Book.{Small, unsupported, book_refusal}
use Rattle.printing.specs.ListTexts.{ListTextSays, ListTextWhole}

-- THE OUTCOME of making it, with room for so many bytes of entries
abbrev pub BookTextSays : (a b l room : ℕ) (r : Option ℕ) (out out_now : List ℕ) → Type 0
BookTextSays a b l = ListTextSays (surveys.refusal (book_refusal a b l) 0) (Small a b) unsupported l

-- THE ROOM OF THE PROGRAM, 1,947 entries: 83,721 bytes
abbrev pub book_room : ℕ
book_room = entry_size * 1947

-- THE TEXT OF THE PROGRAM: the whole text of the book, with that room for entries
abbrev pub BookPrinted : (a b l : ℕ) (r : ℕ) (out out_now : List ℕ) → Type 0
BookPrinted a b l = ListTextWhole (surveys.refusal (book_refusal a b l) 0) (Small a b) unsupported l book_room
