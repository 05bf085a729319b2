-- What the program's arguments ask for. Assumes nothing: these are definitions.
use Rattle.std.specs.Prelude.{Bool, true, ◌&&◌, cond, List, [], ◌∷◌, ℕ, leb, eqb, length, Option, Some, None}
use Rattle.text_lines.specs.Numbers.{digits_value}
use Rattle.book.specs.declared.settings.Request.{Request}

-- DIGITS, 48 to 57
unfoldable pub is_digit : ℕ → Bool
is_digit b = leb 48 b && leb b 57

unfoldable pub all_digits : List ℕ → Bool
all_digits [] = true
all_digits (b ∷ bs) = is_digit b && all_digits bs

-- the number in base ten that the bytes stand for behind digits of a value, if all are digits
unfoldable pub digits_read : (value : ℕ) → List ℕ → Option ℕ
digits_read v bs = cond (all_digits bs) (Some (digits_value v bs)) None

-- A NUMERAL: 1 to 9 digits; zeros may lead
unfoldable pub numeral_read : List ℕ → Option ℕ
numeral_read bs = cond (leb 1 (length bs) && leb (length bs) 9) (digits_read 0 bs) None

-- THREE OF THEM: kinds of devices, kinds of cables, most cables
abbrev pub asked : (devices cables limit : ℕ) → Request
asked a b l = record { devices = a; cables = b; limit = l }

abbrev pub book_read : (devices cables limit : Option ℕ) → Option Request
book_read (Some a) (Some b) (Some l) = Some (asked a b l)
book_read (Some a) (Some b) None = None
book_read (Some a) None z = None
book_read None y z = None

-- WHAT IS ASKED FOR, by the number of words, the program's name among them, and the words behind it: without arguments the usual book
unfoldable pub request_read : (count : ℕ) (first second third : List ℕ) → Option Request
request_read n x y z =
    cond (eqb n 1) (Some (asked 2 2 2)) (cond (eqb n 4) (book_read (numeral_read x) (numeral_read y) (numeral_read z)) None)
