-- The text of a catalogue, or of the refusal of one, as bytes; and the entries that lent bytes hold. Assumes nothing: these
-- are definitions.
use Rattle.std.specs.Prelude.{◌&&◌, cond, List, [], ◌∷◌, ◌++◌, map, Result, Ok, Err, ℕ, zero, suc, ◌+◌, ◌/◌, ◌%◌, min, ltb, leb, length, get_or, drop}
use Rattle.laws.specs.Lists.{concat}
use Rattle.laws.specs.Rows.{rows}
use Rattle.codes.specs.Code.{Rec, recs_in}
use Rattle.growth.specs.Sizes.{example_at, entry_size}
use Rattle.growth.specs.Catalogue.{figures, Entry, entry}
use Rattle.records.specs.Refusals.{number_of}
use Rattle.records.specs.Catalogued.{catalogued_count}
use Rattle.records.specs.declared.refusal.Fault.{Fault}

-- NUMBERS in decimal: ASCII digits without leading zeros, of which n has at most n + 1
unfoldable pub digits : (most n : ℕ) → List ℕ
digits zero n = []
digits (suc k) n = cond (ltb n 10) ((48 + n) ∷ []) (digits k (n / 10) ++ ((48 + n % 10) ∷ []))

unfoldable pub decimal : ℕ → List ℕ
decimal n = digits (suc n) n

-- THE WORDS, with the blanks around them
abbrev pub line_end : List ℕ
line_end = 10 ∷ []

-- " patterns"
abbrev pub patterns_word : List ℕ
patterns_word = 32 ∷ 112 ∷ 97 ∷ 116 ∷ 116 ∷ 101 ∷ 114 ∷ 110 ∷ 115 ∷ []

-- "refused "
abbrev pub refused_word : List ℕ
refused_word = 114 ∷ 101 ∷ 102 ∷ 117 ∷ 115 ∷ 101 ∷ 100 ∷ 32 ∷ []

-- " drawing "
abbrev pub drawing_word : List ℕ
drawing_word = 32 ∷ 100 ∷ 114 ∷ 97 ∷ 119 ∷ 105 ∷ 110 ∷ 103 ∷ 32 ∷ []

-- each record as i-j:kind.cable.kind, all decimal
unfoldable pub record_text : Rec → List ℕ
record_text r = decimal r.i ++ (45 ∷ decimal r.j) ++ (58 ∷ decimal r.ki) ++ (46 ∷ decimal r.c) ++ (46 ∷ decimal r.kj)

-- a line per entry: support, the example behind a blank and @, then after a blank each record
abbrev pub records_text : List Rec → List ℕ
records_text rs = concat (map (λ r. 32 ∷ record_text r) rs)

unfoldable pub entry_text : Entry → List ℕ
entry_text e =
    decimal e.figures.support ++ (32 ∷ 64 ∷ decimal e.figures.example) ++ records_text e.code ++ line_end

abbrev pub lines : List Entry → List ℕ
lines es = concat (map entry_text es)

-- where all numbers are bytes no line is longer: 3 digits, blank and @, 3 digits, 8 records of 20 bytes with their blanks, the line's end
abbrev pub longest_line : ℕ
longest_line = 169

-- last line: number of entries and the word patterns
unfoldable pub catalogue_text : List Entry → List ℕ
catalogue_text es = lines es ++ decimal (length es) ++ (patterns_word ++ line_end)

-- a refusal prints one line only, the word refused and its number, for 2 to 8 also the word drawing and the drawing
abbrev pub drawing_text : (number drawing : ℕ) → List ℕ
drawing_text n d = cond (leb 2 n && leb n 8) (drawing_word ++ decimal d) []

unfoldable pub refusal_text : (number drawing : ℕ) → List ℕ
refusal_text n d = refused_word ++ decimal n ++ drawing_text n d ++ line_end

-- THE TEXT OF AN ANSWER
abbrev pub answer_text : Result ℕ Fault → (entries : List Entry) → List ℕ
answer_text (Ok n) es = catalogue_text es
answer_text (Err f) es = refusal_text (number_of f.refusal) f.drawing

-- ENTRIES SHOWN: what is printed of the bytes of an entry. They have no more than 8 records, so a count of cables above 8
-- stands for 8: any bytes have a text. An entry of at most 8 cables is shown as it stands there (`shown_whole`)
unfoldable pub entry_shown : List ℕ → Entry
entry_shown bs = entry (figures (get_or bs 1 0) (get_or bs example_at 0)) (recs_in (min (get_or bs 0 0) 8) (drop 2 bs))

abbrev pub first_entries : (n : ℕ) → List ℕ → List Entry
first_entries n bs = map entry_shown (rows entry_size n bs)

-- n entries, or as many as the bytes have room for
abbrev pub entries_shown : (n : ℕ) → List ℕ → List Entry
entries_shown n bs = first_entries (min n (length bs / entry_size)) bs

-- the text of an answer whose entries stand in these bytes
abbrev pub text_of : Result ℕ Fault → (bytes : List ℕ) → List ℕ
text_of a bs = answer_text a (entries_shown (catalogued_count a) bs)
