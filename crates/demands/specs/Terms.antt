-- The terms of Demands.antt: the bytes that a call writes, what a refused call leaves, the map of demand 3, what decoding leaves,
-- support as a number of cranes, the example, and a catalogue or a book that is whole. Assumes nothing: these are definitions.
use Rattle.std.specs.Prelude.{◌≡◌, Bool, true, false, cond, List, [], ◌∷◌, ◌++◌, map, ◌⊎◌, Option, Some, None, Result, Ok, Err, ℕ, ◌*◌, ◌/◌, ◌%◌, ◌≤◌, ◌<◌, ltb, length, get_or, take, drop, replicate}
use Rattle.std.specs.Borrow.{Bor}
use Rattle.laws.specs.Lists.{Mem}
use Rattle.laws.specs.Counting.{Different}
use Rattle.laws.specs.Rows.{row}
use Rattle.graphs.specs.Drawing.{Drawing, devices, kind, drawing_in, crane_in, drawing_bytes}
use Rattle.graphs.specs.Map.{map_before}
use Rattle.graphs.specs.Graph.{Section}
use Rattle.graphs.specs.Embedding.{Embedding}
use Rattle.graphs.specs.Isomorphisms.{DemandMap}
use Rattle.graphs.specs.Survey as surveys
use Rattle.graphs.specs.Survey.{survey, cranes, length_refusal, bytes_refusal, survey_refusal, containing, count_true, example}
use Rattle.codes.specs.Code.{Rec, recs_in, kinds_before, rec_before, before}
use Rattle.codes.specs.SectionCode.{section_of, SectionCode, LeastSection}
use Rattle.growth.specs.Sizes.{example_at, entry_size}
use Rattle.growth.specs.Catalogue.{Figures, figures, Entry, entry, ListOf, Catalogue, entry_bytes, all_bytes, OftenIn, figures_of}
use Rattle.growth.specs.FigureLists.{with_figures}
use Rattle.books.specs.Book.{Small, unsupported, book_refusal}
use Rattle.records.specs.declared.refusal.Refusal.{Refusal}
use Rattle.records.specs.declared.refusal.Refusal.TheVariants.{OutputLength, ListLength}
use Rattle.records.specs.declared.refusal.Fault.{Fault}
use Rattle.code_checks.specs.declared.answer.Verdict.{Verdict}
use Rattle.code_checks.specs.declared.answer.Comparison.{Comparison}
use Rattle.code_checks.specs.Answers.{order_number}
use Rattle.laws.specs.Lent.{in_front}
use Rattle.records.specs.Catalogued.{catalogued_refusal, catalogued_count}
use Rattle.records.specs.ListsChecked.{list_refusal, list_value}
use Rattle.records.specs.Refusals.{checked_number, lone_fault}
use Rattle.records.specs.Surveys.{survey_checked}
use Rattle.reader.specs.declared.reader.Opened.{Opened}
use Rattle.reader.specs.Readers.{Fetched, Fetches, FetchGives}

-- THE BYTES a call answers with: those it wrote in front, none where it refuses
abbrev pub written_bytes : Result ℕ Refusal → (out_now : List ℕ) → List ℕ
written_bytes (Ok n) z = take n z
written_bytes (Err r) z = []

-- and those of the n entries that a catalogue has
abbrev pub written_entries : (n : ℕ) → (out_now : List ℕ) → List ℕ
written_entries n z = take (entry_size * n) z

-- WHAT COMPARING AND THE LEAST TEST TELL beside the agreement, in the paper's numbers: 0 equal, 1 before, 2 after; 1 yes, 0 no; 0 of a refusal
abbrev pub order_digit : Result Comparison Refusal → ℕ
order_digit (Ok c) = order_number c.order
order_digit (Err r) = 0

abbrev pub least_digit : Result Verdict Refusal → ℕ
least_digit (Ok v) = cond v.least 1 0
least_digit (Err r) = 0

-- 15: too short for the whole answer
abbrev pub too_short : (needed : ℕ) → (out : List ℕ) → ℕ
too_short n o = cond (ltb (length o) n) 15 0

-- THE REFUSAL of a call is this number, 0 for an answer; a refusal counts nothing and writes nothing
pub record RefusedAs (number refusal count : ℕ) (out out_now : List ℕ) : Type 0 where
  pub one : refusal ≡ number
  pub uncounted : 0 < number → count ≡ 0
  pub untouched : 0 < number → out_now ≡ out

-- OF A CHECK OF A SURVEY: the refusal with the drawing at fault, or how many drawings there are
pub record SurveyRefused (bs : List ℕ) (r : Result ℕ Fault) : Type 0 where
  pub one : survey_checked r ≡ bytes_refusal bs
  pub counted : (bytes_refusal bs).number ≡ 0 → r ≡ Ok (length bs / 73)

-- OF OPENING AND FETCHING: opening checks the length place alone; where that refuses, each fetch is 14; else a fetch is 14 exactly if d
-- is not below the number of drawings, and a refused fetch gives no byte
pub record ReaderRefused (bs : Bor (List ℕ)) (r : Opened) : Type 0 where
  pub one : checked_number r.checked ≡ length_refusal bs.now
  pub no_drawings : 0 < length_refusal bs.now → (d : ℕ) (f : Fetched) → Fetches r.reader d f → FetchGives f 14 []
  pub past : length_refusal bs.now ≡ 0 → (d : ℕ) (f : Fetched) → Fetches r.reader d f → length bs.now / 73 ≤ d → FetchGives f 14 []
  pub fetched :
      length_refusal bs.now ≡ 0 → (d : ℕ) (f : Fetched) → Fetches r.reader d f → d < length bs.now / 73 → FetchGives f 0 (row 73 d bs.now)

-- OF A TEXT: it is made whole, or nothing is written
pub record TextMade (text : List ℕ) (r : Option ℕ) (out out_now : List ℕ) : Type 0 where
  pub short : length out < length text → (r ≡ None) × (out_now ≡ out)
  pub enough : length text ≤ length out → (r ≡ Some (length text)) × (out_now ≡ in_front text out)

-- OF A C CALL: the number returned has the refusal in bits 32 to 39, the count below and the drawing above
abbrev pub returned_refusal : ℕ → ℕ
returned_refusal x = x / 4294967296 % 256

abbrev pub returned_count : ℕ → ℕ
returned_count x = x % 4294967296

abbrev pub returned_drawing : ℕ → ℕ
returned_drawing x = x / 1099511627776

pub record ReturnedAs (number x count : ℕ) (out out_now : List ℕ) : Type 0 where
  pub refused : RefusedAs number (returned_refusal x) (returned_count x) out out_now
  pub counted : returned_count x ≡ count
  pub no_drawing : returned_drawing x ≡ 0

-- OF A LIST of patterns, whichever are wanted: what the call is given comes first, and is refused with the drawing at fault; then 15 exactly
-- where the entries of the one list that there is do not fit, and every lent byte is zero
pub record ListRefused (f : surveys.Refusal) (Wanted : Drawing → Type 0) (figure : Drawing → Figures) (l : ℕ) (r : Result ℕ Fault)
    (out out_now : List ℕ) : Type 0 where
  pub early : 0 < f.number → (catalogued_refusal r ≡ f) × (catalogued_count r ≡ 0) × (out_now ≡ out)
  pub there : f.number ≡ 0 → (es : List Entry) × ListOf kinds_before Wanted figure l es
  pub short :
      f.number ≡ 0 → (es : List Entry) → ListOf kinds_before Wanted figure l es → length out < entry_size * length es
      → (r ≡ Err (lone_fault OutputLength)) × (out_now ≡ replicate (length out) 0)
  pub enough :
      f.number ≡ 0 → (es : List Entry) → ListOf kinds_before Wanted figure l es → entry_size * length es ≤ length out
      → (r ≡ Ok (length es)) × (out_now ≡ in_front (all_bytes es) out)

-- the same from C
pub record ListReturned (f : surveys.Refusal) (Wanted : Drawing → Type 0) (figure : Drawing → Figures) (l x : ℕ)
    (out out_now : List ℕ) : Type 0 where
  pub early :
      0 < f.number
      → (returned_refusal x ≡ f.number) × (returned_drawing x ≡ f.drawing) × (returned_count x ≡ 0) × (out_now ≡ out)
  pub short :
      f.number ≡ 0 → (es : List Entry) → ListOf kinds_before Wanted figure l es → length out < entry_size * length es
      → (returned_refusal x ≡ 15) × (returned_drawing x ≡ 0) × (returned_count x ≡ 0) × (out_now ≡ replicate (length out) 0)
  pub enough :
      f.number ≡ 0 → (es : List Entry) → ListOf kinds_before Wanted figure l es → entry_size * length es ≤ length out
      → (returned_refusal x ≡ 0) × (returned_drawing x ≡ 0) × (returned_count x ≡ length es) × (out_now ≡ in_front (all_bytes es) out)

-- of a catalogue: settings and survey; then the patterns that drawings of enough cranes contain, with their support and example
abbrev pub CatalogueRefused : (bs : List ℕ) (s l : ℕ) → Result ℕ Fault → (out out_now : List ℕ) → Type 0
CatalogueRefused bs s l = ListRefused (survey_refusal bs s l) (OftenIn bs s) (figures_of bs) l

abbrev pub CatalogueReturned : (bs : List ℕ) (s l x : ℕ) (out out_now : List ℕ) → Type 0
CatalogueReturned bs s l = ListReturned (survey_refusal bs s l) (OftenIn bs s) (figures_of bs) l

-- of the book: 16 and 17, which name no drawing; then the patterns with small kinds, with support 0 and example 0
abbrev pub BookRefused : (a b l : ℕ) → Result ℕ Fault → (out out_now : List ℕ) → Type 0
BookRefused a b l = ListRefused (surveys.refusal (book_refusal a b l) 0) (Small a b) unsupported l

abbrev pub BookReturned : (a b l x : ℕ) (out out_now : List ℕ) → Type 0
BookReturned a b l = ListReturned (surveys.refusal (book_refusal a b l) 0) (Small a b) unsupported l

-- OF A LIST THAT IS CHECKED: what a catalogue refuses comes first, but 15; then 18 exactly where the list is not made of whole entries; else yes
-- exactly if it is the bytes of the one catalogue that there is
pub record CheckRefused (bs : List ℕ) (s l : ℕ) (list : List ℕ) (r : Result Bool Fault) : Type 0 where
  pub early : 0 < (survey_refusal bs s l).number → (list_refusal r ≡ survey_refusal bs s l) × (list_value r ≡ 0)
  pub part_entry : (survey_refusal bs s l).number ≡ 0 → (length list % entry_size ≡ 0 → ⊥) → r ≡ Err (lone_fault ListLength)
  pub there : (survey_refusal bs s l).number ≡ 0 → (es : List Entry) × Catalogue (cranes bs) (survey bs) s l es
  pub yes :
      (survey_refusal bs s l).number ≡ 0 → (es : List Entry) → Catalogue (cranes bs) (survey bs) s l es → list ≡ all_bytes es → r ≡ Ok true
  pub no :
      (survey_refusal bs s l).number ≡ 0 → length list % entry_size ≡ 0 → (es : List Entry) → Catalogue (cranes bs) (survey bs) s l es
      → (list ≡ all_bytes es → ⊥) → r ≡ Ok false

-- the same from C
pub record CheckReturned (bs : List ℕ) (s l : ℕ) (list : List ℕ) (x : ℕ) : Type 0 where
  pub early :
      0 < (survey_refusal bs s l).number
      → (returned_refusal x ≡ (survey_refusal bs s l).number) × (returned_drawing x ≡ (survey_refusal bs s l).drawing) × (returned_count x ≡ 0)
  pub part_entry :
      (survey_refusal bs s l).number ≡ 0 → (length list % entry_size ≡ 0 → ⊥)
      → (returned_refusal x ≡ 18) × (returned_drawing x ≡ 0) × (returned_count x ≡ 0)
  pub yes :
      (survey_refusal bs s l).number ≡ 0 → (es : List Entry) → Catalogue (cranes bs) (survey bs) s l es → list ≡ all_bytes es
      → (returned_refusal x ≡ 0) × (returned_drawing x ≡ 0) × (returned_count x ≡ 1)
  pub no :
      (survey_refusal bs s l).number ≡ 0 → length list % entry_size ≡ 0 → (es : List Entry) → Catalogue (cranes bs) (survey bs) s l es
      → (list ≡ all_bytes es → ⊥) → (returned_refusal x ≡ 0) × (returned_drawing x ≡ 0) × (returned_count x ≡ 0)

-- THE MAP OF DEMAND 3, sentence by sentence in `DemandMap`: there is one
abbrev pub Mapped : (d e : Drawing) → Type 0
Mapped d e = (f : List ℕ) × DemandMap d e f

-- DECODED: what is written is the record of the drawing that the code describes, as a sheet of crane 0, and lent bytes past it keep their
-- content
pub record Drawn (rs : List Rec) (r : Result ℕ Refusal) (out out_now : List ℕ) : Type 0 where
  pub bytes : written_bytes r out_now ≡ drawing_bytes 0 (section_of rs)
  pub drawing : drawing_in (written_bytes r out_now) ≡ section_of rs
  pub crane : crane_in (written_bytes r out_now) ≡ 0
  pub output : out_now ≡ in_front (drawing_bytes 0 (section_of rs)) out

-- THE ORDER OF CODES of Yan and Han, clause by clause
pub record OrderClauses : Type 0 where
  -- two records: backward before forward; two backward: smaller j first; two forward: greater i first
  pub backward_first : (e f : Rec) → e.j < e.i → f.i < f.j → rec_before e f ≡ true
  pub smaller_j : (e f : Rec) → e.j < e.i → f.j < f.i → e.j < f.j → rec_before e f ≡ true
  pub greater_i : (e f : Rec) → e.i < e.j → f.i < f.j → f.i < e.i → rec_before e f ≡ true
  -- same i and j: kind of i, then cable kind, then kind of j, smaller first
  pub kind_of_i : (e f : Rec) → e.i ≡ f.i → e.j ≡ f.j → e.ki < f.ki → rec_before e f ≡ true
  pub cable_kind : (e f : Rec) → e.i ≡ f.i → e.j ≡ f.j → e.ki ≡ f.ki → e.c < f.c → rec_before e f ≡ true
  pub kind_of_j : (e f : Rec) → e.i ≡ f.i → e.j ≡ f.j → e.ki ≡ f.ki → e.c ≡ f.c → e.kj < f.kj → rec_before e f ≡ true
  -- two codes: at the first record that differs; a code that begins another comes before it
  pub first_difference : (rs : List Rec) (e f : Rec) (ss ts : List Rec) → (e ≡ f → ⊥) → before (rs ++ (e ∷ ss)) (rs ++ (f ∷ ts)) ≡ rec_before e f
  pub beginning : (rs : List Rec) (e : Rec) (ss : List Rec) → before rs (rs ++ (e ∷ ss)) ≡ true
  -- no code comes before itself; of two others just one comes before the other; and what is before a code before another is before that
  pub irreflexive : (rs : List Rec) → before rs rs ≡ false
  pub one_first : (rs ss : List Rec) → (rs ≡ ss → ⊥) → (before rs ss ≡ true) ⊎ (before ss rs ≡ true)
  pub transitive : (rs ss ts : List Rec) → before rs ss ≡ true → before ss ts ≡ true → before rs ts ≡ true

-- CONTAINED: some map sends p's devices to different devices of d, kinds equal, each cable on a cable of equal kind
abbrev pub Contained : (p d : Drawing) → Type 0
Contained p d = (f : List ℕ) × Embedding p d f

-- THE LEAST MAP, written in front: an embedding that comes before every other at the first byte that differs, a byte for each device
pub record LeastMapWritten (p d : Drawing) (n : ℕ) (out out_now : List ℕ) : Type 0 where
  pub map : List ℕ
  pub embeds : Embedding p d map
  pub least : (g : List ℕ) → Embedding p d g → (g ≡ map → ⊥) → map_before map g ≡ true
  pub count : n ≡ length map
  pub devices_all : n ≡ devices p
  pub output : out_now ≡ in_front map out

-- THE MAP OF A LONE DEVICE of kind k: the lowest device of its kind, in one byte
pub record LoneMapped (k : ℕ) (d : Drawing) (out out_now : List ℕ) : Type 0 where
  pub device : ℕ
  pub there : device < devices d
  pub kind_is : kind d device ≡ k
  pub lowest : (u : ℕ) → u < device → kind d u ≡ k → ⊥
  pub output : out_now ≡ in_front (device ∷ []) out

-- no device of d has kind k
abbrev pub NoDevice : (kind : ℕ) → Drawing → Type 0
NoDevice k d = (v : ℕ) → v < devices d → kind d v ≡ k → ⊥

-- the code of a lone device, as bytes
abbrev pub lone_five : (kind : ℕ) → List ℕ
lone_five k = 0 ∷ 0 ∷ k ∷ 0 ∷ k ∷ []

-- SUPPORT: n different cranes have a drawing that contains p; `cr` has the crane of each drawing. Their numbers are listed, none twice: each is
-- that of a drawing that contains p, and that of each such drawing is listed.
pub record Supported (p : Drawing) (cr : List ℕ) (ds : List Drawing) (n : ℕ) : Type 0 where
  pub numbers : List ℕ
  pub once : Different numbers
  pub filed :
      (c : ℕ) → Mem c numbers → (k : ℕ) × (k < length ds) × (get_or cr k 256 ≡ c) × ((none : Drawing) → Contained p (get_or ds k none))
  pub all : (k : ℕ) (none : Drawing) → k < length ds → Contained p (get_or ds k none) → Mem (get_or cr k 256) numbers
  pub counts : n ≡ length numbers

-- DRAWINGS COUNTED ONE BY ONE, whatever their cranes: n of them contain p. A mark for each says whether it does, and n of the marks say yes.
pub record DrawingsWith (p : Drawing) (ds : List Drawing) (n : ℕ) : Type 0 where
  pub marks : List Bool
  pub size : length marks ≡ length ds
  pub yes : (k : ℕ) (none : Drawing) → k < length ds → get_or marks k false ≡ true → Contained p (get_or ds k none)
  pub no : (k : ℕ) (none : Drawing) → k < length ds → get_or marks k false ≡ false → Contained p (get_or ds k none) → ⊥
  pub counts : n ≡ count_true marks

-- and the catalogue that they give: the patterns that at least s drawings contain, each with their number and its example
abbrev pub drawings_with : (ds : List Drawing) → Drawing → Figures
drawings_with ds p = figures (count_true (containing p ds)) (example p ds)

abbrev pub CatalogueOneByOne : (ds : List Drawing) (s l : ℕ) (es : List Entry) → Type 0
CatalogueOneByOne ds s = ListOf kinds_before (λ p. s ≤ (drawings_with ds p).support) (drawings_with ds)

-- THE EXAMPLE: drawing n contains p, and none before it does
pub record FirstWith (p : Drawing) (ds : List Drawing) (n : ℕ) : Type 0 where
  pub below : n < length ds
  pub there : (none : Drawing) → Contained p (get_or ds n none)
  pub none_before : (k : ℕ) (none : Drawing) → k < n → Contained p (get_or ds k none) → ⊥

-- entries whose examples are numbered by h
abbrev pub renumbered : (h : ℕ → ℕ) → List Entry → List Entry
renumbered h = map (with_figures (λ f. figures f.support (h f.example)))

-- ONE DRAWING AS SHEETS OF TWO CRANES: records that do not differ before byte 72. Those of another length are refused.
pub record SheetsAlike (xs ys : List ℕ) : Type 0 where
  pub sized : length xs ≡ length ys
  pub alike : take 72 xs ≡ take 72 ys

-- ENTRIES of the output, 43 bytes each: number of cables, support, then that many records; byte 42 is the example
unfoldable pub entry_of : List ℕ → Entry
entry_of bs = entry (figures (get_or bs 1 0) (get_or bs example_at 0)) (recs_in (get_or bs 0 0) (drop 2 bs))

unfoldable pub entry_in : (k : ℕ) → (output : List ℕ) → Entry
entry_in k z = entry_of (row entry_size k z)

-- An entry is one for a section if the records that its number of cables counts are a code of that section.
abbrev pub EntryFor : (p : Drawing) → (output : List ℕ) → (k : ℕ) → Type 0
EntryFor p z k = SectionCode p (entry_in k z).code

-- A WHOLE LIST of n entries in the lent bytes z, which were o before the call, whichever patterns it is of. A section is a simple graph of 1 to
-- 10 devices and at most 20 cables in which a walk joins every two devices (`Section`); a pattern is one with a cable or more. Patterns are taken
-- up to a map, as in demand 3, since an entry is one for each section that its records are a code of.
pub record WholeList (n : ℕ) (o z : List ℕ) : Type 0 where
  -- there is no entry that is one for no section
  pub sound : (k : ℕ) → k < n → (p : Drawing) × Section p × EntryFor p z k
  -- a section has no more than one
  pub once : (p : Drawing) → Section p → (j k : ℕ) → j < n → k < n → EntryFor p z j → EntryFor p z k → j ≡ k
  -- with its least code
  pub least : (p : Drawing) → Section p → (k : ℕ) → k < n → EntryFor p z k → LeastSection p (entry_in k z).code
  -- codes rise
  pub rise : (j k : ℕ) → j < k → k < n → before (entry_in j z).code (entry_in k z).code ≡ true
  -- the bytes are those of the entries, and what they were past the last one
  pub bytes : (k : ℕ) → k < n → row entry_size k z ≡ entry_bytes (entry_in k z)
  pub room : entry_size * n ≤ length z
  pub size : length z ≡ length o
  pub kept : drop (entry_size * n) z ≡ drop (entry_size * n) o

-- A WHOLE CATALOGUE
pub record WholeCatalogue (bs : List ℕ) (s l n : ℕ) (o z : List ℕ) : Type 0 where
  pub list : WholeList n o z
  -- a section of 1 to l cables that drawings of at least s cranes contain has an entry
  pub there :
      (p : Drawing) → Section p → 1 ≤ length p.cables → length p.cables ≤ l → (m : ℕ) → Supported p (cranes bs) (survey bs) m → s ≤ m
      → (k : ℕ) × (k < n) × EntryFor p z k
  -- and no other has, so none without a cable
  pub frequent :
      (p : Drawing) → Section p → (k : ℕ) → k < n → EntryFor p z k
      → (1 ≤ length p.cables) × (length p.cables ≤ l) × (s ≤ (entry_in k z).figures.support)
  -- with its support
  pub support : (p : Drawing) → Section p → (k : ℕ) → k < n → EntryFor p z k
      → Supported p (cranes bs) (survey bs) (entry_in k z).figures.support
  -- and its example: that drawing of the survey contains it, and none before does
  pub example : (p : Drawing) → Section p → (k : ℕ) → k < n → EntryFor p z k → FirstWith p (survey bs) (entry_in k z).figures.example

-- A WHOLE BOOK
pub record WholeBook (a b l n : ℕ) (o z : List ℕ) : Type 0 where
  pub list : WholeList n o z
  -- a section of 1 to l cables, its device kinds below a and its cable kinds below b, has an entry
  pub there :
      (p : Drawing) → Section p → 1 ≤ length p.cables → length p.cables ≤ l → Small a b p → (k : ℕ) × (k < n) × EntryFor p z k
  -- and no other has
  pub small :
      (p : Drawing) → Section p → (k : ℕ) → k < n → EntryFor p z k → (1 ≤ length p.cables) × (length p.cables ≤ l) × Small a b p
  -- with support 0, and 0 as the example
  pub support : (k : ℕ) → k < n → (entry_in k z).figures.support ≡ 0
  pub example : (k : ℕ) → k < n → (entry_in k z).figures.example ≡ 0
