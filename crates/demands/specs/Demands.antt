-- THE THREE DEMANDS, and the rules of matching, of the order, of agreement, of lone sections, of cranes, of examples, of the book, of lists made
-- elsewhere and of size limits: each a record of statements over the bytes that a caller sees, and a theorem that proves it. A statement's hypothesis
-- is what the contract of a public entry says of its answer: `CodeSays`, `DecodeSays`, `CatalogueSays` and so on, from C `CodeReturns` and its
-- fellows. It holds of whatever the call answers (r, v or t), where the lent output was o before the call and is z after it. Terms.antt has the terms
-- that only these statements need. That an answer and every lent byte follow from the input is in Determined.antt. Assumes nothing.
use Rattle.std.specs.Prelude.{◌≡◌, true, false, cond, List, [], ◌∷◌, ◌++◌, ℕ, ◌*◌, ◌/◌, ◌%◌, ◌≤◌, ◌<◌, eqb, length, get_or, set, take, replicate, Bool, Option, Some, None, ⊤, Result, Ok, Err}
use Rattle.std.proofs.Common.{sym, ◌∙◌, lit≤}
use Rattle.std.specs.Borrow.{Bor}
use Rattle.laws.specs.Counting.{Different}
use Rattle.laws.specs.Lent.{in_front}
use Rattle.laws.specs.Rows.{row}
use Rattle.graphs.specs.Drawing.{
  Drawing,
  devices,
  kind,
  drawing_in,
  crane_in,
  drawing_bytes,
  drawing_refusal,
  byte_list,
  accepted,
}
use Rattle.graphs.specs.Graph.{Section, lone_drawing}
use Rattle.graphs.specs.DrawingBytes.{drawing_in_bytes, crane_in_bytes, drawing_bytes_in, drawing_bytes_accepted}
use Rattle.graphs.specs.Survey.{survey, cranes, length_refusal, bytes_refusal, survey_refusal}
use Rattle.graphs.specs.FirstMarks.{moved_up, moved_down}
use Rattle.codes.specs.Code.{Rec, rec_in, fresh, rows_refusal, rec_bytes, code_records, rec_before, before}
use Rattle.codes.specs.Agreement.{agreement}
use Rattle.codes.specs.SectionCode.{
  lone_bytes,
  section_code_refusal,
  section_records,
  records_good,
  section_of,
  SectionCode,
  LeastSection,
}
use Rattle.codes.specs.SectionBytes.{records_accepted}
use Rattle.growth.specs.Sizes.{entry_size}
use Rattle.growth.specs.Catalogue.{Entry, Catalogue, entries_within, entries_up_to}
use Rattle.records.specs.declared.refusal.Refusal.TheVariants as refusal
use Rattle.records.specs.Catalogued.{catalogued_refusal}
use Rattle.records.specs.ListsChecked.{list_refusal}
use Rattle.records.specs.Refusals.{checked_number, first_of, lone_fault}
use Rattle.records.specs.Surveys.{SurveyAnswer}
use Rattle.code_checks.specs.SectionChecks.{section_code_checked}
use Rattle.reader.specs.declared.reader.Opened.{Opened}
use Rattle.reader.specs.Readers.{Opens}
use Rattle.code_checks.specs.Answers.{
  written_numbers,
  verdict_agreement,
  verdict_numbers,
  compared_agreement,
  compared_numbers,
}
use Rattle.coding.specs.CodeDrawing.{CodeSays, LeastWritten}
use Rattle.decoding.specs.Decoding.{DecodeSays}
use Rattle.coding.specs.LeastSays.{LeastSays}
use Rattle.comparing.specs.Comparing.{CompareSays}
use Rattle.matching.specs.MatchAnswers.{match_refusal, match_count, same_refusal, same_value, MatchSays, SameSays}
use Rattle.mining.specs.UsualSettings.{usual, former}
use Rattle.mining.specs.CatalogueSays.{CatalogueSays}
use Rattle.mining.specs.CheckSays.{CheckSays}
use Rattle.books.specs.Book.{BookThere}
use Rattle.books.specs.Books.{book_there}
use Rattle.pattern_book.specs.BookSays.{BookSays}
use Rattle.text_lines.specs.Texts.{text_of}
use Rattle.printing.specs.Says.{TextSays}
use Rattle.holvreiz.specs.Returns.{
  CodeReturns,
  DecodeReturns,
  LeastReturns,
  CompareReturns,
  MatchReturns,
  SameReturns,
  CatalogueReturns,
  BookReturns,
  CheckReturns,
}
use Rattle.demands.specs.Terms.{
  written_bytes,
  written_entries,
  order_digit,
  least_digit,
  too_short,
  RefusedAs,
  SurveyRefused,
  ReaderRefused,
  TextMade,
  ReturnedAs,
  CatalogueRefused,
  CatalogueReturned,
  BookRefused,
  BookReturned,
  CheckRefused,
  CheckReturned,
  Mapped,
  Drawn,
  OrderClauses,
  Contained,
  Supported,
  DrawingsWith,
  CatalogueOneByOne,
  FirstWith,
  renumbered,
  SheetsAlike,
  LeastMapWritten,
  LoneMapped,
  NoDevice,
  lone_five,
  WholeCatalogue,
  WholeBook,
}
use Rattle.demands.specs.RefusedLaws as refused
use Rattle.demands.specs.CraneRules as sheets
use Rattle.demands.specs.Supports.{supports_fall, supports_same, cranes_at_most, cranes_all}
use Rattle.demands.specs.ExampleRules.{first_there, first_with_is, first_rises, first_same}
use Rattle.demands.specs.EntryRefusals as entries
use Rattle.demands.specs.CatalogueNumbers.{c_catalogue_refused, c_book_refused}
use Rattle.demands.specs.Coding.{
  accepted_refusal,
  code_is_least,
  back_accepted,
  back_exactly_least,
  yes_exactly_back,
  agreement_back,
}
use Rattle.demands.specs.CodeWays.{
  code_drawn,
  drawn_accepted,
  drawn_coded,
  code_decodes,
  equal_bytes_exactly_mapped,
}
use Rattle.demands.specs.Sameness.{yes_exactly_equal_bytes}
use Rattle.demands.specs.WholeCatalogues.{whole_catalogue}
use Rattle.demands.specs.WholeBooks.{whole_book}
use Rattle.demands.specs.Matches as matches
use Rattle.demands.specs.Comparisons as comparisons
use Rattle.demands.specs.Agreements as agreements
use Rattle.demands.specs.OrderClauses.{order_clauses}
use Rattle.demands.specs.LoneRules as lone
use Rattle.demands.specs.LoneSurveys.{supports_none, survey_empty, lone_adds_none}
use Rattle.demands.specs.CheckRules as checks
use Rattle.demands.specs.LimitRules as limits
use Rattle.records.specs.declared.refusal.Refusal.{Refusal}
use Rattle.records.specs.declared.refusal.Fault.{Fault}
use Rattle.code_checks.specs.declared.answer.Verdict.{Verdict}
use Rattle.coding.specs.LeastSays as verdict
use Rattle.code_checks.specs.declared.answer.Comparison.{Comparison}
use Rattle.comparing.specs.Comparing.{order_answer}
use Rattle.std.specs.declared.cmp.Ordering.TheVariants.{Less, Equal, Greater}

-- THE FIRST DEMAND: every public entry, on any bytes of any length, gives its answer or the one refusal of the paper's table: the first
-- place that applies, from the top, of two drawings or codes the first one's before the second's. A refusal writes nothing; only
-- 15 of a catalogue or of the book leaves the whole lent output zero. (A call that lends no output has none before and none after.) The usual
-- catalogue is `catalogue` at `usual`; the usual check is `check_list` at `usual`, that for lists of four cables at `former`.
pub record FirstDemand : Type 0 where
  -- the checks: 1 to 8; 1, 14; these and then 2 to 8 with the drawing; 9 to 11
  pub check_drawing : (xs : List ℕ) (c : Result ⊤ Refusal) → checked_number c ≡ drawing_refusal xs
      → RefusedAs (drawing_refusal xs) (checked_number c) 0 [] []
  pub check_length : (bs : List ℕ) (c : Result ⊤ Refusal) → checked_number c ≡ length_refusal bs
      → RefusedAs (length_refusal bs) (checked_number c) 0 [] []
  pub check_survey : (bs : List ℕ) (r : Result ℕ Fault) → SurveyAnswer (bytes_refusal bs) bs r → SurveyRefused bs r
  pub check_code : (bs : List ℕ) (c : Result ⊤ Refusal) → c ≡ section_code_checked bs → RefusedAs (section_code_refusal bs) (checked_number c) 0 [] []
  -- the reader
  pub reader : (bs : Bor (List ℕ)) (r : Opened) → Opens bs r → ReaderRefused bs r
  -- coding and matching
  pub code : (xs : List ℕ) (r : Result ℕ Refusal) (o z : List ℕ) → CodeSays xs r o z
      → RefusedAs (first_of (drawing_refusal xs) (too_short (5 * section_records (drawing_in xs)) o))
      (written_numbers r).refusal (written_numbers r).count o z
  pub decode : (bs : List ℕ) (r : Result ℕ Refusal) (o z : List ℕ) → DecodeSays bs r o z
      → RefusedAs (first_of (section_code_refusal bs) (too_short 73 o)) (written_numbers r).refusal (written_numbers r).count o z
  pub is_least : (bs : List ℕ) (v : Result Verdict Refusal) → LeastSays bs v
      → RefusedAs (section_code_refusal bs) (verdict_numbers v).refusal (verdict_numbers v).count [] []
  pub compare : (xs ys : List ℕ) (r : Result Comparison Refusal) → CompareSays xs ys r
      → RefusedAs (first_of (section_code_refusal xs) (section_code_refusal ys)) (compared_numbers r).refusal (compared_numbers r).count [] []
  pub match_drawing : (xs ys : List ℕ) (r : Result (Option ℕ) Refusal) (o z : List ℕ) → MatchSays xs ys r o z
      → RefusedAs (first_of (first_of (drawing_refusal xs) (drawing_refusal ys)) (too_short (devices (drawing_in xs)) o))
      (match_refusal r) (match_count r) o z
  pub same : (xs ys : List ℕ) (t : Result Bool Refusal) → SameSays xs ys t
      → RefusedAs (first_of (drawing_refusal xs) (drawing_refusal ys)) (same_refusal t) (same_value t) [] []
  -- 12, 13, 1, 14, then 2 to 8 with the drawing; then 15 exactly if the entries that the third demand gives do not fit
  pub catalogue : (bs : List ℕ) (s l : ℕ) (r : Result ℕ Fault) (o z : List ℕ) → CatalogueSays bs s l r o z → CatalogueRefused bs s l r o z
  -- 16, 17; then 15 exactly if the entries of the book do not fit
  pub book : (a b l : ℕ) (r : Result ℕ Fault) (o z : List ℕ) → BookSays a b l r o z → BookRefused a b l r o z
  -- what a catalogue refuses but 15, then 18 exactly if the list is not made of whole entries
  pub check_list : (bs : List ℕ) (s l : ℕ) (list : List ℕ) (r : Result Bool Fault) → CheckSays bs s l list r → CheckRefused bs s l list r
  -- the text of an answer has no refusal of the paper: it is made whole or not at all
  pub text : (a : Result ℕ Fault) (es : List ℕ) (r : Option ℕ) (o z : List ℕ) → TextSays a es r o z → TextMade (text_of a es) r o z
  -- the same from C: refusal, count and drawing stand in the number that is returned
  pub c_code : (xs : List ℕ) (x : ℕ) (o z : List ℕ) (c : CodeReturns xs x o z)
      → ReturnedAs (first_of (drawing_refusal xs) (too_short (5 * section_records (drawing_in xs)) o)) x (written_numbers c.answer).count o z
  pub c_decode : (bs : List ℕ) (x : ℕ) (o z : List ℕ) (c : DecodeReturns bs x o z)
      → ReturnedAs (first_of (section_code_refusal bs) (too_short 73 o)) x (written_numbers c.answer).count o z
  pub c_is_least : (bs : List ℕ) (x : ℕ) (c : LeastReturns bs x) → ReturnedAs (section_code_refusal bs) x (verdict_numbers c.answer).count [] []
  pub c_compare : (xs ys : List ℕ) (x : ℕ) (c : CompareReturns xs ys x)
      → ReturnedAs (first_of (section_code_refusal xs) (section_code_refusal ys)) x (compared_numbers c.answer).count [] []
  pub c_match : (xs ys : List ℕ) (x : ℕ) (o z : List ℕ) (c : MatchReturns xs ys x o z)
      → ReturnedAs (first_of (first_of (drawing_refusal xs) (drawing_refusal ys)) (too_short (devices (drawing_in xs)) o)) x
      (match_count c.answer) o z
  pub c_same : (xs ys : List ℕ) (x : ℕ) (c : SameReturns xs ys x)
      → ReturnedAs (first_of (drawing_refusal xs) (drawing_refusal ys)) x (same_value c.answer) [] []
  pub c_catalogue : (bs : List ℕ) (s l x : ℕ) (o z : List ℕ) → CatalogueReturns bs s l x o z → CatalogueReturned bs s l x o z
  pub c_book : (a b l x : ℕ) (o z : List ℕ) → BookReturns a b l x o z → BookReturned a b l x o z
  pub c_check_list : (bs : List ℕ) (s l : ℕ) (list : List ℕ) (x : ℕ) → CheckReturns bs s l list x → CheckReturned bs s l list x

pub first_demand : FirstDemand
first_demand =
    record {
      check_drawing = entries.check_drawing_refused;
      check_length = entries.check_length_refused;
      check_survey = entries.check_survey_refused;
      check_code = entries.check_code_refused;
      reader = entries.reader_refused;
      code = refused.code_turned_back;
      decode = refused.decode_turned_back;
      is_least = refused.least_turned_back;
      compare = refused.compare_turned_back;
      match_drawing = refused.match_turned_back;
      same = refused.same_turned_back;
      catalogue = refused.catalogue_turned_back;
      book = refused.book_turned_back;
      check_list = checks.check_list_refused;
      text = entries.text_made;
      c_code = entries.c_code_refused;
      c_decode = entries.c_decode_refused;
      c_is_least = entries.c_least_refused;
      c_compare = entries.c_compare_refused;
      c_match = entries.c_match_refused;
      c_same = entries.c_same_refused;
      c_catalogue = c_catalogue_refused;
      c_book = c_book_refused;
      c_check_list = checks.c_check_list_refused;
    }

-- A CALL OF CODING with an accepted drawing and bytes enough; one of decoding with an accepted code and bytes enough
pub record CodingCall (xs : List ℕ) (r : Result ℕ Refusal) (o z : List ℕ) : Type 0 where
  pub drawing : accepted xs ≡ true
  pub room : 5 * section_records (drawing_in xs) ≤ length o
  pub says : CodeSays xs r o z

pub record DecodingCall (bs : List ℕ) (r : Result ℕ Refusal) (o z : List ℕ) : Type 0 where
  pub bytes : byte_list bs ≡ true
  pub code : section_code_refusal bs ≡ 0
  pub room : 73 ≤ length o
  pub says : DecodeSays bs r o z

-- a code decoded, and what it decodes to coded again
pub record RoundCall (bs : List ℕ) (r s : Result ℕ Refusal) (o p z w : List ℕ) : Type 0 where
  pub decoding : DecodingCall bs r o z
  pub room : length bs ≤ length p
  pub says : CodeSays (written_bytes r z) s p w

-- THE SECOND DEMAND
pub record SecondDemand : Type 0 where
  -- the code of an accepted drawing is that one of all its codes which comes before every other of them: DFS codes, and of a lone
  -- device its one record (`SectionCode`)
  pub code_is_least : {xs : List ℕ} {r : Result ℕ Refusal} {o z : List ℕ} → CodingCall xs r o z → LeastWritten (drawing_in xs) r o z
  -- a code decodes to the drawing that it describes: an accepted one, of which it is a code
  pub decodes : {bs : List ℕ} {r : Result ℕ Refusal} {o z : List ℕ} → DecodingCall bs r o z
      → Drawn (code_records bs) r o z × (drawing_refusal (written_bytes r z) ≡ 0) × SectionCode (drawing_in (written_bytes r z)) (code_records bs)
  -- every row of 1 to 20 records that reads as a code is accepted, and if it is one of an accepted drawing it decodes to that drawing
  pub every_code : (rs : List Rec) → records_good rs ≡ true → section_code_refusal (rec_bytes rs) ≡ 0
  pub every_code_decodes : (xs : List ℕ) (rs : List Rec) → accepted xs ≡ true → SectionCode (drawing_in xs) rs
      → (r : Result ℕ Refusal) (o z : List ℕ) → 73 ≤ length o → DecodeSays (rec_bytes rs) r o z → Mapped (drawing_in (written_bytes r z)) (drawing_in xs)
  -- coding what a code decodes to gives the code back exactly when it was the least, and the least test answers yes exactly then
  pub back_when_least : {bs : List ℕ} {r s : Result ℕ Refusal} {o p z w : List ℕ} → RoundCall bs r s o p z w
      → (written_bytes s w ≡ bs → LeastSection (section_of (code_records bs)) (code_records bs))
      × (LeastSection (section_of (code_records bs)) (code_records bs) → written_bytes s w ≡ bs)
  pub yes_when_back : {bs : List ℕ} {r s : Result ℕ Refusal} {o p z w : List ℕ} → RoundCall bs r s o p z w → (v : Result Verdict Refusal) → LeastSays bs v
      → ((k : ℕ) → v ≡ Ok (verdict.yes k) → written_bytes s w ≡ bs) × (written_bytes s w ≡ bs → v ≡ Ok (verdict.yes (length (code_records bs))))

pub second_demand : SecondDemand
second_demand =
    record {
      code_is_least = λ {xs} {r} {o} {z} c. code_is_least xs r o z (accepted_refusal xs c.drawing) c.room c.says;
      decodes = λ {bs} {r} {o} {z} c. (
        code_drawn bs r o z c.code c.room c.says,
        drawn_accepted bs r o z c.code c.room c.says c.bytes,
        drawn_coded bs r o z c.code c.room c.says c.bytes,
      );
      every_code = records_accepted;
      every_code_decodes = code_decodes;
      back_when_least = λ {bs} {r} {s} {o} {p} {z} {w} c.
          let d = c.decoding in back_exactly_least bs d.bytes d.code o p d.room c.room z w r s d.says c.says;
      yes_when_back = λ {bs} {r} {s} {o} {p} {z} {w} c v says.
          let d = c.decoding in yes_exactly_back bs d.bytes d.code o p d.room c.room z w r s d.says c.says v says;
    }

-- THE THIRD DEMAND
pub record ThirdDemand : Type 0 where
  -- two accepted drawings get equal code bytes exactly when a map sends the devices of one one to one onto all devices of the
  -- other, kinds equal, with cables of equal kinds between them both ways; and exactly then they are told to be the same
  pub equal_codes : {xs ys : List ℕ} {r s : Result ℕ Refusal} {o p z w : List ℕ} → CodingCall xs r o z → CodingCall ys s p w
      → (written_bytes r z ≡ written_bytes s w → Mapped (drawing_in xs) (drawing_in ys))
      × (Mapped (drawing_in xs) (drawing_in ys) → written_bytes r z ≡ written_bytes s w)
  pub same_tells : {xs ys : List ℕ} {r s : Result ℕ Refusal} {o p z w : List ℕ} → CodingCall xs r o z → CodingCall ys s p w
      → (t : Result Bool Refusal) → SameSays xs ys t
      → (t ≡ Ok true → written_bytes r z ≡ written_bytes s w) × (written_bytes r z ≡ written_bytes s w → t ≡ Ok true)
  -- a catalogue that is written to its end: each pattern of 1 to l cables that drawings of at least s cranes contain has just one entry, with its
  -- least code, its support and its example, the lowest number of a drawing that contains it; there is no other entry, and codes rise
  -- (`WholeCatalogue`, field by field)
  pub catalogue : (bs : List ℕ) (s l n : ℕ) (o z : List ℕ) → CatalogueSays bs s l (Ok n) o z → WholeCatalogue bs s l n o z

pub third_demand : ThirdDemand
third_demand =
    record {
      equal_codes = λ {xs} {ys} {r} {s} {o} {p} {z} {w} a b.
          equal_bytes_exactly_mapped xs ys a.drawing b.drawing o p a.room b.room z w r s a.says b.says;
      same_tells = λ {xs} {ys} {r} {s} {o} {p} {z} {w} a b t says.
          yes_exactly_equal_bytes xs ys a.drawing b.drawing o p a.room b.room z w r s a.says b.says t says;
      catalogue = whole_catalogue;
    }

-- THE MATCHING RULE: the map written is the least of all maps, and "not contained" comes exactly if no map exists
pub record MatchingRule : Type 0 where
  pub map_written : (xs ys : List ℕ) (n : ℕ) (o z : List ℕ) → MatchSays xs ys (Ok (Some n)) o z
      → LeastMapWritten (drawing_in xs) (drawing_in ys) n o z
  pub no_map : (xs ys : List ℕ) (r : Result (Option ℕ) Refusal) (o z : List ℕ) → drawing_refusal xs ≡ 0 → drawing_refusal ys ≡ 0
      → devices (drawing_in xs) ≤ length o → MatchSays xs ys r o z → r ≡ Ok None → Contained (drawing_in xs) (drawing_in ys) → ⊥
  pub not_contained : (xs ys : List ℕ) (r : Result (Option ℕ) Refusal) (o z : List ℕ) → drawing_refusal xs ≡ 0 → drawing_refusal ys ≡ 0
      → devices (drawing_in xs) ≤ length o → MatchSays xs ys r o z
      → (Contained (drawing_in xs) (drawing_in ys) → ⊥) → r ≡ Ok None

pub matching_rule : MatchingRule
matching_rule = record { map_written = matches.map_written; no_map = matches.no_map; not_contained = matches.not_contained }

-- THE ORDER RULE: the order is the one of Yan and Han, and comparing two accepted codes tells it; equal exactly when the bytes are
pub record OrderRule : Type 0 where
  pub clauses : OrderClauses
  pub equal : (xs ys : List ℕ) (r : Result Comparison Refusal) → section_code_refusal xs ≡ 0 → section_code_refusal ys ≡ 0 → CompareSays xs ys r
      → ((k : ℕ) → r ≡ Ok (order_answer Equal k) → xs ≡ ys) × (xs ≡ ys → r ≡ Ok (order_answer Equal (length (code_records xs))))
  pub first_before : (xs ys : List ℕ) (r : Result Comparison Refusal) → section_code_refusal xs ≡ 0 → section_code_refusal ys ≡ 0 → CompareSays xs ys r
      → ((k : ℕ) → r ≡ Ok (order_answer Less k) → before (code_records xs) (code_records ys) ≡ true)
      × (before (code_records xs) (code_records ys) ≡ true → r ≡ Ok (order_answer Less (agreement (code_records xs) (code_records ys))))
  pub first_after : (xs ys : List ℕ) (r : Result Comparison Refusal) → section_code_refusal xs ≡ 0 → section_code_refusal ys ≡ 0 → CompareSays xs ys r
      → ((k : ℕ) → r ≡ Ok (order_answer Greater k) → before (code_records ys) (code_records xs) ≡ true)
      × (before (code_records ys) (code_records xs) ≡ true → r ≡ Ok (order_answer Greater (agreement (code_records xs) (code_records ys))))

pub order_rule : OrderRule
order_rule =
    record {
      clauses = order_clauses;
      equal = λ xs ys r a b says. (comparisons.if_equal xs ys r a b says, comparisons.equal_if xs ys r a b says);
      first_before = λ xs ys r a b says. (comparisons.if_before xs ys r a b says, comparisons.before_if xs ys r a b says);
      first_after = λ xs ys r a b says. (comparisons.if_after xs ys r a b says, comparisons.after_if xs ys r a b says);
    }

-- TWO ACCEPTED CODES, and what comparing them answers
pub record ComparingCall (xs ys : List ℕ) (r : Result Comparison Refusal) : Type 0 where
  pub first : section_code_refusal xs ≡ 0
  pub second : section_code_refusal ys ≡ 0
  pub says : CompareSays xs ys r

-- THE RULE OF AGREEMENT: comparing gives the number of whole records before the first on which the two codes part, and the least test gives it
-- of the code and the least one
pub record AgreementRule : Type 0 where
  pub figure : {xs ys : List ℕ} {r : Result Comparison Refusal} → ComparingCall xs ys r → compared_agreement r ≡ agreement (code_records xs) (code_records ys)
  -- so far the bytes are equal; it is at most both lengths, and no greater number of whole records is common to both
  pub equal : {xs ys : List ℕ} {r : Result Comparison Refusal} → ComparingCall xs ys r → take (5 * compared_agreement r) xs ≡ take (5 * compared_agreement r) ys
  pub within : {xs ys : List ℕ} {r : Result Comparison Refusal} → ComparingCall xs ys r
      → (5 * compared_agreement r ≤ length xs) × (5 * compared_agreement r ≤ length ys)
  pub longest : {xs ys : List ℕ} {r : Result Comparison Refusal} → ComparingCall xs ys r → (k : ℕ) → 5 * k ≤ length xs → 5 * k ≤ length ys
      → take (5 * k) xs ≡ take (5 * k) ys → k ≤ compared_agreement r
  -- where both go on, the next records differ, and they decide the order
  pub parts : {xs ys : List ℕ} {r : Result Comparison Refusal} → ComparingCall xs ys r → 5 * compared_agreement r < length xs → 5 * compared_agreement r < length ys
      → row 5 (compared_agreement r) xs ≡ row 5 (compared_agreement r) ys → ⊥
  pub decides : {xs ys : List ℕ} {r : Result Comparison Refusal} → ComparingCall xs ys r → 5 * compared_agreement r < length xs → 5 * compared_agreement r < length ys
      → (r ≡ Ok (order_answer Less (compared_agreement r))
      → rec_before (rec_in (row 5 (compared_agreement r) xs)) (rec_in (row 5 (compared_agreement r) ys)) ≡ true)
      × (rec_before (rec_in (row 5 (compared_agreement r) xs)) (rec_in (row 5 (compared_agreement r) ys)) ≡ true
      → r ≡ Ok (order_answer Less (compared_agreement r)))
  pub decides_after : {xs ys : List ℕ} {r : Result Comparison Refusal} → ComparingCall xs ys r → 5 * compared_agreement r < length xs
      → 5 * compared_agreement r < length ys
      → (r ≡ Ok (order_answer Greater (compared_agreement r))
      → rec_before (rec_in (row 5 (compared_agreement r) ys)) (rec_in (row 5 (compared_agreement r) xs)) ≡ true)
      × (rec_before (rec_in (row 5 (compared_agreement r) ys)) (rec_in (row 5 (compared_agreement r) xs)) ≡ true
      → r ≡ Ok (order_answer Greater (compared_agreement r)))
  -- a code that begins a longer one, or is equal, gives the number of its own records; either way round it is the same
  pub begins : {xs ys : List ℕ} {r : Result Comparison Refusal} → ComparingCall xs ys r → (zs : List ℕ) → ys ≡ xs ++ zs → 5 * compared_agreement r ≡ length xs
  pub either_way : {xs ys : List ℕ} {r : Result Comparison Refusal} → ComparingCall xs ys r → (s : Result Comparison Refusal) → CompareSays ys xs s
      → compared_agreement s ≡ compared_agreement r
  -- the least test gives what comparing the code with the least one gives, that which coding writes of the drawing that it decodes to
  pub least : {bs : List ℕ} {r s : Result ℕ Refusal} {o p z w : List ℕ} → RoundCall bs r s o p z w → (v : Result Verdict Refusal) → LeastSays bs v
      → (c : Result Comparison Refusal) → CompareSays bs (written_bytes s w) c → verdict_agreement v ≡ compared_agreement c
  -- and says yes exactly if that is the whole length
  pub yes_whole : (bs : List ℕ) (v : Result Verdict Refusal) → section_code_refusal bs ≡ 0 → LeastSays bs v
      → ((k : ℕ) → v ≡ Ok (verdict.yes k) → 5 * k ≡ length bs) × (5 * verdict_agreement v ≡ length bs → v ≡ Ok (verdict.yes (length bs / 5)))
  -- from C: the agreement is the count divided by 256, what else is told is the rest; a refusal counts 0
  pub c_compare : (r : Result Comparison Refusal) → ((compared_numbers r).count / 256 ≡ compared_agreement r) × ((compared_numbers r).count % 256 ≡ order_digit r)
  pub c_is_least : (v : Result Verdict Refusal) → ((verdict_numbers v).count / 256 ≡ verdict_agreement v) × ((verdict_numbers v).count % 256 ≡ least_digit v)

pub agreement_rule : AgreementRule
agreement_rule =
    record {
      figure = λ {xs} {ys} {r} c. comparisons.figure_is xs ys r c.first c.second c.says;
      equal = λ {xs} {ys} {r} c. agreements.figure_equal xs ys r c.first c.second c.says;
      within = λ {xs} {ys} {r} c. agreements.figure_within xs ys r c.first c.second c.says;
      longest = λ {xs} {ys} {r} c. agreements.figure_longest xs ys r c.first c.second c.says;
      parts = λ {xs} {ys} {r} c. agreements.figure_parts xs ys r c.first c.second c.says;
      decides = λ {xs} {ys} {r} c. agreements.figure_decides xs ys r c.first c.second c.says;
      decides_after = λ {xs} {ys} {r} c. agreements.figure_decides_after xs ys r c.first c.second c.says;
      begins = λ {xs} {ys} {r} c. agreements.figure_begins xs ys r c.first c.second c.says;
      either_way = λ {xs} {ys} {r} c. agreements.figure_either_way xs ys r c.first c.second c.says;
      least = λ {bs} {r} {s} {o} {p} {z} {w} c v says k compares.
          let d = c.decoding in
          agreement_back bs d.bytes d.code o p d.room c.room z w r s d.says c.says v says
          ∙ sym (comparisons.figure_is bs (written_bytes s w) k d.code
          (back_accepted bs d.bytes d.code o p d.room c.room z w r s d.says c.says) compares);
      yes_whole = λ bs v fine says. (agreements.yes_whole bs v fine says, agreements.whole_yes bs v fine says);
      c_compare = agreements.compared_count_tells;
      c_is_least = agreements.verdict_count_tells;
    }

-- LONE SECTIONS, one device without cables: what the demands and the rules come to for them
pub record LoneRule : Type 0 where
  -- the record of one device of any kind, a sheet of any crane, is accepted; one with cables is refused 3, and so are 2 to 10 devices without
  pub accepted_lone : (c k : ℕ) → c < 256 → k < 256 → accepted (drawing_bytes c (lone_drawing k)) ≡ true
  pub cables_refused : (xs : List ℕ) → length xs ≡ 73 → get_or xs 0 0 ≡ 1 → 0 < get_or xs 1 0 → drawing_refusal xs ≡ 3
  pub none_refused : (xs : List ℕ) → length xs ≡ 73 → 2 ≤ get_or xs 0 0 → get_or xs 0 0 ≤ 10 → get_or xs 1 0 ≡ 0 → drawing_refusal xs ≡ 3
  -- its code is the record 0, 0, k, 0, k, and that decodes to it
  pub code_is : {xs : List ℕ} {r : Result ℕ Refusal} {o z : List ℕ} → CodingCall xs r o z → (drawing_in xs).cables ≡ []
      → written_bytes r z ≡ lone_five (kind (drawing_in xs) 0)
  pub decodes_to : (k : ℕ) (r : Result ℕ Refusal) (o z : List ℕ) → 73 ≤ length o → DecodeSays (lone_five k) r o z
      → drawing_in (written_bytes r z) ≡ lone_drawing k
  -- alone, it is refused 10 (`Step`) for a cable kind and 11 (`Kind`) for unequal kinds; 0, 0 before, behind or among other records is
  -- refused 10 at its own number
  pub row_checked : (k c l : ℕ)
      → section_code_checked (0 ∷ 0 ∷ k ∷ c ∷ l ∷ [])
      ≡ cond (eqb c 0) (cond (eqb k l) (Ok tt) (Err (refusal.Kind 0))) (Err (refusal.Step 0))
  pub elsewhere_checked : (rs ss : List Rec) (e : Rec) → rows_refusal fresh rs ≡ 0 → e.i ≡ 0 → e.j ≡ 0
      → 2 ≤ length (rs ++ (e ∷ ss)) → length (rs ++ (e ∷ ss)) ≤ 20
      → section_code_checked (rec_bytes (rs ++ (e ∷ ss))) ≡ Err (refusal.Step (length rs))
  -- it is least, comes before every code with cables, and two stand by their kinds; it agrees with none but itself
  pub is_least : (k : ℕ) (v : Result Verdict Refusal) → LeastSays (lone_five k) v → v ≡ Ok (verdict.yes 1)
  pub first : (k : ℕ) (ys : List ℕ) (r : Result Comparison Refusal) → section_code_refusal ys ≡ 0 → lone_bytes ys ≡ false → CompareSays (lone_five k) ys r
      → r ≡ Ok (order_answer Less 0)
  pub by_kind : (k l : ℕ) (r : Result Comparison Refusal) → k < l → CompareSays (lone_five k) (lone_five l) r → r ≡ Ok (order_answer Less 0)
  -- as a pattern it is sent to the lowest device of its kind, and to none exactly if there is none
  pub map : (xs ys : List ℕ) (n : ℕ) (o z : List ℕ) → (drawing_in xs).cables ≡ [] → MatchSays xs ys (Ok (Some n)) o z
      → LoneMapped (kind (drawing_in xs) 0) (drawing_in ys) o z
  pub no_device : (xs ys : List ℕ) (r : Result (Option ℕ) Refusal) (o z : List ℕ) → drawing_refusal xs ≡ 0 → drawing_refusal ys ≡ 0 → 1 ≤ length o
      → (drawing_in xs).cables ≡ [] → MatchSays xs ys r o z
      → (r ≡ Ok None → NoDevice (kind (drawing_in xs) 0) (drawing_in ys))
      × (NoDevice (kind (drawing_in xs) 0) (drawing_in ys) → r ≡ Ok None)
  -- it is the same as one of its kind, and never as a drawing with cables
  pub mapped_by_kind : (xs ys : List ℕ) → drawing_refusal xs ≡ 0 → drawing_refusal ys ≡ 0 → (drawing_in xs).cables ≡ [] → (drawing_in ys).cables ≡ []
      → (Mapped (drawing_in xs) (drawing_in ys) → kind (drawing_in xs) 0 ≡ kind (drawing_in ys) 0)
      × (kind (drawing_in xs) 0 ≡ kind (drawing_in ys) 0 → Mapped (drawing_in xs) (drawing_in ys))
  pub never_mapped : (xs ys : List ℕ) → drawing_refusal xs ≡ 0 → drawing_refusal ys ≡ 0 → (drawing_in xs).cables ≡ []
      → 1 ≤ length (drawing_in ys).cables → Mapped (drawing_in xs) (drawing_in ys) → ⊥
  -- in a survey it supports no pattern with cables and adds no entry: codes and supports stay, and where it is put in, the n-th, examples from
  -- n on have a number more. A survey of such drawings alone has no entry
  pub supports_none : (p d : Drawing) → 1 ≤ length p.cables → d.cables ≡ [] → Contained p d → ⊥
  pub survey_empty : (bs : List ℕ) (s l n : ℕ) (o z : List ℕ)
      → ((k : ℕ) (none : Drawing) → k < length (survey bs) → (get_or (survey bs) k none).cables ≡ [])
      → CatalogueSays bs s l (Ok n) o z → n ≡ 0
  pub adds_none : (ks ls : List ℕ) (c : ℕ) (ds es : List Drawing) (d : Drawing) (s l : ℕ) (gs : List Entry) → length ks ≡ length ds
      → d.cables ≡ []
      → (Catalogue (ks ++ (c ∷ ls)) (ds ++ (d ∷ es)) s l gs → Catalogue (ks ++ ls) (ds ++ es) s l (renumbered (moved_down (length ds)) gs))
      × (Catalogue (ks ++ ls) (ds ++ es) s l gs → Catalogue (ks ++ (c ∷ ls)) (ds ++ (d ∷ es)) s l (renumbered (moved_up (length ds)) gs))

pub lone_rule : LoneRule
lone_rule =
    record {
      accepted_lone = lone.accepted_lone;
      cables_refused = lone.lone_with_cables;
      none_refused = lone.none_refused;
      code_is = λ {xs} {r} {o} {z} c n.
          lone.code_is xs r o z (accepted_refusal xs c.drawing) n (code_is_least xs r o z (accepted_refusal xs c.drawing) c.room c.says);
      decodes_to = lone.decodes_to;
      row_checked = lone.lone_row_checked;
      elsewhere_checked = lone.zero_record_checked;
      is_least = lone.lone_is_least;
      first = lone.first;
      by_kind = lone.by_kind;
      map = lone.map;
      no_device = lone.no_device;
      mapped_by_kind = lone.mapped_by_kind;
      never_mapped = lone.never_mapped;
      supports_none = supports_none;
      survey_empty = survey_empty;
      adds_none = lone_adds_none;
    }

-- THE RULE OF CRANES: byte 72 of a drawing's record is the number of its crane, any value, which support counts by and nothing else looks at
pub record CraneRule : Type 0 where
  -- a record is the drawing and the crane that are read from it, and each section is accepted as a sheet of any crane
  pub read_back : (k : ℕ) (d : Drawing) → Section d → (drawing_in (drawing_bytes k d) ≡ d) × (crane_in (drawing_bytes k d) ≡ k)
  pub written_back : (xs : List ℕ) → drawing_refusal xs ≡ 0 → drawing_bytes (crane_in xs) (drawing_in xs) ≡ xs
  pub accepted_as : (k : ℕ) (d : Drawing) → Section d → drawing_refusal (drawing_bytes k d) ≡ 0
  -- sheets of two cranes that differ in nothing else: refused alike; equal answers and equal bytes in coding; alike in matching, as pattern and as
  -- drawing, and in sameness, as first and as second; and they are the same
  pub refused : {xs ys : List ℕ} → SheetsAlike xs ys → drawing_refusal xs ≡ drawing_refusal ys
  pub coded : {xs ys : List ℕ} → SheetsAlike xs ys → (o z w : List ℕ) (r s : Result ℕ Refusal) → CodeSays xs r o z → CodeSays ys s o w
      → (r ≡ s) × (z ≡ w)
  pub as_pattern : {xs ys : List ℕ} → SheetsAlike xs ys → (ds o z w : List ℕ) (r s : Result (Option ℕ) Refusal) → MatchSays xs ds r o z → MatchSays ys ds s o w
      → (r ≡ s) × (z ≡ w)
  pub as_drawing : {xs ys : List ℕ} → SheetsAlike xs ys → (ps o z w : List ℕ) (r s : Result (Option ℕ) Refusal) → MatchSays ps xs r o z → MatchSays ps ys s o w
      → (r ≡ s) × (z ≡ w)
  pub as_first : {xs ys : List ℕ} → SheetsAlike xs ys → (ds : List ℕ) (t u : Result Bool Refusal) → SameSays xs ds t → SameSays ys ds u → t ≡ u
  pub as_second : {xs ys : List ℕ} → SheetsAlike xs ys → (ds : List ℕ) (t u : Result Bool Refusal) → SameSays ds xs t → SameSays ds ys u → t ≡ u
  pub same : {xs ys : List ℕ} → SheetsAlike xs ys → (t : Result Bool Refusal) → drawing_refusal xs ≡ 0 → SameSays xs ys t → t ≡ Ok true
  -- support falls with containment, looks at the pattern up to a map alone, is at most the number of drawings that contain it, and just that
  -- where all cranes differ
  pub falls : (p q : Drawing) → Section p → Contained p q → (cr : List ℕ) (ds : List Drawing) (m n : ℕ)
      → Supported p cr ds m → Supported q cr ds n → n ≤ m
  pub mapped : (p q : Drawing) → Section p → Section q → Mapped p q → (cr : List ℕ) (ds : List Drawing) (m n : ℕ)
      → Supported p cr ds m → Supported q cr ds n → m ≡ n
  pub at_most : (p : Drawing) → Section p → (cr : List ℕ) (ds : List Drawing) → length cr ≡ length ds → (m n : ℕ)
      → Supported p cr ds m → DrawingsWith p ds n → m ≤ n
  pub all_differ : (p : Drawing) → Section p → (cr : List ℕ) (ds : List Drawing) → length cr ≡ length ds → (m n : ℕ)
      → Supported p cr ds m → DrawingsWith p ds n → Different cr → m ≡ n
  -- so a survey with drawing d as crane d has the entries that drawings counted one by one give
  pub old_kept : (bs : List ℕ) → ((d : ℕ) → d < length (survey bs) → get_or (cranes bs) d 256 ≡ d) → (s l : ℕ) (es : List Entry)
      → (Catalogue (cranes bs) (survey bs) s l es → CatalogueOneByOne (survey bs) s l es)
      × (CatalogueOneByOne (survey bs) s l es → Catalogue (cranes bs) (survey bs) s l es)

pub crane_rule : CraneRule
crane_rule =
    record {
      read_back = λ k d s. (drawing_in_bytes k d s.devices_high s.cables_high, crane_in_bytes k d s.devices_high s.cables_high);
      written_back = drawing_bytes_in;
      accepted_as = drawing_bytes_accepted;
      refused = sheets.refused_alike;
      coded = sheets.code_alike;
      as_pattern = sheets.pattern_alike;
      as_drawing = sheets.drawing_alike;
      as_first = sheets.first_alike;
      as_second = sheets.second_alike;
      same = sheets.sheets_same;
      falls = λ p q s. supports_fall p q s.simple.ends;
      mapped = λ p q s t m. supports_same p q s.simple.ends t.simple.ends (sheets.mapped_contained p q s t m).0
          (sheets.mapped_contained p q s t m).1;
      at_most = λ p s. cranes_at_most p s.simple.ends;
      all_differ = λ p s. cranes_all p s.simple.ends;
      old_kept = λ bs numbered s l es. (sheets.catalogue_kept bs numbered s l es, sheets.kept_catalogue bs numbered s l es);
    }

-- THE RULE OF EXAMPLES: the example of a pattern is the lowest number of a drawing of the survey that contains it, whatever its crane
pub record ExampleRule : Type 0 where
  -- where it has support it has an example, and just one
  pub there : (p : Drawing) → Section p → (cr : List ℕ) (ds : List Drawing) → length cr ≡ length ds → (n : ℕ) → Supported p cr ds n → 1 ≤ n
      → (k : ℕ) × FirstWith p ds k
  pub one : (p : Drawing) → Section p → (ds : List Drawing) (m n : ℕ) → FirstWith p ds m → FirstWith p ds n → m ≡ n
  -- it does not fall as a pattern grows, and looks at the pattern up to a map alone
  pub rises : (p q : Drawing) → Section p → Contained p q → (ds : List Drawing) (m n : ℕ) → FirstWith p ds m → FirstWith q ds n → m ≤ n
  pub mapped : (p q : Drawing) → Section p → Section q → Mapped p q → (ds : List Drawing) (m n : ℕ)
      → FirstWith p ds m → FirstWith q ds n → m ≡ n

pub example_rule : ExampleRule
example_rule =
    record {
      there = λ p s. first_there p s.simple.ends;
      one = λ p s ds m n x y. first_with_is p s.simple.ends ds m x ∙ sym (first_with_is p s.simple.ends ds n y);
      rises = λ p q s. first_rises p s.simple.ends q;
      mapped = λ p q s t m. let c = sheets.mapped_contained p q s t m in first_same p q s.simple.ends t.simple.ends c.0 c.1;
    }

-- THE RULE OF THE BOOK, as the third demand has it of a catalogue: each pattern of 1 to l cables with device kinds below a and cable kinds below
-- b has just one entry, with its least code, support 0 and example 0, there is no other entry, and codes rise (`WholeBook`, field by field); and
-- for all a, b and l there is just one such list
pub record BookRule : Type 0 where
  pub whole : (a b l n : ℕ) (o z : List ℕ) → BookSays a b l (Ok n) o z → WholeBook a b l n o z
  pub there : BookThere

pub book_rule : BookRule
book_rule = record { whole = whole_book; there = book_there }

-- THE RULE OF LISTS MADE ELSEWHERE: the check of a list agrees with the call that writes the catalogue, on every input
pub record CheckRule : Type 0 where
  -- what that call wrote to its end is answered yes, and every other list no, or 18 where it is not made of whole entries
  pub written_yes : (bs : List ℕ) (s l n : ℕ) (o z : List ℕ) → CatalogueSays bs s l (Ok n) o z
      → (r : Result Bool Fault) → CheckSays bs s l (written_entries n z) r → r ≡ Ok true
  pub other_no : (bs : List ℕ) (s l n : ℕ) (o z : List ℕ) → CatalogueSays bs s l (Ok n) o z
      → (list : List ℕ) → (list ≡ written_entries n z → ⊥) → (r : Result Bool Fault) → CheckSays bs s l list r
      → (length list % entry_size ≡ 0 → r ≡ Ok false) × ((length list % entry_size ≡ 0 → ⊥) → r ≡ Err (lone_fault refusal.ListLength))
  -- a list that is answered yes is what it writes if there is room, and 15 if there is none
  pub yes_written : (bs : List ℕ) (s l : ℕ) (list : List ℕ) → CheckSays bs s l list (Ok true)
      → (r : Result ℕ Fault) (o z : List ℕ) → CatalogueSays bs s l r o z → length list ≤ length o
      → (r ≡ Ok (length list / entry_size)) × (z ≡ in_front list o)
  pub yes_no_room : (bs : List ℕ) (s l : ℕ) (list : List ℕ) → CheckSays bs s l list (Ok true)
      → (r : Result ℕ Fault) (o z : List ℕ) → CatalogueSays bs s l r o z → length o < length list
      → (r ≡ Err (lone_fault refusal.OutputLength)) × (z ≡ replicate (length o) 0)
  -- what it refuses, but 15, the check refuses alike, whatever the list
  pub refused_alike : (bs : List ℕ) (s l : ℕ) (list : List ℕ) (r : Result ℕ Fault) (t : Result Bool Fault) (o z : List ℕ)
      → 0 < (survey_refusal bs s l).number → CatalogueSays bs s l r o z → CheckSays bs s l list t → list_refusal t ≡ catalogued_refusal r
  -- no two lists are answered yes
  pub one_yes : (bs : List ℕ) (s l : ℕ) (xs ys : List ℕ) → CheckSays bs s l xs (Ok true) → CheckSays bs s l ys (Ok true) → xs ≡ ys
  -- so a right list that is cut short, or has entries behind it, is a no
  pub cut_short : (bs : List ℕ) (s l : ℕ) (xs ys : List ℕ) → CheckSays bs s l (xs ++ ys) (Ok true) → 0 < length ys → length xs % entry_size ≡ 0
      → (r : Result Bool Fault) → CheckSays bs s l xs r → r ≡ Ok false
  -- and so is one with another byte, as the example of an entry
  pub another_byte : (bs : List ℕ) (s l : ℕ) (list : List ℕ) → CheckSays bs s l list (Ok true)
      → (i : ℕ) → i < length list → (x : ℕ) → (x ≡ get_or list i 0 → ⊥) → (r : Result Bool Fault) → CheckSays bs s l (set list i x) r → r ≡ Ok false
  pub with_more : (bs : List ℕ) (s l : ℕ) (xs ys : List ℕ) → CheckSays bs s l xs (Ok true) → 0 < length ys → length ys % entry_size ≡ 0
      → (r : Result Bool Fault) → CheckSays bs s l (xs ++ ys) r → r ≡ Ok false
  -- the empty list is right exactly if the catalogue has no entry
  pub empty : (bs : List ℕ) (s l n : ℕ) (o z : List ℕ) → CatalogueSays bs s l (Ok n) o z → (r : Result Bool Fault) → CheckSays bs s l [] r
      → (r ≡ Ok true → n ≡ 0) × (n ≡ 0 → r ≡ Ok true)

pub check_rule : CheckRule
check_rule =
    record {
      written_yes = checks.written_yes;
      other_no = checks.other_no;
      yes_written = checks.yes_written;
      yes_no_room = checks.yes_no_room;
      refused_alike = checks.check_alike;
      one_yes = checks.one_yes;
      cut_short = checks.cut_short;
      another_byte = checks.another_byte;
      with_more = checks.with_more;
      empty = checks.empty_list;
    }

-- THE RULE OF SIZE LIMITS: with a smaller limit a catalogue has just those of its entries with a greater one that are of no more cables, with the
-- same supports and examples, in the same order
pub record LimitRule : Type 0 where
  pub entries : (cr : List ℕ) (ds : List Drawing) (s l m : ℕ) → l ≤ m → (gs : List Entry) → Catalogue cr ds s m gs
      → Catalogue cr ds s l (entries_within l gs) × ((es : List Entry) → Catalogue cr ds s l es → es ≡ entries_within l gs)
  -- so the call writes of what it writes with m the entries of at most l cables, byte for byte
  pub written : (bs : List ℕ) (s l m : ℕ) → l ≤ m → (n k : ℕ) (o p z w : List ℕ)
      → CatalogueSays bs s l (Ok n) o z → CatalogueSays bs s m (Ok k) p w → written_entries n z ≡ entries_up_to l k w
  -- it is refused alike with any two limits, but for 13 and 15; and where there is room for the entries with m there is room for those with l
  pub refused_alike : (bs : List ℕ) (s l m : ℕ) → 1 ≤ l → l ≤ 8 → 1 ≤ m → m ≤ 8 → survey_refusal bs s l ≡ survey_refusal bs s m
  pub room : (bs : List ℕ) (s l m : ℕ) → l ≤ m → 1 ≤ l → (k : ℕ) (o p w z : List ℕ) (r : Result ℕ Fault)
      → CatalogueSays bs s m (Ok k) o w → length o ≤ length p → CatalogueSays bs s l r p z → (n : ℕ) × (r ≡ Ok n) × (n ≤ k)
  -- where a list is answered yes with m, a list is answered yes with l exactly if it is the entries of that one of at most l cables
  pub checked : (bs : List ℕ) (s l m : ℕ) → l ≤ m → 1 ≤ l → (right : List ℕ) → CheckSays bs s m right (Ok true)
      → (list : List ℕ) (r : Result Bool Fault) → CheckSays bs s l list r
      → (r ≡ Ok true → list ≡ entries_up_to l (length right / entry_size) right)
      × (list ≡ entries_up_to l (length right / entry_size) right → r ≡ Ok true)
  -- of the two settings with a name: what the check for four cables says yes to is what the usual one does, up to four cables
  pub named : (bs right : List ℕ) → CheckSays bs usual.threshold usual.limit right (Ok true)
      → (list : List ℕ) (r : Result Bool Fault) → CheckSays bs former.threshold former.limit list r
      → (r ≡ Ok true → list ≡ entries_up_to former.limit (length right / entry_size) right)
      × (list ≡ entries_up_to former.limit (length right / entry_size) right → r ≡ Ok true)

pub limit_rule : LimitRule
limit_rule =
    record {
      entries = limits.catalogue_within;
      written = limits.written_within;
      refused_alike = limits.limits_alike;
      room = limits.room_within;
      checked = limits.checked_within;
      named = λ bs. limits.checked_within bs usual.threshold former.limit usual.limit (lit≤ tt) (lit≤ tt);
    }
