-- The answer of each call and every lent byte follow from its input: two outcomes that its contract allows are equal. Only where an
-- empty part of a refused survey lies is the reader's choice; what every choice has in common is that it has no byte. Rests on what each
-- call says, on one least code and one list of a family, and on a refusal's number telling its case. Assumes nothing.
use Rattle.std.specs.Prelude.{◌≡◌, refl, Bool, true, false, List, [], ◌⊎◌, ℕ, zero, suc, ◌*◌, ltb, length, Option, Some, None, ⊤, Result, Ok, Err}
use Rattle.std.proofs.Common.{sym, ap, ap₂, subst, ◌∙◌, inl, inr, arith, ltb-true, ltb-false}
use Rattle.std.proofs.Math.Option as maybe
use Rattle.std.specs.Borrow.{Bor}
use Rattle.laws.specs.Tests.{test}
use Rattle.laws.specs.Rows.{row}
use Rattle.graphs.specs.Drawing.{Drawing, devices, drawing_in, drawing_refusal}
use Rattle.graphs.specs.Map.{least_map}
use Rattle.graphs.specs.Survey as surveys
use Rattle.graphs.specs.Survey.{length_refusal, bytes_refusal, survey_refusal, drawing_count}
use Rattle.codes.specs.Code.{Rec, code_records, kinds_before}
use Rattle.codes.specs.CodeOrder.{kinds_order}
use Rattle.codes.specs.Agreement.{agreement}
use Rattle.codes.specs.SectionCode.{section_of, section_records}
use Rattle.codes.specs.SectionCodes.{least_section_unique}
use Rattle.growth.specs.Sizes.{entry_size}
use Rattle.growth.specs.Catalogue.{Entry, all_bytes, OftenIn, figures_of, Figures}
use Rattle.growth.specs.FamilyLists.{list_unique}
use Rattle.books.specs.Book.{Small, unsupported, book_refusal}
use Rattle.records.specs.declared.refusal.Refusal.{Refusal}
use Rattle.records.specs.Refusals.{number_of, checked_number, number_positive, first_of}
use Rattle.records.specs.Surveys.{survey_checked, SurveyAnswer}
use Rattle.records.specs.Catalogued.{catalogued_refusal, catalogued_count}
use Rattle.records.specs.ListsChecked.{list_refusal, list_value}
use Rattle.code_checks.specs.Answers.{Numbers, written_numbers, verdict_numbers, compared_numbers}
use Rattle.code_checks.specs.SectionChecks.{section_code_checked}
use Rattle.coding.specs.CodeDrawing.{coding_refusal, CodeAs, CodeSays}
use Rattle.decoding.specs.Decoding.{DecodeSays}
use Rattle.coding.specs.LeastSays.{verdict_of, LeastAnswer, LeastSays}
use Rattle.comparing.specs.Comparing.{CompareSays}
use Rattle.matching.specs.MatchAnswers.{
  match_refusal,
  match_count,
  same_refusal,
  same_value,
  match_number,
  MatchAs,
  MatchSays,
  SameAs,
  SameSays,
}
use Rattle.entries.specs.Written as says
use Rattle.entries.specs.Written.{ListAs, ListSays}
use Rattle.mining.specs.CatalogueSays.{CatalogueSays}
use Rattle.mining.specs.CheckSays.{ToldBy, check_refusal, CheckAs, CheckSays}
use Rattle.pattern_book.specs.BookSays.{BookSays}
use Rattle.reader.specs.declared.reader.Opened.{Opened}
use Rattle.reader.specs.Readers.{Fetched, fetch_checked, fetch_bytes, Opens, Fetches, FetchGives}
use Rattle.reader.specs.ReaderLaws.{refused_fetch, fetch_past, fetched_drawing}
use Rattle.text_lines.specs.Texts.{text_of}
use Rattle.printing.specs.Says.{Made, TextSays}
use Rattle.answer_numbers.specs.Packed.{packed, packed_numbers}
use Rattle.holvreiz.specs.Returns.{
  CodeReturns,
  DecodeReturns,
  LeastReturns,
  CompareReturns,
  MatchReturns,
  SameReturns,
  CatalogueReturns,
  BookReturns,
  CheckReturns,
}
use Rattle.demands.specs.RefusalCases.{
  Plain,
  plain,
  number_tells_case,
  drawing_plain,
  first_plain,
  short_plain,
  length_plain,
  bytes_plain,
  survey_plain,
  list_plain,
  book_plain,
}
use Rattle.records.specs.declared.refusal.Refusal.{Refusal}
use Rattle.records.specs.declared.refusal.Fault.{Fault}
use Rattle.code_checks.specs.declared.answer.Verdict.{Verdict}
use Rattle.code_checks.specs.declared.answer.Comparison.{Comparison}

-- THE SAME OUTCOME: the answer, and every lent byte
abbrev pub Agree : {A : Type 0} → (r s : A) → (z w : List ℕ) → Type 0
Agree r s z w = (r ≡ s) × (z ≡ w)

-- two refusals with one number that names no record are one
one_case : (n : ℕ) → Plain n → (x y : Refusal) → number_of x ≡ n → number_of y ≡ n → x ≡ y
one_case n p x y e f = number_tells_case x y (rw e p) (e ∙ sym f)

-- with one drawing at fault, whatever they are the refusals of
one_fault :
    (f : surveys.Refusal) → Plain f.number → (x y : Fault)
    → surveys.refusal (number_of x.refusal) x.drawing ≡ f → surveys.refusal (number_of y.refusal) y.drawing ≡ f → x ≡ y
unfolding surveys.refusal
one_fault f p x y e g =
    ap₂ {C = Fault} (λ r d. record { refusal = r; drawing = d })
    (one_case f.number p x.refusal y.refusal (ap (λ (z : surveys.Refusal). z.number) e) (ap (λ (z : surveys.Refusal). z.number) g))
    (ap (λ (z : surveys.Refusal). z.drawing) (e ∙ sym g))

-- CHECKS of a drawing, a survey's length, a survey, a code
one_check : (n : ℕ) → Plain n → (c d : Result ⊤ Refusal) → checked_number c ≡ n → checked_number d ≡ n → c ≡ d
one_check n p (Ok _) (Ok _) e f = refl
one_check n p (Ok _) (Err y) e f = absurd (omega (arith, e, f, number_positive y))
one_check n p (Err x) (Ok _) e f = absurd (omega (arith, e, f, number_positive x))
one_check n p (Err x) (Err y) e f = ap Err (one_case n p x y e f)

pub check_drawing_determined :
    (xs : List ℕ) (c d : Result ⊤ Refusal) → checked_number c ≡ drawing_refusal xs → checked_number d ≡ drawing_refusal xs → c ≡ d
check_drawing_determined xs c d = one_check (drawing_refusal xs) (drawing_plain xs) c d

pub check_length_determined :
    (bs : List ℕ) (c d : Result ⊤ Refusal) → checked_number c ≡ length_refusal bs → checked_number d ≡ length_refusal bs → c ≡ d
check_length_determined bs c d = one_check (length_refusal bs) (length_plain bs) c d

pub check_survey_determined :
    (bs : List ℕ) (r s : Result ℕ Fault) → SurveyAnswer (bytes_refusal bs) bs r → SurveyAnswer (bytes_refusal bs) bs s → r ≡ s
unfolding surveys.refusal
check_survey_determined bs r s a b = go r s refl refl a.refusal b.refusal
  where
    f : surveys.Refusal
    f = bytes_refusal bs

    number_at : surveys.Refusal → ℕ
    number_at x = x.number

    go : (u v : Result ℕ Fault) → r ≡ u → s ≡ v → survey_checked u ≡ f → survey_checked v ≡ f → u ≡ v
    go (Ok m) (Ok n) p q e g =
        ap Ok (a.drawings m p ∙ sym (b.drawings n q))
    go (Ok m) (Err y) p q e g =
        absurd (omega (arith, ap number_at e, ap number_at g, number_positive y.refusal))
    go (Err x) (Ok n) p q e g =
        absurd (omega (arith, ap number_at e, ap number_at g, number_positive x.refusal))
    go (Err x) (Err y) p q e g = ap Err (one_fault f (bytes_plain bs) x y e g)

pub check_code_determined : (bs : List ℕ) (c d : Result ⊤ Refusal) → c ≡ section_code_checked bs → d ≡ section_code_checked bs → c ≡ d
check_code_determined bs c d e f = e ∙ sym f

-- CODING
written_case : (n : ℕ) → Plain (suc n) → (r s : Result ℕ Refusal) → (written_numbers r).refusal ≡ suc n → (written_numbers s).refusal ≡ suc n → r ≡ s
written_case n p (Ok k) s e f = absurd (omega (arith, e))
written_case n p (Err x) (Ok k) e f = absurd (omega (arith, f))
written_case n p (Err x) (Err y) e f = ap Err (one_case (suc n) p x y e f)

pub code_determined : (xs o z w : List ℕ) (r s : Result ℕ Refusal) → CodeSays xs r o z → CodeSays xs s o w → Agree r s z w
unfolding CodeSays CodeAs coding_refusal
code_determined xs o z w r s =
    go (coding_refusal xs o)
    (first_plain (drawing_refusal xs) _ (drawing_plain xs) (short_plain (ltb (length o) (5 * section_records (drawing_in xs)))))
  where
    d : Drawing
    d = drawing_in xs

    refusal_at : Numbers → ℕ
    refusal_at m = m.refusal

    go : (n : ℕ) → Plain n → CodeAs n d r o z → CodeAs n d s o w → Agree r s z w
    go zero p a b =
        let e : a.code ≡ b.code = least_section_unique kinds_before kinds_order d a.code b.code a.least b.least in
        (rw (a.answer, b.answer, e), rw (a.output, b.output, e))
    go (suc n) p a b = (written_case n p r s (ap refusal_at a.answer) (ap refusal_at b.answer), a.output ∙ sym b.output)

-- DECODING
pub decode_determined : (bs o z w : List ℕ) (r s : Result ℕ Refusal) → DecodeSays bs r o z → DecodeSays bs s o w → Agree r s z w
decode_determined bs o z w r s a b = (a.answer ∙ sym b.answer, a.output ∙ sym b.output)

-- THE LEAST TEST
pub least_determined : (bs : List ℕ) (v w : Result Verdict Refusal) → LeastSays bs v → LeastSays bs w → v ≡ w
least_determined bs v w = go (section_code_checked bs)
  where
    rs : List Rec
    rs = code_records bs

    go : (c : Result ⊤ Refusal) → LeastAnswer c rs v → LeastAnswer c rs w → v ≡ w
    go (Err x) a b = a ∙ sym b
    go (Ok _) a b =
        let e = least_section_unique kinds_before kinds_order (section_of rs) a.code b.code a.least b.least in
        a.answer ∙ ap (λ (ls : List Rec). Ok (verdict_of (agreement rs ls) (length rs))) e ∙ sym b.answer

-- COMPARING
pub compare_determined : (xs ys : List ℕ) (r s : Result Comparison Refusal) → CompareSays xs ys r → CompareSays xs ys s → r ≡ s
unfolding CompareSays
compare_determined xs ys r s a b = a ∙ sym b

-- MATCHING
matched_case : (n : ℕ) → Plain (suc n) → (r s : Result (Option ℕ) Refusal) → match_refusal r ≡ suc n → match_refusal s ≡ suc n → r ≡ s
matched_case n p (Ok (Some k)) s e f = absurd (omega (arith, e))
matched_case n p (Ok None) s e f = absurd (omega (arith, e))
matched_case n p (Err x) (Ok (Some k)) e f = absurd (omega (arith, f))
matched_case n p (Err x) (Ok None) e f = absurd (omega (arith, f))
matched_case n p (Err x) (Err y) e f = ap Err (one_case (suc n) p x y e f)

two_plain : (xs ys : List ℕ) → Plain (first_of (drawing_refusal xs) (drawing_refusal ys))
two_plain xs ys = first_plain (drawing_refusal xs) (drawing_refusal ys) (drawing_plain xs) (drawing_plain ys)

pub match_determined : (xs ys o z w : List ℕ) (r s : Result (Option ℕ) Refusal) → MatchSays xs ys r o z → MatchSays xs ys s o w → Agree r s z w
unfolding MatchSays MatchAs match_number
match_determined xs ys o z w r s =
    go (match_number xs ys o)
    (first_plain (first_of (drawing_refusal xs) (drawing_refusal ys)) _ (two_plain xs ys) (short_plain (ltb (length o) (devices (drawing_in xs)))))
  where
    l : maybe.Option (List ℕ)
    l = least_map (drawing_in xs) (drawing_in ys)

    go : (n : ℕ) → Plain n → MatchAs n l r o z → MatchAs n l s o w → Agree r s z w
    go zero p a b = (a.answer ∙ sym b.answer, a.output ∙ sym b.output)
    go (suc n) p a b = (matched_case n p r s a.refusal b.refusal, a.output ∙ sym b.output)

-- SAMENESS
same_case : (n : ℕ) → Plain (suc n) → (r s : Result Bool Refusal) → same_refusal r ≡ suc n → same_refusal s ≡ suc n → r ≡ s
same_case n p (Ok true) s e f = absurd (omega (arith, e))
same_case n p (Ok false) s e f = absurd (omega (arith, e))
same_case n p (Err x) (Ok true) e f = absurd (omega (arith, f))
same_case n p (Err x) (Ok false) e f = absurd (omega (arith, f))
same_case n p (Err x) (Err y) e f = ap Err (one_case (suc n) p x y e f)

pub same_determined : (xs ys : List ℕ) (r s : Result Bool Refusal) → SameSays xs ys r → SameSays xs ys s → r ≡ s
unfolding SameSays SameAs
same_determined xs ys r s = go (first_of (drawing_refusal xs) (drawing_refusal ys)) (two_plain xs ys)
  where
    go : (n : ℕ) → Plain n → SameAs n (drawing_in xs) (drawing_in ys) r → SameAs n (drawing_in xs) (drawing_in ys) s → r ≡ s
    go zero p (inl a) (inl b) = a.0 ∙ sym b.0
    go zero p (inl a) (inr b) = absurd (b.1 a.1)
    go zero p (inr a) (inl b) = absurd (a.1 b.1)
    go zero p (inr a) (inr b) = a.0 ∙ sym b.0
    go (suc n) p a b = same_case n p r s a.refusal b.refusal

-- A CATALOGUE
catalogued_case :
    (f : surveys.Refusal) (n : ℕ) → f.number ≡ suc n → Plain f.number → (r s : Result ℕ Fault) → catalogued_refusal r ≡ f → catalogued_refusal s ≡ f
    → r ≡ s
unfolding surveys.refusal
catalogued_case f n m p (Ok k) s e g = absurd (omega (arith, m, ap (λ (x : surveys.Refusal). x.number) e))
catalogued_case f n m p (Err x) (Ok k) e g = absurd (omega (arith, m, ap (λ (x : surveys.Refusal). x.number) g))
catalogued_case f n m p (Err x) (Err y) e g = ap Err (one_fault f p x y e g)

entries_determined :
    (t : Bool) (es : List Entry) (o z w : List ℕ) (r s : Result ℕ Fault) → says.EntriesWritten t es r o z → says.EntriesWritten t es s o w
    → Agree r s z w
entries_determined true es o z w r s a b = (a.0 ∙ sym b.0, a.1 ∙ sym b.1)
entries_determined false es o z w r s a b = (a.0 ∙ sym b.0, a.1 ∙ sym b.1)

list_determined :
    (f : surveys.Refusal) → Plain f.number → (Wanted : Drawing → Type 0) (figure : Drawing → Figures) (l : ℕ) (o z w : List ℕ) (r s : Result ℕ Fault)
    → ListSays f Wanted figure l r o z → ListSays f Wanted figure l s o w → Agree r s z w
list_determined f plain_number Wanted figure l o z w r s = go f.number refl
  where
    go : (n : ℕ) → f.number ≡ n → ListAs n f Wanted figure l r o z → ListAs n f Wanted figure l s o w → Agree r s z w
    go zero e a b =
        let one : b.0 ≡ a.0 = list_unique kinds_before kinds_order Wanted figure l b.0 a.0 b.1 a.1 in
        entries_determined (ltb (length o) (entry_size * length a.0)) a.0 o z w r s a.2
        (subst (λ (es : List Entry). says.EntriesWritten (ltb (length o) (entry_size * length es)) es s o w) one b.2)
    go (suc n) e a b = (catalogued_case f n e plain_number r s a.0 b.0, a.1 ∙ sym b.1)

pub catalogue_determined :
    (bs : List ℕ) (t l : ℕ) (o z w : List ℕ) (r s : Result ℕ Fault) → CatalogueSays bs t l r o z → CatalogueSays bs t l s o w → Agree r s z w
catalogue_determined bs t l = list_determined (survey_refusal bs t l) (survey_plain bs t l) (OftenIn bs t) (figures_of bs) l

-- THE BOOK
pub book_determined :
    (a b l : ℕ) (o z w : List ℕ) (r s : Result ℕ Fault) → BookSays a b l r o z → BookSays a b l s o w → Agree r s z w
unfolding surveys.refusal
book_determined a b l = list_determined (surveys.refusal (book_refusal a b l) 0) (book_plain a b l) (Small a b) unsupported l

-- A LIST THAT IS CHECKED
list_case :
    (f : surveys.Refusal) (n : ℕ) → f.number ≡ suc n → Plain f.number → (r t : Result Bool Fault) → list_refusal r ≡ f → list_refusal t ≡ f → r ≡ t
unfolding surveys.refusal
list_case f n m p (Ok true) t e g = absurd (omega (arith, m, ap (λ (x : surveys.Refusal). x.number) e))
list_case f n m p (Ok false) t e g = absurd (omega (arith, m, ap (λ (x : surveys.Refusal). x.number) e))
list_case f n m p (Err x) (Ok true) e g = absurd (omega (arith, m, ap (λ (x : surveys.Refusal). x.number) g))
list_case f n m p (Err x) (Ok false) e g = absurd (omega (arith, m, ap (λ (x : surveys.Refusal). x.number) g))
list_case f n m p (Err x) (Err y) e g = ap Err (one_fault f p x y e g)

-- what tells whether one thing holds is one answer
told_once : (A : Type 0) (r t : Result Bool Fault) → ToldBy r A → ToldBy t A → r ≡ t
told_once A (Ok true) (Ok true) a b = refl
told_once A (Ok true) (Ok false) a b = absurd (b a)
told_once A (Ok true) (Err y) a b = absurd b
told_once A (Ok false) (Ok true) a b = absurd (a b)
told_once A (Ok false) (Ok false) a b = refl
told_once A (Ok false) (Err y) a b = absurd b
told_once A (Err x) t a b = absurd a

pub check_list_determined :
    (bs : List ℕ) (s l : ℕ) (list : List ℕ) (r t : Result Bool Fault) → CheckSays bs s l list r → CheckSays bs s l list t → r ≡ t
check_list_determined bs s l list r t = go (check_refusal bs s l list).number refl
  where
    f : surveys.Refusal
    f = check_refusal bs s l list

    go : (n : ℕ) → f.number ≡ n → CheckAs n f bs s l list r → CheckAs n f bs s l list t → r ≡ t
    go zero e (es, c, a) (gs, d, b) =
        let one : gs ≡ es = list_unique kinds_before kinds_order (OftenIn bs s) (figures_of bs) l gs es d c in
        told_once (list ≡ all_bytes es) r t a (subst (λ (hs : List Entry). ToldBy t (list ≡ all_bytes hs)) one b)
    go (suc n) e a b = list_case f n e (list_plain bs s l list) r t a b

-- THE TEXT of an answer
made_determined : (t : Bool) (bs o z w : List ℕ) (r s : Option ℕ) → Made t bs r o z → Made t bs s o w → Agree r s z w
made_determined true bs o z w r s a b = (a.0 ∙ sym b.0, a.1 ∙ sym b.1)
made_determined false bs o z w r s a b = (a.0 ∙ sym b.0, a.1 ∙ sym b.1)

pub text_determined :
    (a : Result ℕ Fault) (es o z w : List ℕ) (r s : Option ℕ) → TextSays a es r o z → TextSays a es s o w → Agree r s z w
text_determined a es o z w r s = made_determined (ltb (length o) (length (text_of a es))) (text_of a es) o z w r s

-- THE READER: its check, and the bytes of each drawing that is fetched
pub open_determined : (bs : Bor (List ℕ)) (r s : Opened) → Opens bs r → Opens bs s → r.checked ≡ s.checked
open_determined bs r s a b = check_length_determined bs.now r.checked s.checked a.refusal b.refusal

gives_one : (n : ℕ) → Plain n → (xs : List ℕ) (f g : Fetched) → FetchGives f n xs → FetchGives g n xs → (fetch_checked f ≡ fetch_checked g) ×
    (fetch_bytes f ≡ fetch_bytes g)
gives_one n p xs f g a b = (one_check n p (fetch_checked f) (fetch_checked g) a.refusal b.refusal, a.part ∙ sym b.part)

pub fetch_determined :
    (bs : Bor (List ℕ)) (r s : Opened) → Opens bs r → Opens bs s → (d : ℕ) (f g : Fetched) → Fetches r.reader d f → Fetches s.reader d g
    → (fetch_checked f ≡ fetch_checked g) × (fetch_bytes f ≡ fetch_bytes g)
fetch_determined bs r s a b d f g fetch other = go (test (ltb 0 (length_refusal bs.now))) (test (ltb d (drawing_count bs.now)))
  where
    go :
        (ltb 0 (length_refusal bs.now) ≡ true) ⊎ (ltb 0 (length_refusal bs.now) ≡ false)
        → (ltb d (drawing_count bs.now) ≡ true) ⊎ (ltb d (drawing_count bs.now) ≡ false)
        → (fetch_checked f ≡ fetch_checked g) × (fetch_bytes f ≡ fetch_bytes g)
    go (inl h) t = let p = ltb-true _ _ h in gives_one 14 (plain 14 refl refl) [] f g (refused_fetch a fetch p) (refused_fetch b other p)
    go (inr h) (inl t) =
        let none : length_refusal bs.now ≡ 0 = omega (arith, ltb-false 0 (length_refusal bs.now) h) in
        let below = ltb-true d (drawing_count bs.now) t in
        gives_one 0 (plain 0 refl refl) (row 73 d bs.now) f g (fetched_drawing a fetch none below) (fetched_drawing b other none below)
    go (inr h) (inr t) =
        let none : length_refusal bs.now ≡ 0 = omega (arith, ltb-false 0 (length_refusal bs.now) h) in
        let past = ltb-false d (drawing_count bs.now) t in
        gives_one 14 (plain 14 refl refl) [] f g (fetch_past a fetch none past) (fetch_past b other none past)

-- THE C INTERFACE: the number returned, and every lent byte
pub c_code_determined : (xs o z w : List ℕ) (x y : ℕ) → CodeReturns xs x o z → CodeReturns xs y o w → Agree x y z w
c_code_determined xs o z w x y a b =
    let t = code_determined xs o z w a.answer b.answer a.says b.says in
    (a.number ∙ ap (λ (r : Result ℕ Refusal). packed_numbers (written_numbers r)) t.0 ∙ sym b.number, t.1)

pub c_decode_determined : (bs o z w : List ℕ) (x y : ℕ) → DecodeReturns bs x o z → DecodeReturns bs y o w → Agree x y z w
c_decode_determined bs o z w x y a b =
    let t = decode_determined bs o z w a.answer b.answer a.says b.says in
    (a.number ∙ ap (λ (r : Result ℕ Refusal). packed_numbers (written_numbers r)) t.0 ∙ sym b.number, t.1)

pub c_least_determined : (bs : List ℕ) (x y : ℕ) → LeastReturns bs x → LeastReturns bs y → x ≡ y
c_least_determined bs x y a b =
    a.number ∙ ap (λ (v : Result Verdict Refusal). packed_numbers (verdict_numbers v)) (least_determined bs a.answer b.answer a.says b.says)
    ∙ sym b.number

pub c_compare_determined : (xs ys : List ℕ) (x y : ℕ) → CompareReturns xs ys x → CompareReturns xs ys y → x ≡ y
c_compare_determined xs ys x y a b =
    a.number ∙ ap (λ (r : Result Comparison Refusal). packed_numbers (compared_numbers r)) (compare_determined xs ys a.answer b.answer a.says b.says)
    ∙ sym b.number

pub c_match_determined : (xs ys o z w : List ℕ) (x y : ℕ) → MatchReturns xs ys x o z → MatchReturns xs ys y o w → Agree x y z w
c_match_determined xs ys o z w x y a b =
    let t = match_determined xs ys o z w a.answer b.answer a.says b.says in
    (a.number ∙ ap (λ (r : Result (Option ℕ) Refusal). packed (match_refusal r) (match_count r) 0) t.0 ∙ sym b.number, t.1)

pub c_same_determined : (xs ys : List ℕ) (x y : ℕ) → SameReturns xs ys x → SameReturns xs ys y → x ≡ y
c_same_determined xs ys x y a b =
    a.number
    ∙ ap (λ (r : Result Bool Refusal). packed (same_refusal r) (same_value r) 0) (same_determined xs ys a.answer b.answer a.says b.says)
    ∙ sym b.number

pub c_catalogue_determined :
    (bs : List ℕ) (t l : ℕ) (o z w : List ℕ) (x y : ℕ) → CatalogueReturns bs t l x o z → CatalogueReturns bs t l y o w → Agree x y z w
c_catalogue_determined bs t l o z w x y a b =
    let e = catalogue_determined bs t l o z w a.answer b.answer a.says b.says in (
      a.number
          ∙ ap (λ (r : Result ℕ Fault). packed (catalogued_refusal r).number (catalogued_count r) (catalogued_refusal r).drawing) e.0
          ∙ sym b.number,
      e.1,
    )

pub c_book_determined :
    (a b l : ℕ) (o z w : List ℕ) (x y : ℕ) → BookReturns a b l x o z → BookReturns a b l y o w → Agree x y z w
c_book_determined a b l o z w x y c d =
    let e = book_determined a b l o z w c.answer d.answer c.says d.says in (
      c.number
          ∙ ap (λ (r : Result ℕ Fault). packed (catalogued_refusal r).number (catalogued_count r) (catalogued_refusal r).drawing) e.0
          ∙ sym d.number,
      e.1,
    )

pub c_check_list_determined :
    (bs : List ℕ) (s l : ℕ) (list : List ℕ) (x y : ℕ) → CheckReturns bs s l list x → CheckReturns bs s l list y → x ≡ y
c_check_list_determined bs s l list x y a b =
    a.number
    ∙ ap (λ (r : Result Bool Fault). packed (list_refusal r).number (list_value r) (list_refusal r).drawing)
    (check_list_determined bs s l list a.answer b.answer a.says b.says)
    ∙ sym b.number
