-- The checks, the reader, the text and the C calls are turned back as the table says. Rests on what each call says. Assumes nothing.
use Rattle.std.specs.Prelude.{◌≡◌, refl, Bool, List, [], ℕ, ◌*◌, ◌/◌, length, Option, ⊤, Result, Ok, Err}
use Rattle.std.proofs.Common.{ap, subst, ◌∙◌, arith, lt-ltb, le-ltb}
use Rattle.std.specs.Borrow.{Bor}
use Rattle.graphs.specs.Drawing.{devices, drawing_in, drawing_refusal}
use Rattle.graphs.specs.Survey as surveys
use Rattle.graphs.specs.Survey.{length_refusal, bytes_refusal}
use Rattle.codes.specs.SectionCode.{section_code_refusal, section_records}
use Rattle.records.specs.Refusals.{checked_number, number_positive, first_of}
use Rattle.records.specs.Surveys.{survey_checked, SurveyAnswer}
use Rattle.code_checks.specs.SectionChecks.{section_code_checked}
use Rattle.code_checks.specs.Answers.{written_numbers, verdict_numbers, compared_numbers}
use Rattle.code_checks.specs.SectionCheckLaws.{section_checked_number}
use Rattle.matching.specs.MatchAnswers.{match_count, same_value}
use Rattle.reader.specs.declared.reader.Opened.{Opened}
use Rattle.reader.specs.Readers.{Opens}
use Rattle.reader.specs.ReaderLaws.{refused_fetch, fetch_past, fetched_drawing}
use Rattle.text_lines.specs.Texts.{text_of}
use Rattle.printing.specs.Says.{Made, TextSays}
use Rattle.answer_numbers.specs.PackedLaws.{Tells}
use Rattle.holvreiz.specs.Returns.{
  CodeReturns,
  DecodeReturns,
  LeastReturns,
  CompareReturns,
  MatchReturns,
  SameReturns,
}
use Rattle.demands.specs.Terms.{too_short, RefusedAs, SurveyRefused, ReaderRefused, TextMade, ReturnedAs}
use Rattle.demands.specs.RefusedLaws.{
  code_turned_back,
  decode_turned_back,
  least_turned_back,
  compare_turned_back,
  match_turned_back,
  same_turned_back,
}
use Rattle.demands.specs.ReturnLaws.{
  code_tells,
  decode_tells,
  least_tells,
  compare_tells,
  match_tells,
  sameness_tells,
}
use Rattle.records.specs.declared.refusal.Refusal.{Refusal}
use Rattle.records.specs.declared.refusal.Fault.{Fault}

-- A CHECK has no output and counts nothing
checked_as : (n : ℕ) (c : Result ⊤ Refusal) → checked_number c ≡ n → RefusedAs n (checked_number c) 0 [] []
checked_as n c e = record { one = e; uncounted = λ h. refl; untouched = λ h. refl }

pub check_drawing_refused :
    (xs : List ℕ) (c : Result ⊤ Refusal) → checked_number c ≡ drawing_refusal xs → RefusedAs (drawing_refusal xs) (checked_number c) 0 [] []
check_drawing_refused xs = checked_as (drawing_refusal xs)

pub check_length_refused :
    (bs : List ℕ) (c : Result ⊤ Refusal) → checked_number c ≡ length_refusal bs → RefusedAs (length_refusal bs) (checked_number c) 0 [] []
check_length_refused bs = checked_as (length_refusal bs)

pub check_code_refused : (bs : List ℕ) (c : Result ⊤ Refusal) → c ≡ section_code_checked bs → RefusedAs (section_code_refusal bs) (checked_number c) 0 [] []
check_code_refused bs c e = checked_as (section_code_refusal bs) c (ap checked_number e ∙ section_checked_number bs)

pub check_survey_refused : (bs : List ℕ) (r : Result ℕ Fault) → SurveyAnswer (bytes_refusal bs) bs r → SurveyRefused bs r
unfolding surveys.refusal
check_survey_refused bs r a = record { one = a.refusal; counted = λ z. go r refl a.refusal z }
  where
    go : (s : Result ℕ Fault) → r ≡ s → survey_checked s ≡ bytes_refusal bs → (bytes_refusal bs).number ≡ 0 → r ≡ Ok (length bs / 73)
    go (Ok n) e f z = e ∙ ap Ok (a.drawings n e)
    go (Err x) e f z = absurd (omega (arith, number_positive x.refusal, ap (λ (y : surveys.Refusal). y.number) f, z))

-- THE READER
pub reader_refused : (bs : Bor (List ℕ)) (r : Opened) → Opens bs r → ReaderRefused bs r
reader_refused bs r a =
    record {
      one = a.refusal;
      no_drawings = λ h d f fetch. refused_fetch a fetch h;
      past = λ z d f fetch h. fetch_past a fetch z h;
      fetched = λ z d f fetch h. fetched_drawing a fetch z h;
    }

-- THE TEXT
pub text_made : (a : Result ℕ Fault) (es : List ℕ) (r : Option ℕ) (o z : List ℕ) → TextSays a es r o z → TextMade (text_of a es) r o z
text_made a es r o z s =
    record {
      short = λ h. subst (λ (t : Bool). Made t (text_of a es) r o z) (lt-ltb _ _ h) s;
      enough = λ h. subst (λ (t : Bool). Made t (text_of a es) r o z) (le-ltb _ _ h) s;
    }

-- THE C CALLS: the parts of the number are those of the answer
returned_as : (number refusal count x : ℕ) (o z : List ℕ) → Tells x refusal count 0 → RefusedAs number refusal count o z
    → ReturnedAs number x count o z
returned_as number refusal count x o z t r =
    record {
      refused =
          record { one = t.refusal_in ∙ r.one; uncounted = λ h. t.count_in ∙ r.uncounted h; untouched = r.untouched };
      counted = t.count_in;
      no_drawing = t.drawing_in;
    }

pub c_code_refused : (xs : List ℕ) (x : ℕ) (o z : List ℕ) (c : CodeReturns xs x o z)
    → ReturnedAs (first_of (drawing_refusal xs) (too_short (5 * section_records (drawing_in xs)) o)) x (written_numbers c.answer).count o z
c_code_refused xs x o z c = returned_as _ _ _ x o z (code_tells c) (code_turned_back xs c.answer o z c.says)

pub c_decode_refused : (bs : List ℕ) (x : ℕ) (o z : List ℕ) (c : DecodeReturns bs x o z)
    → ReturnedAs (first_of (section_code_refusal bs) (too_short 73 o)) x (written_numbers c.answer).count o z
c_decode_refused bs x o z c = returned_as _ _ _ x o z (decode_tells c) (decode_turned_back bs c.answer o z c.says)

pub c_least_refused : (bs : List ℕ) (x : ℕ) (c : LeastReturns bs x)
    → ReturnedAs (section_code_refusal bs) x (verdict_numbers c.answer).count [] []
c_least_refused bs x c = returned_as _ _ _ x [] [] (least_tells c) (least_turned_back bs c.answer c.says)

pub c_compare_refused : (xs ys : List ℕ) (x : ℕ) (c : CompareReturns xs ys x)
    → ReturnedAs (first_of (section_code_refusal xs) (section_code_refusal ys)) x (compared_numbers c.answer).count [] []
c_compare_refused xs ys x c = returned_as _ _ _ x [] [] (compare_tells c) (compare_turned_back xs ys c.answer c.says)

pub c_match_refused : (xs ys : List ℕ) (x : ℕ) (o z : List ℕ) (c : MatchReturns xs ys x o z)
    → ReturnedAs (first_of (first_of (drawing_refusal xs) (drawing_refusal ys)) (too_short (devices (drawing_in xs)) o)) x
    (match_count c.answer) o z
c_match_refused xs ys x o z c = returned_as _ _ _ x o z (match_tells c) (match_turned_back xs ys c.answer o z c.says)

pub c_same_refused : (xs ys : List ℕ) (x : ℕ) (c : SameReturns xs ys x)
    → ReturnedAs (first_of (drawing_refusal xs) (drawing_refusal ys)) x (same_value c.answer) [] []
c_same_refused xs ys x c = returned_as _ _ _ x [] [] (sameness_tells c) (same_turned_back xs ys c.answer c.says)
