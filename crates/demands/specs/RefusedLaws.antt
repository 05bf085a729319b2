-- Each call is turned back as the table says. Rests on what each call says. Assumes nothing.
use Rattle.std.specs.Prelude.{◌≡◌, Bool, true, false, cond, List, [], ℕ, zero, suc, ◌*◌, ◌≤◌, ◌<◌, ltb, eqb, length, Option, ⊤, Result, Ok, Err}
use Rattle.std.proofs.Math.Path.{refl, ap}
use Rattle.std.proofs.Common.{subst, ◌∙◌, ⊎_elim, not-suc-le-zero, arith, lt-ltb, le-ltb, ne_eqb}
use Rattle.std.proofs.Math.Option.{none, some}
use Rattle.std.proofs.Math.Option as maybe
use Rattle.graphs.specs.Drawing.{Drawing, devices, drawing_in, drawing_refusal}
use Rattle.graphs.specs.Survey as surveys
use Rattle.graphs.specs.Survey.{survey_refusal}
use Rattle.graphs.specs.Map.{least_map}
use Rattle.codes.specs.Code.{code_records, kinds_before}
use Rattle.codes.specs.CodeOrder.{kinds_order}
use Rattle.codes.specs.SectionCode.{section_code_refusal, section_records}
use Rattle.growth.specs.Sizes.{entry_size}
use Rattle.growth.specs.Catalogue.{Entry, ListOf, OftenIn, figures_of, Figures}
use Rattle.growth.specs.FamilyLists.{list_unique}
use Rattle.books.specs.Book.{Small, unsupported, book_refusal}
use Rattle.records.specs.Refusals.{checked_number, first_of}
use Rattle.code_checks.specs.Answers.{written_numbers, verdict_numbers, compared_numbers, Numbers, numbers, put_bytes}
use Rattle.code_checks.specs.AnswerLaws.{put_numbers}
use Rattle.code_checks.specs.SectionChecks.{section_code_checked}
use Rattle.code_checks.specs.SectionCheckLaws.{section_checked_number}
use Rattle.coding.specs.CodeDrawing.{coding_refusal, CodeAs, CodeSays}
use Rattle.decoding.specs.Decoding.{decode_checked, decoded_bytes, DecodeSays}
use Rattle.decoding.specs.DecodingLaws.{decode_checked_number}
use Rattle.coding.specs.LeastSays.{LeastAnswer, LeastSays}
use Rattle.comparing.specs.Comparing.{compared_count, CompareSays}
use Rattle.comparing.specs.ComparingLaws.{compare_says_numbers}
use Rattle.matching.specs.MatchAnswers.{
  match_refusal,
  match_count,
  same_refusal,
  same_value,
  match_number,
  map_answer,
  MatchAs,
  MatchSays,
  SameAs,
  SameSays,
}
use Rattle.records.specs.Catalogued.{catalogued_refusal, catalogued_count}
use Rattle.entries.specs.Written.{EntriesWritten as WrittenEntries, ListWritten, ListAs, ListSays}
use Rattle.mining.specs.CatalogueSays.{CatalogueSays}
use Rattle.pattern_book.specs.BookSays.{BookSays}
use Rattle.demands.specs.Coding.{least_refusal}
use Rattle.demands.specs.Terms.{too_short, RefusedAs, ListRefused, CatalogueRefused, BookRefused}
use Rattle.records.specs.declared.refusal.Refusal.{Refusal}
use Rattle.records.specs.declared.refusal.Fault.{Fault}
use Rattle.code_checks.specs.declared.answer.Verdict.{Verdict}
use Rattle.code_checks.specs.declared.answer.Comparison.{Comparison}

-- CODING
code_as_refused : (n : ℕ) (d : Drawing) (r : Result ℕ Refusal) (o z : List ℕ) → CodeAs n d r o z
    → RefusedAs n (written_numbers r).refusal (written_numbers r).count o z
unfolding CodeAs
code_as_refused zero d r o z s =
    record { one = rw s.answer; uncounted = λ h. absurd (not-suc-le-zero h); untouched = λ h. absurd (not-suc-le-zero h) }
code_as_refused (suc n) d r o z s = record { one = rw s.answer; uncounted = λ h. rw s.answer; untouched = λ h. s.output }

pub code_turned_back : (xs : List ℕ) (r : Result ℕ Refusal) (o z : List ℕ) → CodeSays xs r o z
    → RefusedAs (first_of (drawing_refusal xs) (too_short (5 * section_records (drawing_in xs)) o)) (written_numbers r).refusal
    (written_numbers r).count o z
unfolding CodeSays coding_refusal
code_turned_back xs r o z s = code_as_refused (coding_refusal xs o) (drawing_in xs) r o z s

-- in numbers: what is counted is 0 unless the refusal is
numbers_refused : (n c : ℕ) (m : Numbers) (o z : List ℕ) → m ≡ numbers n (cond (eqb n 0) c 0) → (0 < n → z ≡ o)
    → RefusedAs n m.refusal m.count o z
numbers_refused n c m o z e same =
    record { one = rw e; uncounted = λ h. let d : n ≡ 0 → ⊥ = λ q. omega arith in rw (e, ne_eqb n 0 d); untouched = same }

-- DECODING
put_untouched : (c : Result ⊤ Refusal) (bytes o : List ℕ) → 0 < checked_number c → put_bytes c bytes o ≡ o
put_untouched (Ok _) bytes o h = absurd (not-suc-le-zero h)
put_untouched (Err r) bytes o h = refl

pub decode_turned_back : (bs : List ℕ) (r : Result ℕ Refusal) (o z : List ℕ) → DecodeSays bs r o z
    → RefusedAs (first_of (section_code_refusal bs) (too_short 73 o)) (written_numbers r).refusal (written_numbers r).count o z
decode_turned_back bs r o z s =
    rw (← decode_checked_number bs o)
    (numbers_refused (checked_number (decode_checked bs o)) (length (decoded_bytes bs)) (written_numbers r) o z
    (put_numbers (decode_checked bs o) (decoded_bytes bs) r o z s)
    (λ h. s.output ∙ put_untouched (decode_checked bs o) (decoded_bytes bs) o h))

-- THE LEAST TEST
pub least_turned_back : (bs : List ℕ) (v : Result Verdict Refusal) → LeastSays bs v
    → RefusedAs (section_code_refusal bs) (verdict_numbers v).refusal (verdict_numbers v).count [] []
least_turned_back bs v s = record {
  one = least_refusal bs v s;
  uncounted = rw (← section_checked_number bs)
      (go (section_code_checked bs) s);
  untouched = λ h. refl;
}
  where
    go : (c : Result ⊤ Refusal) → LeastAnswer c (code_records bs) v → 0 < checked_number c → (verdict_numbers v).count ≡ 0
    go (Ok _) a h = absurd (not-suc-le-zero h)
    go (Err r) a h = rw a

-- COMPARING
pub compare_turned_back : (xs ys : List ℕ) (r : Result Comparison Refusal) → CompareSays xs ys r
    → RefusedAs (first_of (section_code_refusal xs) (section_code_refusal ys)) (compared_numbers r).refusal (compared_numbers r).count [] []
compare_turned_back xs ys r s =
    numbers_refused (first_of (section_code_refusal xs) (section_code_refusal ys)) (compared_count (code_records xs) (code_records ys))
    (compared_numbers r) [] []
    (compare_says_numbers xs ys r s) (λ h. refl)

-- MATCHING
found_refusal : (l : maybe.Option (List ℕ)) → match_refusal (map_answer l) ≡ 0
found_refusal none = refl
found_refusal (some f) = refl

match_as_refused : (n : ℕ) (l : maybe.Option (List ℕ)) (r : Result (Option ℕ) Refusal) (o z : List ℕ) → MatchAs n l r o z
    → RefusedAs n (match_refusal r) (match_count r) o z
unfolding MatchAs
match_as_refused zero l r o z s =
    record {
      one = ap match_refusal s.answer ∙ found_refusal l;
      uncounted = λ h. absurd (not-suc-le-zero h);
      untouched = λ h. absurd
          (not-suc-le-zero h);
    }
match_as_refused (suc n) l r o z s = record { one = s.refusal; uncounted = λ h. s.count; untouched = λ h. s.output }

pub match_turned_back : (xs ys : List ℕ) (r : Result (Option ℕ) Refusal) (o z : List ℕ) → MatchSays xs ys r o z
    → RefusedAs (first_of (first_of (drawing_refusal xs) (drawing_refusal ys)) (too_short (devices (drawing_in xs)) o)) (match_refusal r)
    (match_count r) o z
unfolding MatchSays match_number
match_turned_back xs ys r o z s = match_as_refused (match_number xs ys o) (least_map (drawing_in xs) (drawing_in ys)) r o z s

-- SAMENESS
same_as_refused : (n : ℕ) (d e : Drawing) (r : Result Bool Refusal) → SameAs n d e r → RefusedAs n (same_refusal r) (same_value r) [] []
unfolding SameAs
same_as_refused zero d e r s =
    record {
      one = ⊎_elim (λ a. ap same_refusal a.0) (λ a. ap same_refusal a.0) s;
      uncounted = λ h. absurd (not-suc-le-zero h);
      untouched = λ h. refl;
    }
same_as_refused (suc n) d e r s = record { one = s.refusal; uncounted = λ h. s.value; untouched = λ h. refl }

pub same_turned_back : (xs ys : List ℕ) (r : Result Bool Refusal) → SameSays xs ys r
    → RefusedAs (first_of (drawing_refusal xs) (drawing_refusal ys)) (same_refusal r) (same_value r) [] []
unfolding SameSays
same_turned_back xs ys r s = same_as_refused (first_of (drawing_refusal xs) (drawing_refusal ys)) (drawing_in xs) (drawing_in ys) r s

-- A LIST of patterns
module _ (f : surveys.Refusal) (Wanted : Drawing → Type 0) (figure : Drawing → Figures) (l : ℕ) (r : Result ℕ Fault) (o z : List ℕ) where
  early : (n : ℕ) → f.number ≡ n → ListAs n f Wanted figure l r o z → 0 < n → (catalogued_refusal r ≡ f) × (catalogued_count r ≡ 0) × (z ≡ o)
  early zero e a h = absurd (not-suc-le-zero h)
  early (suc n) e (g, w) h = (g, uncounted r g, w)
    where
      uncounted : (r : Result ℕ Fault) → catalogued_refusal r ≡ f → catalogued_count r ≡ 0
      uncounted (Ok k) q =
          let none : (catalogued_refusal (Ok k)).number ≡ 0 = unfold surveys.refusal in refl in
          absurd (omega (arith, ap (λ (x : surveys.Refusal). x.number) q))
      uncounted (Err x) q = refl

  -- the entries that are written, or do not fit, are those of any list of the family: there is just one
  module _ (fine : f.number ≡ 0) (says : ListSays f Wanted figure l r o z) where
    listed : ListWritten Wanted figure l o r z
    listed = subst (λ (n : ℕ). ListAs n f Wanted figure l r o z) fine says

    module _ (es : List Entry) (c : ListOf kinds_before Wanted figure l es) where
      written : WrittenEntries (ltb (length o) (entry_size * length es)) es r o z
      written =
          subst (λ (gs : List Entry). WrittenEntries (ltb (length o) (entry_size * length gs)) gs r o z)
          (list_unique kinds_before kinds_order Wanted figure l listed.0 es listed.1 c) listed.2

      short : length o < entry_size * length es → WrittenEntries true es r o z
      short h = subst (λ (t : Bool). WrittenEntries t es r o z) (lt-ltb (length o) (entry_size * length es) h) written

      enough : entry_size * length es ≤ length o → WrittenEntries false es r o z
      enough h = subst (λ (t : Bool). WrittenEntries t es r o z) (le-ltb (length o) (entry_size * length es) h) written

  pub list_turned_back : ListSays f Wanted figure l r o z → ListRefused f Wanted figure l r o z
  list_turned_back says =
      record {
        early = early f.number refl says;
        there = λ fine. let m = listed fine says in (m.0, m.1);
        short = λ fine es c h. short fine says es c h;
        enough = λ fine es c h. enough fine says es c h;
      }

pub catalogue_turned_back : (bs : List ℕ) (s l : ℕ) (r : Result ℕ Fault) (o z : List ℕ) → CatalogueSays bs s l r o z → CatalogueRefused bs s l r o z
catalogue_turned_back bs s l = list_turned_back (survey_refusal bs s l) (OftenIn bs s) (figures_of bs) l

pub book_turned_back : (a b l : ℕ) (r : Result ℕ Fault) (o z : List ℕ) → BookSays a b l r o z → BookRefused a b l r o z
book_turned_back a b l = list_turned_back (surveys.refusal (book_refusal a b l) 0) (Small a b) unsupported l
