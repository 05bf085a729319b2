-- The least test, case by case: a lone device's code, and a DFS code; and what its answer tells. Rests on SectionCodes and LeastAgreements.
-- Assumes nothing.
use Rattle.std.specs.Prelude.{◌≡◌, refl, Bool, true, false, List, ◌⊎◌, ℕ, ◌/◌, ◌≤◌, eqb, length, Result, Ok, Err, ⊤}
use Rattle.std.proofs.Common.{sym, ap, ◌∙◌, subst, inl, inr, arith, lit≤, eqb-true}
use Rattle.std.proofs.lemmas.Bool.{eqb-false}
use Rattle.laws.specs.Tests.{true_and_false}
use Rattle.codes.specs.Code.{Rec, code_records, rows_good, decoded, kinds_before}
use Rattle.codes.specs.CodeOrder.{kinds_order}
use Rattle.codes.specs.Agreement.{agreement}
use Rattle.codes.specs.AgreementLaws.{agreement_first, agreement_whole, agreement_itself}
use Rattle.codes.specs.CodeBytes.{recs_in_length, accepted_code}
use Rattle.codes.specs.LeastCode.{least_code_there}
use Rattle.codes.specs.SectionCode.{lone_bytes, records_good, section_code_refusal, section_of, LeastSection}
use Rattle.codes.specs.SectionCodes.{
  lone_code_of,
  lone_least,
  least_pattern,
  section_of_rows,
  row_good_from_test,
  row_simple,
  row_coded,
  least_section_unique,
}
use Rattle.codes.specs.SectionBytes.{AcceptedAs, accepted_as, section_code_length}
use Rattle.records.specs.declared.refusal.Refusal.{Refusal}
use Rattle.code_checks.specs.declared.answer.Verdict.{Verdict}
use Rattle.code_checks.specs.Answers.{verdict_agreement}
use Rattle.code_checks.specs.SectionChecks.{section_code_checked}
use Rattle.code_checks.specs.SectionCheckLaws.{section_checked_few}
use Rattle.tables.specs.TableOfCode.{ByteCode, code_pattern}
use Rattle.least_seen.specs.Betters.{FirstOfStarts}
use Rattle.least_test.specs.LeastAgreements.{starts_agreement}
use Rattle.coding.specs.LeastSays.{verdict_of, yes, no, LeastTold, LeastAnswer, LeastSays}

-- A LONE DEVICE'S CODE is least
pub lone_code_least :
    (bs : List ℕ) → section_code_refusal bs ≡ 0 → lone_bytes bs ≡ true → LeastSection (section_of (code_records bs)) (code_records bs)
lone_code_least bs fine t = go (accepted_as bs fine)
  where
    go : AcceptedAs bs → LeastSection (section_of (code_records bs)) (code_records bs)
    go (AcceptedAs.lone k u e) = rw (e, lone_code_of k) (lone_least kinds_before k)
    go (AcceptedAs.cabled u z) = absurd (true_and_false t u)

-- with its one record it agrees in one
pub lone_told : (bs : List ℕ) → section_code_refusal bs ≡ 0 → lone_bytes bs ≡ true → LeastTold (code_records bs) (Ok (yes 1))
lone_told bs fine t = go (accepted_as bs fine)
  where
    go : AcceptedAs bs → LeastTold (code_records bs) (Ok (yes 1))
    go (AcceptedAs.lone k u e) =
        record {
          code = code_records bs;
          least = lone_code_least bs fine t;
          answer = rw (agreement_itself (code_records bs), e);
        }
    go (AcceptedAs.cabled u z) = absurd (true_and_false t u)

-- A DFS CODE: the first record before which some start has another is where it parts from the least code
module _ {bs : List ℕ} (A : ByteCode bs) where
  good : rows_good (code_records bs) ≡ true
  good = (accepted_code bs A.accepted).good

  is_decoded : section_of (code_records bs) ≡ decoded (code_records bs)
  is_decoded = section_of_rows (code_records bs) good

  pub dfs_told : (r : ℕ) {v : Verdict} → FirstOfStarts (code_records bs) (length bs / 5) 0 r → v ≡ verdict_of r (length bs / 5)
      → LeastTold (code_records bs) (Ok v)
  dfs_told r first is =
      let l = least_code_there kinds_before kinds_order (decoded (code_records bs)) (code_pattern A) in
      let n = recs_in_length (length bs / 5) bs in
      let a =
      starts_agreement (code_records bs) good (code_pattern A) l.0 l.1 r
      (subst (λ (m : ℕ). FirstOfStarts (code_records bs) m 0 r) (sym n) first) in
      record { code = l.0; least = rw is_decoded (least_pattern kinds_before (code_pattern A) l.1); answer = rw (a, n) (ap Ok is) }

-- WHAT THE ANSWER TELLS: the agreement with the least code
pub told_agreement : {rs : List Rec} {v : Result Verdict Refusal} (t : LeastTold rs v) → verdict_agreement v ≡ agreement rs t.code
told_agreement t = ap verdict_agreement t.answer

-- and, of an accepted code, whether it is that one
module _ {rs : List Rec} {v : Result Verdict Refusal} (t : LeastTold rs v) (good : records_good rs ≡ true) where
  sizes : length rs ≡ length t.code
  sizes =
      let s = row_simple rs (row_good_from_test rs good) in
      section_code_length (section_of rs) s rs (row_coded rs good) ∙ sym (section_code_length (section_of rs) s t.code t.least.code)

  itself : LeastSection (section_of rs) rs → agreement rs t.code ≡ length rs
  itself l =
      ap (agreement rs) (least_section_unique kinds_before kinds_order (section_of rs) t.code rs t.least l) ∙ agreement_itself rs

  pub told_least :
      ((v ≡ Ok (yes (length rs))) × LeastSection (section_of rs) rs)
      ⊎ ((v ≡ Ok (no (agreement rs t.code))) × (LeastSection (section_of rs) rs → ⊥))
  told_least = go (eqb (agreement rs t.code) (length rs)) refl
    where
      go : (b : Bool) → eqb (agreement rs t.code) (length rs) ≡ b
          → ((v ≡ Ok (yes (length rs))) × LeastSection (section_of rs) rs)
          ⊎ ((v ≡ Ok (no (agreement rs t.code))) × (LeastSection (section_of rs) rs → ⊥))
      go true e =
          let a = eqb-true (agreement rs t.code) (length rs) e in
          inl (
            t.answer ∙ rw e (ap (λ (k : ℕ). Ok (yes k)) a),
            subst (LeastSection (section_of rs)) (sym (agreement_whole rs t.code sizes a)) t.least,
          )
      go false e = inr (t.answer ∙ rw e, λ l. eqb-false (agreement rs t.code) (length rs) e (itself l))

-- no code agrees in more than 20 records
pub least_agreement_most : (bs : List ℕ) (v : Result Verdict Refusal) → LeastSays bs v → verdict_agreement v ≤ 20
least_agreement_most bs v says = go (section_code_checked bs) refl says
  where
    go : (c : Result ⊤ Refusal) → section_code_checked bs ≡ c → LeastAnswer c (code_records bs) v → verdict_agreement v ≤ 20
    go (Err x) e w = rw w (lit≤ tt)
    go (Ok tt) e w =
        omega (arith, told_agreement w, agreement_first (code_records bs) w.code, section_checked_few bs e)
