-- A code checked: the number of what is said, and the lone device's one record. Rests on CheckLaws. Assumes nothing.
use Rattle.std.specs.Prelude.{◌≡◌, refl, Bool, ◌&&◌, not, ℕ, ◌/◌, ◌≤◌, eqb, Ok}
use Rattle.std.proofs.Common.{sym, ap, ◌∙◌, arith}
use Rattle.std.proofs.Math.Bool.{true, false, cond}
use mathlib.Core.List.{List, [], ◌∷◌}
use Rattle.std.proofs.Math.Dec.{leb}
use Rattle.std.proofs.Math.ListN.{length}
use borrow.Author.Tests.{leb-true, eq-eqb, ne_eqb}
use Rattle.laws.specs.Tests.{and_split}
use Rattle.laws.specs.Rows.{rows, row, row_zero}
use Rattle.codes.specs.Code.{Rec, rec_in, recs_in, code_records, code_refusal}
use Rattle.codes.specs.SectionCode.{lone_row, lone_refusal, lone_bytes, records_refusal, records_good, section_code_refusal}
use Rattle.codes.specs.SectionBytes.{accepted_section_code}
use Rattle.records.specs.Refusals.{checked_number}
use Rattle.readings.specs.Readings.{code_checked}
use Rattle.code_checks.specs.SectionChecks.{lone_checked, section_code_checked}
use Rattle.code_checks.specs.CheckLaws.{no_number, choice_number, code_checked_number}

-- THE PAPER'S NUMBER of what the check says
lone_checked_number : (rs : List Rec) → checked_number (lone_checked rs) ≡ lone_refusal rs
unfolding lone_checked lone_refusal
lone_checked_number [] = refl
lone_checked_number (r ∷ rs) =
    choice_number (not (eqb r.c 0)) _ _
    ∙ ap (cond (not (eqb r.c 0)) 10) (choice_number (not (eqb r.ki r.kj)) _ _)

module _ (bs : List ℕ) where
  pub section_checked_number : checked_number (section_code_checked bs) ≡ section_code_refusal bs
  unfolding section_code_checked section_code_refusal
  section_checked_number = go (lone_bytes bs)
    where
      go : (t : Bool) → checked_number (cond t (lone_checked (code_records bs)) (code_checked bs))
          ≡ cond t (lone_refusal (code_records bs)) (code_refusal bs)
      go true = lone_checked_number (code_records bs)
      go false = code_checked_number bs

  -- a code that is accepted has no refusal, and one without a refusal is accepted
  pub section_checked_accepted : section_code_checked bs ≡ Ok tt → section_code_refusal bs ≡ 0
  section_checked_accepted e = sym section_checked_number ∙ ap checked_number e

  pub section_accepted_checked : section_code_refusal bs ≡ 0 → section_code_checked bs ≡ Ok tt
  section_accepted_checked fine = no_number (section_code_checked bs) (section_checked_number ∙ fine)

  -- and has at most 20 records
  pub section_checked_few : section_code_checked bs ≡ Ok tt → length (code_records bs) ≤ 20
  unfolding records_good
  section_checked_few e =
      let n = length (code_records bs) in
      let good = (accepted_section_code bs (section_checked_accepted e)).good in
      let size = (and_split (leb 1 n && leb n 20) (eqb (records_refusal (code_records bs)) 0) good).0 in
      leb-true n 20 (and_split (leb 1 n) (leb n 20) size).1

  -- ONE RECORD of five bytes
  pub one_record : length bs ≡ 5 → code_records bs ≡ rec_in (row 5 0 bs) ∷ []
  unfolding recs_in rows
  one_record e =
      let n : length bs / 5 ≡ 1 = omega (arith, e) in
      rw n (ap (λ (r : List ℕ). rec_in r ∷ []) (sym (row_zero 5 bs)))

  -- other lengths are not read so
  pub not_five : (length bs ≡ 5 → ⊥) → lone_bytes bs ≡ false
  unfolding lone_bytes
  not_five n = rw (ne_eqb (length bs) 5 n)

  module _ (five : length bs ≡ 5) (r : Rec) (is : r ≡ rec_in (row 5 0 bs)) where
    records_are : code_records bs ≡ r ∷ []
    records_are = one_record five ∙ ap (λ (s : Rec). s ∷ []) (sym is)

    pub five_lone : lone_bytes bs ≡ (eqb r.i 0 && eqb r.j 0)
    unfolding lone_bytes lone_row
    five_lone = rw (eq-eqb (length bs) 5 five, records_are)

    pub five_checked : lone_checked (code_records bs) ≡ lone_checked (r ∷ [])
    five_checked = ap lone_checked records_are

  -- the two ways of the check
  pub checked_lone : lone_bytes bs ≡ true → lone_checked (code_records bs) ≡ section_code_checked bs
  unfolding section_code_checked
  checked_lone e = rw e

  pub checked_cabled : lone_bytes bs ≡ false → code_checked bs ≡ section_code_checked bs
  unfolding section_code_checked
  checked_cabled e = rw e

  -- where a code is not read so, its refusal is that of a DFS code
  pub steps_accepted : section_code_refusal bs ≡ 0 → lone_bytes bs ≡ false → code_refusal bs ≡ 0
  unfolding section_code_refusal
  steps_accepted fine e = rw e at fine
