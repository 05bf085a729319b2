-- Codes of sections as bytes: an accepted one is a lone device's record or an accepted DFS code, and every good row is accepted when
-- it is written out. Rests on SectionCodes and CodeBytes. Assumes nothing.
use Rattle.std.specs.Prelude.{◌≡◌, refl, Bool, true, false, ◌&&◌, cond, List, [], ℕ, ◌*◌, ◌/◌, ◌%◌, ◌≤◌, eqb, length}
use Rattle.std.proofs.Common.{sym, ap, subst, ◌∙◌, append-nil, arith, take_all, eqb-true, eq-eqb, ne_eqb, le-ltb}
use Rattle.laws.specs.Tests.{and_split}
use Rattle.graphs.specs.Drawing.{Drawing}
use Rattle.graphs.specs.Graph.{Simple}
use Rattle.codes.specs.Code.{Rec, CodeOf, fresh, recs_in, rec_bytes, rows_refusal, rows_good, code_records, code_refusal}
use Rattle.codes.specs.ReadRows.{good_from_test}
use Rattle.codes.specs.CodeBytes.{accepted_code, rec_bytes_in, rec_bytes_length, recs_in_bytes}
use Rattle.codes.specs.FullCode.{coded_length, coded_from_test}
use Rattle.codes.specs.SectionCode.{
  lone_code,
  lone_row,
  lone_refusal,
  lone_kind,
  lone_bytes,
  records_good,
  section_code_refusal,
  section_records,
  SectionCode,
}
use Rattle.codes.specs.SectionCodes.{
  RowGood,
  rows_not_lone,
  lone_row_is,
  lone_code_row,
  lone_code_fine,
  lone_code_good,
  lone_coded,
  row_good_from_test,
  rows_records_good,
  section_of_rows,
}

-- BYTES READ as a lone device's code are one record
pub lone_bytes_parts : (bs : List ℕ) → lone_bytes bs ≡ true → (length bs ≡ 5) × (lone_row (code_records bs) ≡ true)
unfolding lone_bytes
lone_bytes_parts bs e = let s = and_split (eqb (length bs) 5) (lone_row (code_records bs)) e in (eqb-true (length bs) 5 s.0, s.1)

-- AN ACCEPTED CODE is one of two kinds
pub data AcceptedAs (bs : List ℕ) : Type 0 where
  lone : (k : ℕ) → lone_bytes bs ≡ true → code_records bs ≡ lone_code k → AcceptedAs bs
  cabled : lone_bytes bs ≡ false → code_refusal bs ≡ 0 → AcceptedAs bs

pub accepted_as : (bs : List ℕ) → section_code_refusal bs ≡ 0 → AcceptedAs bs
unfolding section_code_refusal
accepted_as bs e = go (lone_bytes bs) refl e
  where
    go : (t : Bool) → lone_bytes bs ≡ t → cond t (lone_refusal (code_records bs)) (code_refusal bs) ≡ 0 → AcceptedAs bs
    go true t z = lone (lone_kind (code_records bs)) t (lone_row_is (code_records bs) (lone_bytes_parts bs t).1 z)
    go false t z = cabled t z

-- part by part
pub record AcceptedSectionCode (bs : List ℕ) : Type 0 where
  pub whole : 5 * (length bs / 5) ≡ length bs
  pub good : records_good (code_records bs) ≡ true
  pub bytes : rec_bytes (code_records bs) ≡ bs

pub accepted_section_code : (bs : List ℕ) → section_code_refusal bs ≡ 0 → AcceptedSectionCode bs
accepted_section_code bs e = go (accepted_as bs e)
  where
    go : AcceptedAs bs → AcceptedSectionCode bs
    go (lone k t is) =
        let five = (lone_bytes_parts bs t).0 in
        record {
          whole = omega (arith, five);
          good = rw is (lone_code_good k);
          bytes = rec_bytes_in (length bs / 5) bs (omega (arith, five)) ∙ take_all (5 * (length bs / 5)) bs (omega (arith, five));
        }
    go (cabled t z) =
        let a = accepted_code bs z in
        record { whole = a.records; good = rows_records_good (code_records bs) a.good; bytes = a.bytes }

-- EVERY ROW, written out and read again
pub read_again : (rs : List Rec) → code_records (rec_bytes rs) ≡ rs
read_again rs =
    let n : length (rec_bytes rs) / 5 ≡ length rs = omega (arith, rec_bytes_length rs) in
    rw n (ap (recs_in (length rs)) (sym (append-nil (rec_bytes rs))) ∙ recs_in_bytes rs [])

-- a good one is accepted
pub rows_accepted : (rs : List Rec) → rows_good rs ≡ true → code_refusal (rec_bytes rs) ≡ 0
unfolding code_refusal
rows_accepted rs good =
    let size = rec_bytes_length rs in
    let g = good_from_test rs good in
    let some : length (rec_bytes rs) ≡ 0 → ⊥ = λ e. omega (arith, size, g.one) in
    let most : length (rec_bytes rs) ≤ 100 = omega (arith, size, g.most) in
    let whole : length (rec_bytes rs) % 5 ≡ 0 = omega (arith, size) in
    rw (ne_eqb (length (rec_bytes rs)) 0 some, le-ltb 100 (length (rec_bytes rs)) most, eq-eqb (length (rec_bytes rs) % 5) 0 whole)
    (ap (rows_refusal fresh) (read_again rs) ∙ g.accepted)

and_none : (t : Bool) → (t && false) ≡ false
and_none true = refl
and_none false = refl

pub records_accepted : (rs : List Rec) → records_good rs ≡ true → section_code_refusal (rec_bytes rs) ≡ 0
unfolding section_code_refusal lone_bytes
records_accepted rs g = go (row_good_from_test rs g)
  where
    go : RowGood rs → section_code_refusal (rec_bytes rs) ≡ 0
    go (RowGood.lone k e) =
        let five : length (rec_bytes rs) ≡ 5 = omega (arith, rec_bytes_length rs, ap length e) in
        rw (eq-eqb (length (rec_bytes rs)) 5 five, read_again rs, e, lone_code_row k) (lone_code_fine k)
    go (RowGood.cabled h) =
        rw (read_again rs, rows_not_lone rs (good_from_test rs h).accepted, and_none (eqb (length (rec_bytes rs)) 5)) (rows_accepted rs h)

-- THE NUMBER OF RECORDS of a section's codes
pub section_code_length : (d : Drawing) → Simple d → (rs : List Rec) → SectionCode d rs → length rs ≡ section_records d
unfolding section_records
section_code_length d s rs c = go (row_good_from_test rs c.good)
  where
    go : RowGood rs → length rs ≡ section_records d
    go (RowGood.lone k e) = rw (lone_coded k d s.ends (subst (SectionCode d) e c), e)
    go (RowGood.cabled g) =
        let code : CodeOf d rs =
        record { good = g; numbers = c.numbers; describes = rw (section_of_rows rs g) at c.describes } in
        let n = coded_length d s rs (coded_from_test d s rs code) in
        let some : length d.cables ≡ 0 → ⊥ = λ e. omega (arith, n, (good_from_test rs g).one) in
        rw (ne_eqb (length d.cables) 0 some) n
