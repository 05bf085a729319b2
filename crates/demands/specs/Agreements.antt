-- How far two codes agree, over the bytes of the calls: what comparing tells, and what the least test hands on. Rests on AgreementLaws, Comparisons
-- and Coding. Assumes nothing.
use Rattle.std.specs.Prelude.{◌≡◌, Bool, true, false, cond, ◌+◌, List, ◌++◌, ◌⊎◌, ℕ, ◌*◌, ◌/◌, ◌%◌, ◌≤◌, ◌<◌, length, get_or, take, ⊤, Result, Ok, Err}
use Rattle.std.proofs.Math.Path.{refl, sym, ap, ap₂}
use Rattle.std.proofs.Common.{◌∙◌, subst, inl, inr, arith, length-append, eq-eqb}
use Rattle.std.proofs.Math.Seq.{take-length, take-append_seam}
use Rattle.laws.specs.Lists.{get_d_default}
use Rattle.laws.specs.Rows.{row}
use Rattle.codes.specs.Code.{Rec, rec_in, code_records, kinds_before, rec_before, before}
use Rattle.codes.specs.Agreement.{agreement}
use Rattle.codes.specs.AgreementLaws.{
  agreement_symmetric,
  agreement_first,
  agreement_second,
  agreement_parts,
  agreement_decides,
  agreement_bytes,
  agreement_bytes_longest,
}
use Rattle.codes.specs.CodeBytes.{recs_in_length}
use Rattle.codes.specs.SectionCode.{section_code_refusal}
use Rattle.codes.specs.SectionBytes.{accepted_section_code}
use Rattle.tables.specs.CodeRows.{code_record_at}
use Rattle.code_checks.specs.Answers.{order_number, verdict_agreement, verdict_numbers, compared_agreement, compared_numbers}
use Rattle.code_checks.specs.SectionCheckLaws.{section_accepted_checked}
use Rattle.coding.specs.LeastSays.{LeastTold, LeastAnswer, LeastSays}
use Rattle.coding.specs.LeastSaysLaws.{told_agreement, told_least}
use Rattle.comparing.specs.Comparing.{CompareSays}
use Rattle.demands.specs.Terms.{order_digit, least_digit}
use Rattle.demands.specs.Comparisons.{figure_is, before_if, after_if, if_before, if_after}
use Rattle.records.specs.declared.refusal.Refusal.{Refusal}
use Rattle.code_checks.specs.declared.answer.Verdict.{Verdict}
use Rattle.coding.specs.LeastSays as verdict
use Rattle.code_checks.specs.declared.answer.Comparison.{Comparison}
use Rattle.comparing.specs.Comparing.{order_answer}
use Rattle.std.specs.declared.cmp.Ordering.{Ordering}
use Rattle.std.specs.declared.cmp.Ordering.TheVariants.{Less, Equal, Greater}

-- TWO ACCEPTED CODES that are compared
module _ (xs ys : List ℕ) (r : Result Comparison Refusal) (first : section_code_refusal xs ≡ 0) (second : section_code_refusal ys ≡ 0)
    (says : CompareSays xs ys r) where
  a : compared_agreement r ≡ agreement (code_records xs) (code_records ys)
  a = figure_is xs ys r first second says

  -- at most the records of either
  pub figure_within : (5 * compared_agreement r ≤ length xs) × (5 * compared_agreement r ≤ length ys)
  figure_within = (
    omega (arith, a, agreement_first (code_records xs) (code_records ys), recs_in_length (length xs / 5) xs),
    omega (arith, a, agreement_second (code_records xs) (code_records ys), recs_in_length (length ys / 5) ys),
  )

  -- so far the bytes are equal
  pub figure_equal : take (5 * compared_agreement r) xs ≡ take (5 * compared_agreement r) ys
  figure_equal = rw a (agreement_bytes xs ys)

  -- and of no greater number of whole records
  pub figure_longest : (k : ℕ) → 5 * k ≤ length xs → 5 * k ≤ length ys → take (5 * k) xs ≡ take (5 * k) ys → k ≤ compared_agreement r
  figure_longest k h g e = rw a (agreement_bytes_longest xs ys k h g e)

  -- a code that begins another gives the number of its own records
  pub figure_begins : (zs : List ℕ) → ys ≡ xs ++ zs → 5 * compared_agreement r ≡ length xs
  figure_begins zs e =
      let n = (accepted_section_code xs first).whole in
      let g : length xs ≤ length ys = omega (arith, ap length e, length-append xs zs) in
      let same : take (length xs) xs ≡ take (length xs) ys = take-length xs ∙ sym (ap (take (length xs)) e ∙ take-append_seam xs zs) in
      let k =
      figure_longest (length xs / 5) (omega (arith, n)) (omega (arith, n))
      (subst (λ (m : ℕ). take m xs ≡ take m ys) (sym n) same) in
      omega (arith, n, figure_within.0, k)

  -- either way round it is the same
  pub figure_either_way : (s : Result Comparison Refusal) → CompareSays ys xs s → compared_agreement s ≡ compared_agreement r
  figure_either_way s back =
      figure_is ys xs s second first back ∙ agreement_symmetric (code_records ys) (code_records xs) ∙ sym a

  -- WHERE BOTH GO ON the two records there differ, and they decide the order
  module _ (on : 5 * compared_agreement r < length xs) (on_too : 5 * compared_agreement r < length ys) where
    abbrev k : ℕ
    k = agreement (code_records xs) (code_records ys)

    low : k < length xs / 5
    low = omega (arith, a, (accepted_section_code xs first).whole)

    low_too : k < length ys / 5
    low_too = omega (arith, a, (accepted_section_code ys second).whole)

    more : k < length (code_records xs)
    more = rw (recs_in_length (length xs / 5) xs) low

    more_too : k < length (code_records ys)
    more_too = rw (recs_in_length (length ys / 5) ys) low_too

    -- the record of the first code there, and that of the second
    x : Rec
    x = rec_in (row 5 (agreement (code_records xs) (code_records ys)) xs)

    x_is : get_or (code_records xs) k x ≡ x
    unfolding x
    x_is = code_record_at xs k low _ refl

    y_is : get_or (code_records ys) k x ≡ rec_in (row 5 k ys)
    y_is = get_d_default (code_records ys) k x (rec_in (row 5 k ys)) more_too ∙ code_record_at ys k low_too _ refl

    pub figure_parts : row 5 (compared_agreement r) xs ≡ row 5 (compared_agreement r) ys → ⊥
    unfolding x
    figure_parts e =
        agreement_parts (code_records xs) (code_records ys) x more more_too
        (x_is ∙ ap rec_in (subst (λ (n : ℕ). row 5 n xs ≡ row 5 n ys) a e) ∙ sym y_is)

    by_records : before (code_records xs) (code_records ys) ≡ rec_before (rec_in (row 5 k xs)) (rec_in (row 5 k ys))
    unfolding x
    by_records = agreement_decides kinds_before x (code_records xs) (code_records ys) more more_too ∙ ap₂ rec_before x_is y_is

    pub figure_decides :
        (r ≡ Ok (order_answer Less (compared_agreement r))
        → rec_before (rec_in (row 5 (compared_agreement r) xs)) (rec_in (row 5 (compared_agreement r) ys)) ≡ true)
        × (rec_before (rec_in (row 5 (compared_agreement r) xs)) (rec_in (row 5 (compared_agreement r) ys)) ≡ true
        → r ≡ Ok (order_answer Less (compared_agreement r)))
    figure_decides = (
      λ e. rw a (sym by_records ∙ if_before xs ys r first second says (compared_agreement r) e),
      λ e. before_if xs ys r first second says (by_records ∙ rw a at e) ∙ ap (λ (k : ℕ). Ok (order_answer Less k)) (sym a),
    )

    back_records : before (code_records ys) (code_records xs) ≡ rec_before (rec_in (row 5 k ys)) (rec_in (row 5 k xs))
    unfolding x
    back_records =
        let e = agreement_symmetric (code_records ys) (code_records xs) in
        agreement_decides kinds_before x (code_records ys) (code_records xs) (rw e more_too) (rw e more)
        ∙ ap (λ (n : ℕ). rec_before (get_or (code_records ys) n x) (get_or (code_records xs) n x)) e
        ∙ ap₂ rec_before y_is x_is

    pub figure_decides_after :
        (r ≡ Ok (order_answer Greater (compared_agreement r))
        → rec_before (rec_in (row 5 (compared_agreement r) ys)) (rec_in (row 5 (compared_agreement r) xs)) ≡ true)
        × (rec_before (rec_in (row 5 (compared_agreement r) ys)) (rec_in (row 5 (compared_agreement r) xs)) ≡ true
        → r ≡ Ok (order_answer Greater (compared_agreement r)))
    figure_decides_after = (
      λ e. rw a (sym back_records ∙ if_after xs ys r first second says (compared_agreement r) e),
      λ e. after_if xs ys r first second says (back_records ∙ rw a at e) ∙ ap (λ (k : ℕ). Ok (order_answer Greater k)) (sym a),
    )

-- THE LEAST TEST says yes exactly if the whole code agrees
module _ (bs : List ℕ) (v : Result Verdict Refusal) (fine : section_code_refusal bs ≡ 0) (says : LeastSays bs v) where
  told : LeastTold (code_records bs) v
  told = subst (λ (c : Result ⊤ Refusal). LeastAnswer c (code_records bs) v) (section_accepted_checked bs fine) says

  counted : length (code_records bs) ≡ length bs / 5
  counted = recs_in_length (length bs / 5) bs

  pub yes_whole : (k : ℕ) → v ≡ Ok (verdict.yes k) → 5 * k ≡ length bs
  yes_whole k e = go (told_least told (accepted_section_code bs fine).good)
    where
      go : {n : ℕ} {P N : Type 0} → ((v ≡ Ok (verdict.yes (length (code_records bs)))) × P) ⊎ ((v ≡ Ok (verdict.no n)) × N) → 5 * k ≡ length bs
      go (inl y) = omega (arith, counted, (accepted_section_code bs fine).whole, ap verdict_agreement (sym e ∙ y.0))
      go (inr n) = absurd (omega (arith, ap least_digit (sym e ∙ n.0)))

  pub whole_yes : 5 * verdict_agreement v ≡ length bs → v ≡ Ok (verdict.yes (length bs / 5))
  whole_yes e =
      let n : agreement (code_records bs) told.code ≡ length (code_records bs) =
      omega (arith, told_agreement told, counted, (accepted_section_code bs fine).whole) in
      told.answer ∙ rw (eq-eqb _ _ n) (ap (λ (k : ℕ). Ok (verdict.yes k)) (n ∙ counted))

-- FROM C: the count has the agreement above eight bits, and in them what else is told
pub compared_count_tells :
    (r : Result Comparison Refusal) → ((compared_numbers r).count / 256 ≡ compared_agreement r) × ((compared_numbers r).count % 256 ≡ order_digit r)
compared_count_tells (Ok c) = go c.order c.agreement
  where
    go : (o : Ordering) (k : ℕ) → ((256 * k + order_number o) / 256 ≡ k) × ((256 * k + order_number o) % 256 ≡ order_number o)
    go Equal k = (omega arith, omega arith)
    go Less k = (omega arith, omega arith)
    go Greater k = (omega arith, omega arith)
compared_count_tells (Err x) = (refl, refl)

pub verdict_count_tells :
    (v : Result Verdict Refusal) → ((verdict_numbers v).count / 256 ≡ verdict_agreement v) × ((verdict_numbers v).count % 256 ≡ least_digit v)
verdict_count_tells (Ok v) = go v.least v.agreement
  where
    go : (b : Bool) (k : ℕ) → ((256 * k + cond b 1 0) / 256 ≡ k) × ((256 * k + cond b 1 0) % 256 ≡ cond b 1 0)
    go true k = (omega arith, omega arith)
    go false k = (omega arith, omega arith)
verdict_count_tells (Err x) = (refl, refl)
