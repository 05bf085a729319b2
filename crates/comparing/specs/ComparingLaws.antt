-- The order and the agreement of two codes, record by record, and the answer in the paper's numbers. Rests on the order of codes and on
-- AgreementLaws. Assumes nothing.
use Rattle.std.specs.Prelude.{◌≡◌, refl, Bool, true, false, cond, ℕ, suc, ◌+◌, ◌*◌, ◌/◌, ◌≤◌, ◌<◌, eqb, length, min, Result, Ok, Err, ⊤}
use Rattle.std.proofs.Common.{sym, ap₂, ◌∙◌, zero-add, arith, ne_eqb}
use Rattle.std.proofs.Math.Path.{ap}
use mathlib.Core.List.{List, [], ◌∷◌, map}
use Rattle.laws.specs.Tests.{Three, less, same, more, true_and_false}
use Rattle.codes.specs.Code.{Rec, kinds_before, rec_in, recs_in, before_by, before, code_records}
use Rattle.codes.specs.SectionCode.{section_code_refusal}
use Rattle.codes.specs.CodeOrder.{rec_same_test, kinds_order, before_strict, difference_decides, later_not_before, same_first}
use Rattle.codes.specs.Agreement.{agreement}
use Rattle.codes.specs.AgreementLaws.{agreement_symmetric, agreement_first, agreement_next, agreement_apart, agreement_ended}
use Rattle.records.specs.declared.refusal.Refusal.{Refusal}
use Rattle.records.specs.Refusals.{number_of, number_positive, checked_number, first_of, or_else}
use Rattle.laws.specs.Rows.{rows_left, left_start, left_next, left_end}
use Rattle.std.specs.declared.cmp.Ordering.{Ordering}
use Rattle.std.specs.declared.cmp.Ordering.TheVariants.{Less, Equal, Greater}
use Rattle.std.specs.Ordering.{nat_cmp, MatchOrdering}
use Rattle.std.proofs.lemmas.Cmp.{ranked}
use Rattle.code_checks.specs.declared.answer.Comparison.{Comparison}
use Rattle.code_checks.specs.Answers.{numbers, compared_agreement, compared_numbers}
use Rattle.code_checks.specs.AnswerLaws.{or_else_number}
use Rattle.code_checks.specs.SectionChecks.{section_code_checked}
use Rattle.code_records.specs.Records.{order_of}
use Rattle.code_records.specs.RecordLaws.{order_before, order_equal, order_after}
use Rattle.comparing.specs.Comparing.{codes_order, compared_count, order_answer, codes_answer, compare_answer, CompareSays}
use Rattle.code_checks.specs.CheckLaws.{checked_record}
use Rattle.code_checks.specs.SectionCheckLaws.{section_checked_number, section_checked_few}

-- ONE RECORD of each
order_itself : (r s : Rec) → r ≡ s → order_of r s ≡ Equal
unfolding order_of
order_itself r s e = rw (e, rec_same_test.at s)

module _ (r s : Rec) (rs ss : List Rec) where
  codes_same : order_of r s ≡ Equal → codes_order (r ∷ rs) (s ∷ ss) ≡ codes_order rs ss
  unfolding codes_order
  codes_same e = rw (← order_equal r s e, same_first kinds_before r rs ss, same_first kinds_before r ss rs)

  codes_differ : (order_of r s ≡ Equal → ⊥) → order_of r s ≡ codes_order (r ∷ rs) (s ∷ ss)
  codes_differ n = go (order_of r s) refl n
    where
      go : (o : Ordering) → order_of r s ≡ o → (o ≡ Equal → ⊥) → o ≡ codes_order (r ∷ rs) (s ∷ ss)
      go Less e d = unfold codes_order in rw (difference_decides kinds_before kinds_order [] r s rs ss (order_before r s e))
      go Equal e d = absurd (d refl)
      go Greater e d =
          let l = order_after r s e in
          unfold codes_order in
          rw (later_not_before kinds_before kinds_order s r ss rs l, difference_decides kinds_before kinds_order [] s r ss rs l)

  agreement_same : order_of r s ≡ Equal → agreement (r ∷ rs) (s ∷ ss) ≡ suc (agreement rs ss)
  agreement_same e = rw (← order_equal r s e) (agreement_next rs ss r)

  agreement_differ : (order_of r s ≡ Equal → ⊥) → agreement (r ∷ rs) (s ∷ ss) ≡ 0
  agreement_differ n = agreement_apart rs ss r s (λ e. n (order_itself r s e))

-- A CODE THAT BEGINS ANOTHER comes before it
codes_longer : (r : Rec) (rs : List Rec) → Greater ≡ codes_order (r ∷ rs) []
unfolding codes_order before_by
codes_longer r rs = refl

codes_shorter : (s : Rec) (ss : List Rec) → Less ≡ codes_order [] (s ∷ ss)
unfolding codes_order before_by
codes_shorter s ss = refl

codes_equal : Equal ≡ codes_order [] []
unfolding codes_order before_by
codes_equal = refl

agreement_begun : (ss : List Rec) → agreement [] ss ≡ 0
agreement_begun ss = agreement_symmetric [] ss ∙ agreement_ended ss

-- RECORD BY RECORD: those left from k on
unfoldable pub recs_left : List ℕ → (k : ℕ) → List Rec
recs_left bs k = map rec_in (rows_left 5 (length bs / 5) bs k)

module _ (bs : List ℕ) where
  recs_start : code_records bs ≡ recs_left bs 0
  unfolding recs_in recs_left
  recs_start = ap (map rec_in) (left_start 5 (length bs / 5) bs)

  recs_next : (k : ℕ) → k < length bs / 5 → recs_left bs k ≡ checked_record bs k ∷ recs_left bs (k + 1)
  unfolding recs_left
  recs_next k h = ap (map rec_in) (left_next 5 (length bs / 5) bs k h)

  recs_end : (k : ℕ) → length bs / 5 ≤ k → recs_left bs k ≡ []
  unfolding recs_left
  recs_end k h = ap (map rec_in) (left_end 5 (length bs / 5) bs k h)

-- of both codes
module _ (xs ys : List ℕ) where
  abbrev order_from : ℕ → Ordering
  order_from k = codes_order (recs_left xs k) (recs_left ys k)

  abbrev agreement_from : ℕ → ℕ
  agreement_from k = agreement (recs_left xs k) (recs_left ys k)

  -- THE ANSWER from them, where k records before them are equal
  abbrev pub compared_from : ℕ → Comparison
  compared_from k = order_answer (order_from k) (k + agreement_from k)

  pub compared_start : codes_answer (code_records xs) (code_records ys) ≡ compared_from 0
  compared_start =
      ap₂ order_answer (ap₂ codes_order (recs_start xs) (recs_start ys))
      (ap₂ agreement (recs_start xs) (recs_start ys) ∙ sym (zero-add (agreement_from 0)))

  module _ (k : ℕ) where
    -- where the codes part at k, they agree in k records
    parted_at : (o : Ordering) → o ≡ order_from k → agreement_from k ≡ 0 → order_answer o k ≡ compared_from k
    parted_at o e none = let n : k ≡ k + agreement_from k = omega (arith, none) in ap₂ order_answer e n

    pub compared_longer : k < length xs / 5 → length ys / 5 ≤ k → order_answer Greater k ≡ compared_from k
    compared_longer h g =
        parted_at Greater (rw (recs_next xs k h, recs_end ys k g) (codes_longer (checked_record xs k) (recs_left xs (k + 1))))
        (rw (recs_end ys k g) (agreement_ended (recs_left xs k)))

    pub compared_shorter : length xs / 5 ≤ k → k < length ys / 5 → order_answer Less k ≡ compared_from k
    compared_shorter h g =
        parted_at Less (rw (recs_end xs k h, recs_next ys k g) (codes_shorter (checked_record ys k) (recs_left ys (k + 1))))
        (rw (recs_end xs k h) (agreement_begun (recs_left ys k)))

    pub compared_ended : length xs / 5 ≤ k → length ys / 5 ≤ k → order_answer Equal k ≡ compared_from k
    compared_ended h g =
        parted_at Equal (rw (recs_end xs k h, recs_end ys k g) codes_equal) (rw (recs_end ys k g) (agreement_ended (recs_left xs k)))

    -- where no record of the shorter one differs, the longer one comes later
    pub compared_out :
        k ≡ min (length xs / 5) (length ys / 5) → order_answer (nat_cmp (length xs / 5) (length ys / 5)) k ≡ compared_from k
    compared_out e = go (nat_cmp (length xs / 5) (length ys / 5)) (ranked (length xs / 5) (length ys / 5) _ refl)
      where
        go :
            (o : Ordering) → MatchOrdering o (length xs / 5 < length ys / 5) (length xs / 5 ≡ length ys / 5) (length ys / 5 < length xs / 5)
            → order_answer o k ≡ compared_from k
        go Less h = compared_shorter (omega (arith, e)) (omega (arith, e))
        go Equal h = compared_ended (omega (arith, e)) (omega (arith, e))
        go Greater h = compared_longer (omega (arith, e)) (omega (arith, e))

    module _ (h : k < length xs / 5) (g : k < length ys / 5) where
      abbrev r : Rec
      r = checked_record xs k

      abbrev s : Rec
      s = checked_record ys k

      pub compared_same : order_of r s ≡ Equal → compared_from k ≡ compared_from (k + 1)
      compared_same e =
          rw (recs_next xs k h, recs_next ys k g)
          (ap₂ order_answer (codes_same r s (recs_left xs (k + 1)) (recs_left ys (k + 1)) e)
          (omega (arith, agreement_same r s (recs_left xs (k + 1)) (recs_left ys (k + 1)) e)))

      pub compared_differs : (order_of r s ≡ Equal → ⊥) → order_answer (order_of r s) k ≡ compared_from k
      compared_differs d =
          parted_at (order_of r s)
          (rw (recs_next xs k h, recs_next ys k g) (codes_differ r s (recs_left xs (k + 1)) (recs_left ys (k + 1)) d))
          (rw (recs_next xs k h, recs_next ys k g) (agreement_differ r s (recs_left xs (k + 1)) (recs_left ys (k + 1)) d))

-- what the loop over the records goes by
pub ruleset records_compared = (compared_start, compared_out, compared_same, compared_differs)

-- WHAT THE ORDER TELLS: equal codes, if neither comes before the other
pub codes_order_equal : (rs ss : List Rec) → codes_order rs ss ≡ Equal → rs ≡ ss
unfolding codes_order
codes_order_equal rs ss e = go (before rs ss) (before ss rs) refl refl e
  where
    both : before rs ss ≡ false → before ss rs ≡ false → Three (before rs ss ≡ true) (rs ≡ ss) (before ss rs ≡ true) → rs ≡ ss
    both f g (less z) = absurd (true_and_false z f)
    both f g (same z) = z
    both f g (more z) = absurd (true_and_false z g)

    go : (p q : Bool) → before rs ss ≡ p → before ss rs ≡ q → cond p Less (cond q Greater Equal) ≡ Equal → rs ≡ ss
    go true q f g h = let w : ◌≡◌ {A = ℕ} 0 1 = cc in absurd (omega arith)
    go false true f g h = let w : ◌≡◌ {A = ℕ} 0 1 = cc in absurd (omega arith)
    go false false f g h = both f g ((before_strict kinds_before kinds_order).tri rs ss)

-- THE OUTCOME, place by place
module _ (xs ys : List ℕ) where
  pub compare_first : (r : Refusal) → section_code_checked xs ≡ Err r → CompareSays xs ys (Err r)
  unfolding CompareSays
  compare_first r e = rw e

  module _ (first : section_code_checked xs ≡ Ok tt) where
    pub compare_second : (r : Refusal) → section_code_checked ys ≡ Err r → CompareSays xs ys (Err r)
    unfolding CompareSays
    compare_second r e = rw (first, e)

    pub compare_accepted :
        (r : Comparison) → section_code_checked ys ≡ Ok tt → r ≡ codes_answer (code_records xs) (code_records ys) → CompareSays xs ys (Ok r)
    unfolding CompareSays
    compare_accepted r second e = rw (first, second, e)

-- THEIR AGREEMENT is at most 20: no accepted code has more records
pub order_agreement : (o : Ordering) (k : ℕ) → compared_agreement (Ok (order_answer o k)) ≡ k
order_agreement o k = refl

pub compare_agreement_most : (xs ys : List ℕ) (r : Result Comparison Refusal) → CompareSays xs ys r → compared_agreement r ≤ 20
unfolding CompareSays
compare_agreement_most xs ys r e = rw e (go (section_code_checked xs) (section_code_checked ys) refl)
  where
    rs : List Rec
    rs = code_records xs

    ss : List Rec
    ss = code_records ys

    go :
        (a b : Result ⊤ Refusal) → section_code_checked xs ≡ a
        → compared_agreement (compare_answer (or_else a b) (codes_order rs ss) (agreement rs ss)) ≤ 20
    go (Ok _) (Ok _) e =
        omega (arith, order_agreement (codes_order rs ss) (agreement rs ss), agreement_first rs ss, section_checked_few xs e)
    go (Ok _) (Err x) e = omega arith
    go (Err x) b e = omega arith

-- IN THE PAPER'S NUMBERS: the first refusal that applies, and the count of the order and the agreement
order_numbers : (rs ss : List Rec) → compared_numbers (Ok (codes_answer rs ss)) ≡ numbers 0 (compared_count rs ss)
unfolding codes_order compared_count
order_numbers rs ss = go (before rs ss) (before ss rs) (agreement rs ss)
  where
    go :
        (p q : Bool) (k : ℕ)
        → compared_numbers (Ok (order_answer (cond p Less (cond q Greater Equal)) k)) ≡ numbers 0 (256 * k + cond p 1 (cond q 2 0))
    go true q k = refl
    go false true k = refl
    go false false k = refl

answer_numbers :
    (c : Result ⊤ Refusal) (rs ss : List Rec)
    → compared_numbers (compare_answer c (codes_order rs ss) (agreement rs ss))
    ≡ numbers (checked_number c) (cond (eqb (checked_number c) 0) (compared_count rs ss) 0)
answer_numbers (Ok _) rs ss = order_numbers rs ss
answer_numbers (Err r) rs ss =
    let d : number_of r ≡ 0 → ⊥ = λ e. omega (arith, number_positive r) in
    rw (ne_eqb (number_of r) 0 d)

pub compare_says_numbers :
    (xs ys : List ℕ) (r : Result Comparison Refusal) → CompareSays xs ys r
    → compared_numbers r
    ≡ numbers (first_of (section_code_refusal xs) (section_code_refusal ys))
    (cond (eqb (first_of (section_code_refusal xs) (section_code_refusal ys)) 0) (compared_count (code_records xs) (code_records ys)) 0)
unfolding CompareSays
compare_says_numbers xs ys r e =
    ap compared_numbers e
    ∙ answer_numbers (or_else (section_code_checked xs) (section_code_checked ys)) (code_records xs) (code_records ys)
    ∙ ap (λ (n : ℕ). numbers n (cond (eqb n 0) (compared_count (code_records xs) (code_records ys)) 0))
    (or_else_number (section_code_checked xs) (section_code_checked ys) ∙ ap₂ first_of (section_checked_number xs) (section_checked_number ys))
