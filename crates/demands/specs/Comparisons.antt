-- What comparing two accepted codes tells: equal exactly when the bytes are, before and after by the order of codes, each with their agreement.
-- Rests on that order. Assumes nothing.
use Rattle.std.specs.Prelude.{◌≡◌, Bool, cond, List, ℕ, length, Result, Ok}
use Rattle.std.proofs.Math.Path.{refl, sym, ap}
use Rattle.std.proofs.Common.{◌∙◌, arith}
use Rattle.std.proofs.Math.Bool.{true, false}
use Rattle.laws.specs.Tests.{false_unless}
use Rattle.codes.specs.Code.{Rec, code_records, rec_bytes, before, kinds_before}
use Rattle.codes.specs.Agreement.{agreement}
use Rattle.codes.specs.AgreementLaws.{agreement_itself}
use Rattle.codes.specs.CodeOrder.{kinds_order, before_strict}
use Rattle.codes.specs.SectionCode.{section_code_refusal}
use Rattle.codes.specs.SectionBytes.{accepted_section_code}
use Rattle.code_checks.specs.Answers.{compared_agreement}
use Rattle.comparing.specs.Comparing.{codes_order, order_answer, codes_answer, CompareSays}
use Rattle.comparing.specs.ComparingLaws.{codes_order_equal, order_agreement}
use Rattle.code_checks.specs.SectionCheckLaws.{section_accepted_checked}
use Rattle.demands.specs.Terms.{order_digit}
use Rattle.records.specs.declared.refusal.Refusal.{Refusal}
use Rattle.code_checks.specs.declared.answer.Comparison.{Comparison}
use Rattle.std.specs.declared.cmp.Ordering.TheVariants.{Less, Equal, Greater}

module _ (xs ys : List ℕ) (r : Result Comparison Refusal) (first : section_code_refusal xs ≡ 0) (second : section_code_refusal ys ≡ 0)
    (says : CompareSays xs ys r) where
  abbrev rs : List Rec
  rs = code_records xs

  abbrev ss : List Rec
  ss = code_records ys

  told : r ≡ Ok (codes_answer rs ss)
  unfolding CompareSays
  told = says ∙ rw (section_accepted_checked xs first, section_accepted_checked ys second)

  -- THE FIGURE is the agreement of the two
  pub figure_is : compared_agreement r ≡ agreement rs ss
  figure_is = ap compared_agreement told ∙ order_agreement (codes_order rs ss) (agreement rs ss)

  -- the two tests of the order give the three answers
  by_tests :
      (p q : Bool) → before rs ss ≡ p → before ss rs ≡ q
      → r ≡ Ok (order_answer (cond p Less (cond q Greater Equal)) (agreement rs ss))
  unfolding codes_order
  by_tests p q e f = told ∙ rw (e, f)

  apart : before rs ss ≡ true → before ss rs ≡ true → ⊥
  apart e f = (before_strict kinds_before kinds_order).irrefl rs ((before_strict kinds_before kinds_order).trans rs ss rs e f)

  pub before_if : before rs ss ≡ true → r ≡ Ok (order_answer Less (agreement rs ss))
  before_if e = by_tests true (before ss rs) e refl

  pub after_if : before ss rs ≡ true → r ≡ Ok (order_answer Greater (agreement rs ss))
  after_if f = by_tests false true (false_unless (before rs ss) (λ e. apart e f)) f

  same_if : rs ≡ ss → r ≡ Ok (order_answer Equal (agreement rs ss))
  same_if e = by_tests false false (none rs ss e) (none ss rs (sym e))
    where
      none : (ps qs : List Rec) → ps ≡ qs → before ps qs ≡ false
      none ps qs e = rw e (false_unless (before qs qs) ((before_strict kinds_before kinds_order).irrefl qs))

  pub equal_if : xs ≡ ys → r ≡ Ok (order_answer Equal (length rs))
  equal_if e =
      let same = ap code_records e in
      same_if same ∙ ap (λ (k : ℕ). Ok (order_answer Equal k)) (ap (agreement rs) (sym same) ∙ agreement_itself rs)

  -- and nothing else gives them
  pub if_before : (k : ℕ) → r ≡ Ok (order_answer Less k) → before rs ss ≡ true
  if_before k e = go (before rs ss) (before ss rs) refl refl
    where
      go : (p q : Bool) → before rs ss ≡ p → before ss rs ≡ q → before rs ss ≡ true
      go true q f g = f
      go false true f g = absurd (omega (arith, ap order_digit (sym e ∙ by_tests false true f g)))
      go false false f g = absurd (omega (arith, ap order_digit (sym e ∙ by_tests false false f g)))

  pub if_after : (k : ℕ) → r ≡ Ok (order_answer Greater k) → before ss rs ≡ true
  if_after k e = go (before rs ss) (before ss rs) refl refl
    where
      go : (p q : Bool) → before rs ss ≡ p → before ss rs ≡ q → before ss rs ≡ true
      go true q f g = absurd (omega (arith, ap order_digit (sym e ∙ by_tests true q f g)))
      go false true f g = g
      go false false f g = absurd (omega (arith, ap order_digit (sym e ∙ by_tests false false f g)))

  pub if_equal : (k : ℕ) → r ≡ Ok (order_answer Equal k) → xs ≡ ys
  unfolding codes_order
  if_equal k e =
      sym (accepted_section_code xs first).bytes ∙ ap rec_bytes (go (before rs ss) (before ss rs) refl refl)
      ∙ (accepted_section_code ys second).bytes
    where
      go : (p q : Bool) → before rs ss ≡ p → before ss rs ≡ q → rs ≡ ss
      go true q f g = absurd (omega (arith, ap order_digit (sym e ∙ by_tests true q f g)))
      go false true f g = absurd (omega (arith, ap order_digit (sym e ∙ by_tests false true f g)))
      go false false f g = codes_order_equal rs ss (rw (f, g))
