-- Checking a list against the patterns of an accepted survey, and the refusals before it. Rests on WrittenLaws and Frequent. Assumes nothing.
use Rattle.std.specs.Prelude.{◌≡◌, Bool, List, ℕ, zero, suc, ◌*◌, ◌/◌, ◌%◌, ◌<◌, length, Some, None, Result, Ok, Err}
use Rattle.std.proofs.Math.Path.{refl, ap}
use Rattle.std.proofs.Common.{sym, ◌∙◌, subst, arith}
use Rattle.std.proofs.Math.Bool.{true, false, cond}
use Rattle.std.proofs.Math.Dec.{eqb}
use borrow.Author.Tests.{eq-eqb, ne_eqb, eqb-true, eqb-false}
use Rattle.laws.specs.Decides.{Decides}
use Rattle.graphs.specs.Survey as surveys
use Rattle.graphs.specs.Survey.{survey, cranes, survey_refusal, refusal}
use Rattle.growth.specs.Sizes.{entry_size}
use Rattle.growth.specs.Catalogue.{OftenIn, figures_of}
use Rattle.growth.specs.Frequent.{often_closed, figures_kept}
use Rattle.growth.specs.Settings.{AcceptedSettings}
use Rattle.records.specs.declared.refusal.Refusal.TheVariants.{ListLength}
use Rattle.records.specs.Refusals.{number_of, number_positive, lone_fault}
use Rattle.records.specs.ListsChecked.{list_refusal}
use Rattle.entries.specs.Written.{ListHeld}
use Rattle.entries.specs.WrittenLaws.{list_held, list_differs}
use Rattle.survey_patterns.specs.SurveyMined.{SurveyListed}
use Rattle.records.specs.declared.refusal.Fault.{Fault}
use Rattle.records.specs.Surveys.{survey_checked, SurveyAnswer}
use Rattle.mining.specs.CheckSays.{entries_checked, first_checked, check_refusal, CheckAs, CheckSays}

-- the list that is given is the catalogue, or not
abbrev pub HoldsList : (bytes : List ℕ) (s l : ℕ) (list : List ℕ) → Bool → Type 0
HoldsList bs s l list r = ListHeld (OftenIn bs s) (figures_of bs) l list r

module _ {bs : List ℕ} {s l : ℕ} (a : AcceptedSettings bs s l) where
  -- HELD TO THE END
  pub holds_all : (list : List ℕ) (k : ℕ) → SurveyListed bs s l true list (Some k) list → {r : Bool} → Decides r (length list ≡ entry_size * k)
      → HoldsList bs s l list r
  holds_all =
      list_held (OftenIn bs s) (figures_of bs) l (often_closed (cranes bs) (survey bs) s) (figures_kept (cranes bs) (survey bs)) a.limit_high

  -- IT DIFFERS
  pub holds_not : (list : List ℕ) → SurveyListed bs s l true list None list → HoldsList bs s l list false
  holds_not =
      list_differs (OftenIn bs s) (figures_of bs) l (often_closed (cranes bs) (survey bs) s) (figures_kept (cranes bs) (survey bs)) a.limit_high

-- THE OUTCOME OF THE CALL
module _ (bs : List ℕ) (s l : ℕ) (list : List ℕ) where
  refused_list :
      (r : Result Bool Fault) (f : surveys.Refusal) → 0 < f.number → check_refusal bs s l list ≡ f → list_refusal r ≡ f → CheckSays bs s l list r
  refused_list r f h e w = go (check_refusal bs s l list).number (rw e h)
    where
      go : (n : ℕ) → 0 < n → CheckAs n (check_refusal bs s l list) bs s l list r
      go zero h = absurd (omega arith)
      go (suc n) h = w ∙ sym e

  -- what is given is checked by both its checks, the settings' and the length's
  pub given_checked : {a : Result ℕ Fault} → SurveyAnswer (survey_refusal bs s l) bs a
      → survey_checked (first_checked a (entries_checked list)) ≡ check_refusal bs s l list
  unfolding refusal check_refusal
  given_checked {a} t = go a t.refusal
    where
      by_length : (b : Bool)
          → survey_checked (cond b (Ok (length list / entry_size)) (Err (lone_fault ListLength))) ≡ refusal (cond b 0 18) 0
      by_length true = refl
      by_length false = refl

      go : (a : Result ℕ Fault) → survey_checked a ≡ survey_refusal bs s l
          → survey_checked (first_checked a (entries_checked list))
          ≡ cond (eqb (survey_refusal bs s l).number 0) (refusal (cond (eqb (length list % entry_size) 0) 0 18) 0) (survey_refusal bs s l)
      go (Ok n) e = rw (← e) (by_length (eqb (length list % entry_size) 0))
      go (Err f) e = rw (← e, ne_eqb (number_of f.refusal) 0 (λ z. omega (arith, number_positive f.refusal)))

  -- 12, 13, 1, 14, 2 to 8; 18
  pub check_turned_back : {a : Result ℕ Fault} (f : Fault) → survey_checked a ≡ check_refusal bs s l list → a ≡ Err f
      → CheckSays bs s l list (Err f)
  unfolding refusal
  check_turned_back f t e =
      refused_list (Err f) (refusal (number_of f.refusal) f.drawing) (number_positive f.refusal) (sym t ∙ ap survey_checked e) refl

  -- or nothing is refused
  pub given_fine : {a : Result ℕ Fault} {n : ℕ} → survey_checked a ≡ check_refusal bs s l list → a ≡ Ok n
      → ((survey_refusal bs s l).number ≡ 0) × (length list % entry_size ≡ 0)
  unfolding refusal check_refusal
  given_fine t e =
      go (eqb (survey_refusal bs s l).number 0) refl (eqb (length list % entry_size) 0) refl
      (ap (λ (f : surveys.Refusal). f.number) (sym t ∙ ap survey_checked e))
    where
      go : (x : Bool) → eqb (survey_refusal bs s l).number 0 ≡ x → (y : Bool) → eqb (length list % entry_size) 0 ≡ y
          → (cond {A = surveys.Refusal} x (record { number = cond y 0 18; drawing = 0 }) (survey_refusal bs s l)).number ≡ 0
          → ((survey_refusal bs s l).number ≡ 0) × (length list % entry_size ≡ 0)
      go true p true q h = (eqb-true (survey_refusal bs s l).number 0 p, eqb-true (length list % entry_size) 0 q)
      go true p false q h = absurd (omega (arith, h))
      go false p y q h = absurd (eqb-false (survey_refusal bs s l).number 0 p h)

  module _ (fine : (survey_refusal bs s l).number ≡ 0) where
    -- 18
    pub check_length_wrong : (length list % entry_size ≡ 0 → ⊥) → CheckSays bs s l list (Err (lone_fault ListLength))
    unfolding refusal check_refusal
    check_length_wrong h =
        refused_list (Err (lone_fault ListLength)) (refusal 18 0) (omega arith) (rw (eq-eqb _ _ fine, ne_eqb (length list % entry_size) 0 h)) refl

    -- yes or no
    module _ (whole : length list % entry_size ≡ 0) where
      none : (check_refusal bs s l list).number ≡ 0
      unfolding refusal check_refusal
      none = rw (eq-eqb _ _ fine, eq-eqb (length list % entry_size) 0 whole)

      pub check_yes : {r : Bool} → r ≡ true → HoldsList bs s l list r → CheckSays bs s l list (Ok true)
      check_yes e (es, c, d) = subst (λ (n : ℕ). CheckAs n (check_refusal bs s l list) bs s l list (Ok true)) (sym none) (es, c, d.holds e)

      pub check_no : {r : Bool} → r ≡ false → HoldsList bs s l list r → CheckSays bs s l list (Ok false)
      check_no e (es, c, d) = subst (λ (n : ℕ). CheckAs n (check_refusal bs s l list) bs s l list (Ok false)) (sym none) (es, c, d.fails e)

      -- either
      pub check_told : {r : Bool} → HoldsList bs s l list r → CheckSays bs s l list (Ok r)
      check_told {r = true} h = check_yes refl h
      check_told {r = false} h = check_no refl h
