-- What a check's answer tells, and the first refusal of several. Assumes nothing.
use Rattle.std.specs.Prelude.{◌≡◌, refl, Bool, true, false, not, cond, ℕ, suc, ◌<◌, eqb, Result, Ok, Err, ⊤}
use Rattle.std.proofs.Common.{sym, ◌∙◌, ap, arith, eq-eqb, ne_eqb}
use Rattle.records.specs.declared.refusal.Refusal.{Refusal}
use Rattle.records.specs.Refusals.{number_of, checked_number, number_positive, first_of}

-- WHAT A CHECK'S ANSWER TELLS of the number that it stands for
module _ {c : Result ⊤ Refusal} {n : ℕ} (told : checked_number c ≡ n) where
  pub refused_number : {r : Refusal} → c ≡ Err r → number_of r ≡ n
  refused_number e = ap checked_number (sym e) ∙ told

  pub refused_positive : {r : Refusal} → c ≡ Err r → 0 < n
  refused_positive {r} e = rw (refused_number e) at (number_positive r)

  pub accepted_zero : c ≡ Ok tt → n ≡ 0
  accepted_zero e = sym told ∙ ap checked_number e

-- THE FIRST THAT APPLIES of two numbers
pub first_some : (a b : ℕ) → 0 < a → first_of a b ≡ a
unfolding first_of
first_some a b h = let d : a ≡ 0 → ⊥ = λ e. omega arith in simp (ne_eqb _ _ d)

pub first_none : (a b : ℕ) → a ≡ 0 → first_of a b ≡ b
unfolding first_of
first_none a b e = simp (eq-eqb _ _ e)

pub first_not : (a b : ℕ) → cond (not (eqb a 0)) a b ≡ first_of a b
unfolding first_of
first_not a b = go (eqb a 0)
  where
    go : (t : Bool) → cond (not t) a b ≡ cond t b a
    go true = refl
    go false = refl

-- a test in front
pub first_test : (t : Bool) (k a b : ℕ) → cond t (suc k) (first_of a b) ≡ first_of (cond t (suc k) a) b
first_test true k a b = rw (first_some (suc k) b (omega arith))
first_test false k a b = refl
