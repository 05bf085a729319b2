-- Laws of the answer of a read: case by case, as the program tests it; and that what is read grows and stays within 2,409 bytes.
-- Assumes nothing.
use Rattle.std.proofs.Math.Path.{◌≡◌, refl}
use Rattle.std.specs.Prelude.{Bool, true, false, cond, T, ltb, ℤ, pos, negsuc, nat_abs, Result, Ok, Err, IfOk, IfErr}
use Prim.Native.Nat.{ℕ, zero, suc, ◌+◌, ◌-◌, ◌≤◌, ◌<◌}
use Rattle.std.proofs.Common.{sym, arith}
use Rattle.std.specs.Int.Signed.{lt_z, non_neg}
use borrow.Author.Tests.{lt-ltb, le-ltb, ltb-true, ltb-false}
use Rattle.survey_input.specs.declared.input.Turn.TheVariants.{More, All, Failed}
use Rattle.survey_input.specs.ReadAnswers.{after_read, Moved}

-- CASE BY CASE
pub read_not_failed : (z : ℤ) → lt_z z (pos 0) ≡ false → T (non_neg z)
read_not_failed (pos k) e = tt
read_not_failed (negsuc k) e = absurd (let x : ◌≡◌ {A = ℕ} 0 1 = cc in omega arith)

module _ (n : ℕ) where
  pub after_failure : (z : ℤ) → lt_z z (pos 0) ≡ true → Failed ≡ after_read n z
  unfolding after_read
  after_failure (negsuc k) e = refl
  after_failure (pos k) e = absurd (omega (arith, ltb-true k 0 e))

  pub after_end : (z : ℤ) → lt_z z (pos 0) ≡ false → nat_abs z ≡ 0 → All n ≡ after_read n z
  unfolding after_read
  after_end (negsuc k) e h = absurd (let x : ◌≡◌ {A = ℕ} 0 1 = cc in omega arith)
  after_end (pos zero) e h = refl
  after_end (pos (suc k)) e h = absurd (omega arith)

  pub after_some : (z : ℤ) → lt_z z (pos 0) ≡ false → (nat_abs z ≡ 0 → ⊥) → n + nat_abs z < 2409 → More (n + nat_abs z) ≡ after_read n z
  unfolding after_read
  after_some (negsuc k) e h l = absurd (let x : ◌≡◌ {A = ℕ} 0 1 = cc in omega arith)
  after_some (pos zero) e h l = absurd (h refl)
  after_some (pos (suc k)) e h l = rw (lt-ltb (n + suc k) 2409 l)

  pub after_last : (z : ℤ) → lt_z z (pos 0) ≡ false → (nat_abs z ≡ 0 → ⊥) → 2409 ≤ n + nat_abs z → All (n + nat_abs z) ≡ after_read n z
  unfolding after_read
  after_last (negsuc k) e h l = absurd (let x : ◌≡◌ {A = ℕ} 0 1 = cc in omega arith)
  after_last (pos zero) e h l = absurd (h refl)
  after_last (pos (suc k)) e h l = rw (le-ltb (n + suc k) 2409 l)

-- HOW MUCH IS READ: more with each turn, and never more than is lent
some_more : (x : Bool) (n k m : ℕ) → ltb (n + suc k) 2409 ≡ x → cond x (More (n + suc k)) (All (n + suc k)) ≡ More m → (n < m) × (m < 2409)
some_more true n k m t e = let f : n + suc k ≡ m = cc in (omega arith, omega (arith, ltb-true (n + suc k) 2409 t))
some_more false n k m t e = absurd (let x : ◌≡◌ {A = ℕ} 0 1 = cc in omega arith)

pub more_read : (n : ℕ) (z : ℤ) (m : ℕ) → after_read n z ≡ More m → (n < m) × (m < 2409)
unfolding after_read
more_read n (negsuc k) m e = absurd (let x : ◌≡◌ {A = ℕ} 0 1 = cc in omega arith)
more_read n (pos zero) m e = absurd (let x : ◌≡◌ {A = ℕ} 0 1 = cc in omega arith)
more_read n (pos (suc k)) m e = some_more (ltb (n + suc k) 2409) n k m refl e

last_all : (x : Bool) (n k m : ℕ) → cond x (More (n + suc k)) (All (n + suc k)) ≡ All m → n + suc k ≡ m
last_all true n k m e = absurd (let x : ◌≡◌ {A = ℕ} 0 1 = cc in omega arith)
last_all false n k m e = cc

pub all_read : (n : ℕ) (z : ℤ) (m : ℕ) → n ≤ 2409 → Moved (2409 - n) z → after_read n z ≡ All m → m ≤ 2409
unfolding after_read
all_read n (negsuc k) m h g e = absurd (let x : ◌≡◌ {A = ℕ} 0 1 = cc in omega arith)
all_read n (pos zero) m h g e = let f : n ≡ m = cc in omega arith
all_read n (pos (suc k)) m h g e = omega (arith, last_all (ltb (n + suc k) 2409) n k m e)

-- WHAT CAME, of an answer that is a number of bytes or a failure: so many bytes, where more is to be read
more_is : (x : Bool) (n k m : ℕ) → cond x (More (n + k)) (All (n + k)) ≡ More m → n + k ≡ m
more_is true n k m e = cc
more_is false n k m e = absurd (let x : ◌≡◌ {A = ℕ} 0 1 = cc in omega arith)

all_is : (x : Bool) (n k m : ℕ) → ltb (n + k) 2409 ≡ x → cond x (More (n + k)) (All (n + k)) ≡ All m → (n + k ≡ m) × (2409 ≤ m)
all_is true n k m t e = absurd (let x : ◌≡◌ {A = ℕ} 0 1 = cc in omega arith)
all_is false n k m t e = let f : n + k ≡ m = cc in (f, omega (arith, ltb-false (n + k) 2409 t))

module _ {E : Type 0} (n m : ℕ) where
  pub more_came :
      (r : Result ℕ E) → IfOk r (λ k. More m ≡ after_read n (pos k)) → IfErr r (λ e. More m ≡ after_read n (negsuc 0))
      → (k : ℕ) × ((r ≡ Ok k) × (n + k ≡ m) × (0 < k) × (m < 2409))
  unfolding after_read
  more_came (Err e) a b = absurd (let x : ◌≡◌ {A = ℕ} 0 1 = cc b in omega arith)
  more_came (Ok zero) a b = absurd (let x : ◌≡◌ {A = ℕ} 0 1 = cc a in omega arith)
  more_came (Ok (suc k)) a b =
      let is = more_is (ltb (n + suc k) 2409) n (suc k) m (sym a) in
      (suc k, (refl, is, omega arith, (more_read n (pos (suc k)) m (sym a)).1))

  -- and none, at the end, or as many as there was room for
  pub all_came :
      (r : Result ℕ E) → IfOk r (λ k. All m ≡ after_read n (pos k)) → IfErr r (λ e. All m ≡ after_read n (negsuc 0))
      → (k : ℕ) × ((r ≡ Ok k) × (n + k ≡ m) × (m < 2409 → k ≡ 0))
  unfolding after_read
  all_came (Err e) a b = absurd (let x : ◌≡◌ {A = ℕ} 0 1 = cc b in omega arith)
  all_came (Ok zero) a b = (zero, (refl, (let f : m ≡ n = cc a in omega (arith, f)), λ h. refl))
  all_came (Ok (suc k)) a b =
      let is = all_is (ltb (n + suc k) 2409) n (suc k) m refl (sym a) in
      (suc k, (refl, is.0, λ h. absurd (omega (arith, is.1))))
