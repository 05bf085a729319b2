-- Tests: what `&&`, `||` and a choice of two or three give. Assumes nothing.
use Rattle.std.specs.Prelude.{◌≡◌, refl, Bool, true, false, ◌&&◌, ◌||◌, not, cond, ◌⊎◌, ℕ, ◌<◌, ◌≤◌, ltb, leb, eqb}
use Rattle.std.proofs.Common.{sym, ◌∙◌, true≢false, inl, inr, arith, ltb-true, ltb-false, eqb-true, eq-eqb}
use Rattle.std.proofs.lemmas.Bool.{false≢true, eqb-false}

-- less, the same, or more
pub data Three (A B C : Type 0) : Type 0 where
  less : A → Three A B C
  same : B → Three A B C
  more : C → Three A B C

pub three_reversed : {A B C : Type 0} → Three A B C → Three C B A
three_reversed (less p) = more p
three_reversed (same p) = same p
three_reversed (more p) = less p

pub test : (b : Bool) → (b ≡ true) ⊎ (b ≡ false)
test true = inl refl
test false = inr refl

pub true_and_false : {b : Bool} → b ≡ true → b ≡ false → ⊥
true_and_false p q = true≢false (sym p ∙ q)

-- a test that cannot be true is false
pub false_unless : (b : Bool) → (b ≡ true → ⊥) → b ≡ false
false_unless true n = absurd (n refl)
false_unless false n = refl

pub true_unless : (b : Bool) → (b ≡ false → ⊥) → b ≡ true
true_unless true n = refl
true_unless false n = absurd (n refl)

pub and_split : (a b : Bool) → (a && b) ≡ true → (a ≡ true) × (b ≡ true)
and_split true b e = (refl, e)
and_split false b e = absurd (false≢true e)

pub and_both : {a b : Bool} → a ≡ true → b ≡ true → (a && b) ≡ true
and_both p q = rw (p, q)

pub or_cases : (a b : Bool) → (a || b) ≡ true → (a ≡ true) ⊎ (b ≡ true)
or_cases true b e = inl refl
or_cases false b e = inr e

pub or_left : {a : Bool} (b : Bool) → a ≡ true → (a || b) ≡ true
or_left b e = rw e

pub or_right : (a : Bool) {b : Bool} → b ≡ true → (a || b) ≡ true
or_right true e = refl
or_right false e = e

pub or_none : (a b : Bool) → (a || b) ≡ false → (a ≡ false) × (b ≡ false)
or_none true b e = absurd (true≢false e)
or_none false b e = (refl, e)

pub and_swap : (a b : Bool) → (a && b) ≡ (b && a)
and_swap true true = refl
and_swap true false = refl
and_swap false true = refl
and_swap false false = refl

-- two numbers
pub compare_numbers : (a b : ℕ) → Three (ltb a b ≡ true) (eqb a b ≡ true) (ltb b a ≡ true)
compare_numbers a b = go (test (ltb a b)) (test (ltb b a))
  where
    go : (ltb a b ≡ true) ⊎ (ltb a b ≡ false) → (ltb b a ≡ true) ⊎ (ltb b a ≡ false) → Three (ltb a b ≡ true) (eqb a b ≡ true) (ltb b a ≡ true)
    go (inl p) q = less p
    go (inr p) (inl q) = more q
    go (inr p) (inr q) = same (eq-eqb a b (omega (arith, ltb-false)))

pub same_truth : (a b : Bool) → (a ≡ true → b ≡ true) → (b ≡ true → a ≡ true) → a ≡ b
same_truth true b to from = sym (to refl)
same_truth false true to from = from refl
same_truth false false to from = refl

-- a chain of refusals: the test passed, and what comes after it passed too
pub passes : (b : Bool) (k x : ℕ) → (b ≡ false → k ≡ 0 → ⊥) → cond (not b) k x ≡ 0 → (b ≡ true) × (x ≡ 0)
passes true k x n e = (refl, e)
passes false k x n e = absurd (n refl e)

-- the last test of a chain
pub passes_last : (b : Bool) (k : ℕ) → (k ≡ 0 → ⊥) → cond b 0 k ≡ 0 → b ≡ true
passes_last true k n e = refl
passes_last false k n e = absurd (n e)
