-- Numbers in decimal, digit by digit: how a number is put together from its last digit and those before, that it is read back
-- from its digits, and how many there are. Assumes nothing.
use Rattle.std.specs.Prelude.{◌≡◌, refl, Bool, true, false, cond, List, [], ◌∷◌, ◌++◌, ℕ, zero, suc, ◌+◌, ◌*◌, ◌-◌, ◌/◌, ◌%◌, ◌^◌, ◌≤◌, ◌<◌, ltb, length}
use Rattle.std.proofs.Common.{ap, ◌∙◌, arith, length-append, lt-ltb, le-ltb, ltb-false}
use Rattle.std.proofs.Math.Nat.{pow-succ'}
use Rattle.text_lines.specs.Texts.{digits, decimal}

-- the digits in front of the last
abbrev with_last : ℕ → List ℕ → List ℕ
with_last n l = l ++ ((48 + n % 10) ∷ [])

-- more digits than there are change nothing
digits_enough : (k m n : ℕ) → n < k → n < m → digits k n ≡ digits m n
unfolding digits
digits_enough zero m n h g = absurd (omega arith)
digits_enough (suc k) zero n h g = absurd (omega arith)
digits_enough (suc k) (suc m) n h g = go (ltb n 10) refl (λ l. digits_enough k m (n / 10) (omega arith) (omega arith))
  where
    go :
        (x : Bool) → ltb n 10 ≡ x → (10 ≤ n → digits k (n / 10) ≡ digits m (n / 10))
        → cond x ((48 + n) ∷ []) (with_last n (digits k (n / 10))) ≡ cond x ((48 + n) ∷ []) (with_last n (digits m (n / 10)))
    go true e r = refl
    go false e r = ap (with_last n) (r (ltb-false n 10 e))

-- ONE DIGIT, OR ONE MORE
pub decimal_last : (n : ℕ) → n < 10 → decimal n ≡ (48 + n) ∷ []
unfolding decimal digits
decimal_last n h = rw (lt-ltb n 10 h)

pub decimal_more : (n : ℕ) → 10 ≤ n → decimal n ≡ decimal (n / 10) ++ ((48 + n % 10) ∷ [])
unfolding decimal digits
decimal_more n h =
    rw (le-ltb n 10 h) (ap (with_last n) (digits_enough n (suc (n / 10)) (n / 10) (omega arith) (omega arith)))

-- READ BACK: the number that digits stand for, behind those that stand for v
unfoldable pub digits_value : (v : ℕ) → List ℕ → ℕ
digits_value v [] = v
digits_value v (d ∷ ds) = digits_value (10 * v + (d - 48)) ds

digits_value_append : (v : ℕ) (xs ys : List ℕ) → digits_value v (xs ++ ys) ≡ digits_value (digits_value v xs) ys
unfolding digits_value
digits_value_append v [] ys = refl
digits_value_append v (x ∷ xs) ys = digits_value_append (10 * v + (x - 48)) xs ys

digits_read_back : (k n : ℕ) → n < k → digits_value 0 (digits k n) ≡ n
unfolding digits digits_value
digits_read_back zero n h = absurd (omega arith)
digits_read_back (suc k) n h = go (ltb n 10) refl (λ l. digits_read_back k (n / 10) (omega arith))
  where
    go : (x : Bool) → ltb n 10 ≡ x → (10 ≤ n → digits_value 0 (digits k (n / 10)) ≡ n / 10)
        → digits_value 0 (cond x ((48 + n) ∷ []) (with_last n (digits k (n / 10)))) ≡ n
    go true e r = omega arith
    go false e r =
        digits_value_append 0 (digits k (n / 10)) ((48 + n % 10) ∷ []) ∙ rw (r (ltb-false n 10 e)) (omega arith)

pub decimal_value : (n : ℕ) → digits_value 0 (decimal n) ≡ n
unfolding decimal
decimal_value n = digits_read_back (suc n) n (omega arith)

-- HOW MANY
digits_length : (k n j : ℕ) → n < 10 ^ suc j → length (digits k n) ≤ suc j
unfolding digits
digits_length zero n j h = omega arith
digits_length (suc k) n j h = go (ltb n 10) refl j h (λ i g. digits_length k (n / 10) i g)
  where
    go :
        (x : Bool) → ltb n 10 ≡ x → (j : ℕ) → n < 10 ^ suc j
        → ((i : ℕ) → n / 10 < 10 ^ suc i → length (digits k (n / 10)) ≤ suc i)
        → length (cond x ((48 + n) ∷ []) (with_last n (digits k (n / 10)))) ≤ suc j
    go true e j h r = omega arith
    go false e zero h r = absurd (omega (arith, ltb-false n 10 e))
    go false e (suc j) h r =
        omega (
          arith,
          length-append (digits k (n / 10)) ((48 + n % 10) ∷ []),
          r j (omega (arith, pow-succ' 10 (suc j))),
        )

pub decimal_length : (n j : ℕ) → n < 10 ^ suc j → length (decimal n) ≤ suc j
unfolding decimal
decimal_length n j h = digits_length (suc n) n j h
