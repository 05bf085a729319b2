-- Reading what is asked for: digits one after another, the value always below a power of ten, then the number of them; what is written in
-- decimal is read back. Assumes nothing.
use Rattle.std.specs.Prelude.{◌≡◌, refl, Bool, true, false, cond, List, [], ◌∷◌, ◌++◌, ℕ, zero, suc, ◌+◌, ◌*◌, ◌-◌, ◌/◌, ◌%◌, ◌^◌, ◌≤◌, ◌<◌, ltb, length, get_or, drop, Some, None}
use Rattle.std.proofs.Common.{sym, ap, ◌∙◌, arith, length-append, drop-cons}
use Rattle.std.specs.Char.{is_ascii_digit}
use Rattle.std.proofs.Math.Nat.{pow-succ', pow-le-pow_right}
use Rattle.std.proofs.Math.Seq.{drop-length}
use borrow.Author.Tests.{ltb-true, le-leb, lt-leb, eq-eqb, ne_eqb}
use Rattle.laws.specs.Tests.{and_split, and_both}
use Rattle.text_lines.specs.Texts.{digits, decimal}
use Rattle.text_lines.specs.Numbers.{digits_value, decimal_value, decimal_length}
use Rattle.book.specs.Requests.{is_digit, all_digits, digits_read, numeral_read, asked, book_read, request_read}

-- ONE BYTE
digit_within : (b : ℕ) → 48 ≤ b → b ≤ 57 → is_digit b ≡ true
unfolding is_digit
digit_within b h k = rw (le-leb 48 b h, le-leb b 57 k)

-- which std's test is
pub digit_tested : (b : ℕ) → is_ascii_digit b ≡ is_digit b
unfolding is_digit
digit_tested b = refl

digit_below : (b : ℕ) → b < 48 → is_digit b ≡ false
unfolding is_digit
digit_below b h = rw (lt-leb 48 b h)

digit_above : (b : ℕ) → 57 < b → is_digit b ≡ false
unfolding is_digit
digit_above b h = rw (le-leb 48 b (omega arith), lt-leb b 57 h)

-- ALL ARE READ
pub read_to_end : (v : ℕ) (w : List ℕ) → digits_read v (drop (length w) w) ≡ Some v
unfolding digits_read all_digits digits_value
read_to_end v w = rw (drop-length w)

module _ (v : ℕ) (w : List ℕ) (i : ℕ) (h : i < length w) where
  -- ONE MORE IS READ
  pub read_on :
      48 ≤ get_or w i 0 → get_or w i 0 ≤ 57 → digits_read v (drop i w) ≡ digits_read (10 * v + (get_or w i 0 - 48)) (drop (suc i) w)
  unfolding digits_read all_digits digits_value
  read_on l m = rw (drop-cons w i 0 h, digit_within (get_or w i 0) l m)

  -- ONE IS NO DIGIT
  pub stop : is_digit (get_or w i 0) ≡ false → digits_read v (drop i w) ≡ None
  unfolding digits_read all_digits
  stop e = rw (drop-cons w i 0 h, e)

  pub stop_below : get_or w i 0 < 48 → digits_read v (drop i w) ≡ None
  stop_below l = stop (digit_below (get_or w i 0) l)

  pub stop_above : 57 < get_or w i 0 → digits_read v (drop i w) ≡ None
  stop_above l = stop (digit_above (get_or w i 0) l)

-- THE VALUE of i digits is below 10 ^ i, so nine of them and the next sum are numbers of the machine's
pub value_fits : (v i : ℕ) → v < 10 ^ i → i < 9 → v < 100000000
value_fits v i h k = omega (arith, pow-le-pow_right {n = 10} (omega arith) {i = i} {j = 8} (omega arith))

pub value_grows : (v i d : ℕ) → v < 10 ^ i → d ≤ 9 → 10 * v + d < 10 ^ suc i
value_grows v i d h k = omega (arith, pow-succ' 10 i)

-- THE NUMBER OF DIGITS
module _ (w : List ℕ) where
  pub numeral_empty : length w < 1 → None ≡ numeral_read w
  unfolding numeral_read
  numeral_empty h = rw (lt-leb 1 (length w) h)

  pub numeral_long : 9 < length w → None ≡ numeral_read w
  unfolding numeral_read
  numeral_long h = rw (le-leb 1 (length w) (omega arith), lt-leb (length w) 9 h)

  pub numeral_fit : 1 ≤ length w → length w ≤ 9 → digits_read 0 w ≡ numeral_read w
  unfolding numeral_read
  numeral_fit h k = rw (le-leb 1 (length w) h, le-leb (length w) 9 k)

-- THE NUMBER OF WORDS
module _ (n : ℕ) (x y z : List ℕ) where
  pub asked_usual : n ≡ 1 → Some (asked 2 2 2) ≡ request_read n x y z
  unfolding request_read
  asked_usual e = rw (eq-eqb n 1 e)

  pub asked_other : (n ≡ 1 → ⊥) → (n ≡ 4 → ⊥) → None ≡ request_read n x y z
  unfolding request_read
  asked_other h k = rw (ne_eqb n 1 h, ne_eqb n 4 k)

  pub asked_three : n ≡ 4 → book_read (numeral_read x) (numeral_read y) (numeral_read z) ≡ request_read n x y z
  unfolding request_read
  asked_three e = rw (ne_eqb n 1 (λ h. omega arith), eq-eqb n 4 e)

-- IN DECIMAL: a number that is written without leading zeros is read back, so every book can be asked for
digits_append : (xs ys : List ℕ) → all_digits xs ≡ true → all_digits ys ≡ true → all_digits (xs ++ ys) ≡ true
unfolding all_digits
digits_append [] ys h k = k
digits_append (x ∷ xs) ys h k =
    let s = and_split (is_digit x) (all_digits xs) h in and_both s.0 (digits_append xs ys s.1 k)

one_digit : (d : ℕ) → d < 10 → all_digits ((48 + d) ∷ []) ≡ true
unfolding all_digits
one_digit d h = rw (digit_within (48 + d) (omega arith) (omega arith))

decimal_digits : (k n : ℕ) → all_digits (digits k n) ≡ true
unfolding digits all_digits
decimal_digits zero n = refl
decimal_digits (suc k) n = go (ltb n 10) refl (decimal_digits k (n / 10))
  where
    go : (t : Bool) → ltb n 10 ≡ t → all_digits (digits k (n / 10)) ≡ true
        → all_digits (cond t ((48 + n) ∷ []) (digits k (n / 10) ++ ((48 + n % 10) ∷ []))) ≡ true
    go true e h = one_digit n (ltb-true n 10 e)
    go false e h = digits_append (digits k (n / 10)) ((48 + n % 10) ∷ []) h (one_digit (n % 10) (omega arith))

decimal_some : (n : ℕ) → 1 ≤ length (decimal n)
unfolding decimal digits
decimal_some n = go (ltb n 10)
  where
    go : (t : Bool) → 1 ≤ length (cond t ((48 + n) ∷ []) (digits n (n / 10) ++ ((48 + n % 10) ∷ [])))
    go true = omega arith
    go false = omega (arith, length-append (digits n (n / 10)) ((48 + n % 10) ∷ []))

numeral_decimal : (n : ℕ) → n < 10 ^ 9 → numeral_read (decimal n) ≡ Some n
unfolding digits_read decimal
numeral_decimal n h =
    sym (numeral_fit (decimal n) (decimal_some n) (decimal_length n 8 h)) ∙ rw (decimal_digits (suc n) n) (ap Some (decimal_value n))

pub asked_in_decimal :
    (a b l : ℕ) → a < 10 ^ 9 → b < 10 ^ 9 → l < 10 ^ 9 → request_read 4 (decimal a) (decimal b) (decimal l) ≡ Some (asked a b l)
asked_in_decimal a b l h k m =
    sym (asked_three 4 (decimal a) (decimal b) (decimal l) refl) ∙ rw (numeral_decimal a h, numeral_decimal b k, numeral_decimal l m)
