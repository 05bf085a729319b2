-- How far two lists agree: the number of elements before the first on which they part. Rests on Orders. Assumes nothing.
use Rattle.std.specs.Prelude.{◌≡◌, Bool, drop}
use Rattle.std.proofs.Math.Path.{refl, sym, ap}
use Rattle.std.proofs.Common.{ap₂, ◌∙◌}
use Rattle.std.proofs.Math.Bool.{true, false, cond}
use mathlib.Core.List.{List, [], ◌∷◌}
use Prim.Native.Nat.{ℕ, zero, suc, ◌≤◌, ◌<◌}
use native.Mathlib.Omega.{arith}
use Rattle.std.proofs.Math.Nat.{not-suc-le-zero}
use Rattle.std.proofs.Math.ListN.{length, get_or, take}
use Rattle.laws.specs.Tests.{true_and_false, false_unless}
use Rattle.laws.specs.Orders.{EqualityTest}

-- THE ELEMENTS before the first on which two lists part: all of both where they are equal, all of a list that begins a longer one
module _ {A : Type 0} (eq : A → A → Bool) where
  unfoldable pub common_front : List A → List A → ℕ
  common_front [] ys = 0
  common_front (x ∷ xs) [] = 0
  common_front (x ∷ xs) (y ∷ ys) = cond (eq x y) (suc (common_front xs ys)) 0

module _ {A : Type 0} (eq : A → A → Bool) (e : EqualityTest eq) where
  abbrev front : List A → List A → ℕ
  front = common_front eq

  -- one more where the first ones are equal, none where they are not
  pub front_more : (x : A) (xs ys : List A) → front (x ∷ xs) (x ∷ ys) ≡ suc (front xs ys)
  unfolding common_front
  front_more x xs ys = rw (e.at x)

  pub front_apart : (x y : A) (xs ys : List A) → (x ≡ y → ⊥) → front (x ∷ xs) (y ∷ ys) ≡ 0
  unfolding common_front
  front_apart x y xs ys n = rw (false_unless (eq x y) (λ z. n (e.to x y z)))

  pub front_ended : (xs : List A) → front xs [] ≡ 0
  unfolding common_front
  front_ended [] = refl
  front_ended (x ∷ xs) = refl

  -- two elements are equal or not
  pub either_same : (x y : A) → Dec (x ≡ y)
  either_same x y = go (eq x y) refl
    where
      go : (b : Bool) → eq x y ≡ b → Dec (x ≡ y)
      go true z = yes (e.to x y z)
      go false z = no (λ q. true_and_false (rw q (e.at y)) z)

  -- IT IS THE SAME either way round
  pub front_symmetric : (xs ys : List A) → front xs ys ≡ front ys xs
  unfolding common_front
  front_symmetric [] [] = refl
  front_symmetric [] (y ∷ ys) = refl
  front_symmetric (x ∷ xs) [] = refl
  front_symmetric (x ∷ xs) (y ∷ ys) = go (either_same x y) (front_symmetric xs ys)
    where
      go : Dec (x ≡ y) → common_front eq xs ys ≡ common_front eq ys xs
          → common_front eq (x ∷ xs) (y ∷ ys) ≡ common_front eq (y ∷ ys) (x ∷ xs)
      go (yes q) h = rw q (front_more y xs ys ∙ ap suc h ∙ sym (front_more y ys xs))
      go (no q) h = front_apart x y xs ys q ∙ sym (front_apart y x ys xs (λ z. q (sym z)))

  -- AT MOST BOTH LENGTHS
  pub front_within : (xs ys : List A) → front xs ys ≤ length xs
  unfolding common_front
  front_within [] ys = omega arith
  front_within (x ∷ xs) [] = omega arith
  front_within (x ∷ xs) (y ∷ ys) = go (eq x y) (front_within xs ys)
    where
      go : (b : Bool) → common_front eq xs ys ≤ length xs → cond b (suc (common_front eq xs ys)) 0 ≤ length (x ∷ xs)
      go true h = omega arith
      go false h = omega arith

  pub front_within_other : (xs ys : List A) → front xs ys ≤ length ys
  front_within_other xs ys = omega (arith, front_symmetric xs ys, front_within ys xs)

  -- ALL BEFORE IT IS EQUAL
  pub front_equal : (xs ys : List A) → take (front xs ys) xs ≡ take (front xs ys) ys
  unfolding common_front
  front_equal [] ys = refl
  front_equal (x ∷ xs) [] = refl
  front_equal (x ∷ xs) (y ∷ ys) = go (either_same x y) (front_equal xs ys)
    where
      go : Dec (x ≡ y) → take (common_front eq xs ys) xs ≡ take (common_front eq xs ys) ys
          → take (common_front eq (x ∷ xs) (y ∷ ys)) (x ∷ xs) ≡ take (common_front eq (x ∷ xs) (y ∷ ys)) (y ∷ ys)
      go (yes q) h = rw (q, front_more y xs ys) (ap {B = List A} (λ l. y ∷ l) h)
      go (no q) h = rw (front_apart x y xs ys q)

  -- AND WHERE BOTH GO ON the next ones differ
  pub front_parts : (d : A) (xs ys : List A) → front xs ys < length xs → front xs ys < length ys
      → get_or xs (front xs ys) d ≡ get_or ys (front xs ys) d → ⊥
  unfolding common_front
  front_parts d [] ys = λ h g z. not-suc-le-zero h
  front_parts d (x ∷ xs) [] = λ h g z. not-suc-le-zero g
  front_parts d (x ∷ xs) (y ∷ ys) = go (either_same x y) (front_parts d xs ys)
    where
      go : Dec (x ≡ y)
          → (common_front eq xs ys < length xs → common_front eq xs ys < length ys
          → get_or xs (common_front eq xs ys) d ≡ get_or ys (common_front eq xs ys) d → ⊥)
          → common_front eq (x ∷ xs) (y ∷ ys) < length (x ∷ xs) → common_front eq (x ∷ xs) (y ∷ ys) < length (y ∷ ys)
          → get_or (x ∷ xs) (common_front eq (x ∷ xs) (y ∷ ys)) d ≡ get_or (y ∷ ys) (common_front eq (x ∷ xs) (y ∷ ys)) d → ⊥
      go (yes q) rest = rw (q, front_more y xs ys) (λ h g z. rest (omega arith) (omega arith) z)
      go (no q) rest = rw (front_apart x y xs ys q) (λ h g z. q z)

  -- THE LONGEST: a front that two lists share is no longer
  pub front_longest : (k : ℕ) (xs ys : List A) → k ≤ length xs → k ≤ length ys → take k xs ≡ take k ys → k ≤ front xs ys
  front_longest zero xs ys h g z = omega arith
  front_longest (suc k) [] ys h g z = absurd (not-suc-le-zero h)
  front_longest (suc k) (x ∷ xs) [] h g z = absurd (not-suc-le-zero g)
  front_longest (suc k) (x ∷ xs) (y ∷ ys) h g z =
      let q : x ≡ y = ap (λ (l : List A). get_or l 0 x) z in
      let more = front_longest k xs ys (omega arith) (omega arith) (ap {B = List A} (drop 1) z) in
      rw (q, front_more y xs ys) (omega arith)

  -- equal lists agree in all
  pub front_itself : (xs : List A) → front xs xs ≡ length xs
  unfolding common_front
  front_itself [] = refl
  front_itself (x ∷ xs) = front_more x xs xs ∙ ap suc (front_itself xs)

  -- lists of one length that agree in all are equal
  pub front_whole : (xs ys : List A) → length xs ≡ length ys → front xs ys ≡ length xs → xs ≡ ys
  front_whole [] [] n h = refl
  front_whole [] (y ∷ ys) n h = absurd (omega arith)
  front_whole (x ∷ xs) [] n h = absurd (omega arith)
  front_whole (x ∷ xs) (y ∷ ys) n h = go (either_same x y) (front_whole xs ys (omega arith))
    where
      go : Dec (x ≡ y) → (front xs ys ≡ length xs → xs ≡ ys) → x ∷ xs ≡ y ∷ ys
      go (yes q) rest = ap₂ {C = List A} (λ a l. a ∷ l) q (rest (omega (arith, front_more y xs ys, rw q at h)))
      go (no q) rest = absurd (omega (arith, front_apart x y xs ys q))
