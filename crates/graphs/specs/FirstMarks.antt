-- The first mark of a list: it is marked, none before it is, and it is the only such place; it comes no earlier where fewer are marked, and a
-- place that is not marked, put in, moves those behind it by one. Assumes nothing.
use Rattle.std.specs.Prelude.{◌≡◌, Bool, true, false, cond, ltb, length, get_or}
use Rattle.std.proofs.Math.Path.{refl, ap}
use Rattle.std.proofs.Common.{sym, ◌∙◌, arith, lt-ltb, le-ltb}
use Rattle.std.proofs.lemmas.Bool.{false≢true}
use mathlib.Core.List.{List, [], ◌∷◌, ◌++◌}
use Prim.Native.Nat.{ℕ, zero, suc, ◌-◌, ◌≤◌, ◌<◌}
use Rattle.std.proofs.Math.Decide.{dec_lt}
use Rattle.graphs.specs.Survey.{first_true}

-- a place that is marked is not before the first
pub first_true_most : (bs : List Bool) (i : ℕ) → get_or bs i false ≡ true → first_true bs ≤ i
unfolding first_true
first_true_most [] i e = absurd (false≢true e)
first_true_most (true ∷ bs) i e = omega arith
first_true_most (false ∷ bs) zero e = absurd (false≢true e)
first_true_most (false ∷ bs) (suc i) e = omega (arith, first_true_most bs i e)

-- so none before it is
pub first_true_none : (bs : List Bool) (i : ℕ) → i < first_true bs → get_or bs i false ≡ true → ⊥
first_true_none bs i h e = omega (arith, first_true_most bs i e)

-- and it is marked, where some place is
pub first_true_marked : (bs : List Bool) (i : ℕ) → get_or bs i false ≡ true → get_or bs (first_true bs) false ≡ true
unfolding first_true
first_true_marked [] i e = absurd (false≢true e)
first_true_marked (true ∷ bs) i e = refl
first_true_marked (false ∷ bs) zero e = absurd (false≢true e)
first_true_marked (false ∷ bs) (suc i) e = first_true_marked bs i e

-- THE ONLY ONE
pub first_true_is : (bs : List Bool) (n : ℕ) → get_or bs n false ≡ true → ((i : ℕ) → i < n → get_or bs i false ≡ true → ⊥) → n ≡ first_true bs
unfolding first_true
first_true_is [] n e none = absurd (false≢true e)
first_true_is (true ∷ bs) zero e none = refl
first_true_is (true ∷ bs) (suc n) e none = absurd (none 0 (omega arith) refl)
first_true_is (false ∷ bs) zero e none = absurd (false≢true e)
first_true_is (false ∷ bs) (suc n) e none = ap suc (first_true_is bs n e (λ i h. none (suc i) (omega arith)))

-- NO EARLIER where no more are marked
pub first_true_rises :
    (bs cs : List Bool) → length bs ≡ length cs → ((i : ℕ) → get_or cs i false ≡ true → get_or bs i false ≡ true) → first_true bs ≤ first_true cs
unfolding first_true
first_true_rises [] cs e h = omega arith
first_true_rises (b ∷ bs) [] e h = absurd (omega arith)
first_true_rises (true ∷ bs) (c ∷ cs) e h = omega arith
first_true_rises (false ∷ bs) (true ∷ cs) e h = absurd (false≢true (h 0 refl))
first_true_rises (false ∷ bs) (false ∷ cs) e h = omega (arith, first_true_rises bs cs (omega arith) (λ i. h (suc i)))

-- A PLACE MORE, the n-th: places before it keep their numbers, those from it on have one more; and back
unfoldable pub moved_up : (n place : ℕ) → ℕ
moved_up n i = cond (ltb i n) i (suc i)

unfoldable pub moved_down : (n place : ℕ) → ℕ
moved_down n i = cond (ltb i n) i (i - 1)

moved_up_next : (n i : ℕ) → suc (moved_up n i) ≡ moved_up (suc n) (suc i)
unfolding moved_up
moved_up_next n i = go (dec_lt i n)
  where
    go : Dec (i < n) → suc (cond (ltb i n) i (suc i)) ≡ cond (ltb (suc i) (suc n)) (suc i) (suc (suc i))
    go (yes h) = rw (lt-ltb i n h, lt-ltb (suc i) (suc n) (omega arith)) refl
    go (no h) = rw (le-ltb i n (omega arith), le-ltb (suc i) (suc n) (omega arith)) refl

pub moved_back : (n i : ℕ) → moved_down n (moved_up n i) ≡ i
unfolding moved_up moved_down
moved_back n i = go (dec_lt i n)
  where
    go : Dec (i < n) → cond (ltb (cond (ltb i n) i (suc i)) n) (cond (ltb i n) i (suc i)) (cond (ltb i n) i (suc i) - 1) ≡ i
    go (yes h) = rw (lt-ltb i n h, lt-ltb i n h) refl
    go (no h) = rw (le-ltb i n (omega arith), le-ltb (suc i) n (omega arith)) (omega arith)

module _ (bs : List Bool) where
  pub first_true_up : (front : List Bool) → first_true (front ++ (false ∷ bs)) ≡ moved_up (length front) (first_true (front ++ bs))
  unfolding first_true moved_up
  first_true_up [] = rw (le-ltb (first_true bs) 0 (omega arith)) refl
  first_true_up (true ∷ front) = rw (lt-ltb 0 (suc (length front)) (omega arith)) refl
  first_true_up (false ∷ front) = ap suc (first_true_up front) ∙ moved_up_next (length front) (first_true (front ++ bs))

  pub first_true_down : (front : List Bool) → first_true (front ++ bs) ≡ moved_down (length front) (first_true (front ++ (false ∷ bs)))
  first_true_down front =
      sym (moved_back (length front) (first_true (front ++ bs))) ∙ ap (moved_down (length front)) (sym (first_true_up front))
