-- The numbers of cables at each device, counted cable by cable: each is at most twice the number of cables counted. Assumes
-- nothing.
use Rattle.std.specs.Prelude.{List, [], ◌∷◌, ℕ, zero, suc, ◌+◌, ◌*◌, ◌≤◌, get_or, set, replicate}
use Rattle.std.proofs.Common.{arith}

-- none is greater than n
abbrev pub DegreesWithin : (n : ℕ) (counts : List ℕ) → Type 0
DegreesWithin n counts = (i : ℕ) → get_or counts i 0 ≤ n

-- none is counted yet
pub none_counted : (c n : ℕ) → DegreesWithin c (replicate n 0)
none_counted c zero i = omega arith
none_counted c (suc n) zero = omega arith
none_counted c (suc n) (suc i) = none_counted c n i

-- one is raised by one
abbrev pub count_raised : (counts : List ℕ) (i : ℕ) → List ℕ
count_raised counts i = set counts i (get_or counts i 0 + 1)

raised_within : (n : ℕ) (counts : List ℕ) (i : ℕ) → DegreesWithin n counts → DegreesWithin (n + 1) (count_raised counts i)
raised_within n [] i h j = omega (arith, h j)
raised_within n (x ∷ xs) zero h zero = omega (arith, h 0)
raised_within n (x ∷ xs) zero h (suc j) = omega (arith, h (suc j))
raised_within n (x ∷ xs) (suc i) h zero = omega (arith, h 0)
raised_within n (x ∷ xs) (suc i) h (suc j) = raised_within n xs i (λ k. h (suc k)) j

-- the ends of one cable more
module _ (c : ℕ) (counts : List ℕ) (a b : ℕ) (h : DegreesWithin (2 * c) counts) where
  pub end_counted : DegreesWithin (2 * c + 1) (count_raised counts a)
  end_counted = raised_within (2 * c) counts a h

  pub cable_counted : DegreesWithin (2 * (c + 1)) (count_raised (count_raised counts a) b)
  cable_counted i = omega (arith, raised_within (2 * c + 1) (count_raised counts a) b end_counted i)
