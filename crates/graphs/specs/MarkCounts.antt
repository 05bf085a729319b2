-- Lists of marks of which few say yes: how many there are, and a number for each. Assumes nothing.
use Rattle.std.specs.Prelude.{◌≡◌, refl, Bool, true, false, List, [], ◌∷◌, ℕ, zero, suc, ◌+◌, ◌≤◌, ◌<◌, length}
use Rattle.std.proofs.Common.{ap, arith}
use Rattle.std.proofs.Math.Decide.{dec_le}
use Rattle.graphs.specs.Survey.{count_true}

-- how many lists of n marks have at most m that say yes
unfoldable pub few_marks : (n m : ℕ) → ℕ
few_marks zero m = 1
few_marks (suc n) zero = few_marks n zero
few_marks (suc n) (suc m) = few_marks n (suc m) + few_marks n m

-- the number of such a list: first those that begin with no
unfoldable pub marks_number : (m : ℕ) → List Bool → ℕ
marks_number zero bs = 0
marks_number (suc m) [] = 0
marks_number (suc m) (false ∷ bs) = marks_number (suc m) bs
marks_number (suc m) (true ∷ bs) = few_marks (length bs) (suc m) + marks_number m bs

pub few_some : (n m : ℕ) → 1 ≤ few_marks n m
unfolding few_marks
few_some zero m = omega arith
few_some (suc n) zero = few_some n zero
few_some (suc n) (suc m) = omega (arith, few_some n (suc m))

-- more marks, more lists
few_step : (n m : ℕ) → few_marks n m ≤ few_marks (suc n) m
unfolding few_marks
few_step n zero = omega arith
few_step n (suc m) = omega arith

pub few_upto : (most n m : ℕ) → n ≤ most → few_marks n m ≤ few_marks most m
few_upto zero n m h = let none : n ≡ 0 = omega arith in rw none (omega arith)
few_upto (suc most) n m h = go (dec_le n most) (few_upto most n m)
  where
    go : Dec (n ≤ most) → (n ≤ most → few_marks n m ≤ few_marks most m) → few_marks n m ≤ few_marks (suc most) m
    go (yes l) ih = omega (arith, ih l, few_step most m)
    go (no l) ih = let last : n ≡ suc most = omega arith in rw last (omega arith)

-- a number is below how many there are
pub marks_number_below : (m : ℕ) (bs : List Bool) → count_true bs ≤ m → marks_number m bs < few_marks (length bs) m
unfolding marks_number few_marks count_true
marks_number_below zero bs h = few_some (length bs) zero
marks_number_below (suc m) [] h = omega arith
marks_number_below (suc m) (false ∷ bs) h = omega (arith, marks_number_below (suc m) bs (omega arith))
marks_number_below (suc m) (true ∷ bs) h = omega (arith, marks_number_below m bs (omega arith))

-- a list with a yes does not have the first number
pub marks_number_some : (m : ℕ) (bs : List Bool) → 1 ≤ count_true bs → count_true bs ≤ m → 1 ≤ marks_number m bs
unfolding marks_number count_true
marks_number_some zero bs h g = absurd (omega arith)
marks_number_some (suc m) [] h g = absurd (omega arith)
marks_number_some (suc m) (false ∷ bs) h g = marks_number_some (suc m) bs (omega arith) (omega arith)
marks_number_some (suc m) (true ∷ bs) h g = omega (arith, few_some (length bs) (suc m))

-- and no two have the same number
none_alike : (bs cs : List Bool) → length bs ≡ length cs → count_true bs ≤ 0 → count_true cs ≤ 0 → bs ≡ cs
unfolding count_true
none_alike [] [] e h g = refl
none_alike [] (c ∷ cs) e h g = absurd (omega arith)
none_alike (b ∷ bs) [] e h g = absurd (omega arith)
none_alike (false ∷ bs) (false ∷ cs) e h g = ap (λ (xs : List Bool). false ∷ xs) (none_alike bs cs (omega arith) (omega arith) (omega arith))
none_alike (false ∷ bs) (true ∷ cs) e h g = absurd (omega arith)
none_alike (true ∷ bs) (false ∷ cs) e h g = absurd (omega arith)
none_alike (true ∷ bs) (true ∷ cs) e h g = absurd (omega arith)

pub marks_number_tells :
    (m : ℕ) (bs cs : List Bool) → length bs ≡ length cs → count_true bs ≤ m → count_true cs ≤ m → marks_number m bs ≡ marks_number m cs → bs ≡ cs
unfolding marks_number count_true
marks_number_tells zero bs cs e h g q = none_alike bs cs e h g
marks_number_tells (suc m) [] [] e h g q = refl
marks_number_tells (suc m) [] (c ∷ cs) e h g q = absurd (omega arith)
marks_number_tells (suc m) (b ∷ bs) [] e h g q = absurd (omega arith)
marks_number_tells (suc m) (false ∷ bs) (false ∷ cs) e h g q =
    ap (λ (xs : List Bool). false ∷ xs) (marks_number_tells (suc m) bs cs (omega arith) (omega arith) (omega arith) q)
marks_number_tells (suc m) (false ∷ bs) (true ∷ cs) e h g q =
    let same : length bs ≡ length cs = omega arith in
    absurd (omega (arith, marks_number_below (suc m) bs (omega arith), ap (λ (n : ℕ). few_marks n (suc m)) same))
marks_number_tells (suc m) (true ∷ bs) (false ∷ cs) e h g q =
    let same : length bs ≡ length cs = omega arith in
    absurd (omega (arith, marks_number_below (suc m) cs (omega arith), ap (λ (n : ℕ). few_marks n (suc m)) same))
marks_number_tells (suc m) (true ∷ bs) (true ∷ cs) e h g q =
    let same : length bs ≡ length cs = omega arith in
    ap (λ (xs : List Bool). true ∷ xs)
    (marks_number_tells m bs cs same (omega arith) (omega arith) (omega (arith, ap (λ (n : ℕ). few_marks n (suc m)) same)))

-- 20 marks, at most 8 of them yes
pub few_most : few_marks 20 8 ≡ 263950
unfolding few_marks
few_most = refl
