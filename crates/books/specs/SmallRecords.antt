-- The records that may come next in a code of small kinds, numbered in rising order: backward ones from the newest device, by the device that
-- they go to, then forward ones, by the device that they come from, from the newest down; 27 of each, by their labels. Assumes nothing: these are
-- definitions.
use Rattle.std.specs.Prelude.{cond, List, [], ◌∷◌, ℕ, zero, suc, ◌+◌, ◌*◌, ◌-◌, ◌/◌, ◌%◌, ltb, length}
use Rattle.laws.specs.Lists.{snoc}
use Rattle.codes.specs.Code.{Rec, fresh, read_rows}

-- HOW MANY DEVICES a code has to go on from: without a record there is device 0
abbrev pub width : List Rec → ℕ
width [] = 1
width (r ∷ rs) = length (read_rows fresh (r ∷ rs)).kinds

-- the two devices of step q after a code of n devices: n - 1 steps back, then n forward
abbrev pub number_from : (n q : ℕ) → ℕ
number_from n q = cond (ltb (q + 1) n) (n - 1) (2 * n - (q + 2))

abbrev pub number_to : (n q : ℕ) → ℕ
number_to n q = cond (ltb (q + 1) n) q n

-- the record from i to j with the labels of a number
abbrev pub labels_at : (i j t : ℕ) → Rec
labels_at i j t = record { i = i; j = j; ki = t / 9 % 3; c = t / 3 % 3; kj = t % 3 }

-- RECORD NUMBER t, and how many there are
abbrev pub numbered : (n t : ℕ) → Rec
numbered n t = labels_at (number_from n (t / 27)) (number_to n (t / 27)) t

abbrev pub next_count : ℕ → ℕ
next_count n = 27 * (2 * n - 1)

-- those with numbers below k
unfoldable pub numbered_below : (n k : ℕ) → List Rec
numbered_below n zero = []
numbered_below n (suc k) = snoc (numbered_below n k) (numbered n k)
