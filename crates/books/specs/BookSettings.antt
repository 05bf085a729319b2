-- The settings of a book: those that are not refused are within their bounds. Assumes nothing.
use Rattle.std.specs.Prelude.{◌≡◌, true, ◌&&◌, not, cond, ℕ, ◌≤◌, leb}
use Rattle.std.proofs.Common.{arith, leb-true}
use Rattle.laws.specs.Tests.{and_split, passes}
use Rattle.books.specs.Book.{one_to_three, book_refusal}

pub setting_within : (n : ℕ) → one_to_three n ≡ true → (1 ≤ n) × (n ≤ 3)
unfolding one_to_three
setting_within n e = let s = and_split (leb 1 n) (leb n 3) e in (leb-true 1 n s.0, leb-true n 3 s.1)

pub settings_fit : (a b l : ℕ) → book_refusal a b l ≡ 0 → (a ≤ 3) × (b ≤ 3) × (l ≤ 3)
unfolding book_refusal
settings_fit a b l e =
    let x = passes (one_to_three a && one_to_three b) 16 (cond (not (one_to_three l)) 17 0) (λ x z. omega arith) e in
    let y = and_split (one_to_three a) (one_to_three b) x.0 in
    let z = passes (one_to_three l) 17 0 (λ x z. omega arith) x.1 in
    ((setting_within a y.0).1, (setting_within b y.1).1, (setting_within l z.0).1)
