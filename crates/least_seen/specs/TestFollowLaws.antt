-- A branch that follows a code, record by record: what it sees, its bounds, and what more records change. Rests on CodeRows. Assumes nothing.
use Rattle.std.proofs.Common.{sym, subst, arith, drop_of_length-le}
use Rattle.std.specs.Prelude.{List, ℕ, ◌≤◌, ◌<◌, take, drop}
use Rattle.std.proofs.Math.Decide.{dec_lt}
use Rattle.laws.specs.Lists.{take_most, drop_take_more}
use Rattle.codes.specs.Code.{Rec, kinds_before, decoded, code_records}
use Rattle.codes.specs.Better.{Better, better_more}
use Rattle.codes.specs.BranchState.{State, numbering}
use Rattle.codes.specs.BranchBounds.{Bounds, represents_bounds}
use Rattle.tables.specs.CodeRows.{code_ten, code_simple}
use Rattle.least_seen.specs.Betters.{Follows, BetterBelow}
use Rattle.least_seen.specs.BetterLaws.{Sees}

-- A BRANCH that has followed the first k records
module _ {t bs : List ℕ} {k : ℕ} {b : State} (F : Follows t bs k b) where
  pub sees : Sees (decoded (code_records bs)) t (take k (code_records bs)) b
  sees =
      record {
        ten = code_ten bs F.tabled.accepted;
        ends = (code_simple bs F.tabled.accepted).ends;
        labels = F.tabled.labels;
        branch = F.branch;
      }

  pub follows_bounds : Bounds b
  follows_bounds = represents_bounds _ _ b (code_ten bs F.tabled.accepted) F.branch

-- OF THE FIRST m RECORDS nothing is seen behind the last
pub nothing_behind : (bs : List ℕ) (m k : ℕ) (b : State) → m ≤ k → BetterBelow bs m k b → ⊥
unfolding Better
nothing_behind bs m k b h x =
    subst (λ (ss : List Rec). Better kinds_before (decoded (code_records bs)) (take k (code_records bs)) ss (numbering b))
    (drop_of_length-le (take m (code_records bs)) {i = k} (omega (arith, take_most m (code_records bs)))) x

-- so where something is seen, records are left
pub better_left : (bs : List ℕ) (m k : ℕ) (b : State) → BetterBelow bs m k b → k < m
better_left bs m k b x = go (dec_lt k m)
  where
    go : Dec (k < m) → k < m
    go (yes h) = h
    go (no h) = absurd (nothing_behind bs m k b (omega arith) x)

-- what is seen of fewer records is seen of more
pub better_of_more : (bs : List ℕ) (j m k : ℕ) (b : State) → j ≤ m → BetterBelow bs j k b → BetterBelow bs m k b
better_of_more bs j m k b h x =
    let r = drop_take_more k j m (code_records bs) h in
    subst (λ (ss : List Rec). Better kinds_before (decoded (code_records bs)) (take k (code_records bs)) ss (numbering b)) (sym r.1)
    (better_more kinds_before (decoded (code_records bs)) (take k (code_records bs)) (drop k (take j (code_records bs))) r.0 (numbering b) x)
