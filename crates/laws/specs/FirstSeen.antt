-- The first place below a bound at which something is seen, by a search that lowers the bound. Assumes nothing.
use Rattle.std.specs.Prelude.{◌≡◌, ℕ, suc, ◌≤◌, ◌<◌}
use Rattle.std.proofs.Common.{arith}
use Rattle.std.proofs.Math.Decide.{dec_lt}

-- r IS THE FIRST PLACE below m at which it is seen, or m where it is seen at none; P k says that it is seen at a place below k. A search that
-- was told that some place will do may have stopped at any that is at most `enough`
pub record FirstPlace (P : ℕ → Type 0) (m enough r : ℕ) : Type 0 where
  pub within : r ≤ m
  pub none : enough < r → P r → ⊥
  pub some : r < m → P (suc r)

module _ (P : ℕ → Type 0) where
  pub place_none : {m enough : ℕ} → (P m → ⊥) → FirstPlace P m enough m
  place_none n = record { within = omega arith; none = λ h. n; some = λ h. absurd (omega arith) }

  pub place_found : {m enough r : ℕ} → r < m → P (suc r) → (P r → ⊥) → FirstPlace P m enough r
  place_found h p n = record { within = omega arith; none = λ l. n; some = λ l. p }

  -- where the bound had been lowered to b, since it is seen there, and is lowered again
  pub place_some : (m b r : ℕ) → (b < m → P (suc b)) → r ≤ b → (r < b → P (suc r)) → r < m → P (suc r)
  place_some m b r seen low next h = go (dec_lt r b)
    where
      go : Dec (r < b) → P (suc r)
      go (yes l) = next l
      go (no l) = let e : b ≡ r = omega arith in rw (← e) (seen (omega arith))
