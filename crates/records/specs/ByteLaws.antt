-- What a walk over bytes knows: whether those from a place on are all zero. Assumes nothing.
use Rattle.std.specs.Prelude.{◌≡◌, true, false, List, ℕ, ◌+◌, ◌≤◌, ◌<◌, length, get_or, drop}
use Rattle.std.proofs.Common.{add-one, eq-eqb, ne_eqb, drop_of_length-le}
use Rattle.std.proofs.Math.Seq.{drop-cons}
use Rattle.graphs.specs.Drawing.{all_zero}

module _ (bs : List ℕ) (i : ℕ) where
  pub all_zero_next : i < length bs → get_or bs i 0 ≡ 0 → all_zero (drop i bs) ≡ all_zero (drop (i + 1) bs)
  unfolding all_zero
  all_zero_next h e = rw (add-one, drop-cons bs i 0) (simp (eq-eqb _ _ e))

  pub all_zero_not : i < length bs → (get_or bs i 0 ≡ 0 → ⊥) → all_zero (drop i bs) ≡ false
  unfolding all_zero
  all_zero_not h n = rw (drop-cons bs i 0) (simp (ne_eqb _ _ n))

  pub all_zero_end : length bs ≤ i → all_zero (drop i bs) ≡ true
  unfolding all_zero
  all_zero_end h = rw (drop_of_length-le bs h)
