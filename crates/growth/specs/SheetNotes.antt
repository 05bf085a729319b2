-- A table of sheets of one crane made, a drawing after another. Rests on Sheets and Masks. Assumes nothing.
use Rattle.std.specs.Prelude.{◌≡◌, refl, List, ◌⊎◌, ℕ, ◌+◌, ◌*◌, ◌%◌, ◌^◌, ◌≤◌, ◌<◌, length, get_or, set, replicate}
use Rattle.std.proofs.Common.{◌∙◌, inl, inr, not-suc-le-zero, arith, length-set, get_or-set_same, get_or-set_other}
use Rattle.std.proofs.Math.Decide.{ℕ_discrete, dec_lt}
use Rattle.std.specs.Int.Bits.{bit_or}
use Rattle.std.proofs.lemmas.List.{length-replicate, get_or-replicate}
use Rattle.laws.specs.Masks.{Bit, bit_or_left, bit_or_right, bit_or_either, bit_some, power_fits, power_bit, power_only}
use Rattle.growth.specs.Sheets.{LaterSheet, later_in, SheetsBefore, SheetsNoted, LaterBefore}

-- AS THE TABLE IS MADE: of the first n drawings, those that have no bit have no later sheet
abbrev pub ToldBefore : (n : ℕ) (sheets : List ℕ) (mask : ℕ) → Type 0
ToldBefore n sheets m = (d : ℕ) → d < n → (Bit m d → ⊥) → later_in sheets d ≡ 0

-- THE LATER SHEETS of drawing d, one drawing after another: none up to d itself
module _ {cr : List ℕ} {d : ℕ} where
  pub later_none : LaterBefore (d + 1) cr d 0
  later_none = record { has = λ e h l. absurd (omega (arith, l.later)); only = λ e b. absurd (bit_some 0 e b refl) }

  module _ {n mask : ℕ} (b : LaterBefore n cr d mask) where
    pub later_with : n < 32 → LaterSheet cr d n → LaterBefore (n + 1) cr d (bit_or mask ((1 * 2 ^ n) % 2 ^ 32))
    later_with low l =
        rw (power_fits 32 n low)
        (record { has = λ e h s. has_one e h s (ℕ_discrete e n); only = λ e s. only_one e (bit_or_either mask (2 ^ n) e s) })
      where
        has_one : (e : ℕ) → e < n + 1 → LaterSheet cr d e → Dec (e ≡ n) → Bit (bit_or mask (2 ^ n)) e
        has_one e h s (yes q) = rw q (bit_or_right mask (2 ^ n) n (power_bit n))
        has_one e h s (no q) = bit_or_left mask (2 ^ n) e (b.has e (omega arith) s)

        only_one : (e : ℕ) → Bit mask e ⊎ Bit (2 ^ n) e → (e < n + 1) × LaterSheet cr d e
        only_one e (inl s) = (omega (arith, (b.only e s).0), (b.only e s).1)
        only_one e (inr s) = let q : n ≡ e = power_only n e s in (omega arith, rw (← q) l)

    pub later_skip : (get_or cr n 256 ≡ get_or cr d 256 → ⊥) → LaterBefore (n + 1) cr d mask
    later_skip other =
        record { has = λ e h s. go e h s (ℕ_discrete e n); only = λ e s. (omega (arith, (b.only e s).0), (b.only e s).1) }
      where
        go : (e : ℕ) → e < n + 1 → LaterSheet cr d e → Dec (e ≡ n) → Bit mask e
        go e h s (yes q) = absurd (other (rw q at s.same))
        go e h s (no q) = b.has e (omega arith) s

    -- behind the last drawing there is none
    pub later_end : length cr ≤ n → LaterBefore (length cr) cr d mask
    later_end h = record { has = λ e l s. b.has e (omega arith) s; only = λ e t. ((b.only e t).1.below, (b.only e t).1) }

-- THE TABLE, one row after another
pub sheets_none : (cr : List ℕ) → SheetsBefore 0 cr (replicate 100 0)
sheets_none cr =
    record {
      size = length-replicate {A = ℕ} 100 0;
      has = λ d e h s. absurd (not-suc-le-zero h);
      only = λ d e h b. absurd (not-suc-le-zero h);
      none = λ d h low. get_or-replicate {A = ℕ} 100 d 0 0 (omega arith);
    }

module _ {cr sheets : List ℕ} {n : ℕ} (mask : ℕ) (s : SheetsBefore n cr sheets) (low : n < 32) where
  at_new : later_in (set sheets n mask) n ≡ mask
  at_new = get_or-set_same sheets n mask 0 (omega (arith, s.size))

  at_old : (d : ℕ) → (d ≡ n → ⊥) → later_in (set sheets n mask) d ≡ later_in sheets d
  at_old d q = get_or-set_other sheets n d mask 0 q

  pub sheets_next : LaterBefore (length cr) cr n mask → SheetsBefore (n + 1) cr (set sheets n mask)
  sheets_next l =
      record {
        size = length-set sheets n mask ∙ s.size;
        has = λ d e h t. has_one d e h t (ℕ_discrete d n);
        only = λ d e h t. only_one d e h t (ℕ_discrete d n);
        none = λ d h t. at_old d (λ q. omega arith) ∙ s.none d (omega arith) t;
      }
    where
      has_one : (d e : ℕ) → d < n + 1 → LaterSheet cr d e → Dec (d ≡ n) → Bit (later_in (set sheets n mask) d) e
      has_one d e h t (yes q) = rw (q, at_new) (l.has e t.below (rw q at t))
      has_one d e h t (no q) = rw (at_old d q) (s.has d e (omega arith) t)

      only_one : (d e : ℕ) → d < n + 1 → Bit (later_in (set sheets n mask) d) e → Dec (d ≡ n) → LaterSheet cr d e
      only_one d e h t (yes q) = rw q (l.only e (rw (q, at_new) at t)).1
      only_one d e h t (no q) = s.only d e (omega arith) (rw (at_old d q) at t)

  -- those that have any, told so far
  pub told_with : (m : ℕ) → ToldBefore n sheets m → ToldBefore (n + 1) (set sheets n mask) (bit_or m ((1 * 2 ^ n) % 2 ^ 32))
  told_with m t d h unset = go (ℕ_discrete d n)
    where
      go : Dec (d ≡ n) → later_in (set sheets n mask) d ≡ 0
      go (yes q) = absurd (unset (rw (q, power_fits 32 n low) (bit_or_right m (2 ^ n) n (power_bit n))))
      go (no q) = at_old d q ∙ t d (omega arith) (λ b. unset (bit_or_left m ((1 * 2 ^ n) % 2 ^ 32) d b))

  pub told_skip : (m : ℕ) → mask ≡ 0 → ToldBefore n sheets m → ToldBefore (n + 1) (set sheets n mask) m
  told_skip m e t d h unset = go (ℕ_discrete d n)
    where
      go : Dec (d ≡ n) → later_in (set sheets n mask) d ≡ 0
      go (yes q) = rw (q, at_new) e
      go (no q) = at_old d q ∙ t d (omega arith) unset

-- ITS END: which drawings have any stands behind the rows
module _ {cr sheets : List ℕ} (m : ℕ) (s : SheetsBefore (length cr) cr sheets) (most : length cr ≤ 32) where
  beside : (d : ℕ) → d < 32 → later_in (set sheets 32 m) d ≡ later_in sheets d
  beside d h = get_or-set_other sheets 32 d m 0 (λ q. omega arith)

  pub sheets_end : ToldBefore (length cr) sheets m → SheetsNoted cr (set sheets 32 m)
  sheets_end t =
      record {
        sheets_are =
            record {
              size = length-set sheets 32 m ∙ s.size;
              has = λ d e h l. rw (beside d (omega arith)) (s.has d e h l);
              only = λ d e h b. s.only d e h (rw (beside d (omega arith)) at b);
              none = λ d h low. beside d low ∙ s.none d h low;
            };
        told = λ d low unset. beside d low ∙ told_all d low (rw (get_or-set_same sheets 32 m 0 (omega (arith, s.size))) at unset);
      }
    where
      told_all : (d : ℕ) → d < 32 → (Bit m d → ⊥) → later_in sheets d ≡ 0
      told_all d low unset = go (dec_lt d (length cr))
        where
          go : Dec (d < length cr) → later_in sheets d ≡ 0
          go (yes h) = t d h unset
          go (no h) = s.none d (omega arith) low
