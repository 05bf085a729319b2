-- Exchangeable devices, noted device by device, and a chain of notes followed downwards. Rests on Twins. Assumes nothing.
use Rattle.std.specs.Prelude.{◌≡◌, List, ◌⊎◌, ℕ, ◌+◌, ◌%◌, ◌≤◌, ◌<◌, length, get_or, set, replicate}
use Rattle.std.proofs.Common.{sym, ◌∙◌, inl, inr, arith, get_or-set_same, get_or-set_other}
use Rattle.std.proofs.Math.Decide.{dec_lt, ℕ_discrete}
use Rattle.std.proofs.lemmas.List.{get_or-replicate}
use Rattle.codes.specs.BranchState.{label_at}
use Rattle.codes.specs.Twins.{Exchangeable, TwinNoted, TwinsNoted, TwinsFall}

-- WITH WHOM ONE OF TWO CAN BE EXCHANGED, the other can
pub exchangeable_trans : {t : List ℕ} {u v w : ℕ} → (u ≡ w → ⊥) → Exchangeable t u v → Exchangeable t v w → Exchangeable t u w
exchangeable_trans {t} {u} {v} {w} other a b = go (ℕ_discrete u v) (ℕ_discrete v w)
  where
    go : Dec (u ≡ v) → Dec (v ≡ w) → Exchangeable t u w
    go (yes p) q = rw p b
    go (no p) (yes q) = rw (← q) a
    go (no p) (no q) =
        record {
          u_low = a.u_low;
          v_low = b.v_low;
          apart = λ n h l r. each n h l r (ℕ_discrete n v);
          between = x.0 ∙ b.between ∙ sym x.1;
        }
      where
        x : (label_at t u w ≡ label_at t v w) × (label_at t w u ≡ label_at t w v)
        x = a.apart w b.v_low (λ z. other (sym z)) (λ z. q (sym z))

        y : (label_at t v u ≡ label_at t w u) × (label_at t u v ≡ label_at t u w)
        y = b.apart u a.u_low p other

        each : (n : ℕ) → n < 10 → (n ≡ u → ⊥) → (n ≡ w → ⊥) → Dec (n ≡ v) → (label_at t u n ≡ label_at t w n) × (label_at t n u ≡ label_at t n w)
        each n h l r (yes e) = rw e (y.1 ∙ x.0 ∙ b.between, y.0 ∙ x.1 ∙ sym b.between)
        each n h l r (no e) =
            let f = a.apart n h l e in
            let g = b.apart n h e r in
            (f.0 ∙ g.0, f.1 ∙ g.1)

-- NOTED TWINS are below
pub twins_fall : {t twins : List ℕ} → TwinsNoted t twins → TwinsFall twins
twins_fall {t} {twins} n = record { falls = λ v h. go v (n.noted v h) }
  where
    go : (v : ℕ) → TwinNoted t v (get_or twins v 0) → (get_or twins v 0 < v) ⊎ (get_or twins v 0 ≡ 10)
    go v (inl x) = inl x.0
    go v (inr e) = inr e

-- one step down: what is left falls, until it is ten
pub fall_less : {twins : List ℕ} → TwinsFall twins → (u : ℕ) → u < 10 → ((get_or twins u 0 + 1) % 11 < (u + 1) % 11) × (get_or twins u 0 ≤ 10)
fall_less {twins} n u h = go (n.falls u h)
  where
    go : (get_or twins u 0 < u) ⊎ (get_or twins u 0 ≡ 10) → ((get_or twins u 0 + 1) % 11 < (u + 1) % 11) × (get_or twins u 0 ≤ 10)
    go (inl x) = (omega arith, omega arith)
    go (inr e) = (omega arith, omega arith)

-- a twin below w
abbrev pub TwinBelow : (t : List ℕ) (u w : ℕ) → Type 0
TwinBelow t u w = (u < w) × Exchangeable t u w

module _ {t twins : List ℕ} (n : TwinsNoted t twins) where
  -- the one noted, if one is
  pub twin_first : (w : ℕ) → w < 10 → get_or twins w 0 < 10 → TwinBelow t (get_or twins w 0) w
  twin_first w h low = go (n.noted w h)
    where
      go : TwinNoted t w (get_or twins w 0) → TwinBelow t (get_or twins w 0) w
      go (inl x) = x
      go (inr e) = absurd (omega arith)

  -- and the one noted of a twin
  pub twin_further : (u w : ℕ) → u < 10 → TwinBelow t u w → get_or twins u 0 < 10 → TwinBelow t (get_or twins u 0) w
  twin_further u w h x low =
      let y = twin_first u h low in
      (omega (arith, x.0, y.0), exchangeable_trans (λ e. omega (arith, x.0, y.0)) y.1 x.1)

-- NOTING THEM, one after another
pub noted_more :
    {t : List ℕ} (twins : List ℕ) (v r : ℕ) → length twins ≡ 10 → v < 10 → ((x : ℕ) → x < v → TwinNoted t x (get_or twins x 0)) → TwinNoted t v r
    → (x : ℕ) → x < v + 1 → TwinNoted t x (get_or (set twins v r) x 0)
noted_more {t} twins v r size low so new x h = go (dec_lt x v)
  where
    go : Dec (x < v) → TwinNoted t x (get_or (set twins v r) x 0)
    go (yes l) = rw (get_or-set_other twins v x r 0 (λ e. omega arith)) (so x l)
    go (no l) =
        let e : x ≡ v = omega arith in
        rw (e, get_or-set_same twins v r 0 (omega arith)) new

-- where none is looked for, none is noted
pub none_noted : {t : List ℕ} → TwinsNoted t (replicate 10 10)
none_noted = record { noted = λ v h. inr (get_or-replicate 10 v 10 0 h) }
