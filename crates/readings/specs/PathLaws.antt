-- The rightmost path as an array from device 0 on, searched from its end down. Rests on Descending. Assumes nothing.
use Rattle.std.specs.Prelude.{◌≡◌, ◌≢◌, refl, Bool, true, false, List, ◌∷◌, ℕ, zero, suc, ◌+◌, ◌≤◌, ◌<◌, length, get_or, set, take}
use Rattle.std.proofs.Common.{sym, get_or-take, length-take-le, ap₂, ◌∙◌, length-set, get_or-set_same, get_or-set_other, eq-eqb, ne_eqb, eqb, eqb-true}
use Rattle.std.proofs.lemmas.Bool.{eqb-false}
use native.Mathlib.Omega.{arith}
use Rattle.laws.specs.Lists.{Mem}
use Rattle.graphs.specs.Drawing.{member}
use Rattle.graphs.specs.Cables.{mem_to_test}
use Rattle.codes.specs.Code.{cut_to}
use Rattle.codes.specs.Step.{Falling, cut_within}
use Rattle.codes.specs.BranchState.{descending}
use Rattle.codes.specs.Descending.{descending_set, descending_high}
use Rattle.readings.specs.Readings.{PathCutPlace}

-- two stores, one after another, are its new end
pub descending_store :
    (ps : List ℕ) (q v w : ℕ) → q + 1 < length ps → descending (q + 2) (set (set ps q v) (q + 1) w) ≡ w ∷ v ∷ descending q ps
unfolding descending
descending_store ps q v w h =
    let one : q + 1 ≡ suc q = omega arith in
    let two : q + 2 ≡ suc (suc q) = omega arith in
    rw (two, one)
    (ap₂ {C = List ℕ} (λ x xs. x ∷ xs) (get_or-set_same (set ps q v) (suc q) w 0 (rw length-set (omega arith)))
    (ap₂ {C = List ℕ} (λ x xs. x ∷ xs) (get_or-set_other (set ps q v) (suc q) q w 0 (λ e. omega arith) ∙ get_or-set_same ps q v 0 (omega arith))
    (descending_set q (set ps q v) (suc q) w (omega arith) ∙ descending_set q ps q v (omega arith))))

-- a place is no higher than its device
pub falling_place : (q : ℕ) (ps : List ℕ) → Falling (descending (suc q) ps) → q ≤ get_or ps q 0
falling_place q ps f = descending_high (suc q) ps f q (omega arith)

-- A SEARCH from the end down: what is left of the path says what all of it says
pub record Sought (n : ℕ) (ps : List ℕ) (v left : ℕ) : Type 0 where
  pub same_member : member v (descending n ps) ≡ member v (descending left ps)
  pub same_cut : cut_to v (descending n ps) ≡ cut_to v (descending left ps)

module _ (n : ℕ) (ps : List ℕ) (v : ℕ) where
  pub sought_start : Sought n ps v n
  sought_start = record { same_member = refl; same_cut = refl }

  pub sought_lower : (k : ℕ) → Sought n ps v (suc k) → (get_or ps k 0 ≡ v → ⊥) → Sought n ps v k
  unfolding descending member cut_to
  sought_lower k s d =
      record { same_member = s.same_member ∙ simp (ne_eqb _ _ d); same_cut = s.same_cut ∙ simp (ne_eqb _ _ d) }

  pub sought_found : (k : ℕ) → k < n → Sought n ps v (suc k) → get_or ps k 0 ≡ v → PathCutPlace n ps v k
  unfolding descending cut_to
  sought_found k h s e = record { below = h; is = e; cut = s.same_cut ∙ simp (eq-eqb _ _ e) }

  pub sought_none : (left : ℕ) → left ≤ 0 → Sought n ps v left → member v (descending n ps) ≡ false
  unfolding descending member
  sought_none left h s = let e : left ≡ 0 = omega arith in s.same_member ∙ rw e

-- Nothing of it is v, or the last that is cuts it
module _ (ps : List ℕ) (v : ℕ) where
  missing : (n : ℕ) → ((k : ℕ) → k < n → get_or ps k 0 ≢ v) → member v (descending n ps) ≡ false
  unfolding descending member
  missing zero d = refl
  missing (suc n) d = let m = missing n (λ k h. d k (omega arith)) in simp (ne_eqb _ _ (d n (omega arith))) m

  cut_last :
      (n q : ℕ) → q < n → get_or ps q 0 ≡ v → ((k : ℕ) → q < k → k < n → get_or ps k 0 ≢ v)
      → cut_to v (descending n ps) ≡ descending (suc q) ps
  unfolding descending cut_to
  cut_last zero q h e d = absurd (omega arith)
  cut_last (suc n) q h e d = go (eqb q n) refl (λ s. cut_last n q s e (λ k g l. d k g (omega arith)))
    where
      go :
          (t : Bool) → eqb q n ≡ t → (q < n → cut_to v (descending n ps) ≡ descending (suc q) ps)
          → cut_to v (descending (suc n) ps) ≡ descending (suc q) ps
      go true z below = let s = eqb-true q n z in rw (← s) (simp (eq-eqb _ _ e))
      go false z below =
          let s : q < n = omega (arith, eqb-false q n z) in
          simp (ne_eqb _ _ (d n s (omega arith))) (below s)

-- of the first n devices the last that is v, or none is
module _ (n : ℕ) (ps : List ℕ) (v : ℕ) (long : n ≤ length ps) where
  wide : length (take n ps) ≡ n
  wide = length-take-le n ps long

  pub place_missing : ((k : ℕ) → k < length (take n ps) → get_or (take n ps) k 0 ≢ v) → member v (descending n ps) ≡ false
  place_missing d = missing ps v n (λ k h e. d k (rw wide h) (get_or-take n ps k 0 h ∙ e))

  pub place_last :
      (q : ℕ) → q < n → get_or (take n ps) q 0 ≡ v → ((k : ℕ) → q < k → k < length (take n ps) → get_or (take n ps) k 0 ≢ v)
      → PathCutPlace n ps v q
  place_last q h e d =
      let is = sym (get_or-take n ps q 0 h) ∙ e in
      record { below = h; is = is; cut = cut_last ps v n q h is (λ k g l z. d k g (rw wide l) (get_or-take n ps k 0 l ∙ z)) }

module _ (n : ℕ) (ps : List ℕ) (v : ℕ) where
  -- a device with a place is on the path
  pub place_member : (q : ℕ) → PathCutPlace n ps v q → member v (descending n ps) ≡ true
  place_member q p = mem_to_test v (descending n ps) (cut_within v (descending n ps) (rw p.cut top))
    where
      top : Mem v (descending (suc q) ps)
      top = unfold descending in Mem.here p.is
