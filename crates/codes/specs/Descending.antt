-- The rightmost path kept from device 0 on, as a reading has it: its members, its end, how it rises, cut back and gone on.
-- Rests on Step and BranchState. Assumes nothing.
use Rattle.std.specs.Prelude.{◌≡◌, refl, cond, List, ◌∷◌, ℕ, zero, suc, ◌-◌, ◌≤◌, ◌<◌, eqb, length, get_or, set}
use Rattle.std.proofs.Common.{ap, ap₂, not-suc-le-zero, arith, get_or-set_same, get_or-set_other, eq-eqb, ne_eqb}
use Rattle.std.proofs.Math.Decide.{ℕ_discrete}
use Rattle.laws.specs.Lists.{Mem}
use Rattle.codes.specs.Code.{end, second, cut_to}
use Rattle.codes.specs.Step.{Falling}
use Rattle.codes.specs.BranchState.{descending}

-- q stands at place i of the first n
pub record PathPlace (n : ℕ) (ps : List ℕ) (q : ℕ) : Type 0 where
  pub i : ℕ
  pub below : i < n
  pub is : get_or ps i 0 ≡ q

-- MEMBERS
pub descending_length : (n : ℕ) (ps : List ℕ) → length (descending n ps) ≡ n
unfolding descending
descending_length zero ps = refl
descending_length (suc n) ps = ap suc (descending_length n ps)

pub descending_has : (n : ℕ) (ps : List ℕ) (i : ℕ) → i < n → Mem (get_or ps i 0) (descending n ps)
unfolding descending
descending_has zero ps i h = absurd (not-suc-le-zero h)
descending_has (suc n) ps i h = go (ℕ_discrete n i) (λ l. descending_has n ps i l)
  where
    go : Dec (n ≡ i) → (i < n → Mem (get_or ps i 0) (descending n ps)) → Mem (get_or ps i 0) (get_or ps n 0 ∷ descending n ps)
    go (yes e) r = Mem.here (ap (λ (k : ℕ). get_or ps k 0) e)
    go (no e) r = Mem.there (r (omega arith))

pub descending_place : (n : ℕ) (ps : List ℕ) {q : ℕ} → Mem q (descending n ps) → PathPlace n ps q
unfolding descending
descending_place zero ps m = elim m [ ]
descending_place (suc n) ps (Mem.here e) = record { i = n; below = omega arith; is = e }
descending_place (suc n) ps (Mem.there m) = let p = descending_place n ps m in record { i = p.i; below = omega (arith, p.below); is = p.is }

-- THE END AND THE DEVICE BEFORE IT
pub descending_end : (n : ℕ) (ps : List ℕ) → 0 < n → end (descending n ps) ≡ get_or ps (n - 1) 0
unfolding descending end
descending_end zero ps h = absurd (not-suc-le-zero h)
descending_end (suc n) ps h = let z : n ≡ suc n - 1 = omega arith in ap (λ (k : ℕ). get_or ps k 0) z

pub descending_second : (n : ℕ) (ps : List ℕ) → 1 < n → second (descending n ps) ≡ get_or ps (n - 2) 0
unfolding descending second
descending_second zero ps h = absurd (not-suc-le-zero h)
descending_second (suc zero) ps h = absurd (omega arith)
descending_second (suc (suc n)) ps h = let z : n ≡ suc (suc n) - 2 = omega arith in ap (λ (k : ℕ). get_or ps k 0) z

-- IT RISES strictly from device 0 on
pub descending_rises :
    (n : ℕ) (ps : List ℕ) → Falling (descending n ps) → (i j : ℕ) → i < j → j < n → get_or ps i 0 < get_or ps j 0
unfolding descending Falling
descending_rises zero ps f i j l h = absurd (not-suc-le-zero h)
descending_rises (suc n) ps f i j l h = go (ℕ_discrete n j) (λ g. descending_rises n ps f.1 i j l g)
  where
    go : Dec (n ≡ j) → (j < n → get_or ps i 0 < get_or ps j 0) → get_or ps i 0 < get_or ps j 0
    go (yes e) r = rw (← e) (f.0 (get_or ps i 0) (descending_has n ps i (omega arith)))
    go (no e) r = r (omega arith)

-- so each place is at most the number that stands there
pub descending_high : (n : ℕ) (ps : List ℕ) → Falling (descending n ps) → (i : ℕ) → i < n → i ≤ get_or ps i 0
descending_high n ps f zero h = omega arith
descending_high n ps f (suc i) h =
    omega (arith, descending_high n ps f i (omega arith), descending_rises n ps f i (suc i) (omega arith) h)

-- CUT BACK to the number at place q
pub descending_cut :
    (n : ℕ) (ps : List ℕ) → Falling (descending n ps) → (q : ℕ) → q < n → cut_to (get_or ps q 0) (descending n ps) ≡ descending (suc q) ps
unfolding descending cut_to Falling
descending_cut zero ps f q h = absurd (not-suc-le-zero h)
descending_cut (suc n) ps f q h = go (ℕ_discrete n q) (λ l. descending_cut n ps f.1 q l)
  where
    go :
        Dec (n ≡ q) → (q < n → cut_to (get_or ps q 0) (descending n ps) ≡ descending (suc q) ps)
        → cond (eqb (get_or ps n 0) (get_or ps q 0)) (get_or ps n 0 ∷ descending n ps) (cut_to (get_or ps q 0) (descending n ps)) ≡ descending (suc q) ps
    go (yes e) r = rw (e, eq-eqb (get_or ps q 0) (get_or ps q 0) refl)
    go (no e) r =
        let l : get_or ps q 0 < get_or ps n 0 = f.0 (get_or ps q 0) (descending_has n ps q (omega arith)) in
        rw (ne_eqb (get_or ps n 0) (get_or ps q 0) (λ z. omega arith)) (r (omega arith))

-- GONE ON: what is set behind the first n leaves them
pub descending_set : (n : ℕ) (ps : List ℕ) (k v : ℕ) → n ≤ k → descending n (set ps k v) ≡ descending n ps
unfolding descending
descending_set zero ps k v h = refl
descending_set (suc n) ps k v h =
    ap₂ {C = List ℕ} (λ a l. a ∷ l) (get_or-set_other ps k n v 0 (λ e. omega arith)) (descending_set n ps k v (omega arith))

pub descending_forward :
    (q : ℕ) (ps : List ℕ) (v : ℕ) → suc q < length ps → descending (suc (suc q)) (set ps (suc q) v) ≡ v ∷ descending (suc q) ps
unfolding descending
descending_forward q ps v h =
    ap₂ {C = List ℕ} (λ a l. a ∷ l) (get_or-set_same ps (suc q) v 0 h) (descending_set (suc q) ps (suc q) v (omega arith))
