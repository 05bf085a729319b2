-- Permitted steps of a reading, as relations, and what cutting the rightmost path back does. Assumes nothing.
use Rattle.std.specs.Prelude.{◌≡◌, refl, Bool, true, false, cond, List, [], ◌∷◌, ◌⊎◌, ℕ, ◌≤◌, ◌<◌, eqb, length, get_or}
use Rattle.std.proofs.Common.{arith, eqb-true}
use Rattle.std.proofs.lemmas.Bool.{eqb-false}
use Rattle.laws.specs.Lists.{Mem}
use Rattle.codes.specs.Code.{Rec, Reading, end, second, cut_to, forwarded, backed}

-- a backward step from i to j is permitted
pub record Backward (x : Reading) (i j : ℕ) : Type 0 where
  pub is_end : i ≡ end x.path
  pub down : j < i
  pub on_path : Mem j x.path
  pub not_parent : j ≡ second x.path → ⊥
  pub rising : (x.back ≡ 10) ⊎ (x.back < j)

-- a permitted step after the first, with kinds that match
pub data Step (x : Reading) (e : Rec) : Type 0 where
  steps_back : Backward x e.i e.j → get_or x.kinds e.i 256 ≡ e.ki → get_or x.kinds e.j 256 ≡ e.kj → Step x e
  steps_forward : Mem e.i x.path → e.j ≡ length x.kinds → e.j ≤ 9 → get_or x.kinds e.i 256 ≡ e.ki → Step x e

-- the reading after it
abbrev pub after : {x : Reading} {e : Rec} → Step x e → Reading
after {x} {e} (steps_back o p q) = backed x e
after {x} {e} (steps_forward m p q r) = forwarded x e

-- THE RIGHTMOST PATH falls strictly from its end
unfoldable pub Falling : List ℕ → Type 0
Falling [] = Unit {0}
Falling (p ∷ ps) = ((q : ℕ) → Mem q ps → q < p) × Falling ps

pub cut_within : (i : ℕ) (ps : List ℕ) {q : ℕ} → Mem q (cut_to i ps) → Mem q ps
unfolding cut_to
cut_within i [] m = m
cut_within i (p ∷ ps) {q} m = go (eqb p i) (λ l. cut_within i ps l) m
  where
    go : (t : Bool) → (Mem q (cut_to i ps) → Mem q ps) → Mem q (cond t (p ∷ ps) (cut_to i ps)) → Mem q (p ∷ ps)
    go true f l = l
    go false f l = Mem.there (f l)

-- what is at most i stays
pub cut_keeps : (i : ℕ) (ps : List ℕ) {q : ℕ} → Falling ps → Mem q ps → q ≤ i → Mem i ps → Mem q (cut_to i ps)
unfolding cut_to Falling
cut_keeps i [] f m l n = elim m [ ]
cut_keeps i (p ∷ ps) {q} f m l n = go (eqb p i) refl m n (λ g h. cut_keeps i ps f.1 g l h)
  where
    go :
        (t : Bool) → eqb p i ≡ t → Mem q (p ∷ ps) → Mem i (p ∷ ps) → (Mem q ps → Mem i ps → Mem q (cut_to i ps))
        → Mem q (cond t (p ∷ ps) (cut_to i ps))
    go true e g h r = g
    go false e g (Mem.here h) r = absurd (eqb-false p i e h)
    go false e (Mem.here g) (Mem.there h) r = let z : i < p = f.0 i h in absurd (omega arith)
    go false e (Mem.there g) (Mem.there h) r = r g h

pub cut_falling : (i : ℕ) (ps : List ℕ) → Falling ps → Falling (cut_to i ps)
unfolding cut_to Falling
cut_falling i [] f = f
cut_falling i (p ∷ ps) f = go (eqb p i) (cut_falling i ps f.1)
  where
    go : (t : Bool) → Falling (cut_to i ps) → Falling (cond t (p ∷ ps) (cut_to i ps))
    go true r = f
    go false r = r

-- the device before the new end is i
pub cut_second : (n i : ℕ) (ps : List ℕ) → Mem i ps → second (n ∷ cut_to i ps) ≡ i
unfolding cut_to second
cut_second n i [] m = elim m [ ]
cut_second n i (p ∷ ps) m = go (eqb p i) refl m (λ l. cut_second n i ps l)
  where
    go :
        (t : Bool) → eqb p i ≡ t → Mem i (p ∷ ps) → (Mem i ps → second (n ∷ cut_to i ps) ≡ i)
        → second (n ∷ cond t (p ∷ ps) (cut_to i ps)) ≡ i
    go true e l r = eqb-true p i e
    go false e (Mem.here l) r = absurd (eqb-false p i e l)
    go false e (Mem.there l) r = r l
