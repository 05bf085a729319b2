-- Exchangeable devices of a drawing (twins), by its table of labels, and for each device one below it with which it can be exchanged,
-- as a program notes it. Assumes nothing: these are definitions.
use Rattle.std.specs.Prelude.{◌≡◌, Bool, true, false, List, ◌⊎◌, ℕ, ◌<◌, length, get_or}
use Rattle.codes.specs.BranchState.{label_at}

-- a third device w sees u and v alike, and is seen alike by them
abbrev pub Alike : (t : List ℕ) (u v w : ℕ) → Type 0
Alike t u v w = (w ≡ u → ⊥) → (w ≡ v → ⊥) → (label_at t u w ≡ label_at t v w) × (label_at t w u ≡ label_at t w v)

-- EXCHANGEABLE: so does every third device, and they see each other alike
pub record Exchangeable (t : List ℕ) (u v : ℕ) : Type 0 where
  pub u_low : u < 10
  pub v_low : v < 10
  pub apart : (w : ℕ) → w < 10 → Alike t u v w
  pub between : label_at t u v ≡ label_at t v u

-- TWINS NOTED: for each device one below it with which it can be exchanged, or ten
abbrev pub TwinNoted : (t : List ℕ) (v u : ℕ) → Type 0
TwinNoted t v u = ((u < v) × Exchangeable t u v) ⊎ (u ≡ 10)

pub record TwinsNoted (t twins : List ℕ) : Type 0 where
  pub noted : (v : ℕ) → v < 10 → TwinNoted t v (get_or twins v 0)

-- what is noted is below
pub record TwinsFall (twins : List ℕ) : Type 0 where
  pub falls : (v : ℕ) → v < 10 → (get_or twins v 0 < v) ⊎ (get_or twins v 0 ≡ 10)

-- A TWIN WITHOUT A NUMBER below w
pub record FreeTwin (t : List ℕ) (used : List Bool) (w : ℕ) : Type 0 where
  pub u : ℕ
  pub below : u < w
  pub free : get_or used u true ≡ false
  pub exchangeable : Exchangeable t u w

-- what is needed to look for one
pub record CanTellTwin (twins : List ℕ) (used : List Bool) (w : ℕ) : Type 0 where
  pub below : w < 10
  pub size : length used ≡ 10
  pub fall : TwinsFall twins

-- one that is told is there
abbrev pub TwinTold : (twins : List ℕ) (used : List Bool) (w : ℕ) (r : Bool) → Type 0
TwinTold twins used w r = r ≡ true → (t : List ℕ) → TwinsNoted t twins → FreeTwin t used w
