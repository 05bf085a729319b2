-- What an accepted drawing is, as relations: a simple labelled graph in which a walk joins every two devices.
-- Assumes nothing: these are definitions.
use Rattle.std.specs.Prelude.{◌≡◌, true, List, [], ◌∷◌, ℕ, ◌≤◌, ◌<◌, length}
use Rattle.graphs.specs.Drawing.{Cable, Drawing, devices, byte_list}
use Rattle.graphs.specs.Cables.{Has}
use Rattle.graphs.specs.Embedding.{EndsInRange}

-- no pair is joined twice
unfoldable pub Distinct : List Cable → Type 0
Distinct [] = Unit {0}
Distinct (c ∷ cs) = ((k : ℕ) → Has c.a c.b k cs → ⊥) × Distinct cs

-- a simple graph: ends are devices, no loop, no pair joined twice
pub record Simple (d : Drawing) : Type 0 where
  pub ends : EndsInRange d
  pub loopless : (u k : ℕ) → Has u u k d.cables → ⊥
  pub distinct : Distinct d.cables

-- cables lead, one after another, from u to v
pub data Walk (cs : List Cable) (u : ℕ) : ℕ → Type 0 where
  stay : Walk cs u u
  onward : {v w k : ℕ} → Walk cs u v → Has v w k cs → Walk cs u w

-- a walk joins every two devices
abbrev pub Connected : Drawing → Type 0
Connected d = (u v : ℕ) → u < devices d → v < devices d → Walk d.cables u v

-- a section, part by part: the graph of an accepted drawing
pub record Section (d : Drawing) : Type 0 where
  pub devices_low : 1 ≤ devices d
  pub devices_high : devices d ≤ 10
  pub cables_high : length d.cables ≤ 20
  pub bytes : byte_list d.kinds ≡ true
  pub simple : Simple d
  pub connected : Connected d

-- a lone device: a vertex without an edge
abbrev pub lone_drawing : (kind : ℕ) → Drawing
lone_drawing k = record { kinds = k ∷ []; cables = [] }

-- a pattern, part by part: a section that has a cable, and so two devices
pub record Pattern (p : Drawing) : Type 0 where
  pub devices_low : 2 ≤ devices p
  pub devices_high : devices p ≤ 10
  pub cables_low : 1 ≤ length p.cables
  pub cables_high : length p.cables ≤ 20
  pub bytes : byte_list p.kinds ≡ true
  pub simple : Simple p
  pub connected : Connected p
