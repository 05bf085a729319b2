-- What the marks of the reached devices say. Assumes nothing: these are definitions.
use Rattle.std.specs.Prelude.{◌≡◌, false, List, [], ◌∷◌, ℕ, ◌+◌, ◌≤◌, ◌<◌, length, get_or}
use Rattle.graphs.specs.Drawing.{cable_refusal, member, with_ends, spread}
use Rattle.records.specs.declared.drawing.Drawing.{Drawing}
use Rattle.records.specs.declared.cable.Cable as held
use Rattle.drawing_checks.specs.declared.reached.Reached as held_marks
use Rattle.records.specs.Drawings.{CountsWithin}
use Rattle.records.specs.DrawingCables.{as_cable, cable_at, cables_before}

-- the marks and their number are those of the devices vs
pub record MarksDevices (r : held_marks.Reached) (vs : List ℕ) : Type 0 where
  pub wide : length r.marks ≡ 10
  pub says : (v : ℕ) → v < 10 → get_or r.marks v false ≡ member v vs
  pub size : r.count ≡ length vs

-- r has the mark v more than q
pub record MarksOneMore (q : held_marks.Reached) (v : ℕ) (r : held_marks.Reached) : Type 0 where
  pub step : (vs : List ℕ) → MarksDevices q vs → MarksDevices r (v ∷ vs)
  pub most : r.count ≤ q.count + 1

-- r has in addition to q what one cable takes up
pub record MarksEnds (q : held_marks.Reached) (c : held.Cable) (r : held_marks.Reached) : Type 0 where
  pub step : (vs : List ℕ) → MarksDevices q vs → MarksDevices r (with_ends (as_cable c) vs)
  pub most : r.count ≤ q.count + 1

-- r has in addition to q what the first m cables take up
pub record MarksSpread (m : ℕ) (bs : List ℕ) (q r : held_marks.Reached) : Type 0 where
  pub step : (vs : List ℕ) → MarksDevices q vs → MarksDevices r (spread (cables_before m bs) vs)
  pub most : r.count ≤ q.count + m

-- the ends of the first m cables, of twenty at the most, have marks
pub record EndsLow (m : ℕ) (bs : List ℕ) : Type 0 where
  pub few : m ≤ 20
  pub first : (c : ℕ) → c < m → (cable_at bs c).a < 10
  pub second : (c : ℕ) → c < m → (cable_at bs c).b < 10

-- a record of known counts none of whose cables is refused
pub record SoundCables (bs : List ℕ) (d : Drawing) : Type 0 where
  pub counted : CountsWithin bs d
  pub sound : cable_refusal d.devices [] (cables_before d.cables bs) ≡ 0
