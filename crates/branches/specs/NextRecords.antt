-- The next record of a code, as the program makes it: the first one, along a cable, and the one that an extension stands for. Assumes
-- nothing: these are definitions.
use Rattle.std.specs.Prelude.{◌≡◌, List, ℕ, ◌-◌, ◌/◌, ◌%◌, ◌≤◌, ◌<◌, Option, Some, None}
use Rattle.graphs.specs.Drawing.{Drawing, devices, kind, drawing_in, drawing_refusal}
use Rattle.codes.specs.Code.{Rec}
use Rattle.codes.specs.BranchState.{label_at, State, device_at}
use Rattle.branches.specs.declared.extension.Extension.{Extension}
use Rattle.branches.specs.declared.extension.Extension.TheVariants.{Chord, Edge}
use Rattle.branches.specs.Branches.{device_placed, Places}
use Rattle.branches.specs.Ways.{chord_with, edge_with}

-- THE FIRST RECORD, from device u to device w, taken from the label of their cable
abbrev pub first_along : Drawing → (table : List ℕ) (u w : ℕ) → Rec
first_along d table u w =
    record { i = 0; j = 1; ki = kind d u; c = (label_at table u w - 1) / 256; kj = (label_at table u w - 1) % 256 }

-- what is needed to make it
pub record MakesFirst (bs table : List ℕ) (u w : ℕ) : Type 0 where
  pub accepted : drawing_refusal bs ≡ 0
  pub device : u < devices (drawing_in bs)
  pub u_low : u < 10
  pub w_low : w < 10
  pub some : 0 < label_at table u w
  pub most : label_at table u w ≤ 65536

-- THE NEXT RECORD: the kind of i is that of its device
abbrev pub found_record : Drawing → State → Option Extension → Rec
found_record d b (Some (Chord q l)) = chord_with b q l (kind d (device_at b (b.count - 1)))
found_record d b (Some (Edge q l)) = edge_with b q l (kind d (device_at b q))
found_record d b None = record { i = 0; j = 0; ki = 0; c = 0; kj = 0 }

-- what is needed to make it, on a path of n places
abbrev pub CanRecord : (n : ℕ) → Option Extension → Type 0
CanRecord n (Some (Chord q l)) = (q < n) × (0 < l) × (l ≤ 65536)
CanRecord n (Some (Edge q l)) = (q < n) × (0 < l) × (l ≤ 65536)
CanRecord n None = Unit {0}

pub record MakesRecord (bs numbers path : List ℕ) (count given : ℕ) (e : Option Extension) : Type 0 where
  pub accepted : drawing_refusal bs ≡ 0
  pub some : 0 < count
  pub given_low : given ≤ 10
  pub places : Places numbers path count
  pub lands : (q : ℕ) → q < count → device_placed numbers path q < devices (drawing_in bs)
  pub place : CanRecord count e
