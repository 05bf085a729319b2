-- A code that grows in place, as the program holds it: its records in front of an array of bytes, the kinds of its devices in
-- front of another. Assumes nothing: these are definitions.
use Rattle.std.specs.Prelude.{◌≡◌, List, [], ◌∷◌, ℕ, ◌+◌, ◌*◌, ◌-◌, ◌/◌, ◌%◌, ◌≤◌, ◌<◌, length, take}
use Rattle.laws.specs.Lists.{snoc}
use Rattle.codes.specs.Code.{Rec, Reading, fresh, recs_in, rows_refusal, read_rows}
use Rattle.codes.specs.RecordPut.{FrontKept}
use Rattle.growth.specs.Places.{place_of, record_at}
use Rattle.growth.specs.PlaceLaws.{Placed}
use Rattle.growth.specs.PlacedRecords.{alone}
use Rattle.growth.specs.Sizes.{alphabet_size, places_size}

-- THE KINDS OF A CODE'S DEVICES are the first n of an array
pub record KindsHeld (γ : List Rec) (kinds : List ℕ) (n : ℕ) : Type 0 where
  pub count : n ≡ length (read_rows fresh γ).kinds
  pub are : take n kinds ≡ (read_rows fresh γ).kinds

-- WHERE THE NEXT RECORD STARTS FROM: the reading, or for no record a lone device of some kind
abbrev pub basis : (kind : ℕ) → List Rec → Reading
basis k [] = alone k
basis k (r ∷ rs) = read_rows fresh (r ∷ rs)

-- the record from i, of kind ki, to j along a label
abbrev pub labelled : (i j ki l : ℕ) → Rec
labelled i j ki l = record { i = i; j = j; ki = ki; c = (l - 1) / 256; kj = (l - 1) % 256 }

-- the record at a place of the survey's labels can be read off
pub record CanRead (γ : List Rec) (kind : ℕ) (rank alphabet : List ℕ) (n place : ℕ) : Type 0 where
  pub accepted : rows_refusal fresh γ ≡ 0
  pub labels : n ≤ alphabet_size
  pub placed : Placed (basis kind γ) rank alphabet n (record_at (basis kind γ) alphabet n place)
  pub place_is : place_of rank n (record_at (basis kind γ) alphabet n place) ≡ place
  pub byte : (record_at (basis kind γ) alphabet n place).c < 256
  pub below : place < places_size
  pub some : 0 < n

-- by a program that is lent the kinds and the number of the devices held
pub record CanReadOff (kinds : List ℕ) (devices kind : ℕ) (alphabet : List ℕ) (n place : ℕ) : Type 0 where
  pub wide : length kinds ≡ 10
  pub code : List Rec
  pub held : KindsHeld code kinds devices
  pub rank : List ℕ
  pub can_read : CanRead code kind rank alphabet n place

pub record ReadOff (kinds : List ℕ) (devices kind : ℕ) (alphabet : List ℕ) (n place : ℕ) (r : Rec) : Type 0 where
  pub told :
      (γ : List Rec) → KindsHeld γ kinds devices → (rank : List ℕ) → CanRead γ kind rank alphabet n place
      → r ≡ record_at (basis kind γ) alphabet n place

-- THE ARRAYS: room for 20 records and for the kinds of 10 devices
pub record CodeSized (code kinds : List ℕ) : Type 0 where
  pub long : length code ≡ 100
  pub wide : length kinds ≡ 10

-- a code of m records, of n devices, in front of them
pub record CodeHeld (code kinds : List ℕ) (m n : ℕ) : Type 0 where
  pub sized : CodeSized code kinds
  pub met : KindsHeld (recs_in m code) kinds n

-- WHAT STAYS of both arrays: the bytes of the records and the kinds so far; what stands behind them plays no part
pub record CodeKept (m n : ℕ) (code kinds code_now kinds_now : List ℕ) : Type 0 where
  pub sized : CodeSized code_now kinds_now
  pub front : FrontKept (5 * m) code code_now
  pub met : FrontKept n kinds kinds_now

-- A RECORD THAT MAY COME NEXT: the code with it is accepted
pub record CanAppend (code kinds : List ℕ) (m n : ℕ) (e : Rec) : Type 0 where
  pub room : m < 20
  pub accepted : rows_refusal fresh (snoc (recs_in m code) e) ≡ 0
  pub held : CodeHeld code kinds m n

-- the code grown by it
pub record Appended (code kinds : List ℕ) (m n : ℕ) (e : Rec) (code_now kinds_now : List ℕ) (more : ℕ) : Type 0 where
  pub records : recs_in (m + 1) code_now ≡ snoc (recs_in m code) e
  pub held : CodeHeld code_now kinds_now (m + 1) more
  pub no_fewer : n ≤ more
  pub kept : CodeKept m n code kinds code_now kinds_now
