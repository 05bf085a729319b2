-- Sheets of one crane: for each drawing of a survey the later ones of its crane, as bits of a number, and a cell counted by cranes with
-- their help. Assumes nothing: these are definitions.
use Rattle.std.specs.Prelude.{◌≡◌, Bool, ◌&&◌, not, cond, List, ℕ, zero, suc, ◌+◌, ◌*◌, ◌-◌, ◌^◌, ◌≤◌, ◌<◌, eqb, length, get_or}
use Rattle.std.specs.Int.Bits.{bit_and}
use Rattle.laws.specs.Masks.{Bit}
use Rattle.growth.specs.Places.{in_set, cell_set, cell_number, crane_cell}

-- drawing e is a later sheet of d's crane
pub record LaterSheet (cranes : List ℕ) (d e : ℕ) : Type 0 where
  pub later : d < e
  pub below : e < length cranes
  pub same : get_or cranes e 256 ≡ get_or cranes d 256

-- A TABLE OF SHEETS has for each drawing the bits of the later sheets of its crane; behind the numbers of 32 drawings stand the bits of the
-- drawings that have any
abbrev pub later_in : (sheets : List ℕ) (d : ℕ) → ℕ
later_in sheets d = get_or sheets d 0

abbrev pub repeated_in : (sheets : List ℕ) → ℕ
repeated_in sheets = get_or sheets 32 0

-- a drawing that has no bit there has no later sheet
abbrev pub RepeatsTold : (sheets : List ℕ) → Type 0
RepeatsTold sheets = (d : ℕ) → d < 32 → (Bit (repeated_in sheets) d → ⊥) → later_in sheets d ≡ 0

-- the numbers of the first n drawings
pub record SheetsBefore (n : ℕ) (cranes sheets : List ℕ) : Type 0 where
  pub size : length sheets ≡ 100
  pub has : (d e : ℕ) → d < n → LaterSheet cranes d e → Bit (later_in sheets d) e
  pub only : (d e : ℕ) → d < n → Bit (later_in sheets d) e → LaterSheet cranes d e
  pub none : (d : ℕ) → n ≤ d → d < 32 → later_in sheets d ≡ 0

-- those of all drawings, and which have any
pub record SheetsNoted (cranes sheets : List ℕ) : Type 0 where
  pub sheets_are : SheetsBefore (length cranes) cranes sheets
  pub told : RepeatsTold sheets

-- WHILE ONE IS MADE: the later sheets of d among the first n drawings
pub record LaterBefore (n : ℕ) (cranes : List ℕ) (d mask : ℕ) : Type 0 where
  pub has : (e : ℕ) → e < n → LaterSheet cranes d e → Bit mask e
  pub only : (e : ℕ) → Bit mask e → (e < n) × LaterSheet cranes d e

-- A CELL BY CRANES: the drawings of its set that have a later sheet of their crane in the set are not counted
unfoldable pub is_repeated : (sheets : List ℕ) (set d : ℕ) → ℕ
is_repeated sheets set d = cond (eqb (in_set set d) 1 && not (eqb (bit_and set (later_in sheets d)) 0)) 1 0

unfoldable pub repeated_before : (sheets : List ℕ) (set n : ℕ) → ℕ
repeated_before sheets set zero = 0
repeated_before sheets set (suc n) = repeated_before sheets set n + is_repeated sheets set n

unfoldable pub by_cranes : (sheets : List ℕ) (cell : ℕ) → ℕ
by_cranes sheets cell = cell - (2 ^ 32) * repeated_before sheets (cell_set cell) 32

-- WHAT THE TABLE IS FOR: with its help a cell of drawings becomes one of cranes
pub record CountsCranes (cranes sheets : List ℕ) : Type 0 where
  pub few : length cranes ≤ 32
  pub told : RepeatsTold sheets
  pub counted : (marks : List Bool) → length marks ≡ length cranes → by_cranes sheets (cell_number marks) ≡ crane_cell cranes marks
