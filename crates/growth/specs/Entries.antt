-- The bytes of an entry, one by one. Assumes nothing: these are definitions.
use Rattle.std.specs.Prelude.{◌≡◌, cond, List, ℕ, ◌+◌, ◌*◌, ltb, length, get_or, take}
use Rattle.codes.specs.Code.{recs_in}
use Rattle.growth.specs.Sizes.{example_at, entry_size}
use Rattle.growth.specs.Catalogue.{Figures, entry, entry_bytes}

-- byte i of the first n, and zero past them
unfoldable pub byte_or_zero : List ℕ → (n i : ℕ) → ℕ
byte_or_zero bs n i = cond (ltb i n) (get_or bs i 0) 0

-- ONE ENTRY: of a code's bytes
abbrev pub told : List ℕ → (m : ℕ) → Figures → List ℕ
told bs m f = entry_bytes (entry f (recs_in m bs))

-- while the bytes of an entry are written: the first i are
pub record BytesWritten (told : List ℕ) (i : ℕ) (out : List ℕ) : Type 0 where
  pub size : length out ≡ entry_size
  pub front : take i out ≡ take i told

-- from byte i on to byte j the entry of m records is written, whatever its figures
pub record WritesOn (code : List ℕ) (m i j : ℕ) (out out_now : List ℕ) : Type 0 where
  pub on : (f : Figures) → BytesWritten (told code m f) i out → BytesWritten (told code m f) j out_now

-- behind the records and up to the example, whatever the code
pub record Pads (m : ℕ) (out out_now : List ℕ) : Type 0 where
  pub on : (code : List ℕ) → length code ≡ 100 → WritesOn code m (2 + 5 * m) example_at out out_now
