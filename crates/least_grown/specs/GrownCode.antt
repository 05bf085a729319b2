-- A code that has grown by a record, as its least test takes it. Assumes nothing: these are definitions.
use Rattle.std.specs.Prelude.{◌≡◌, List, ℕ, ◌/◌, ◌≤◌, length}
use Rattle.graphs.specs.Drawing.{devices}
use Rattle.codes.specs.Code.{decoded, code_records, code_refusal}
use Rattle.codes.specs.OwnNumbering.{WellGrown}

-- an accepted code of m records, of at most n devices, that has grown well
pub record GrownCode (bs : List ℕ) (m n : ℕ) : Type 0 where
  pub accepted : code_refusal bs ≡ 0
  pub records : m ≡ length bs / 5
  pub within : devices (decoded (code_records bs)) ≤ n
  pub most : n ≤ 10
  pub well : WellGrown (code_records bs)
