-- What a code under work holds, as lists. Assumes nothing: these are definitions.
use Rattle.std.specs.Prelude.{◌≡◌, List, [], ℕ, ◌*◌, take}
use Rattle.records.specs.declared.code.Code.{Code}

-- the bytes of its records
unfoldable pub code_bytes : Code → List ℕ
code_bytes c = take (5 * c.count) c.records

-- the devices of its rightmost path
unfoldable pub code_path : Code → List ℕ
code_path c = take c.path_count c.path

-- no record and no path
pub record HoldsNothing (c : Code) : Type 0 where
  pub bytes : code_bytes c ≡ []
  pub path : code_path c ≡ []
  pub records_none : c.count ≡ 0
  pub path_none : c.path_count ≡ 0
