-- One record of any size put in its place in a list of records. Assumes nothing: these are definitions.
use Rattle.std.specs.Prelude.{List, ◌++◌, ℕ, ◌+◌, ◌*◌, take, drop}

-- the list with its k-th record of w elements replaced
unfoldable pub put_record : {A : Type 0} → (w k : ℕ) → (one : List A) → List A → List A
put_record w k r xs = take (w * k) xs ++ r ++ drop (w * k + w) xs
