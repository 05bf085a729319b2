-- How far two codes agree. Assumes nothing: this is a definition.
use Rattle.std.specs.Prelude.{List, ℕ}
use Rattle.laws.specs.CommonFronts.{common_front}
use Rattle.codes.specs.Code.{Rec, rec_same}

-- THE AGREEMENT of two codes: the number of whole records before the first on which they part; of equal codes that of all their records, of a
-- code that begins a longer one that of its own
unfoldable pub agreement : (first second : List Rec) → ℕ
agreement rs ss = common_front rec_same rs ss
