-- A record written into the bytes of a code behind those before it. Assumes nothing: these are definitions.
use Rattle.std.specs.Prelude.{◌≡◌, List, ℕ, ◌+◌, ◌*◌, length, take}
use Rattle.laws.specs.Lists.{snoc}
use Rattle.codes.specs.Code.{Rec, recs_in}

-- WHAT STAYS of an array: its first k elements
pub record FrontKept (k : ℕ) (xs xs_now : List ℕ) : Type 0 where
  pub is : take k xs_now ≡ take k xs

-- A RECORD is written behind m others
pub record RecordPut (code : List ℕ) (m : ℕ) (e : Rec) (code_now : List ℕ) : Type 0 where
  pub records : recs_in (m + 1) code_now ≡ snoc (recs_in m code) e
  pub front : FrontKept (5 * m) code code_now
  pub long : length code_now ≡ length code
