-- A list while it grows: the codes listed so far, as entries at the front of a page, over any family of patterns. Assumes
-- nothing: these are definitions.
use Rattle.std.specs.Prelude.{◌≡◌, Bool, List, ◌++◌, map, ℕ, ◌*◌, ◌≤◌, length, drop}
use Rattle.laws.specs.Lists.{Mem}
use Rattle.graphs.specs.Drawing.{Drawing}
use Rattle.codes.specs.Code.{Rec}
use Rattle.growth.specs.Sizes.{entry_size}
use Rattle.growth.specs.Catalogue.{all_bytes, Figures}
use Rattle.growth.specs.Family.{entry_for}
use Rattle.growth.specs.Page.{CannotStand}

-- WHAT IS LISTED: the codes so far
pub record Lists (figure : Drawing → Figures) (cs : List (List Rec)) (old out : List ℕ) (count : ℕ) : Type 0 where
  pub count_is : count ≡ length cs
  pub small : (c : List Rec) → Mem c cs → length c ≤ 8
  pub bytes : out ≡ all_bytes (map (entry_for figure) cs) ++ drop (entry_size * length cs) old

-- more codes, of which P tells, are listed behind cs
pub record ListsMore (figure : Drawing → Figures) (P : List (List Rec) → Type 0) (cs : List (List Rec)) (old out : List ℕ) (count : ℕ) : Type 0 where
  pub more : List (List Rec)
  pub which : P more
  pub lists : Lists figure (cs ++ more) old out count
  pub room : entry_size * count ≤ length out

-- or they cannot stand there
pub record Stops (checking : Bool) (figure : Drawing → Figures) (P : List (List Rec) → Type 0) (cs : List (List Rec)) (on : List ℕ) : Type 0 where
  pub more : List (List Rec)
  pub which : P more
  pub back : CannotStand checking (all_bytes (map (entry_for figure) (cs ++ more))) on
