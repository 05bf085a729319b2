-- What a growing list has come to, as the program answers it: so many entries, or none where the next one cannot stand. Assumes nothing:
-- these are definitions.
use Rattle.std.specs.Prelude.{Bool, List, ℕ, ◌*◌, ◌≤◌, length, Option, Some, None}
use Rattle.graphs.specs.Drawing.{Drawing}
use Rattle.codes.specs.Code.{Rec}
use Rattle.growth.specs.Catalogue.{Figures}
use Rattle.growth.specs.Sizes.{entry_size}
use Rattle.growth.specs.Listings.{ListsMore, Stops}

-- SO MANY ENTRIES, of which P tells, stand behind those of cs; or they cannot
abbrev pub Outcome :
    (checking : Bool) (figure : Drawing → Figures) (P : List (List Rec) → Type 0) (cs : List (List Rec)) (old out : List ℕ) → Option ℕ → Type 0
Outcome checking figure P cs old out (Some k) = ListsMore figure P cs old out k
Outcome checking figure P cs old out None = Stops checking figure P cs out

-- what stands there fits
abbrev pub RoomLeft : (out : List ℕ) → Option ℕ → Type 0
RoomLeft out (Some k) = entry_size * k ≤ length out
RoomLeft out None = 0 ≤ length out
