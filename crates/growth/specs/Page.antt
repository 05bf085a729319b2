-- The page of a walk, on which its entries stand: the output that they are written into, or a list that is checked. A check is a writing that
-- changes nothing. Assumes nothing: these are definitions.
use Rattle.std.specs.Prelude.{◌≡◌, Bool, true, false, List, ℕ, ◌+◌, ◌*◌, ◌^◌, ◌≤◌, ◌<◌, length}
use Rattle.laws.specs.Lent.{in_front}
use Rattle.laws.specs.PutRecords.{put_record}
use Rattle.growth.specs.Sizes.{entry_size}

abbrev pub page : (checking : Bool) (given out : List ℕ) → List ℕ
page true given out = given
page false given out = out

-- AN ENTRY CANNOT STAND as entry k: there is no room for it; of a list that is checked, those bytes are not its own
abbrev pub NotThere : (checking : Bool) (entry : List ℕ) (k : ℕ) (page : List ℕ) → Type 0
NotThere false e k on = length on < entry_size * k + entry_size
NotThere true e k on = put_record entry_size k e on ≡ on → ⊥

-- THE NEXT ENTRY stands as entry k, and there is a number for one more; or it cannot
abbrev pub EntryHanded : (checking : Bool) (entry : List ℕ) (k : ℕ) (page : List ℕ) → Bool → (page_now : List ℕ) → Type 0
EntryHanded checking e k on true now = (entry_size * k + entry_size ≤ length on) × (now ≡ put_record entry_size k e on) × (k + 1 < 2 ^ 64)
EntryHanded checking e k on false now = NotThere checking e k on × (now ≡ on)

-- ENTRIES CANNOT STAND in front: there is no room for them; a list that is checked does not begin with them
abbrev pub CannotStand : (checking : Bool) (entries page : List ℕ) → Type 0
CannotStand false bs on = length on < length bs
CannotStand true bs on = in_front bs on ≡ on → ⊥
