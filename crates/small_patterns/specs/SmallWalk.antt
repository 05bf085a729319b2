-- Growing the codes of small patterns in place: what is asked, and what is left. Assumes nothing: these are definitions.
use Rattle.std.specs.Prelude.{◌≡◌, Bool, false, List, ℕ, ◌*◌, ◌≤◌, ◌<◌, length, Option, Result, Ok, Err}
use Rattle.laws.specs.Decides.{Decides}
use Rattle.laws.specs.Lists.{snoc}
use Rattle.graphs.specs.Drawing.{Drawing}
use Rattle.codes.specs.Code.{Rec, fresh, recs_in, rows_refusal, decoded, kinds_before}
use Rattle.codes.specs.CodeOrder.{kinds_order}
use Rattle.codes.specs.RecordPut.{FrontKept, RecordPut}
use Rattle.records.specs.declared.refusal.Refusal.{Refusal}
use Rattle.code_checks.specs.declared.answer.Verdict.{Verdict}
use Rattle.coding.specs.LeastSays.{LeastSays}
use Rattle.growth.specs.Sizes.{entry_size}
use Rattle.growth.specs.Family.{Listable}
use Rattle.growth.specs.Growth.{ListedBy}
use Rattle.growth.specs.Walking.{Gives}
use Rattle.growth.specs.Listings.{Lists, ListsMore}
use Rattle.entries.specs.ListOutcomes.{Outcome, RoomLeft}
use Rattle.books.specs.Book.{Small, unsupported}
use Rattle.books.specs.SmallRecords.{width, next_count, numbered_below}
use Rattle.small_patterns.specs.declared.next.BookBounds.{BookBounds}

-- WHAT THE LEAST TEST SAYS, as yes or not
abbrev pub is_yes : Result Verdict Refusal → Bool
is_yes (Ok v) = v.least
is_yes (Err x) = false

pub record SaysLeast (bs : List ℕ) (r : Bool) : Type 0 where
  pub verdict : Result Verdict Refusal
  pub says : LeastSays bs verdict
  pub is : r ≡ is_yes verdict

-- a record between two devices
abbrev pub JoinsTwo : Rec → Type 0
JoinsTwo e = e.i ≡ e.j → ⊥

-- the patterns that are wanted
abbrev pub Asked : BookBounds → Drawing → Type 0
Asked g = Small g.devices g.cables

-- A RECORD IS TRIED: it stands behind the others, and whether the code with it is listed is told
pub record RecordTried (g : BookBounds) (code : List ℕ) (m : ℕ) (e : Rec) (r : Bool) (code_now : List ℕ) : Type 0 where
  pub put : RecordPut code m e code_now
  pub decides : Asked g (decoded (recs_in m code)) → Decides r (Listable kinds_before (Asked g) (snoc (recs_in m code) e))

-- THE CODE IN PLACE: m records of a small pattern, of n devices
pub record SmallHeld (g : BookBounds) (code : List ℕ) (m n : ℕ) : Type 0 where
  pub long : length code ≡ 100
  pub accepted : rows_refusal fresh (recs_in m code) ≡ 0
  pub small : Asked g (decoded (recs_in m code))
  pub wide : n ≡ width (recs_in m code)

-- what stays of it
pub record CodeStays (m : ℕ) (code code_now : List ℕ) : Type 0 where
  pub front : FrontKept (5 * m) code code_now
  pub long : length code_now ≡ 100

pub record CanGrowSmall (g : BookBounds) (code : List ℕ) (m n : ℕ) (out : List ℕ) (count : ℕ) : Type 0 where
  pub held : SmallHeld g code m n
  pub listable : Listable kinds_before (Asked g) (recs_in m code)
  pub most : m ≤ g.limit
  pub room : entry_size * count ≤ length out

-- AFTER GROWING
pub record SmallGrown (g : BookBounds) (code : List ℕ) (m : ℕ) (out : List ℕ) (count : ℕ) (r : Option ℕ) (code_now out_now : List ℕ) : Type 0 where
  pub stays : CodeStays m code code_now
  pub size : length out_now ≡ length out
  pub room : RoomLeft out_now r
  pub told :
      (cs : List (List Rec)) (old : List ℕ) → Lists unsupported cs old out count
      → Outcome false unsupported (Gives kinds_before kinds_order (Asked g) g.limit (recs_in m code)) cs old out_now r

pub record CanWalkSmall (g : BookBounds) (code : List ℕ) (m n : ℕ) (out : List ℕ) (count : ℕ) : Type 0 where
  pub held : SmallHeld g code m n
  pub less : m < g.limit
  pub room : entry_size * count ≤ length out

-- AFTER WALKING all records that may come next
pub record SmallWalked (g : BookBounds) (code : List ℕ) (m n : ℕ) (out : List ℕ) (count : ℕ) (r : Option ℕ) (code_now out_now : List ℕ) : Type 0 where
  pub stays : CodeStays m code code_now
  pub size : length out_now ≡ length out
  pub room : RoomLeft out_now r
  pub told :
      (cs : List (List Rec)) (old : List ℕ) → Lists unsupported cs old out count
      → Outcome false unsupported
      (ListedBy kinds_before kinds_order (Listable kinds_before (Asked g)) g.limit (recs_in m code)
      (numbered_below n (next_count n))) cs old out_now r

-- WHILE THEY ARE WALKED: those below k were
pub record SmallSoFar (g : BookBounds) (code : List ℕ) (m n : ℕ) (out : List ℕ) (count k : ℕ) (code_now out_now : List ℕ)
    (written : ℕ) : Type 0 where
  pub low : k ≤ next_count n
  pub stays : CodeStays m code code_now
  pub size : length out_now ≡ length out
  pub room : entry_size * written ≤ length out_now
  pub told :
      (cs : List (List Rec)) (old : List ℕ) → Lists unsupported cs old out count
      → ListsMore unsupported
      (ListedBy kinds_before kinds_order (Listable kinds_before (Asked g)) g.limit (recs_in m code) (numbered_below n k)) cs old out_now written
