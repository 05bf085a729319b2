-- Taking a candidate up: what it asks, and what becomes of it. `out` is the page on which entries stand. Assumes nothing: these are definitions.
use Rattle.std.specs.Prelude.{◌≡◌, Bool, cond, List, ℕ, ◌+◌, ◌*◌, ◌^◌, ◌≤◌, ◌<◌, eqb, length}
use Rattle.laws.specs.PutRecords.{put_record}
use Rattle.codes.specs.Code.{Rec, recs_in, decoded, Least}
use Rattle.codes.specs.OwnNumbering.{WellGrown}
use Rattle.growth.specs.Sizes.{entry_size}
use Rattle.growth.specs.Catalogue.{entry, entry_bytes}
use Rattle.growth.specs.Places.{cell_count, cell_figures}
use Rattle.growth.specs.Page.{NotThere}
use Rattle.least_seen.specs.Accepting.{AcceptedFront}
use Rattle.taking.specs.declared.take.Taken.{Taken}
use Rattle.taking.specs.declared.take.Taken.TheVariants.{Passed, Stopped, Listed}
use Rattle.taking.specs.declared.take.TakenOn.{TakenOn}
use Rattle.taking.specs.declared.take.TakenOn.TheVariants as answers

-- A CANDIDATE IS TAKEN UP: an accepted code of at most 8 records that grew well, and room for the entries before its own
pub record CanTakeCandidate (code : List ℕ) (m n cell : ℕ) (out : List ℕ) (count : ℕ) : Type 0 where
  pub front : AcceptedFront code m n
  pub well : WellGrown (recs_in m code)
  pub most : m ≤ 8
  pub few : cell_count cell ≤ 32
  pub out_room : entry_size * count ≤ length out

-- its code is the least, and its entry, with the figures of its cell, stands behind the others
pub record EntryPut (γ : List Rec) (cell count : ℕ) (out out_now : List ℕ) : Type 0 where
  pub least : Least (decoded γ) γ
  pub room : entry_size * count + entry_size ≤ length out
  pub low : count + 1 < 2 ^ 64
  pub is : out_now ≡ put_record entry_size count (entry_bytes (entry (cell_figures cell) γ)) out

-- or it cannot
pub record NoEntry (checking : Bool) (γ : List Rec) (cell count : ℕ) (out out_now : List ℕ) : Type 0 where
  pub least : Least (decoded γ) γ
  pub back : NotThere checking (entry_bytes (entry (cell_figures cell) γ)) count out
  pub same : out_now ≡ out

pub record NotLeast (γ : List Rec) (out out_now : List ℕ) : Type 0 where
  pub not_least : Least (decoded γ) γ → ⊥
  pub same : out_now ≡ out

abbrev pub CandidateTaken : (checking : Bool) (γ : List Rec) (cell count : ℕ) → (out : List ℕ) → Taken → (out_now : List ℕ) → Type 0
CandidateTaken checking γ cell count out Passed z = NotLeast γ out z
CandidateTaken checking γ cell count out Stopped z = NoEntry checking γ cell count out z
CandidateTaken checking γ cell count out Listed z = EntryPut γ cell count out z

-- IT GOES ON if its entry is listed and it is smaller than the limit, and else that was all; with how many entries stand there then
abbrev pub taken_on : (size limit count : ℕ) → Taken → TakenOn
taken_on size limit count Passed = answers.Over count
taken_on size limit count Stopped = answers.Stopped
taken_on size limit count Listed = cond (eqb size limit) (answers.Over (count + 1)) (answers.On (count + 1))

pub record IsTakenOn (checking : Bool) (γ : List Rec) (cell limit count : ℕ) (out : List ℕ) (r : TakenOn) (out_now : List ℕ) : Type 0 where
  pub taken : Taken
  pub told : CandidateTaken checking γ cell count out taken out_now
  pub is : r ≡ taken_on (length γ) limit count taken

-- its entry is listed, and it is smaller
pub record EntryGoesOn (γ : List Rec) (cell limit count : ℕ) (out : List ℕ) (more : ℕ) (out_now : List ℕ) : Type 0 where
  pub put : EntryPut γ cell count out out_now
  pub smaller : length γ ≡ limit → ⊥
  pub one_more : more ≡ count + 1
