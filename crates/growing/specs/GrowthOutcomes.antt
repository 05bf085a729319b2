-- Growing a pattern and walking its next cables: what both ask and what they leave. `out` is the page on which entries stand. Assumes
-- nothing: these are definitions.
use Rattle.std.specs.Prelude.{◌≡◌, Bool, true, List, [], ◌∷◌, map, ℕ, suc, ◌*◌, ◌≤◌, ◌<◌, length, Option}
use Rattle.graphs.specs.Drawing.{Drawing, is_pattern}
use Rattle.graphs.specs.Survey.{containing, support}
use Rattle.codes.specs.Code.{Rec, fresh, rows_refusal, decoded, kinds_before}
use Rattle.codes.specs.CodeOrder.{kinds_order}
use Rattle.codes.specs.Greedy.{Greedy}
use Rattle.codes.specs.OwnNumbering.{WellGrown}
use Rattle.growth.specs.Catalogue.{OftenIn, figures_of}
use Rattle.growth.specs.Growth.{ListedBy}
use Rattle.growth.specs.Frequent.{FrequentIn}
use Rattle.growth.specs.Places.{place_of, crane_cell}
use Rattle.growth.specs.CountingExtensions.{Counting, FirstOf}
use Rattle.growth.specs.Floors.{GrownAbove}
use Rattle.growth.specs.ListedBy.{ChosenCells, place_in, records_at}
use Rattle.growth.specs.Listings.{Lists, ListsMore}
use Rattle.growth.specs.Walking.{Gives}
use Rattle.growth.specs.Sizes.{places_size, candidates_size, entry_size}
use Rattle.entries.specs.ListOutcomes.{Outcome, RoomLeft}
use Rattle.growing.specs.declared.grow.Settings.{Settings}
use Rattle.walks.specs.LabelMarks.{drawings_of, cranes_of}
use Rattle.walks.specs.Prepared.{Prepared}
use Rattle.walks.specs.Counts.{Blank}
use Rattle.laws.specs.Parts.{part}
use Rattle.walks.specs.Choices.{ListKept}
use Rattle.extending.specs.HeldCode.{basis}

-- WHAT STAYS THE SAME: the survey prepared, a threshold and a size limit within their bounds
pub record SetUp (survey labels rank alphabet : List ℕ) (g : Settings) : Type 0 where
  pub prepared : Prepared survey labels rank alphabet g.labels
  pub one : 1 ≤ g.threshold
  pub most : g.threshold ≤ 32
  pub small : g.limit ≤ 8

-- THE ARRAYS: blank cells, and the list of candidates with its part below `base` in use
pub record AtHand (cells seen list : List ℕ) (base level : ℕ) : Type 0 where
  pub blank : Blank cells seen
  pub list_size : length list ≡ candidates_size
  pub room : base ≤ places_size * level

-- THE CODE THAT IS TO GROW describes a pattern that drawings of enough cranes contain; its cell tells which
pub record CandidateHeld (cr : List ℕ) (ds : List Drawing) (s : ℕ) (γ : List Rec) (cell : ℕ) : Type 0 where
  pub accepted : rows_refusal fresh γ ≡ 0
  pub drawn : is_pattern (decoded γ) ≡ true
  pub often : s ≤ support (decoded γ) cr ds
  pub cell_is : cell ≡ crane_cell cr (containing (decoded γ) ds)

pub record CanGrowPattern (survey labels rank alphabet : List ℕ) (g : Settings) (γ : List Rec) (cell : ℕ) (cells seen list : List ℕ) (base : ℕ)
    (out : List ℕ) (count : ℕ) : Type 0 where
  pub set_up : SetUp survey labels rank alphabet g
  pub some : 1 ≤ length γ
  pub most : length γ ≤ g.limit
  pub candidate : CandidateHeld (cranes_of survey) (drawings_of survey) g.threshold γ cell
  pub well : WellGrown γ
  pub at_hand : AtHand cells seen list base (length γ)
  pub out_room : entry_size * count ≤ length out

-- AFTER GROWING
pub record PatternGrown (survey : List ℕ) (g : Settings) (γ : List Rec) (cells seen list : List ℕ) (base : ℕ) (list_now out : List ℕ)
    (count : ℕ) (r : Option ℕ)
    (out_now : List ℕ) : Type 0 where
  pub blank : Blank cells seen
  pub kept : ListKept base list list_now
  pub size : length out_now ≡ length out
  pub room : RoomLeft out_now r
  pub told :
      (cs : List (List Rec)) (old : List ℕ) → Lists (figures_of survey) cs old out count
      → Outcome g.checking (figures_of survey) (Gives kinds_before kinds_order (OftenIn survey g.threshold) g.limit γ) cs old out_now r

-- WHICH RECORDS WERE COUNTED after γ, above some floors, or of a lone device of some kind
abbrev pub Fit : (kind : ℕ) (floors : List ℕ) → List Rec → Drawing → Rec → Type 0
Fit k floors [] = FirstOf k
Fit k floors (r ∷ rs) = GrownAbove (r ∷ rs) floors

-- the records at the candidates' places
abbrev pub candidates_in : (kind : ℕ) → List Rec → (alphabet : List ℕ) (n : ℕ) → (candidates : List ℕ) → List Rec
candidates_in k γ alphabet n qs = records_at (basis k γ) alphabet n (map place_in qs)

pub record CanWalkCandidates (survey labels rank alphabet : List ℕ) (g : Settings) (γ : List Rec) (kind : ℕ)
    (cells seen list : List ℕ) (from top : ℕ)
    (out : List ℕ) (count : ℕ) : Type 0 where
  pub set_up : SetUp survey labels rank alphabet g
  pub accepted : rows_refusal fresh γ ≡ 0
  pub more : length γ < g.limit
  pub greedy : Greedy kinds_before (decoded γ) [] γ
  pub sets : ℕ → List Bool
  pub floors : List ℕ
  pub counting :
      Counting (place_of rank g.labels) (Fit kind floors γ) (drawings_of survey) (length (drawings_of survey)) sets
  pub chosen : ChosenCells (cranes_of survey) sets g.threshold g.labels (part from top list)
  pub low : from ≤ top
  pub at_hand : AtHand cells seen list top (suc (length γ))
  pub out_room : entry_size * count ≤ length out

-- AFTER WALKING the candidates qs
pub record CandidatesWalked (survey alphabet : List ℕ) (g : Settings) (kind : ℕ) (γ : List Rec) (cells seen list : List ℕ) (from top : ℕ)
    (list_now out : List ℕ)
    (count : ℕ) (r : Option ℕ) (out_now : List ℕ) : Type 0 where
  pub blank : Blank cells seen
  pub kept : ListKept top list list_now
  pub size : length out_now ≡ length out
  pub room : RoomLeft out_now r
  pub told :
      (cs : List (List Rec)) (old : List ℕ) → Lists (figures_of survey) cs old out count
      → Outcome g.checking (figures_of survey)
      (ListedBy kinds_before kinds_order (FrequentIn kinds_before survey g.threshold) g.limit γ
      (candidates_in kind γ alphabet g.labels (part from top list)))
      cs old out_now r

-- WHILE THEY ARE WALKED: those below k were
pub record OnTheWay (survey alphabet : List ℕ) (g : Settings) (kind : ℕ) (γ : List Rec) (list : List ℕ) (from top : ℕ) (out : List ℕ) (count k : ℕ)
    (cells seen list_now out_now : List ℕ) (written : ℕ) : Type 0 where
  pub low : from ≤ k
  pub high : k ≤ top
  pub blank : Blank cells seen
  pub kept : ListKept top list list_now
  pub size : length out_now ≡ length out
  pub room : entry_size * written ≤ length out_now
  pub told :
      (cs : List (List Rec)) (old : List ℕ) → Lists (figures_of survey) cs old out count
      → ListsMore (figures_of survey)
      (ListedBy kinds_before kinds_order (FrequentIn kinds_before survey g.threshold) g.limit γ
      (candidates_in kind γ alphabet g.labels (part from k list)))
      cs old out_now written
