-- The candidates of a code: what choosing them asks, and what it leaves. Assumes nothing: these are definitions.
use Rattle.std.specs.Prelude.{◌≡◌, Bool, List, ℕ, ◌+◌, ◌≤◌, length}
use Rattle.laws.specs.Parts.{part}
use Rattle.graphs.specs.Drawing.{Drawing}
use Rattle.codes.specs.Code.{Rec}
use Rattle.growth.specs.Places.{place_of}
use Rattle.growth.specs.CountingExtensions.{Counting}
use Rattle.growth.specs.Floors.{FloorsOf, GrownAbove}
use Rattle.growth.specs.ListedBy.{ChosenCells}
use Rattle.growth.specs.Sizes.{places_size, candidates_size}
use Rattle.walks.specs.Counts.{Blank}
use Rattle.walks.specs.Choices.{ListKept}

-- a threshold, and room for as many candidates as there are places behind `base`
pub record RoomToChoose (s : ℕ) (list : List ℕ) (base : ℕ) : Type 0 where
  pub one : 1 ≤ s
  pub list_size : length list ≡ candidates_size
  pub room : base + places_size ≤ candidates_size

-- WHAT GOES ON FROM γ above some floors in drawings of at least s cranes stands in the list from `base` up to `top`; the cells are blank again
pub record CandidatesChosen (cr : List ℕ) (ds : List Drawing) (γ : List Rec) (rank : List ℕ) (n s : ℕ) (cells seen list : List ℕ) (base : ℕ)
    (list_now : List ℕ) (top : ℕ) : Type 0 where
  pub floors : List ℕ
  pub laid : FloorsOf γ floors
  pub sets : ℕ → List Bool
  pub counting : Counting (place_of rank n) (GrownAbove γ floors) ds (length ds) sets
  pub chosen : ChosenCells cr sets s n (part base top list_now)
  pub low : base ≤ top
  pub high : top ≤ base + places_size
  pub kept : ListKept base list list_now
  pub blank : Blank cells seen
