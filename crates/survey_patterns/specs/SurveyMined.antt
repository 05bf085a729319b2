-- Mining a survey, kind by kind of device 0: what it asks, and what stands on the page meanwhile and in the end. Assumes
-- nothing: these are definitions.
use Rattle.std.specs.Prelude.{◌≡◌, Bool, List, [], ℕ, ◌+◌, ◌*◌, ◌≤◌, length, Option, Some, None}
use Rattle.codes.specs.Code.{Rec, kinds_before}
use Rattle.codes.specs.CodeOrder.{kinds_order}
use Rattle.growth.specs.Catalogue.{figures_of}
use Rattle.growth.specs.Listings.{Lists}
use Rattle.growth.specs.Growth.{Listed, ListedBy}
use Rattle.growth.specs.Frequent.{FrequentIn}
use Rattle.growth.specs.Firsts.{Firsts}
use Rattle.growth.specs.Sizes.{candidates_size, entry_size}
use Rattle.growing.specs.declared.grow.Settings.{Settings}
use Rattle.walks.specs.LabelMarks.{drawings_of, cranes_of}
use Rattle.walks.specs.Counts.{Blank}
use Rattle.walks.specs.EmbeddingLists.{ListsSized}
use Rattle.growing.specs.GrowthOutcomes.{SetUp}
use Rattle.entries.specs.ListOutcomes.{Outcome}

-- ALL FREQUENT LEAST CODES are listed, or they cannot stand on the page
abbrev pub SurveyListed : (survey : List ℕ) (s l : ℕ) (checking : Bool) (out : List ℕ) → Option ℕ → (out_now : List ℕ) → Type 0
SurveyListed survey s l checking out r z =
    Outcome checking (figures_of survey) (Listed kinds_before kinds_order (FrequentIn kinds_before survey s) l []) [] out z r

-- WITH ITS TABLES at hand
pub record CanMine (survey labels rank alphabet : List ℕ) (g : Settings) : Type 0 where
  pub set_up : SetUp survey labels rank alphabet g
  pub some : 1 ≤ g.limit

abbrev pub Mined : (survey : List ℕ) (g : Settings) (out : List ℕ) → Option ℕ → (out_now : List ℕ) → Type 0
Mined survey g = SurveyListed survey g.threshold g.limit g.checking

-- MEANWHILE: those whose device 0 has a kind below k
pub record KindsDone (survey : List ℕ) (g : Settings) (out : List ℕ) (k : ℕ) (cells seen list out_now : List ℕ) (written : ℕ) : Type 0 where
  pub low : k ≤ 256
  pub blank : Blank cells seen
  pub list_size : length list ≡ candidates_size
  pub size : length out_now ≡ length out
  pub room : entry_size * written ≤ length out_now
  pub firsts : List Rec
  pub codes : List (List Rec)
  pub first : Firsts (cranes_of survey) (drawings_of survey) g.threshold k firsts
  pub listed :
      ListedBy kinds_before kinds_order (FrequentIn kinds_before survey g.threshold) g.limit [] firsts codes
  pub lists : Lists (figures_of survey) codes out out_now written

-- ONE KIND MORE: what it asks
pub record CanMineKind
    (survey labels rank alphabet : List ℕ) (g : Settings) (k : ℕ) (cells seen list kept ends out_now : List ℕ) (written : ℕ) : Type 0 where
  pub can : CanMine survey labels rank alphabet g
  pub out : List ℕ
  pub done : KindsDone survey g out k cells seen list out_now written
  pub sized : ListsSized kept ends

-- what it comes to: those of kind k are done too, or the list cannot stand there
abbrev pub AfterKind : (survey : List ℕ) (g : Settings) (out : List ℕ) (k : ℕ) (cells seen list out_now : List ℕ) → Option ℕ → Type 0
AfterKind survey g out k cells seen list out_now (Some m) = KindsDone survey g out (k + 1) cells seen list out_now m
AfterKind survey g out k cells seen list out_now None = Mined survey g out None out_now

-- and what it leaves, whatever stood on the page at first
pub record KindMined
    (survey : List ℕ) (g : Settings) (k : ℕ) (cells seen list out : List ℕ) (written : ℕ) (r : Option ℕ)
    (cells_now seen_now list_now kept_now ends_now out_now : List ℕ) : Type 0 where
  pub after :
      (first : List ℕ) → KindsDone survey g first k cells seen list out written
      → AfterKind survey g first k cells_now seen_now list_now out_now r
  pub sized : ListsSized kept_now ends_now
  pub size : length out_now ≡ length out
