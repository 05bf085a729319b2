-- A branch of a search in lent arrays, as BranchState has it, and a number given in place and taken back. Assumes nothing: these are
-- definitions.
use Rattle.std.specs.Prelude.{◌≡◌, Bool, true, false, List, ℕ, ◌+◌, ◌≤◌, ◌<◌, get_or, set}
use Rattle.codes.specs.BranchState.{State}
use Rattle.branches.specs.declared.branch.Displaced.{Displaced}

-- A BRANCH from its arrays and counts
abbrev pub in_place : (numbers : List ℕ) (used : List Bool) (path : List ℕ) (count given low : ℕ) → State
in_place numbers used path count given low =
    record { numbers = numbers; used = used; path = path; count = count; given = given; low = low }

-- the branch that a backward record to number j leads to, with the program's sum
abbrev pub chorded : State → (j : ℕ) → State
chorded b j = in_place b.numbers b.used b.path b.count b.given (j + 1)

-- the device at place q of a path
abbrev pub device_placed : (numbers path : List ℕ) → (q : ℕ) → ℕ
device_placed numbers path q = get_or numbers (get_or path q 0) 0

-- the place has a number, and that a device
abbrev pub OnPath : (numbers path : List ℕ) → (q : ℕ) → Type 0
OnPath numbers path q = (q < 10) × (get_or path q 0 < 10) × (device_placed numbers path q < 10)

-- every place has
pub record Places (numbers path : List ℕ) (count : ℕ) : Type 0 where
  pub count_low : count ≤ 10
  pub on_path : (q : ℕ) → q < count → get_or path q 0 < 10
  pub lands : (q : ℕ) → q < count → device_placed numbers path q < 10

-- arrays as they were: every number that was given is taken back
pub record SameArrays (numbers numbers' : List ℕ) (used used' : List Bool) (path path' : List ℕ) : Type 0 where
  pub numbers_same : numbers' ≡ numbers
  pub used_same : used' ≡ used
  pub path_same : path' ≡ path

-- THE NEXT NUMBER is given to device w, behind place q, and what stood there is kept
pub record NumberGiven
    (numbers numbers' : List ℕ) (used used' : List Bool) (path path' : List ℕ) (given q w : ℕ) (was : Displaced) : Type 0 where
  pub numbers_set : numbers' ≡ set numbers given w
  pub used_set : used' ≡ set used w true
  pub path_set : path' ≡ set path (q + 1) given
  pub number_was : was.number ≡ get_or numbers given 0
  pub next_was : was.next ≡ get_or path (q + 1) 0

-- it is taken back
pub record NumberTaken
    (numbers numbers' : List ℕ) (used used' : List Bool) (path path' : List ℕ) (given q w : ℕ) (was : Displaced) : Type 0 where
  pub numbers_set : numbers' ≡ set numbers given was.number
  pub used_set : used' ≡ set used w false
  pub path_set : path' ≡ set path (q + 1) was.next
