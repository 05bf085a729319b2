-- What the least test of an accepted code looks at and decides, with numbers given in place. Assumes nothing: these are
-- definitions.
use Rattle.std.specs.Prelude.{◌≡◌, Bool, true, false, List, ◌⊎◌, ℕ, ◌+◌, ◌*◌, ◌-◌, ◌/◌, ◌≤◌, ◌<◌, length, get_or}
use Rattle.laws.specs.Rows.{row}
use Rattle.graphs.specs.Drawing.{devices}
use Rattle.codes.specs.Code.{fresh, rec_in, recs_in, code_records, rows_refusal, read_rows, decoded}
use Rattle.codes.specs.BranchState.{label_at, label_of, State}
use Rattle.codes.specs.Twins.{FreeTwin}
use Rattle.std.specs.declared.cmp.Ordering.{Ordering}
use Rattle.std.specs.declared.cmp.Ordering.TheVariants.{Less, Equal, Greater}
use Rattle.branches.specs.Branches.{device_placed}
use Rattle.least_seen.specs.Betters.{Tabled, Follows}

-- AN ACCEPTED CODE of m records, of n devices, at the front of a hundred bytes
pub record AcceptedFront (bs : List ℕ) (m n : ℕ) : Type 0 where
  pub size : length bs ≡ 100
  pub one : 1 ≤ m
  pub most : m ≤ 20
  pub accepted : rows_refusal fresh (recs_in m bs) ≡ 0
  pub count : n ≡ length (read_rows fresh (recs_in m bs)).kinds

-- devices of the drawing, and whether each has a number
pub record MarksNumbered (used : List Bool) (n : ℕ) : Type 0 where
  pub low : n ≤ 10
  pub size : length used ≡ 10

-- a cable from the path's end to a place below `top` whose number is at least `low`
pub record ChordBelow (t numbers path : List ℕ) (count low top : ℕ) : Type 0 where
  pub q : ℕ
  pub below : q < top
  pub high : low ≤ get_or path q 0
  pub some : 0 < label_at t (device_placed numbers path (count - 1)) (device_placed numbers path q)

-- the label from the path's end to place q
abbrev pub chord_at : (t numbers path : List ℕ) (count q : ℕ) → ℕ
chord_at t numbers path count q = label_at t (device_placed numbers path (count - 1)) (device_placed numbers path q)

-- a label before the one wanted
abbrev pub Lower : (l wanted : ℕ) → Type 0
Lower l wanted = (0 < l) × (l < wanted)

-- the backward record to place q along the label wanted, against what is seen: a cable to a lower place or a lower label
-- comes before it; it is there itself; or neither
abbrev pub ChordTold : (t numbers path : List ℕ) (count low q wanted : ℕ) → Ordering → Type 0
ChordTold t numbers path count low q wanted Less =
    ChordBelow t numbers path count low q ⊎ Lower (chord_at t numbers path count q) wanted
ChordTold t numbers path count low q wanted Equal =
    (ChordBelow t numbers path count low q → ⊥) × (chord_at t numbers path count q ≡ wanted)
ChordTold t numbers path count low q wanted Greater =
    (ChordBelow t numbers path count low q → ⊥) × (chord_at t numbers path count q ≡ wanted → ⊥)
    × (Lower (chord_at t numbers path count q) wanted → ⊥)

-- the label of the cable from u to w where w has no number, else 0
pub record FreeLabel (t : List ℕ) (used : List Bool) (u w l : ℕ) : Type 0 where
  pub free : get_or used w true ≡ false → l ≡ label_at t u w
  pub taken : 0 < l → get_or used w true ≡ false

-- the same, or 0 where a twin below w has no number: what w leads to, that one does
abbrev pub CountedLabel : (t : List ℕ) (used : List Bool) (u w l : ℕ) → Type 0
CountedLabel t used u w l = FreeLabel t used u w l ⊎ ((l ≡ 0) × FreeTwin t used w)

-- a cable from u to a device below n that has no number
pub record EdgeFrom (t : List ℕ) (used : List Bool) (n u : ℕ) : Type 0 where
  pub w : ℕ
  pub below : w < n
  pub free : get_or used w true ≡ false
  pub some : 0 < label_at t u w

-- one from a place above q
pub record EdgeAbove (t numbers : List ℕ) (used : List Bool) (path : List ℕ) (count n q : ℕ) : Type 0 where
  pub p : ℕ
  pub above : q < p
  pub below : p < count
  pub edge : EdgeFrom t used n (device_placed numbers path p)

-- anything before a forward record from place q: a chord to an open place, or an edge from a place above
abbrev pub BeforeEdge : (t numbers : List ℕ) (used : List Bool) (path : List ℕ) (count low n q : ℕ) → Type 0
BeforeEdge t numbers used path count low n q =
    ChordBelow t numbers path count low (count - 2) ⊎ EdgeAbove t numbers used path count n q

-- the label of record k
abbrev pub wanted_label : (bs : List ℕ) (k : ℕ) → ℕ
wanted_label bs k = label_of (rec_in (row 5 k bs)).c (rec_in (row 5 k bs)).kj

-- A CODE of at least m records and at most n devices with its table
pub record TestCounts (t bs : List ℕ) (m n : ℕ) : Type 0 where
  pub tabled : Tabled t bs
  pub records : m ≤ length bs / 5
  pub within : devices (decoded (code_records bs)) ≤ n
  pub most : n ≤ 10

-- a branch that has followed its first k records, where the first m are looked at
pub record TestGoesOn (t bs : List ℕ) (m n k : ℕ) (b : State) : Type 0 where
  pub counted : TestCounts t bs m n
  pub low : k ≤ m
  pub follows : Follows t bs k b

-- where the record that comes next is forward
pub record GoesAhead (t bs : List ℕ) (m n k : ℕ) (b : State) : Type 0 where
  pub goes : TestGoesOn t bs m n k b
  pub more : k < m
  pub ahead : get_or bs (5 * k) 0 < get_or bs (5 * k + 1) 0
