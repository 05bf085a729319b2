-- What the records of a code tell of its starts and its ties without a table of labels. Assumes nothing: these are definitions.
use Rattle.std.specs.Prelude.{◌≡◌, List, ◌⊎◌, ℕ, suc, ◌≤◌, ◌<◌}
use Rattle.laws.specs.Rows.{row}
use Rattle.codes.specs.Code.{Rec, rec_in}
use Rattle.least_seen.specs.Betters.{reversed_record}
use Rattle.least_test.specs.StartNumbers.{NumbersLabels}

-- the labels of a cable, seen from its i, come after those with the number `first`
pub record LabelsAfter (first : ℕ) (e : Rec) : Type 0 where
  pub number : ℕ
  pub is : NumbersLabels e number
  pub after : first < number

-- those of record k do, seen from either end; record 0, seen from its i, is the code's own start
pub record RecordAfter (bs : List ℕ) (first k : ℕ) : Type 0 where
  pub along : 1 ≤ k → LabelsAfter first (rec_in (row 5 k bs))
  pub against : LabelsAfter first (reversed_record (rec_in (row 5 k bs)))

-- those of the first n records
abbrev pub StartsAfter : (bs : List ℕ) (first n : ℕ) → Type 0
StartsAfter bs first n = (k : ℕ) → k < n → RecordAfter bs first k

-- the cable e goes from the device i of r along the label of r
pub record GoesAlike (r e : Rec) : Type 0 where
  pub from : e.i ≡ r.i
  pub cable : e.c ≡ r.c
  pub to : e.kj ≡ r.kj

-- seen from one of its ends
abbrev pub AlikeSeen : (r e : Rec) → Type 0
AlikeSeen r e = GoesAlike r e ⊎ GoesAlike r (reversed_record e)

-- record k goes forward, and a later one of m goes like it
pub record PartsAgain (bs : List ℕ) (m k : ℕ) : Type 0 where
  pub up : (rec_in (row 5 k bs)).i ≤ (rec_in (row 5 k bs)).j
  pub at : ℕ
  pub above : k < at
  pub below : at < m
  pub alike : AlikeSeen (rec_in (row 5 k bs)) (rec_in (row 5 at bs))

-- a record of m, but the first and the last, does
pub record SomeParts (bs : List ℕ) (m : ℕ) : Type 0 where
  pub k : ℕ
  pub some : 1 ≤ k
  pub low : suc k < m
  pub parts : PartsAgain bs m k
