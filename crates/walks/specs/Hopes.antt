-- A look ahead before a code grows: what it asks, and what it finds. Assumes nothing: these are definitions.
use Rattle.std.specs.Prelude.{◌≡◌, Bool, true, false, List, ℕ, ◌≤◌, ◌<◌}
use Rattle.laws.specs.Lists.{snoc}
use Rattle.laws.specs.Rows.{row}
use Rattle.graphs.specs.Drawing.{is_pattern}
use Rattle.codes.specs.Code.{Rec, fresh, rec_in, recs_in, rows_refusal, decoded, kinds_before, Least}
use Rattle.codes.specs.Overlooked.{relabelled, Overlooks}
use Rattle.codes.specs.Hopeless.{begins_with}

-- record t of a code
abbrev pub record_of : (code : List ℕ) (t : ℕ) → Rec
record_of code t = rec_in (row 5 t code)

-- a record with these labels; its ends play no part
abbrev pub with_labels : (ki c kj : ℕ) → Rec
with_labels = begins_with

-- the code of m records with e as one more describes a pattern
pub record CanLook (code : List ℕ) (m : ℕ) (e : Rec) : Type 0 where
  pub room : m < 20
  pub accepted : rows_refusal fresh (snoc (recs_in m code) e) ≡ 0
  pub drawn : is_pattern (decoded (snoc (recs_in m code) e)) ≡ true

-- record t is a forward one from device a, and a cable with these labels would have come before it
pub record OverlookedBy (code : List ℕ) (t a c kj : ℕ) : Type 0 where
  pub forward : (record_of code t).i < (record_of code t).j
  pub from : a ≡ (record_of code t).i
  pub earlier : kinds_before (relabelled (record_of code t) c kj) (record_of code t) ≡ true

-- a record but the first is such a one
pub record OverlookedAt (code : List ℕ) (m a c kj : ℕ) : Type 0 where
  pub t : ℕ
  pub some : 1 ≤ t
  pub below : t < m
  pub by : OverlookedBy code t a c kj

-- THE LOOK AHEAD: yes tells that the code would not be the least, no that the record e overlooks none
pub record HopelessIf (code : List ℕ) (m : ℕ) (e : Rec) (r : Bool) : Type 0 where
  pub not_least : r ≡ true → Least (decoded (snoc (recs_in m code) e)) (snoc (recs_in m code) e) → ⊥
  pub hopeful :
      r ≡ false → (t : ℕ) → 1 ≤ t → t < m → (record_of code t).i < (record_of code t).j → Overlooks kinds_before (record_of code t) e → ⊥
