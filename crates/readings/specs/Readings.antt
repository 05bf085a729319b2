-- A code read record by record, as the program holds it, and the first reason to refuse it with the record's number.
-- Assumes nothing: these are definitions.
use Rattle.std.specs.Prelude.{◌≡◌, ◌≢◌, true, false, ◌||◌, not, cond, List, [], ◌∷◌, ◌++◌, map, ℕ, suc, ◌+◌, ◌%◌, ◌≤◌, ◌<◌, ltb, eqb, length, get_or, take, Result, Ok, Err, Option, Some, None, IfSome, ⊤}
use Rattle.graphs.specs.Drawing.{member}
use Rattle.codes.specs.Code.{
  code_records,
  Rec,
  Reading,
  fresh,
  recs_in,
  step_good,
  kinds_match,
  stepped,
  cut_to,
  cable_of,
}
use Rattle.codes.specs.Reading.{Invariant}
use Rattle.codes.specs.BranchState.{descending}
use Rattle.records.specs.declared.code.Code.{Code}
use Rattle.records.specs.declared.refusal.Refusal.TheVariants as refusal
use Rattle.records.specs.declared.refusal.Refusal.{Refusal}
use Rattle.records.specs.Refusals.{or_else}
use Rattle.readings.specs.declared.reading.Reading as held

-- THE REFUSAL of a code: each record, rising, with its number
unfoldable pub rows_checked : (k : ℕ) → Reading → List Rec → Result ⊤ Refusal
rows_checked k x [] = Ok tt
rows_checked k x (r ∷ rs) =
    cond (not (step_good x r)) (Err (refusal.Step k))
    (cond (not (kinds_match x r)) (Err (refusal.Kind k)) (rows_checked (suc k) (stepped x r) rs))

-- 9 zero, over 100, or no multiple of 5
unfoldable pub code_length_checked : List ℕ → Result ⊤ Refusal
code_length_checked bs =
    cond (eqb (length bs) 0 || (ltb 100 (length bs) || not (eqb (length bs % 5) 0))) (Err refusal.CodeLength) (Ok tt)

-- the length, then the records
unfoldable pub code_checked : List ℕ → Result ⊤ Refusal
code_checked bs = or_else (code_length_checked bs) (rows_checked 0 fresh (code_records bs))

-- WHAT THE PROGRAM HOLDS: the records of a code under work, and its rightmost path from the end down
abbrev pub held_records : Code → List Rec
held_records c = recs_in c.count c.records

abbrev pub held_path : Code → List ℕ
held_path c = descending c.path_count c.path

-- the j of the record before if that one was backward, and 10 for none
abbrev pub back_number : Option ℕ → ℕ
back_number None = 10
back_number (Some j) = j

abbrev pub as_reading : held.Reading → Reading
as_reading h =
    record {
      kinds = take h.devices h.kinds;
      path = held_path h.code;
      back = back_number h.back;
      cables = map cable_of (held_records h.code);
    }

-- no record is read yet
pub record NotBegun (h : held.Reading) : Type 0 where
  pub is : as_reading h ≡ fresh
  pub no_device : h.devices ≡ 0
  pub no_record : h.code.count ≡ 0

-- at least one record is read
pub record Begun (h : held.Reading) : Type 0 where
  pub invariant : Invariant (as_reading h)
  pub devices_most : h.devices ≤ 10
  pub path_two : 2 ≤ h.code.path_count
  -- no device has the number that stands for none
  pub back_device : IfSome h.back (λ j. j ≢ 10)

pub data Sound (h : held.Reading) : Type 0 where
  not_begun : NotBegun h → Sound h
  begun : Begun h → Sound h

-- A PLACE ON THE PATH: v stands at q, and the path cut back to v ends there
pub record PathCutPlace (n : ℕ) (path : List ℕ) (v q : ℕ) : Type 0 where
  pub below : q < n
  pub is : get_or path q 0 ≡ v
  pub cut : cut_to v (descending n path) ≡ descending (suc q) path

unfoldable pub PlaceSays : (n : ℕ) (path : List ℕ) (v : ℕ) → Option ℕ → Type 0
PlaceSays n path v (Some q) = PathCutPlace n path v q
PlaceSays n path v None = member v (descending n path) ≡ false

-- a permitted step from the device at place q
pub record StepFrom (h : held.Reading) (e : Rec) (q : ℕ) : Type 0 where
  pub good : step_good (as_reading h) e ≡ true
  pub first : h.devices ≡ 0 → q ≡ 0
  pub place : (h.devices ≡ 0 → ⊥) → e.i < e.j → PathCutPlace h.code.path_count h.code.path e.i q

unfoldable pub StepSays : held.Reading → Rec → Option ℕ → Type 0
StepSays h e (Some q) = StepFrom h e q
StepSays h e None = step_good (as_reading h) e ≡ false

-- A RECORD MORE of a code under work
pub record RecordHeld (c : Code) (e : Rec) (r : Code) : Type 0 where
  pub records : held_records r ≡ held_records c ++ (e ∷ [])
  pub count : r.count ≡ c.count + 1
  pub path : r.path ≡ c.path
  pub path_count : r.path_count ≡ c.path_count

-- THE NEXT RECORD can be taken: a permitted step whose kinds match, and room for it
pub record CanTake (h : held.Reading) (e : Rec) : Type 0 where
  pub sound : Sound h
  pub good : step_good (as_reading h) e ≡ true
  pub kinds : kinds_match (as_reading h) e ≡ true
  pub room : h.code.count < 20

-- what is known after it
pub record Steps (h : held.Reading) (e : Rec) (r : held.Reading) : Type 0 where
  pub is : as_reading r ≡ stepped (as_reading h) e
  pub records : held_records r.code ≡ held_records h.code ++ (e ∷ [])
  pub begun : Begun r
  pub count : r.code.count ≡ h.code.count + 1
