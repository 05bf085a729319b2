-- A code checked record by record: what the records left give is what all give. Assumes nothing.
use Rattle.std.proofs.Math.Path.{◌≡◌, refl, ap}
use Rattle.std.proofs.Common.{sym, ◌∙◌, add-one, arith}
use Rattle.std.specs.Prelude.{Bool, ◌||◌, ℕ, suc, ◌+◌, ◌/◌, ◌%◌, ◌≤◌, ◌<◌, ltb, eqb, Result, Ok, Err, ⊤}
use Rattle.std.proofs.Math.Bool.{true, false, not, cond}
use mathlib.Core.List.{List, [], ◌∷◌, map}
use Rattle.std.proofs.Math.ListN.{length}
use borrow.Author.Tests.{ltb-false}
use Rattle.laws.specs.Tests.{or_none}
use Rattle.laws.specs.Rows.{row, rows_left, left_start, left_next, left_end}
use Rattle.codes.specs.Code.{Rec, Reading, fresh, rec_in, recs_in, step_good, kinds_match, stepped, rows_refusal, code_refusal, code_records}
use Rattle.records.specs.declared.refusal.Refusal.{Refusal}
use Rattle.records.specs.declared.refusal.Refusal.TheVariants as refusal
use Rattle.records.specs.Refusals.{checked_number, number_positive, or_else}
use Rattle.readings.specs.declared.reading.Reading as held
use Rattle.readings.specs.Readings as readings
use Rattle.readings.specs.Readings.{
  rows_checked,
  code_length_checked,
  code_checked,
  as_reading,
  NotBegun,
  Sound,
  Steps,
}

-- THE PAPER'S NUMBER of what a check says
pub no_number : (c : Result ⊤ Refusal) → checked_number c ≡ 0 → c ≡ Ok tt
no_number (Ok _) e = refl
no_number (Err x) e = absurd (omega (arith, number_positive x))

pub choice_number : (t : Bool) (a b : Result ⊤ Refusal) → checked_number (cond t a b) ≡ cond t (checked_number a) (checked_number b)
choice_number true a b = refl
choice_number false a b = refl

pub rows_checked_number : (k : ℕ) (x : Reading) (rs : List Rec) → checked_number (rows_checked k x rs) ≡ rows_refusal x rs
unfolding rows_checked rows_refusal
rows_checked_number k x [] = refl
rows_checked_number k x (r ∷ rs) =
    choice_number (not (step_good x r)) _ _
    ∙ ap (cond (not (step_good x r)) 10)
    (choice_number (not (kinds_match x r)) _ _ ∙ ap (cond (not (kinds_match x r)) 11) (rows_checked_number (suc k) (stepped x r) rs))

pub code_checked_number : (bs : List ℕ) → checked_number (code_checked bs) ≡ code_refusal bs
unfolding code_checked code_length_checked code_refusal
code_checked_number bs = go (eqb (length bs) 0 || (ltb 100 (length bs) || not (eqb (length bs % 5) 0)))
  where
    go :
        (t : Bool)
        → checked_number (or_else (cond t (Err refusal.CodeLength) (Ok tt)) (rows_checked 0 fresh (code_records bs)))
        ≡ cond t 9 (rows_refusal fresh (code_records bs))
    go true = refl
    go false = rows_checked_number 0 fresh (code_records bs)

-- THE LENGTH decides, or else the records do
module _ (bs : List ℕ) where
  pub code_length_refused : (r : Refusal) → code_length_checked bs ≡ Err r → code_checked bs ≡ Err r
  unfolding code_checked
  code_length_refused r e = rw e

  length_accepted : code_length_checked bs ≡ Ok tt → code_checked bs ≡ rows_checked 0 fresh (code_records bs)
  unfolding code_checked
  length_accepted e = rw e

  length_most : code_length_checked bs ≡ Ok tt → length bs ≤ 100
  unfolding code_length_checked
  length_most e = go (eqb (length bs) 0 || (ltb 100 (length bs) || not (eqb (length bs % 5) 0))) refl e
    where
      go :
          (t : Bool) → (eqb (length bs) 0 || (ltb 100 (length bs) || not (eqb (length bs % 5) 0))) ≡ t
          → cond t (Err refusal.CodeLength) (Ok (tt {0})) ≡ Ok (tt {0}) → length bs ≤ 100
      go true p q = let z : ◌≡◌ {A = ℕ} 0 1 = cc in absurd (omega arith)
      go false p q =
          let s = or_none (eqb (length bs) 0) (ltb 100 (length bs) || not (eqb (length bs % 5) 0)) p in
          ltb-false 100 (length bs) (or_none (ltb 100 (length bs)) (not (eqb (length bs % 5) 0)) s.1).0

-- RECORD BY RECORD
module _ (bs : List ℕ) where
  -- record k
  abbrev pub checked_record : ℕ → Rec
  checked_record k = rec_in (row 5 k bs)

  -- what the records from k on give, after those before k
  unfoldable pub checked_from : (k : ℕ) → Reading → Result ⊤ Refusal
  checked_from k x = rows_checked k x (map rec_in (rows_left 5 (length bs / 5) bs k))

  checked_start : rows_checked 0 fresh (code_records bs) ≡ checked_from 0 fresh
  unfolding recs_in checked_from
  checked_start = ap (λ (rs : List (List ℕ)). rows_checked 0 fresh (map rec_in rs)) (left_start 5 (length bs / 5) bs)

  module _ (k : ℕ) (x : Reading) where
    module _ (some : k < length bs / 5) where
      pub checked_step : step_good x (checked_record k) ≡ false → checked_from k x ≡ Err (refusal.Step k)
      unfolding checked_from rows_checked
      checked_step e = rw (left_next 5 (length bs / 5) bs k some) (simp e)

      pub checked_kind : step_good x (checked_record k) ≡ true → kinds_match x (checked_record k) ≡ false → checked_from k x ≡ Err
          (refusal.Kind k)
      unfolding checked_from rows_checked
      checked_kind e f = rw (left_next 5 (length bs / 5) bs k some) (simp (e, f))

      checked_next :
          step_good x (checked_record k) ≡ true → kinds_match x (checked_record k) ≡ true → checked_from k x ≡ checked_from (k + 1)
          (stepped x (checked_record k))
      unfolding checked_from rows_checked
      checked_next e f = rw (left_next 5 (length bs / 5) bs k some) (simp (e, f) (rw add-one))

    checked_end : length bs / 5 ≤ k → checked_from k x ≡ Ok tt
    unfolding checked_from rows_checked
    checked_end h = rw (left_end 5 (length bs / 5) bs k h)

  -- k records are read, and none of them is refused
  pub record Read (k : ℕ) (h : held.Reading) : Type 0 where
    pub most : length bs ≤ 100
    pub sound : Sound h
    pub count : h.code.count ≡ k
    pub left : code_checked bs ≡ checked_from k (as_reading h)

  pub read_start : code_length_checked bs ≡ Ok tt → (h : held.Reading) → NotBegun h → Read 0 h
  read_start e h n =
      record {
        most = length_most bs e;
        sound = readings.not_begun n;
        count = n.no_record;
        left = length_accepted bs e ∙ checked_start ∙ ap (checked_from 0) (sym n.is);
      }

  pub read_next :
      (k : ℕ) (h r : held.Reading) (e : Rec) → k < length bs / 5 → e ≡ checked_record k → Read k h → step_good (as_reading h) e ≡ true
      → kinds_match (as_reading h) e ≡ true → Steps h e r → Read (k + 1) r
  read_next k h r e some is p g m s =
      record {
        most = p.most;
        sound = readings.begun s.begun;
        count = s.count ∙ ap (λ (n : ℕ). n + 1) p.count;
        left =
            p.left ∙ checked_next k (as_reading h) some (rw is at g) (rw is at m)
            ∙ ap (checked_from (k + 1)) (ap (stepped (as_reading h)) (sym is) ∙ sym s.is);
      }

  pub read_end : (k : ℕ) (h : held.Reading) → length bs / 5 ≤ k → Read k h → code_checked bs ≡ Ok tt
  read_end k h none p = p.left ∙ checked_end k (as_reading h) none

-- what the loop over the records goes by
pub ruleset steps_read = (code_length_refused, checked_step, checked_kind, read_next, read_end)
