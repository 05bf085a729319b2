-- A survey's length, and a walk over its drawings: the refusal by the tests made. Assumes nothing.
use Rattle.std.specs.Prelude.{◌≡◌, List, ℕ, ◌+◌, ◌%◌, ◌≤◌, ◌<◌, length, Ok, Err}
use Rattle.std.proofs.Common.{sym, ◌∙◌, add-one}
use Rattle.std.proofs.Math.Path.{ap}
use native.Mathlib.Omega.{arith}
use borrow.Author.Tests.{eq-eqb, ne_eqb, le-leb, lt-leb}
use Rattle.laws.specs.Rows.{row, rows_left, left_start, left_next, left_end}
use Rattle.graphs.specs.Drawing.{drawing_refusal}
use Rattle.graphs.specs.Survey.{Refusal, refusal, records_in, length_refusal, drawings_refusal, bytes_refusal, drawing_count}
use Rattle.records.specs.declared.refusal.Refusal as held_refusal
use Rattle.records.specs.Refusals.{number_of}
use Rattle.records.specs.Surveys.{SurveyAnswer}

-- THE LENGTH
module _ (bs : List ℕ) where
  pub length_broken : (length bs % 73 ≡ 0 → ⊥) → length_refusal bs ≡ 1
  unfolding length_refusal
  length_broken h = simp (ne_eqb _ _ h)

  module _ (whole : length bs % 73 ≡ 0) where
    pub length_none : drawing_count bs < 1 → length_refusal bs ≡ 14
    unfolding length_refusal
    length_none h = simp (eq-eqb _ _ whole, lt-leb _ _ h)

    pub length_many : 32 < drawing_count bs → length_refusal bs ≡ 14
    unfolding length_refusal
    length_many h = let g : 1 ≤ drawing_count bs = omega arith in simp (eq-eqb _ _ whole, le-leb _ _ g, lt-leb _ _ h)

    pub length_fine : 1 ≤ drawing_count bs → drawing_count bs ≤ 32 → length_refusal bs ≡ 0
    unfolding length_refusal
    length_fine h g = simp (eq-eqb _ _ whole, le-leb _ _ h, le-leb _ _ g)

  pub length_passed : length_refusal bs ≡ 0 → bytes_refusal bs ≡ drawings_refusal 0 (records_in bs)
  unfolding bytes_refusal
  length_passed e = simp (eq-eqb _ _ e)

  pub length_turned_back : 0 < length_refusal bs → bytes_refusal bs ≡ refusal (length_refusal bs) 0
  unfolding bytes_refusal
  length_turned_back h = let d : length_refusal bs ≡ 0 → ⊥ = λ e. omega arith in simp (ne_eqb _ _ d)

-- THE DRAWINGS from d on
module _ (bs : List ℕ) (d : ℕ) where
  unfoldable pub drawings_from : Refusal
  drawings_from = drawings_refusal d (rows_left 73 (drawing_count bs) bs d)

module _ (bs : List ℕ) where
  pub drawings_start : drawings_refusal 0 (records_in bs) ≡ drawings_from bs 0
  unfolding records_in drawings_from
  drawings_start = ap (drawings_refusal 0) (left_start 73 (drawing_count bs) bs)

  pub drawing_refused : (d : ℕ) → d < drawing_count bs → 0 < drawing_refusal (row 73 d bs)
      → drawings_from bs d ≡ refusal (drawing_refusal (row 73 d bs)) d
  unfolding drawings_from drawings_refusal
  drawing_refused d h g =
      let n : drawing_refusal (row 73 d bs) ≡ 0 → ⊥ = λ e. omega arith in
      rw (left_next 73 (drawing_count bs) bs d h) (simp (ne_eqb _ _ n))

  pub drawing_passed : (d : ℕ) → d < drawing_count bs → drawing_refusal (row 73 d bs) ≡ 0
      → drawings_from bs d ≡ drawings_from bs (d + 1)
  unfolding drawings_from drawings_refusal
  drawing_passed d h e = rw (left_next 73 (drawing_count bs) bs d h) (simp (eq-eqb _ _ e) (rw add-one))

  pub drawings_end : (d : ℕ) → drawing_count bs ≤ d → drawings_from bs d ≡ refusal 0 0
  unfolding drawings_from drawings_refusal
  drawings_end d h = rw (left_end 73 (drawing_count bs) bs d h)

-- AN ANSWER that refuses, and one that accepts
module _ (told : Refusal) (bs : List ℕ) where
  pub answer_refused : (r : held_refusal.Refusal) (d : ℕ) → refusal (number_of r) d ≡ told → SurveyAnswer told bs (Err record { refusal = r; drawing = d })
  answer_refused r d e = record { refusal = e; drawings = λ n q. let z : ◌≡◌ {A = ℕ} 0 1 = cc in absurd (omega arith) }

  pub answer_accepted : (n : ℕ) → n ≡ drawing_count bs → refusal 0 0 ≡ told → SurveyAnswer told bs (Ok n)
  answer_accepted n h e = record { refusal = e; drawings = λ k q. let z : n ≡ k = cc in sym z ∙ h }
