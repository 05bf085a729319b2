-- An accepted survey, part by part. Assumes nothing.
use Rattle.std.specs.Prelude.{◌≡◌, refl, Bool, true, false, ◌&&◌, cond, List, [], ◌∷◌, ℕ, zero, suc, ◌+◌, ◌*◌, ◌-◌, ◌/◌, ◌%◌, ◌≤◌, ◌<◌, eqb, get_or, take, drop}
use Rattle.std.proofs.Common.{not-suc-le-zero, le_of_suc-le-suc, arith}
use Rattle.std.proofs.Math.Dec.{leb}
use Rattle.std.proofs.Math.ListN.{length}
use borrow.Author.Tests.{eqb-true, eqb-false, leb-true}
use Rattle.laws.specs.Tests.{and_split, passes}
use Rattle.laws.specs.Rows.{row, rows, rows_at, rows_length, whole_records}
use Rattle.graphs.specs.Drawing.{drawing_refusal}
use Rattle.graphs.specs.Survey.{refusal, records_in, length_refusal, drawings_refusal, bytes_refusal, drawing_count}

-- a drawing as a part of the survey
pub drawing_part : (bs : List ℕ) (d : ℕ) → take (73 * d + 73 - 73 * d) (drop (73 * d) bs) ≡ row 73 d bs
unfolding row
drawing_part bs d = let e : 73 * d + 73 - 73 * d ≡ 73 = omega arith in rw e

-- what a walk over the drawings of an accepted survey knows
pub record AcceptedSurvey (bs : List ℕ) : Type 0 where
  pub whole : 73 * drawing_count bs ≡ length bs
  pub most : drawing_count bs ≤ 32
  pub drawing : (d : ℕ) → d < drawing_count bs → drawing_refusal (row 73 d bs) ≡ 0

drawings_accepted :
    (rs : List (List ℕ)) (d : ℕ) → (drawings_refusal d rs).number ≡ 0
    → (k : ℕ) → k < length rs → drawing_refusal (get_or rs k []) ≡ 0
unfolding drawings_refusal refusal
drawings_accepted [] d e k h = absurd (not-suc-le-zero h)
drawings_accepted (r ∷ rs) d e k h = go (eqb (drawing_refusal r) 0) refl e k h (λ x j l. drawings_accepted rs (suc d) x j l)
  where
    go : (t : Bool) → eqb (drawing_refusal r) 0 ≡ t → (cond t (drawings_refusal (suc d) rs) (refusal (drawing_refusal r) d)).number ≡ 0
        → (k : ℕ) → k < length (r ∷ rs)
        → ((drawings_refusal (suc d) rs).number ≡ 0 → (j : ℕ) → j < length rs → drawing_refusal (get_or rs j []) ≡ 0)
        → drawing_refusal (get_or (r ∷ rs) k []) ≡ 0
    go true t x zero l ih = eqb-true (drawing_refusal r) 0 t
    go true t x (suc k) l ih = ih x k (le_of_suc-le-suc l)
    go false t x k l ih = absurd (eqb-false (drawing_refusal r) 0 t x)

pub accepted_survey : (bs : List ℕ) → (bytes_refusal bs).number ≡ 0 → AcceptedSurvey bs
unfolding bytes_refusal refusal
accepted_survey bs e = go (eqb (length_refusal bs) 0) refl e
  where
    parts : length_refusal bs ≡ 0 → (drawings_refusal 0 (records_in bs)).number ≡ 0 → AcceptedSurvey bs
    parts z x = unfold length_refusal records_in in
        let n = length bs / 73 in
        let fits = passes (eqb (length bs % 73) 0) 1 _ (λ p q. omega arith) z in
        let few = passes (leb 1 n && leb n 32) 14 0 (λ p q. omega arith) fits.1 in
        record {
          whole = whole_records 73 bs (eqb-true (length bs % 73) 0 fits.0);
          most = leb-true n 32 (and_split (leb 1 n) (leb n 32) few.0).1;
          drawing = λ d h. rw (← rows_at 73 n d bs h) (drawings_accepted (rows 73 n bs) 0 x d (rw (rows_length 73 n bs) h));
        }

    go : (t : Bool) → eqb (length_refusal bs) 0 ≡ t
        → (cond t (drawings_refusal 0 (records_in bs)) (refusal (length_refusal bs) 0)).number ≡ 0 → AcceptedSurvey bs
    go true t x = parts (eqb-true (length_refusal bs) 0 t) x
    go false t x = absurd (eqb-false (length_refusal bs) 0 t x)
