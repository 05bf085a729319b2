-- The records of an accepted code, one by one, and the drawing that they describe. Assumes nothing.
use Rattle.std.specs.Prelude.{◌≡◌, ℕ, suc, ◌+◌, ◌/◌, ◌≤◌, ◌<◌, length, get_or, take, drop}
use Rattle.std.proofs.Math.Path.{sym, ap}
use Rattle.std.proofs.Common.{ap₂, ◌∙◌, arith, add-one, take-append-drop, take-suc, take-take, drop-cons, get_or-take, length-take-le}
use mathlib.Core.List.{List, [], ◌∷◌, ◌++◌, map}
use Rattle.std.proofs.Math.ListN.{get_or-map}
use Rattle.std.proofs.Math.Seq.{split_at}
use Rattle.laws.specs.Lists.{snoc, get_d_default}
use Rattle.laws.specs.Rows.{row, rows, rows_at}
use Rattle.graphs.specs.Drawing.{devices}
use Rattle.graphs.specs.Graph.{Simple}
use Rattle.codes.specs.Code.{Rec, fresh, rec_in, recs_in, rows_refusal, decoded, code_refusal, code_records}
use Rattle.codes.specs.ReadRows.{rows_divided, rows_invariant, Good, good_from_test}
use Rattle.codes.specs.FullCode.{decoded_simple}
use Rattle.codes.specs.CodeBytes.{recs_in_length, accepted_code}

-- record k among them
module _ (bs : List ℕ) (k : ℕ) (h : k < length bs / 5) (r : Rec) (is : r ≡ rec_in (row 5 k bs)) where
  pub code_record_at : get_or (code_records bs) k r ≡ r
  unfolding recs_in
  code_record_at =
      get_d_default (map rec_in (rows 5 (length bs / 5) bs)) k r (rec_in []) (rw (recs_in_length (length bs / 5) bs) h)
      ∙ get_or-map rec_in (rows 5 (length bs / 5) bs) k [] ∙ ap rec_in (rows_at 5 (length bs / 5) k bs h) ∙ sym is

  below : k < length (code_records bs)
  below = rw (recs_in_length (length bs / 5) bs) h

  pub record_among : code_records bs ≡ take k (code_records bs) ++ r ∷ drop (suc k) (code_records bs)
  record_among =
      split_at (code_records bs) k r below ∙ ap (λ (e : Rec). take k (code_records bs) ++ e ∷ drop (suc k) (code_records bs)) code_record_at

  pub records_through : take (k + 1) (code_records bs) ≡ snoc (take k (code_records bs)) r
  records_through = rw (add-one, take-suc (code_records bs) k r below, code_record_at)

  pub records_on : drop k (code_records bs) ≡ r ∷ drop (k + 1) (code_records bs)
  records_on = rw (add-one, drop-cons (code_records bs) k r below, code_record_at)

  -- of its first m records
  module _ (m : ℕ) (more : k < m) (within : m ≤ length bs / 5) where
    pub front_records_on : drop k (take m (code_records bs)) ≡ r ∷ drop (k + 1) (take m (code_records bs))
    front_records_on =
        let size = length-take-le m (code_records bs) (rw (recs_in_length (length bs / 5) bs) within) in
        rw (
          add-one,
          drop-cons (take m (code_records bs)) k r (omega (arith, size)),
          get_or-take m (code_records bs) k r more,
          code_record_at,
        )

    pub front_among : take m (code_records bs) ≡ take k (code_records bs) ++ r ∷ drop (k + 1) (take m (code_records bs))
    front_among =
        sym (take-append-drop k (take m (code_records bs)))
        ∙ ap₂ {C = List Rec} (λ a b. a ++ b) (take-take k m (code_records bs) (omega arith)) front_records_on

-- OF AN ACCEPTED CODE
good_decodes : (rs : List Rec) → Good rs → (devices (decoded rs) ≤ 10) × Simple (decoded rs)
unfolding decoded
good_decodes [] g = absurd (omega (arith, g.one))
good_decodes (r ∷ rs) g = ((rows_invariant r rs g.accepted).ten, decoded_simple r rs g.accepted)

module _ (bs : List ℕ) (ok : code_refusal bs ≡ 0) where
  pub code_good : Good (code_records bs)
  code_good = good_from_test (code_records bs) (accepted_code bs ok).good

  pub code_ten : devices (decoded (code_records bs)) ≤ 10
  code_ten = (good_decodes (code_records bs) code_good).0

  pub code_simple : Simple (decoded (code_records bs))
  code_simple = (good_decodes (code_records bs) code_good).1

  pub record_accepted : (k : ℕ) → k < length bs / 5 → (r : Rec) → r ≡ rec_in (row 5 k bs)
      → rows_refusal fresh (take k (code_records bs) ++ r ∷ drop (suc k) (code_records bs)) ≡ 0
  record_accepted k h r is = rw (← record_among bs k h r is) code_good.accepted

  -- its first m records are accepted too
  pub front_good : (m : ℕ) → rows_refusal fresh (take m (code_records bs)) ≡ 0
  front_good m =
      (rows_divided fresh (take m (code_records bs)) (drop m (code_records bs))
      (rw (take-append-drop m (code_records bs)) code_good.accepted)).0
