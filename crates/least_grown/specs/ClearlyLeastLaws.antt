-- A code that has grown well, whose other starts all have labels after those of its first record and none of whose records parts again:
-- no start comes before it. Rests on OwnStartLaws and LeastStarts. Assumes nothing.
use Rattle.std.specs.Prelude.{◌≡◌, refl, Bool, List, [], ◌∷◌, ◌++◌, ◌⊎◌, ℕ, zero, suc, ◌/◌, ◌≤◌, ◌<◌, length, get_or, take, drop}
use Rattle.std.proofs.Common.{sym, ap, ◌∙◌, subst, inl, inr, arith, length-take-le, get_or-take}
use Rattle.std.proofs.Math.Decide.{dec_lt}
use Rattle.laws.specs.Decides.{Decides}
use Rattle.laws.specs.Rows.{row}
use Rattle.graphs.specs.Drawing.{kind}
use Rattle.graphs.specs.Cables.{Joins, along, against, Has, has_flip}
use Rattle.codes.specs.Code.{Rec, Reading, fresh, rec_in, cable_of, rows_refusal, read_rows, decoded, code_records, code_refusal}
use Rattle.codes.specs.CodeBytes.{recs_in_length}
use Rattle.codes.specs.Step.{Step, steps_back, steps_forward}
use Rattle.codes.specs.Reading.{Invariant}
use Rattle.codes.specs.ReadRows.{FirstRow, step_from_test, rows_cons, rows_divided, rows_invariant}
use Rattle.codes.specs.FullCode.{decoded_simple}
use Rattle.codes.specs.BranchState.{first_state}
use Rattle.codes.specs.OwnNumbering.{WellGrown}
use Rattle.tables.specs.CodeRows.{code_record_at, record_accepted}
use Rattle.tables.specs.CodeCables.{row_cable, record_i_kind, record_j_kind}
use Rattle.least_seen.specs.Betters.{BetterBelow, BeginsBetter, SomeStart}
use Rattle.least_test.specs.StartNumbers.{NumbersLabels}
use Rattle.least_test.specs.LeastStarts.{
  seen_along,
  seen_against,
  start_asks,
  higher_start,
  same_start,
  own_start,
  CableRecord,
  cable_record,
  tried_all,
}
use Rattle.least_grown.specs.OwnStartLaws.{AllUntied, own_start_settled}
use Rattle.least_grown.specs.ClearlyLeast.{StartsAfter, AlikeSeen, PartsAgain, SomeParts}

-- what is decided of two records is decided of those that they are
pub alike_of : {r s e f : Rec} {b : Bool} → r ≡ s → e ≡ f → Decides b (AlikeSeen r e) → Decides b (AlikeSeen s f)
alike_of {r} {s} {e} {f} {b} p q d =
    subst (λ (z : Rec). Decides b (AlikeSeen s z)) q (subst (λ (z : Rec). Decides b (AlikeSeen z e)) p d)

-- EARLIER RECORDS: the devices of one are below the device that a forward record brings
earlier_low :
    (γ : List Rec) (s : Rec) (ss : List Rec) → rows_refusal fresh (γ ++ s ∷ ss) ≡ 0 → s.i < s.j → (p : ℕ) (e : Rec) → p < length γ
    → get_or γ p e ≡ e → (e.i < s.j) × (e.j < s.j)
unfolding decoded
earlier_low [] s ss ok up p e h is = absurd (omega arith)
earlier_low (g ∷ γ) s ss ok up p e h is = go (step_from_test x v s c.step c.kinds)
  where
    x : Reading
    x = read_rows fresh (g ∷ γ)

    divided : (rows_refusal fresh (g ∷ γ) ≡ 0) × (rows_refusal (read_rows fresh (g ∷ γ)) (s ∷ ss) ≡ 0)
    divided = rows_divided fresh (g ∷ γ) (s ∷ ss) ok

    v : Invariant (read_rows fresh (g ∷ γ))
    v = rows_invariant g γ divided.0

    c : FirstRow (read_rows fresh (g ∷ γ)) s ss
    c = rows_cons (read_rows fresh (g ∷ γ)) s ss divided.1

    has : Has e.i e.j e.c (decoded (g ∷ γ)).cables
    has = row_cable (g ∷ γ) p e h is

    go : Step (read_rows fresh (g ∷ γ)) s → (e.i < s.j) × (e.j < s.j)
    go (steps_back o a b) = absurd (omega (arith, o.down))
    go (steps_forward m j a b) =
        let ends = (decoded_simple g γ divided.0).ends in
        (omega (arith, ends e.i e.j e.c has), omega (arith, ends e.j e.i e.c (has_flip has)))

-- WHERE ANOTHER DEVICE WOULD DO for a forward record, a later record goes like it
module _ (bs : List ℕ) (ok : code_refusal bs ≡ 0) where
  abbrev at : (k : ℕ) → Rec
  at k = rec_in (row 5 k bs)

  record_low : (k p : ℕ) → k < length bs / 5 → (at k).i < (at k).j → p ≤ k → ((at p).i ≤ (at k).j) × ((at p).j ≤ (at k).j)
  record_low k p h up l = go (dec_lt p k)
    where
      go : Dec (p < k) → ((at p).i ≤ (at k).j) × ((at p).j ≤ (at k).j)
      go (yes b) =
          let size : length (take k (code_records bs)) ≡ k =
          length-take-le k (code_records bs) (rw (recs_in_length (length bs / 5) bs) (omega arith)) in
          let low =
          earlier_low (take k (code_records bs)) (at k) (drop (suc k) (code_records bs)) (record_accepted bs ok k h (at k) refl) up p
          (at p) (omega arith) (get_or-take k (code_records bs) p (at p) b ∙ code_record_at bs p (omega arith) (at p) refl) in
          (omega (arith, low.0), omega (arith, low.1))
      go (no b) =
          let same : p ≡ k = omega arith in
          subst (λ (q : ℕ). ((at q).i ≤ (at k).j) × ((at q).j ≤ (at k).j)) (sym same) (omega arith, omega arith)

  parts_seen :
      (k : ℕ) → k < length bs / 5 → (at k).i < (at k).j → (w : ℕ) → (at k).j < w → kind (decoded (code_records bs)) w ≡ (at k).kj
      → CableRecord bs (at k).i w (at k).c → PartsAgain bs (length bs / 5) k
  unfolding cable_of
  parts_seen k h up w above kind_is p = go p.joins
    where
      later : ((at p.at).i ≡ w) ⊎ ((at p.at).j ≡ w) → k < p.at
      later o = stands (dec_lt k p.at) o
        where
          stands : Dec (k < p.at) → ((at p.at).i ≡ w) ⊎ ((at p.at).j ≡ w) → k < p.at
          stands (yes l) o = l
          stands (no l) (inl i) = absurd (omega (arith, (record_low k p.at h up (omega arith)).0))
          stands (no l) (inr j) = absurd (omega (arith, (record_low k p.at h up (omega arith)).1))

      go : Joins (at k).i w (cable_of (at p.at)) → PartsAgain bs (length bs / 5) k
      go (along i j) =
          record {
            up = omega arith;
            at = p.at;
            above = later (inr j);
            below = p.low;
            alike = inl (record {
              from = i;
              cable = p.kind_is;
              to = sym (record_j_kind bs p.at p.low (at p.at) refl ok) ∙ ap (kind (decoded (code_records bs))) j ∙ kind_is;
            });
          }
      go (against i j) =
          record {
            up = omega arith;
            at = p.at;
            above = later (inl i);
            below = p.low;
            alike = inr (record {
              from = j;
              cable = p.kind_is;
              to = sym (record_i_kind bs p.at p.low (at p.at) refl ok) ∙ ap (kind (decoded (code_records bs))) i ∙ kind_is;
            });
          }

  none_parts_untied : (SomeParts bs (length bs / 5) → ⊥) → AllUntied bs
  none_parts_untied none k one last up w above has kind_is =
      none
      (record {
        k = k;
        some = one;
        low = last;
        parts = parts_seen k (omega arith) up w above kind_is (cable_record bs (at k).i w (at k).c has);
      })

  -- NO START COMES BEFORE such a code
  module _ {first : ℕ} (number : NumbersLabels (rec_in (row 5 0 bs)) first) (after : StartsAfter bs first (length bs / 5)) where
    own_not_better : (BetterBelow bs (length bs / 5) 1 (first_state 0 1) → ⊥) → (e : Rec) → e ≡ at 0 → 0 < length bs / 5
        → BeginsBetter bs (length bs / 5) e.i e.j e.c → ⊥
    own_not_better none e is h b =
        let s = seen_along bs ok 0 h e is in
        own_start bs ok s is (length bs / 5) none
        (start_asks bs ok s (same_start bs ok s (subst (λ (r : Rec). NumbersLabels r first) (sym is) number) number refl)
        (length bs / 5) h (omega arith) b)

    other_not_better : (k : ℕ) → k < length bs / 5 → 1 ≤ k → (e : Rec) → e ≡ at k → BeginsBetter bs (length bs / 5) e.i e.j e.c → ⊥
    other_not_better k h one e is =
        let l = (after k h).along one in
        higher_start bs ok (seen_along bs ok k h e is) (subst (λ (r : Rec). NumbersLabels r l.number) (sym is) l.is) number l.after
        (length bs / 5) (omega arith) (omega arith)

    reversed_not_better : (k : ℕ) → k < length bs / 5 → (e : Rec) → e ≡ at k → BeginsBetter bs (length bs / 5) e.j e.i e.c → ⊥
    reversed_not_better k h e is =
        subst (λ (r : Rec). BeginsBetter bs (length bs / 5) r.j r.i r.c → ⊥) (sym is)
        (let l = (after k h).against in
        higher_start bs ok (seen_against bs ok k h (at k) refl) l.is number l.after (length bs / 5) (omega arith) (omega arith))

    pub no_start_before : (SomeParts bs (length bs / 5) → ⊥) → WellGrown (code_records bs) → SomeStart (code_records bs) (length bs / 5) → ⊥
    no_start_before none well =
        tried_all bs (length bs / 5) (length bs / 5) (omega arith) (record { along = tried; against = reversed_not_better })
      where
        own : BetterBelow bs (length bs / 5) 1 (first_state 0 1) → ⊥
        own = own_start_settled bs ok (none_parts_untied none) well

        tried : (k : ℕ) → k < length bs / 5 → (e : Rec) → e ≡ at k → BeginsBetter bs (length bs / 5) e.i e.j e.c → ⊥
        tried zero h e is = own_not_better own e is h
        tried (suc k) h e is = other_not_better (suc k) h (omega arith) e is
