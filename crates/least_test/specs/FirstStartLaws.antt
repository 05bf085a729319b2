-- The first record of a code before which a start has another: of one start, and start by start. Rests on LeastStarts. Assumes nothing.
use Rattle.std.specs.Prelude.{◌≡◌, List, ℕ, suc, ◌+◌, ◌-◌, ◌/◌, ◌≤◌, ◌<◌, ltb, length}
use Rattle.std.proofs.Common.{sym, subst, arith, ltb-true, ltb-false}
use Rattle.laws.specs.Decides.{Decides}
use Rattle.laws.specs.Rows.{row}
use Rattle.laws.specs.FirstSeen.{place_none, place_found, place_some}
use Rattle.graphs.specs.Cables.{has_flip}
use Rattle.codes.specs.Code.{Rec, rec_in, decoded, code_records, code_refusal}
use Rattle.codes.specs.CodeBytes.{accepted_code}
use Rattle.codes.specs.BranchState.{first_state}
use Rattle.least_seen.specs.Betters.{
  BetterBelow,
  FirstBetter,
  SeenCable,
  StartBetter,
  BeginsBetter,
  SomeStart,
  Tried,
  FirstStart,
  FirstOfStarts,
}
use Rattle.least_test.specs.StartNumbers.{NumbersLabels}
use Rattle.least_test.specs.LeastStarts.{
  begins,
  lower_start,
  higher_start,
  start_tells,
  start_asks,
  begins_of_more,
  some_of_more,
  tried_start,
  tried_next,
  starts_of_fewer,
  tried_all,
}

-- ONE START, of the first m records
module _ (bs : List ℕ) (ok : code_refusal bs ≡ 0) {e : Rec} (s : SeenCable (decoded (code_records bs)) e) (m : ℕ) (more : 1 ≤ m)
    (within : m ≤ length bs / 5) {enough : ℕ} where
  -- by its labels and the first record's, as one number each
  module _ {a b : ℕ} (p : NumbersLabels e a) (q : NumbersLabels (rec_in (row 5 0 bs)) b) where
    pub start_behind : b < a → FirstStart bs m enough e.i e.j e.c m
    start_behind h = place_none (λ j. BeginsBetter bs j e.i e.j e.c) (higher_start bs ok s p q h m more within)

    pub start_ahead : a < b → FirstStart bs m enough e.i e.j e.c 0
    unfolding StartBetter
    start_ahead h = place_found (λ j. BeginsBetter bs j e.i e.j e.c) more (lower_start bs ok s p q h 1 (omega arith) (omega arith)) (λ x. x)

  -- by its branch, where the labels are equal
  module _ (is : begins e ≡ rec_in (row 5 0 bs)) where
    pub start_followed : {r : ℕ} → FirstBetter bs m enough 1 (first_state e.i e.j) r → FirstStart bs m enough e.i e.j e.c r
    start_followed {r} f =
        record {
          within = f.within;
          none = λ h x. f.none h (start_asks bs ok s is r (omega arith) (omega (arith, f.within)) x);
          some = λ h. start_tells bs ok s is (suc r) (omega arith) (omega arith) (f.some h);
        }

    pub start_settled : (BetterBelow bs m 1 (first_state e.i e.j) → ⊥) → FirstStart bs m enough e.i e.j e.c m
    start_settled none = place_none (λ j. BeginsBetter bs j e.i e.j e.c) (λ x. none (start_asks bs ok s is m more within x))

-- THE STARTS OF THE FIRST n RECORDS: before the first `bound` records of the code none has another, before those and one more some start has
pub record StartsTried (bs : List ℕ) (m bound n : ℕ) : Type 0 where
  pub left : 0 < bound
  pub within : bound ≤ m
  pub seen : bound < m → SomeStart (code_records bs) (suc bound)
  pub tried : Tried bs bound n

pub starts_begun : (bs : List ℕ) → code_refusal bs ≡ 0 → (m : ℕ) → m ≡ length bs / 5 → StartsTried bs m m 0
starts_begun bs ok m is =
    record {
      left = omega (arith, (accepted_code bs ok).one);
      within = omega arith;
      seen = λ h. absurd (omega arith);
      tried = tried_start bs m;
    }

pub starts_told : {bs : List ℕ} {m bound n enough : ℕ} → StartsTried bs m bound n → length bs / 5 ≤ n
    → FirstOfStarts (code_records bs) m enough bound
starts_told {bs} {m} {bound} {n} W h = record { within = W.within; none = λ g. tried_all bs bound n h W.tried; some = W.seen }

-- where some place will do, it tells whether any start comes before the first m records
pub starts_decide : {rs : List Rec} {m r : ℕ} → 0 < m → FirstOfStarts rs m (m - 1) r → Decides (ltb r m) (SomeStart rs m)
starts_decide {rs} {m} {r} more f =
    record {
      holds = λ e. let h = ltb-true r m e in some_of_more rs (suc r) m h (f.some h);
      fails = λ e s.
          let h : r ≡ m = omega (arith, ltb-false r m e, f.within) in
          f.none (omega arith) (subst (SomeStart rs) (sym h) s);
    }

-- one record more: its cable seen from i, then from j
module _ {bs : List ℕ} {m bound n : ℕ} (W : StartsTried bs m bound n) {e : Rec} (is : e ≡ rec_in (row 5 n bs))
    (s : SeenCable (decoded (code_records bs)) e) {enough r : ℕ} (F : FirstStart bs bound enough e.i e.j e.c r) where
  along_seen : r < m → SomeStart (code_records bs) (suc r)
  along_seen =
      place_some (SomeStart (code_records bs)) m bound r W.seen F.within
      (λ g. record { u = e.i; w = e.j; k = e.c; has = s.has; better = F.some g })

  -- a place that will do
  pub along_enough : r ≤ enough → FirstOfStarts (code_records bs) m enough r
  along_enough h = record { within = omega (arith, F.within, W.within); none = λ g. absurd (omega arith); some = along_seen }

  module _ (more : enough < r) {q : ℕ} (H : FirstStart bs r enough e.j e.i e.c q) where
    against_seen : q < m → SomeStart (code_records bs) (suc q)
    against_seen =
        place_some (SomeStart (code_records bs)) m r q along_seen H.within
        (λ g. record { u = e.j; w = e.i; k = e.c; has = has_flip s.has; better = H.some g })

    pub against_enough : q ≤ enough → FirstOfStarts (code_records bs) m enough q
    against_enough h =
        record { within = omega (arith, H.within, F.within, W.within); none = λ g. absurd (omega arith); some = against_seen }

    pub starts_next : enough < q → StartsTried bs m q (n + 1)
    starts_next h =
        record {
          left = omega arith;
          within = omega (arith, H.within, F.within, W.within);
          seen = against_seen;
          tried =
              tried_next bs q n e is (starts_of_fewer bs q bound n (omega (arith, H.within, F.within)) W.tried)
              (λ x. F.none more (begins_of_more bs q r e.i e.j e.c H.within x)) (H.none h);
        }
