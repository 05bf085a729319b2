-- What may come next in the code of a small pattern: it is one of the numbered records, and how many devices there are then. Rests on
-- NumberedRecords and SmallFamily. Assumes nothing.
use Rattle.std.specs.Prelude.{◌≡◌, cond, List, [], ◌∷◌, ℕ, ◌+◌, ◌*◌, ◌-◌, ◌≤◌, ◌<◌, ltb, length}
use Rattle.std.proofs.Common.{sym, ap, ◌∙◌, arith, lt-ltb, le-ltb}
use Rattle.laws.specs.Lists.{snoc, snoc_length}
use Rattle.codes.specs.Code.{Rec, Reading, fresh, kinds_before, read_rows, rows_refusal}
use Rattle.codes.specs.Step.{Step, steps_back, steps_forward, after}
use Rattle.codes.specs.Reading.{Invariant}
use Rattle.codes.specs.ReadRows.{rows_cons, rows_divided, rows_invariant, begun_from_test, good_from_test}
use Rattle.codes.specs.FirstRecord.{read_first}
use Rattle.growth.specs.Family.{Listable}
use Rattle.books.specs.Book.{Small}
use Rattle.books.specs.SmallRecords.{width, number_from, number_to, numbered, next_count}
use Rattle.books.specs.RecordLabels.{rows_step, rows_after}
use Rattle.books.specs.SmallFamily.{SmallLabels, small_last}
use Rattle.books.specs.NumberedRecords.{step_back, step_on, step_numbered}

-- WHICH STEP a record is
pub record StepNumber (n : ℕ) (e : Rec) : Type 0 where
  pub q : ℕ
  pub below : q + 1 < 2 * n
  pub from : number_from n q ≡ e.i
  pub to : number_to n q ≡ e.j

module _ (x : Reading) (v : Invariant x) (e : Rec) where
  step_number : Step x e → StepNumber (length x.kinds) e
  step_number (steps_back o p q) =
      let high : e.i + 1 ≡ length x.kinds = omega (arith, o.is_end, v.top) in
      let z = step_back (length x.kinds) e.j (omega (arith, high, o.down)) in
      record { q = e.j; below = omega (arith, high, o.down); from = z.0 ∙ omega (arith, high); to = z.1 }
  step_number (steps_forward m p q r) =
      let low = v.below e.i m in
      let n = length x.kinds in
      let z = step_on n (2 * n - (e.i + 2)) (omega (arith, low, v.two)) in
      record {
        q = 2 * n - (e.i + 2);
        below = omega (arith, low, v.two);
        from = z.0 ∙ omega (arith, low, v.two);
        to = z.1 ∙ sym p;
      }

  ends_low : Step x e → (e.i < 10) × (e.j < 10)
  ends_low (steps_back o p q) =
      (omega (arith, o.is_end, v.top, v.ten), omega (arith, o.is_end, v.top, v.ten, o.down))
  ends_low (steps_forward m p q r) = (omega (arith, v.below e.i m, v.ten), omega (arith, q))

  grown_wide : (s : Step x e) → length (after s).kinds ≡ cond (ltb e.i e.j) (length x.kinds + 1) (length x.kinds)
  grown_wide (steps_back o p q) = rw (le-ltb e.i e.j (omega (arith, o.down)))
  grown_wide (steps_forward m p q r) =
      rw (lt-ltb e.i e.j (omega (arith, p, v.below e.i m))) (snoc_length x.kinds e.kj ∙ omega arith)

pub first_joins : (e : Rec) → rows_refusal fresh (e ∷ []) ≡ 0 → (e.i ≡ 0) × (e.j ≡ 1)
first_joins e ok = begun_from_test e (rows_cons fresh e [] ok).step

-- after any rows
rows_number : (γ : List Rec) (e : Rec) → rows_refusal fresh (snoc γ e) ≡ 0 → StepNumber (width γ) e
rows_number [] e ok =
    let z = first_joins e ok in
    record { q = 0; below = omega arith; from = sym z.0; to = sym z.1 }
rows_number (r ∷ rs) e ok =
    step_number (read_rows fresh (r ∷ rs)) (rows_invariant r rs (rows_divided fresh (r ∷ rs) (e ∷ []) ok).0) e (rows_step r rs e ok)

pub rows_ends : (γ : List Rec) (e : Rec) → rows_refusal fresh (snoc γ e) ≡ 0 → (e.i < 10) × (e.j < 10)
rows_ends [] e ok = let z = first_joins e ok in (omega (arith, z.0), omega (arith, z.1))
rows_ends (r ∷ rs) e ok =
    ends_low (read_rows fresh (r ∷ rs)) (rows_invariant r rs (rows_divided fresh (r ∷ rs) (e ∷ []) ok).0) e (rows_step r rs e ok)

-- HOW MANY DEVICES there are after it
pub width_next : (γ : List Rec) (e : Rec) → rows_refusal fresh (snoc γ e) ≡ 0 → width (snoc γ e) ≡ cond (ltb e.i e.j) (width γ + 1) (width γ)
width_next [] e ok =
    let z = first_joins e ok in
    ap (λ (x : Reading). length x.kinds) (read_first e) ∙ rw (lt-ltb e.i e.j (omega (arith, z.0, z.1)))
width_next (r ∷ rs) e ok =
    ap (λ (x : Reading). length x.kinds) (rows_after r rs e ok)
    ∙ grown_wide (read_rows fresh (r ∷ rs)) (rows_invariant r rs (rows_divided fresh (r ∷ rs) (e ∷ []) ok).0) e (rows_step r rs e ok)

pub width_some : (γ : List Rec) → rows_refusal fresh γ ≡ 0 → 1 ≤ width γ
width_some [] ok = omega arith
width_some (r ∷ rs) ok = omega (arith, (rows_invariant r rs ok).two)

pub width_most : (γ : List Rec) → rows_refusal fresh γ ≡ 0 → width γ ≤ 10
width_most [] ok = omega arith
width_most (r ∷ rs) ok = (rows_invariant r rs ok).ten

-- EVERY RECORD THAT MAY COME NEXT in the code of a small pattern has a number
accepted : {a b : ℕ} {γ : List Rec} → Listable kinds_before (Small a b) γ → rows_refusal fresh γ ≡ 0
accepted {γ = γ} f = (good_from_test γ f.least.code.good).accepted

pub next_labels : {a b : ℕ} (γ : List Rec) (e : Rec) → Listable kinds_before (Small a b) (snoc γ e) → SmallLabels a b e
next_labels {a} {b} γ e f = small_last a b γ e (accepted f) f.wanted

pub next_ends : {a b : ℕ} (γ : List Rec) (e : Rec) → Listable kinds_before (Small a b) (snoc γ e) → (e.i < 10) × (e.j < 10)
next_ends γ e f = rows_ends γ e (accepted f)

pub next_numbered :
    {a b : ℕ} → a ≤ 3 → b ≤ 3 → (γ : List Rec) (e : Rec) → Listable kinds_before (Small a b) (snoc γ e)
    → (t : ℕ) × (t < next_count (width γ)) × (numbered (width γ) t ≡ e)
next_numbered few low γ e f =
    let s = rows_number γ e (accepted f) in
    let l = next_labels γ e f in
    step_numbered (width γ) s.q e s.below s.from s.to (omega (arith, l.from)) (omega (arith, l.along)) (omega (arith, l.to))
