-- The kinds of a pattern are those of its code's records: a record's labels are kinds of what the code describes, and a record adds no others.
-- Rests on ReadRows. Assumes nothing.
use Rattle.std.specs.Prelude.{◌≡◌, refl, List, [], ◌∷◌, ◌⊎◌, ℕ, ◌<◌, length}
use Rattle.std.proofs.Common.{sym, ◌∙◌, subst, inl, inr, arith}
use Rattle.laws.specs.Lists.{Mem, snoc, mem_eq, mem_front, mem_back, mem_cases, mem_at}
use Rattle.laws.specs.Selections.{mem_one}
use Rattle.graphs.specs.Drawing.{Cable, Drawing}
use Rattle.codes.specs.Code.{Rec, Reading, fresh, cable_of, begun, drawn, read_rows, rows_refusal, decoded}
use Rattle.codes.specs.Step.{Step, steps_back, steps_forward, after}
use Rattle.codes.specs.Reading.{Invariant}
use Rattle.codes.specs.ReadRows.{
  step_from_test,
  stepped_is,
  begun_is,
  rows_cons,
  rows_divided,
  rows_invariant,
  read_snoc,
}
use Rattle.codes.specs.FirstRecord.{read_first}

-- THE LABELS OF A RECORD are kinds of what is read
pub record LabelsIn (p : Drawing) (e : Rec) : Type 0 where
  pub from : Mem e.ki p.kinds
  pub along : Mem (cable_of e) p.cables
  pub to : Mem e.kj p.kinds

-- WHAT A RECORD ADDS: its labels and nothing else
pub record AddsLabels (p d : Drawing) (e : Rec) : Type 0 where
  pub kinds : (k : ℕ) → Mem k d.kinds → Mem k p.kinds ⊎ ((k ≡ e.ki) ⊎ (k ≡ e.kj))
  pub cables : (c : Cable) → Mem c d.cables → Mem c p.cables ⊎ (cable_of e ≡ c)

begun_in : (e : Rec) → LabelsIn (drawn (begun e)) e
begun_in e = record { from = Mem.here refl; along = Mem.here refl; to = Mem.there (Mem.here refl) }

begun_adds : (e : Rec) → AddsLabels (drawn fresh) (drawn (begun e)) e
begun_adds e = record { kinds = kinds; cables = λ c m. inr (mem_one m) }
  where
    kinds : (k : ℕ) → Mem k (e.ki ∷ e.kj ∷ []) → Mem k fresh.kinds ⊎ ((k ≡ e.ki) ⊎ (k ≡ e.kj))
    kinds k (Mem.here q) = inr (inl (sym q))
    kinds k (Mem.there m) = inr (inr (sym (mem_one m)))

module _ (x : Reading) (v : Invariant x) (e : Rec) where
  after_in : (s : Step x e) → LabelsIn (drawn (after s)) e
  after_in (steps_back o p q) =
      let top : e.i < length x.kinds = omega (arith, o.is_end, v.top) in
      record {
        from = mem_eq p (mem_at 256 x.kinds e.i top);
        along = mem_back x.cables (Mem.here refl);
        to = mem_eq q (mem_at 256 x.kinds e.j (omega (arith, o.down)));
      }
  after_in (steps_forward m p q r) =
      record {
        from = mem_front (e.kj ∷ []) (mem_eq r (mem_at 256 x.kinds e.i (v.below e.i m)));
        along = mem_back x.cables (Mem.here refl);
        to = mem_back x.kinds (Mem.here refl);
      }

  added : (c : Cable) → Mem c x.cables ⊎ Mem c (cable_of e ∷ []) → Mem c x.cables ⊎ (cable_of e ≡ c)
  added c (inl m) = inl m
  added c (inr m) = inr (mem_one m)

  after_adds : (s : Step x e) → AddsLabels (drawn x) (drawn (after s)) e
  after_adds (steps_back o p q) = record { kinds = λ k m. inl m; cables = λ c m. added c (mem_cases x.cables m) }
  after_adds (steps_forward m p q r) = record { kinds = λ k n. kinds k (mem_cases x.kinds n); cables = λ c n. added c (mem_cases x.cables n) }
    where
      kinds : (k : ℕ) → Mem k x.kinds ⊎ Mem k (e.kj ∷ []) → Mem k x.kinds ⊎ ((k ≡ e.ki) ⊎ (k ≡ e.kj))
      kinds k (inl n) = inl n
      kinds k (inr n) = inr (inr (sym (mem_one n)))

-- A STEP AFTER ROWS
pub rows_step : (r : Rec) (rs : List Rec) (e : Rec) → rows_refusal fresh (snoc (r ∷ rs) e) ≡ 0 → Step (read_rows fresh (r ∷ rs)) e
rows_step r rs e ok =
    let d = rows_divided fresh (r ∷ rs) (e ∷ []) ok in
    let f = rows_cons (read_rows fresh (r ∷ rs)) e [] d.1 in
    step_from_test (read_rows fresh (r ∷ rs)) (rows_invariant r rs d.0) e f.step f.kinds

pub rows_after : (r : Rec) (rs : List Rec) (e : Rec) (ok : rows_refusal fresh (snoc (r ∷ rs) e) ≡ 0)
    → read_rows fresh (snoc (r ∷ rs) e) ≡ after (rows_step r rs e ok)
rows_after r rs e ok =
    read_snoc fresh (r ∷ rs) e
    ∙ stepped_is (read_rows fresh (r ∷ rs)) (rows_invariant r rs (rows_divided fresh (r ∷ rs) (e ∷ []) ok).0) e (rows_step r rs e ok)

pub last_labels : (γ : List Rec) (e : Rec) → rows_refusal fresh (snoc γ e) ≡ 0 → LabelsIn (decoded (snoc γ e)) e
unfolding decoded
last_labels [] e ok = subst (λ (x : Reading). LabelsIn (drawn x) e) (sym (read_first e)) (begun_in e)
last_labels (r ∷ rs) e ok =
    subst (λ (x : Reading). LabelsIn (drawn x) e) (sym (rows_after r rs e ok))
    (after_in (read_rows fresh (r ∷ rs)) (rows_invariant r rs (rows_divided fresh (r ∷ rs) (e ∷ []) ok).0) e (rows_step r rs e ok))

pub last_adds : (γ : List Rec) (e : Rec) → rows_refusal fresh (snoc γ e) ≡ 0 → AddsLabels (decoded γ) (decoded (snoc γ e)) e
unfolding decoded read_rows
last_adds [] e ok = subst (λ (x : Reading). AddsLabels (drawn fresh) (drawn x) e) (sym (begun_is e)) (begun_adds e)
last_adds (r ∷ rs) e ok =
    subst (λ (x : Reading). AddsLabels (drawn (read_rows fresh (r ∷ rs))) (drawn x) e) (sym (rows_after r rs e ok))
    (after_adds (read_rows fresh (r ∷ rs)) (rows_invariant r rs (rows_divided fresh (r ∷ rs) (e ∷ []) ok).0) e (rows_step r rs e ok))
