-- The kinds of a code's devices after one record more: a backward one meets no new device, a forward one meets one, the first
-- meets two. Rests on the rows of codes. Assumes nothing.
use Rattle.std.specs.Prelude.{◌≡◌, refl, List, [], ◌∷◌, ℕ, ◌+◌, ◌≤◌, ◌<◌, length, get_or, take, set}
use Rattle.std.proofs.Common.{sym, ap, ◌∙◌, subst, add-one, arith, length-set, take-suc-set, get_or-take}
use Rattle.std.proofs.lemmas.List.{take-set-le, set-get_or}
use Rattle.laws.specs.Lists.{snoc, snoc_length}
use Rattle.codes.specs.Code.{Rec, Reading, fresh, recs_in, stepped, rows_refusal, read_rows}
use Rattle.codes.specs.Step.{Step, steps_back, steps_forward, after}
use Rattle.codes.specs.Reading.{Invariant}
use Rattle.codes.specs.ReadRows.{
  FirstRow,
  rows_cons,
  rows_divided,
  rows_invariant,
  read_snoc,
  step_from_test,
  stepped_is,
  begun_is,
  begun_from_test,
}
use Rattle.codes.specs.RecordPut.{FrontKept, RecordPut}
use Rattle.extending.specs.HeldCode.{KindsHeld, CodeSized, CanAppend, Appended}

-- WHAT A RECORD DOES to the kinds of a code
pub data DeviceMet (γ : List Rec) (e : Rec) : Type 0 where
  meets_two :
      (read_rows fresh γ).kinds ≡ [] → e.i ≡ 0 → e.j ≡ 1 → (read_rows fresh (snoc γ e)).kinds ≡ e.ki ∷ e.kj ∷ [] → DeviceMet γ e
  meets_one :
      e.i < e.j → e.j ≡ length (read_rows fresh γ).kinds → e.j ≤ 9 → get_or (read_rows fresh γ).kinds e.i 256 ≡ e.ki
      → (read_rows fresh (snoc γ e)).kinds ≡ snoc (read_rows fresh γ).kinds e.kj → DeviceMet γ e
  meets_none : e.j < e.i → (read_rows fresh (snoc γ e)).kinds ≡ (read_rows fresh γ).kinds → DeviceMet γ e

-- by the step that it is
module _ (γ : List Rec) (e : Rec) where
  step_meets : Invariant (read_rows fresh γ) → (s : Step (read_rows fresh γ) e) → read_rows fresh (snoc γ e) ≡ after s → DeviceMet γ e
  step_meets v (steps_back o p q) is = meets_none o.down (ap (λ (x : Reading). x.kinds) is)
  step_meets v (steps_forward m p q k) is = meets_one (omega (arith, v.below e.i m)) p q k (ap (λ (x : Reading). x.kinds) is)

first_meets : (e : Rec) → FirstRow (read_rows fresh []) e [] → DeviceMet [] e
unfolding read_rows fresh
first_meets e f =
    let ends = begun_from_test e f.step in
    meets_two refl ends.0 ends.1 (ap (λ (x : Reading). x.kinds) (begun_is e))

row_meets : (γ : List Rec) (e : Rec) → rows_refusal fresh γ ≡ 0 → FirstRow (read_rows fresh γ) e []
    → read_rows fresh (snoc γ e) ≡ stepped (read_rows fresh γ) e → DeviceMet γ e
row_meets [] e z f is = first_meets e f
row_meets (r ∷ rs) e z f is =
    let v = rows_invariant r rs z in
    let s = step_from_test _ v e f.step f.kinds in
    step_meets (r ∷ rs) e v s (is ∙ stepped_is _ v e s)

pub record_meets : (γ : List Rec) (e : Rec) → rows_refusal fresh (snoc γ e) ≡ 0 → DeviceMet γ e
record_meets γ e z =
    let d = rows_divided fresh γ (e ∷ []) z in
    row_meets γ e d.0 (rows_cons _ e [] d.1) (read_snoc fresh γ e)

-- IN AN ARRAY: the kinds and the number of the devices of a code that grew from one of n devices
record KindsMet (γ : List Rec) (kinds : List ℕ) (n : ℕ) (kinds_now : List ℕ) (more : ℕ) : Type 0 where
  held : KindsHeld γ kinds_now more
  no_fewer : n ≤ more
  front : FrontKept n kinds kinds_now

two_set : (kinds : List ℕ) (a b : ℕ) → 2 ≤ length kinds → take 2 (set (set kinds 0 a) 1 b) ≡ a ∷ b ∷ []
two_set [] a b h = absurd (omega arith)
two_set (x ∷ []) a b h = absurd (omega arith)
two_set (x ∷ y ∷ zs) a b h = refl

module _ (γ : List Rec) (e : Rec) {kinds : List ℕ} {n : ℕ} (h : KindsHeld γ kinds n) (wide : length kinds ≡ 10) where
  abbrev old : List ℕ
  old = (read_rows fresh γ).kinds

  -- a backward record leaves it
  backward_met : DeviceMet γ e → e.j ≤ e.i → KindsMet (snoc γ e) kinds n kinds n
  backward_met (meets_two a i j is) low = absurd (omega arith)
  backward_met (meets_one up a b c is) low = absurd (omega arith)
  backward_met (meets_none down is) low =
      record {
        held = record { count = h.count ∙ ap length (sym is); are = h.are ∙ sym is };
        no_fewer = omega arith;
        front = record { is = refl };
      }

  -- the two devices of the first one
  two_met : (read_rows fresh γ).kinds ≡ [] → e.i ≡ 0 → e.j ≡ 1 → (read_rows fresh (snoc γ e)).kinds ≡ e.ki ∷ e.kj ∷ []
      → KindsMet (snoc γ e) kinds n (set (set kinds e.i e.ki) e.j e.kj) (e.j + 1)
  two_met a i j is =
      let none : n ≡ 0 = h.count ∙ ap length a in
      record {
        held =
            record {
              count = ap (λ (k : ℕ). k + 1) j ∙ sym (ap length is);
              are = rw (i, j) (two_set kinds e.ki e.kj (omega arith)) ∙ sym is;
            };
        no_fewer = omega arith;
        front = record { is = rw none };
      }

  -- the new device of another: what has a kind keeps it
  one_met : e.i < e.j → e.j ≡ length (read_rows fresh γ).kinds → e.j ≤ 9 → get_or (read_rows fresh γ).kinds e.i 256 ≡ e.ki
      → (read_rows fresh (snoc γ e)).kinds ≡ snoc (read_rows fresh γ).kinds e.kj
      → KindsMet (snoc γ e) kinds n (set (set kinds e.i e.ki) e.j e.kj) (e.j + 1)
  one_met up a b k is =
      record {
        held =
            record {
              count = omega (arith, ap length is, snoc_length old e.kj);
              are =
                  ap (λ (l : List ℕ). take (e.j + 1) (set l e.j e.kj)) same
                  ∙ ap (λ (m : ℕ). take m (set kinds e.j e.kj)) (add-one e.j)
                  ∙ take-suc-set kinds e.j e.kj (omega arith)
                  ∙ ap (λ (m : ℕ). snoc (take m kinds) e.kj) next
                  ∙ ap (λ (l : List ℕ). snoc l e.kj) h.are
                  ∙ sym is;
            };
        no_fewer = omega arith;
        front =
            record {
              is = ap (λ (l : List ℕ). take n (set l e.j e.kj)) same ∙ take-set-le n kinds e.j e.kj (omega arith);
            };
      }
    where
      next : e.j ≡ n
      next = a ∙ sym h.count

      kind_is : get_or kinds e.i 256 ≡ e.ki
      kind_is = sym (get_or-take n kinds e.i 256 (omega (arith, next))) ∙ ap (λ (l : List ℕ). get_or l e.i 256) h.are ∙ k

      same : set kinds e.i e.ki ≡ kinds
      same = ap (set kinds e.i) (sym kind_is) ∙ set-get_or kinds e.i 256

  forward_met : DeviceMet γ e → e.i < e.j → KindsMet (snoc γ e) kinds n (set (set kinds e.i e.ki) e.j e.kj) (e.j + 1)
  forward_met (meets_two a i j is) up = two_met a i j is
  forward_met (meets_one u a b k is) up = one_met u a b k is
  forward_met (meets_none down is) up = absurd (omega arith)

-- THE CODE GROWN in place
module _ {code kinds : List ℕ} {m n : ℕ} {e : Rec} (a : CanAppend code kinds m n e) where
  meets : DeviceMet (recs_in m code) e
  meets = record_meets (recs_in m code) e a.accepted

  -- a forward record stays within the array
  pub forward_low : e.i < e.j → e.j ≤ 9
  forward_low up = go meets
    where
      go : DeviceMet (recs_in m code) e → e.j ≤ 9
      go (meets_two b i j is) = omega arith
      go (meets_one u b l k is) = l
      go (meets_none down is) = absurd (omega arith)

  module _ {code₁ : List ℕ} (p : RecordPut code m e code₁) where
    grown : {kinds₁ : List ℕ} {more : ℕ} → length kinds₁ ≡ 10 → KindsMet (snoc (recs_in m code) e) kinds n kinds₁ more
        → Appended code kinds m n e code₁ kinds₁ more
    grown {kinds₁} {more} wide t =
        let s : CodeSized code₁ kinds₁ = record { long = p.long ∙ a.held.sized.long; wide = wide } in
        record {
          records = p.records;
          held = record { sized = s; met = subst (λ (γ : List Rec). KindsHeld γ kinds₁ more) (sym p.records) t.held };
          no_fewer = t.no_fewer;
          kept = record { sized = s; front = p.front; met = t.front };
        }

    pub backward_appended : e.j ≤ e.i → Appended code kinds m n e code₁ kinds n
    backward_appended low = grown a.held.sized.wide (backward_met _ e a.held.met a.held.sized.wide meets low)

    pub forward_appended : e.i < e.j → Appended code kinds m n e code₁ (set (set kinds e.i e.ki) e.j e.kj) (e.j + 1)
    forward_appended up =
        grown (simp length-set a.held.sized.wide) (forward_met _ e a.held.met a.held.sized.wide meets up)
