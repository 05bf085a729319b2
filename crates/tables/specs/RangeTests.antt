-- `all` and `any` over a range of numbers, where the closure decides something of each. Assumes nothing.
use Rattle.std.specs.Prelude.{◌≡◌, refl, Bool, true, false, List, ℕ, ◌+◌, ◌-◌, ◌≤◌, ◌<◌, length, get_or, Option}
use Rattle.std.specs.Bool.{MatchBool}
use Rattle.std.specs.Fn.{Called}
use Rattle.std.specs.Iterator.{YieldsThen}
use Rattle.std.specs.List.{FoldsTo, range_with_len, AllWithin, HoldsAt}
use Rattle.std.specs.Option.{MatchOption}
use Rattle.std.specs.declared.ops.Range.{Range}
use Rattle.std.proofs.Common.{subst, sym, arith}
use Rattle.std.proofs.iter.Yields.{nat_range_steps}
use Rattle.std.proofs.lemmas.Iterator.{cases_from_all, cases_from_any, YieldsList-from_range}
use Rattle.std.proofs.lemmas.List.FromFn.{length-range_with_len, get_or-range_with_len}
use denote.Param.Members.{Mut}
use Rattle.laws.specs.Decides.{Decides, decides_true, decides_false}

-- some number from low up to high has P
pub record SomeBetween (P : ℕ → Type 0) (low high : ℕ) : Type 0 where
  pub k : ℕ
  pub from : low ≤ k
  pub below : k < high
  pub is : P k

-- THE NUMBERS of a range as a list
module _ (P : ℕ → Type 0) (low high : ℕ) where
  abbrev numbers : List ℕ
  numbers = range_with_len low (high - low)

  long : length numbers ≡ high - low
  long = length-range_with_len low (high - low)

  at : (i d : ℕ) → i < high - low → get_or numbers i d ≡ low + i
  at i d h = get_or-range_with_len low (high - low) i d h

  every :
      (r : Bool) → MatchBool r (AllWithin P numbers 0 (length numbers)) ((i : ℕ) × (i < length numbers) × HoldsAt (λ x. P x → ⊥) numbers i)
      → Decides r ((k : ℕ) → low ≤ k → k < high → P k)
  every true h =
      decides_true
      (λ k a b. subst P (omega (arith, at (k - low) 0 (omega arith))) (h (k - low) 0 (omega arith) (omega (arith, long))))
  every false h =
      let i : h.0 < high - low = omega (arith, h.1, long) in
      decides_false (λ y. h.2 0 (subst P (sym (at h.0 0 i)) (y (low + h.0) (omega arith) (omega arith))))

  some :
      (r : Bool) → MatchBool r ((i : ℕ) × (i < length numbers) × HoldsAt P numbers i) (AllWithin (λ x. P x → ⊥) numbers 0 (length numbers))
      → Decides r (SomeBetween P low high)
  some true h =
      let i : h.0 < high - low = omega (arith, h.1, long) in
      decides_true (record { k = low + h.0; from = omega arith; below = omega arith; is = subst P (at h.0 0 i) (h.2 0) })
  some false h =
      decides_false
      (λ y.
      let i : y.k - low < high - low = omega (arith, y.from, y.below) in
      h (y.k - low) 0 (omega arith) (omega (arith, long)) (subst P (omega (arith, at (y.k - low) 0 i, y.from)) y.is))

-- WHAT THE CALL TELLS
module _ {F : Type 0} {g : Mut F (ℕ × Unit {0}) Bool} {f : F} (P : ℕ → Type 0)
    (each : (x : ℕ) (b : Bool) (q : F) → Called g f (x, tt) b q → (q ≡ f) × Decides b (P x)) where
  yes : (x : ℕ) (q : F) → Called g f (x, tt) true q → (q ≡ f) × P x
  yes x q k = let z = each x true q k in (z.0, z.1.holds refl)

  no : (x : ℕ) (q : F) → Called g f (x, tt) false q → (q ≡ f) × (P x → ⊥)
  no x q k = let z = each x false q k in (z.0, z.1.fails refl)

  pub decides_all :
      {s u : Range ℕ} {r : Bool}
      → (xs : List ℕ) × (o : Option ℕ) × (j : F) × YieldsThen nat_range_steps s xs o u × FoldsTo (λ p x q. Called g p (x, tt) true q) f xs j
      × MatchOption o (r ≡ true) (λ x. (r ≡ false) × ((h : F) × Called g j (x, tt) false h))
      → Decides r ((k : ℕ) → s.start ≤ k → k < s.end → P k)
  decides_all {s} {u} {r} ran =
      every P s.start s.end r
      (cases_from_all u f r P (λ x. P x → ⊥) ran (YieldsList-from_range s.start s.end _ refl refl) yes (λ x q k. (no x q k).1))

  pub decides_any :
      {s u : Range ℕ} {r : Bool}
      → (xs : List ℕ) × (o : Option ℕ) × (j : F) × YieldsThen nat_range_steps s xs o u × FoldsTo (λ p x q. Called g p (x, tt) false q) f xs j
      × MatchOption o (r ≡ false) (λ x. (r ≡ true) × ((h : F) × Called g j (x, tt) true h))
      → Decides r (SomeBetween P s.start s.end)
  decides_any {s} {u} {r} ran =
      some P s.start s.end r
      (cases_from_any u f r P (λ x. P x → ⊥) ran (YieldsList-from_range s.start s.end _ refl refl) (λ x q k. (yes x q k).1) no)
