-- What a test lets through of a list, in its order: members, number, rise, and after a map. Assumes nothing.
use Rattle.std.specs.Prelude.{◌≡◌, Bool, cond}
use Rattle.std.proofs.Math.Path.{refl}
use Rattle.std.proofs.Common.{sym, ap, subst}
use Rattle.std.proofs.Math.Bool.{true, false}
use mathlib.Core.List.{List, [], ◌∷◌, map}
use Prim.Native.Nat.{suc, ◌≤◌}
use native.Mathlib.Omega.{arith}
use Rattle.std.proofs.Math.ListN.{length}
use Rattle.laws.specs.Tests.{true_and_false}
use Rattle.laws.specs.Lists.{Mem}
use Rattle.laws.specs.Rising.{Rises, rises_nil, rises_cons, rises_head, rises_tail}

-- the elements that pass
unfoldable pub passing : {A : Type 0} → (A → Bool) → List A → List A
passing t [] = []
passing t (x ∷ xs) = cond (t x) (x ∷ passing t xs) (passing t xs)

module _ {A : Type 0} (t : A → Bool) where
  -- an element passes exactly if it is in the list and the test is true of it
  pub passing_has : (xs : List A) {v : A} → Mem v xs → t v ≡ true → Mem v (passing t xs)
  unfolding passing
  passing_has [] {v = v} x'' h = elim x'' [ ]
  passing_has (x ∷ xs) {v} (Mem.here e) h = go (t x) (subst (λ (y : A). t y ≡ true) (sym e) h)
    where
      go : (b : Bool) → b ≡ true → Mem v (cond b (x ∷ passing t xs) (passing t xs))
      go true p = Mem.here e
      go false p = absurd (true_and_false p refl)
  passing_has (x ∷ xs) {v} (Mem.there m) h = go (t x) (passing_has xs m h)
    where
      go : (b : Bool) → Mem v (passing t xs) → Mem v (cond b (x ∷ passing t xs) (passing t xs))
      go true k = Mem.there k
      go false k = k

  pub passing_from : (xs : List A) {v : A} → Mem v (passing t xs) → Mem v xs × (t v ≡ true)
  unfolding passing
  passing_from [] m = elim m [ ]
  passing_from (x ∷ xs) {v} m = go (t x) refl m (passing_from xs)
    where
      later : Mem v xs × (t v ≡ true) → Mem v (x ∷ xs) × (t v ≡ true)
      later (k, h) = (Mem.there k, h)

      go : (b : Bool) → t x ≡ b → Mem v (cond b (x ∷ passing t xs) (passing t xs)) → (Mem v (passing t xs) → Mem v xs × (t v ≡ true))
          → Mem v (x ∷ xs) × (t v ≡ true)
      go true p (Mem.here e) r = (Mem.here e, subst (λ (y : A). t y ≡ true) e p)
      go true p (Mem.there k) r = later (r k)
      go false p k r = later (r k)

  -- there are no more of them
  pub passing_length : (xs : List A) → length (passing t xs) ≤ length xs
  unfolding passing
  passing_length [] = omega arith
  passing_length (x ∷ xs) = go (t x) (passing_length xs)
    where
      go : (b : Bool) → length (passing t xs) ≤ length xs → length (cond b (x ∷ passing t xs) (passing t xs)) ≤ suc (length xs)
      go true h = omega (arith, h)
      go false h = omega (arith, h)

  -- they rise if the list does
  pub passing_rises : (lt : A → A → Bool) (xs : List A) → Rises lt xs → Rises lt (passing t xs)
  unfolding passing
  passing_rises lt [] r = rises_nil lt
  passing_rises lt (x ∷ xs) r = go (t x) (passing_rises lt xs (rises_tail lt x xs r))
    where
      go : (b : Bool) → Rises lt (passing t xs) → Rises lt (cond b (x ∷ passing t xs) (passing t xs))
      go true h = rises_cons lt x (passing t xs) (λ y m. rises_head lt x xs r y (passing_from xs m).0) h
      go false h = h

-- what passes after a map
pub passing_map : {A B : Type 0} (f : A → B) (t : B → Bool) (xs : List A) → passing t (map f xs) ≡ map f (passing (λ x. t (f x)) xs)
unfolding passing
passing_map f t [] = refl
passing_map {A} {B} f t (x ∷ xs) = go (t (f x)) (passing_map f t xs)
  where
    go : (b : Bool) → passing t (map f xs) ≡ map f (passing (λ x. t (f x)) xs)
        → cond b (f x ∷ passing t (map f xs)) (passing t (map f xs))
        ≡ map f (cond b (x ∷ passing (λ x. t (f x)) xs) (passing (λ x. t (f x)) xs))
    go true h = ap {B = List B} (λ l. f x ∷ l) h
    go false h = h
