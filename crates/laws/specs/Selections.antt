-- Selections from lists that compute: what each element gives, what a test lets through, the least of a list in a strict
-- order; and the members of each. Assumes nothing.
use Rattle.std.specs.Prelude.{◌≡◌, Bool, cond, ◌⊎◌}
use Rattle.std.proofs.Math.Path.{refl}
use Rattle.std.proofs.Common.{sym, subst, inl, inr}
use Rattle.std.proofs.Math.Bool.{true, false}
use mathlib.Core.List.{List, [], ◌∷◌, map}
use Rattle.laws.specs.Tests.{Three, less, same, more, true_and_false, false_unless}
use Rattle.laws.specs.Lists.{Mem, concat, mem_cases, mem_concat, mem_map}
use Rattle.laws.specs.Orders.{StrictOrder}

-- what each element gives, one after another
unfoldable pub each : {A B : Type 0} → List A → (A → List B) → List B
each xs g = concat (map g xs)

-- the list if the test is true, else nothing
unfoldable pub only_if : {A : Type 0} → Bool → List A → List A
only_if t xs = cond t xs []

-- the least of a and the elements of a list; of equals, the first
unfoldable pub least_of : {A : Type 0} → (lt : A → A → Bool) → A → List A → A
least_of lt a [] = a
least_of lt a (x ∷ xs) = least_of lt (cond (lt x a) x a) xs

module _ {A B : Type 0} where
  pub each_has : (xs : List A) (g : A → List B) {a : A} {v : B} → Mem a xs → Mem v (g a) → Mem v (each xs g)
  unfolding each
  each_has xs g m h = mem_concat (map g xs) (mem_map g m) h

  -- the element that gave v
  pub record Giver (xs : List A) (g : A → List B) (v : B) : Type 0 where
    pub a : A
    pub member : Mem a xs
    pub gives : Mem v (g a)

  pub each_from : (xs : List A) (g : A → List B) {v : B} → Mem v (each xs g) → Giver xs g v
  unfolding each concat
  each_from [] g m = elim m [ ]
  each_from (x ∷ xs) g {v} m = go (mem_cases (g x) m) (λ h. each_from xs g h)
    where
      later : Giver xs g v → Giver (x ∷ xs) g v
      later s = record { a = s.a; member = Mem.there s.member; gives = s.gives }

      go : Mem v (g x) ⊎ Mem v (concat (map g xs)) → (Mem v (concat (map g xs)) → Giver xs g v) → Giver (x ∷ xs) g v
      go (inl h) r = record { a = x; member = Mem.here refl; gives = h }
      go (inr h) r = later (r h)

  -- the element that f sends to v
  pub record Sent (f : A → B) (xs : List A) (v : B) : Type 0 where
    pub a : A
    pub member : Mem a xs
    pub is : f a ≡ v

  pub map_from : (f : A → B) (xs : List A) {v : B} → Mem v (map f xs) → Sent f xs v
  map_from f [] m = elim m [ ]
  map_from f (x ∷ xs) (Mem.here e) = record { a = x; member = Mem.here refl; is = e }
  map_from f (x ∷ xs) {v} (Mem.there m) = later (map_from f xs m)
    where
      later : Sent f xs v → Sent f (x ∷ xs) v
      later s = record { a = s.a; member = Mem.there s.member; is = s.is }

module _ {A : Type 0} where
  pub only_if_has : {t : Bool} {xs : List A} {v : A} → t ≡ true → Mem v xs → Mem v (only_if t xs)
  unfolding only_if
  only_if_has e m = rw e m

  pub only_if_from : (t : Bool) (xs : List A) {v : A} → Mem v (only_if t xs) → (t ≡ true) × Mem v xs
  unfolding only_if
  only_if_from true xs m = (refl, m)
  only_if_from false xs m = elim m [ ]

  -- the one element of a list
  pub mem_one : {v x : A} → Mem v (x ∷ []) → x ≡ v
  mem_one (Mem.here e) = e
  mem_one (Mem.there m) = elim m [ ]

  module _ (lt : A → A → Bool) where
    -- the least is one of them
    pub least_of_member : (a : A) (xs : List A) → Mem (least_of lt a xs) (a ∷ xs)
    unfolding least_of
    least_of_member a [] = Mem.here refl
    least_of_member a (x ∷ xs) = go (lt x a) (least_of_member (cond (lt x a) x a) xs)
      where
        back : (b : A) → Mem b (a ∷ x ∷ xs) → {v : A} → Mem v (b ∷ xs) → Mem v (a ∷ x ∷ xs)
        back b m (Mem.here e) = rw (← e) m
        back b m (Mem.there h) = Mem.there (Mem.there h)

        go : (t : Bool) {v : A} → Mem v (cond t x a ∷ xs) → Mem v (a ∷ x ∷ xs)
        go true m = back x (Mem.there (Mem.here refl)) m
        go false m = back a (Mem.here refl) m

    -- and none of them comes before it
    pub least_of_least : StrictOrder lt → (a : A) (xs : List A) (b : A) → Mem b (a ∷ xs) → lt b (least_of lt a xs) ≡ false
    unfolding least_of
    least_of_least o a [] b m = false_unless (lt b a) (λ z. o.irrefl a (subst (λ (y : A). lt y a ≡ true) (sym (mem_one m)) z))
    least_of_least o a (x ∷ xs) b m = go (lt x a) refl (least_of_least o (cond (lt x a) x a) xs)
      where
        -- what is not after the least so far is not before the least
        lower : (c l y : A) → (lt c y ≡ true) ⊎ (c ≡ y) → lt c l ≡ false → lt y l ≡ false
        lower c l y (inl p) h = false_unless (lt y l) (λ z. true_and_false (o.trans c y l p z) h)
        lower c l y (inr p) h = rw (← p) h

        not_after : lt x a ≡ false → (lt a x ≡ true) ⊎ (a ≡ x)
        not_after h = by (o.tri x a)
          where
            by : Three (lt x a ≡ true) (x ≡ a) (lt a x ≡ true) → (lt a x ≡ true) ⊎ (a ≡ x)
            by (less p) = absurd (true_and_false p h)
            by (same p) = inr (sym p)
            by (more p) = inl p

        pick :
            (c l : A) → (lt c a ≡ true) ⊎ (c ≡ a) → (lt c x ≡ true) ⊎ (c ≡ x) → ((y : A) → Mem y (c ∷ xs) → lt y l ≡ false)
            → lt b l ≡ false
        pick c l p q h = by m
          where
            by : Mem b (a ∷ x ∷ xs) → lt b l ≡ false
            by (Mem.here e) = rw (← e) (lower c l a p (h c (Mem.here refl)))
            by (Mem.there (Mem.here e)) = rw (← e) (lower c l x q (h c (Mem.here refl)))
            by (Mem.there (Mem.there g)) = h b (Mem.there g)

        go :
            (t : Bool) → lt x a ≡ t → ((y : A) → Mem y (cond t x a ∷ xs) → lt y (least_of lt (cond t x a) xs) ≡ false)
            → lt b (least_of lt (cond t x a) xs) ≡ false
        go true e h = pick x (least_of lt x xs) (inl e) (inr refl) h
        go false e h = pick a (least_of lt a xs) (inr refl) (not_after e) h
