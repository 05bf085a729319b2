-- The least of those elements of a list that pass a decidable test, in a strict order. Assumes nothing.
use Rattle.std.specs.Prelude.{◌≡◌, Bool, true, false, List, [], ◌∷◌, ◌⊎◌}
use Rattle.std.proofs.Common.{subst, inl, inr}
use Rattle.laws.specs.Tests.{test, true_and_false, false_unless}
use Rattle.laws.specs.Lists.{Mem}
use Rattle.laws.specs.Orders.{StrictOrder}

module _ {A : Type 0} (lt : A → A → Bool) (P : A → Type 0) where
  -- no element of the list that has P comes before it
  pub record Minimum (xs : List A) : Type 0 where
    pub least : A
    pub holds : P least
    pub none_before : (l : A) → Mem l xs → P l → lt l least ≡ false

  -- if some element has P, there is a least
  pub minimum : StrictOrder lt → ((a : A) → P a ⊎ (P a → ⊥)) → (xs : List A) (a : A) → P a → Minimum xs
  minimum o dec [] a p = record { least = a; holds = p; none_before = λ l m. elim m [ ] }
  minimum o dec (x ∷ xs) a p = go (minimum o dec xs a p) (dec x)
    where
      keep : (b : Minimum xs) → (P x → lt x b.least ≡ false) → (l : A) → Mem l (x ∷ xs) → P l → lt l b.least ≡ false
      keep b h l (Mem.here q) s = subst (λ (z : A). lt z b.least ≡ false) q (h (rw q s))
      keep b h l (Mem.there m) s = b.none_before l m s

      under : (b : Minimum xs) → lt x b.least ≡ true → (l : A) → Mem l (x ∷ xs) → P l → lt l x ≡ false
      under b h l (Mem.here q) s = false_unless (lt l x) (λ z. o.irrefl x (rw (← q) at z))
      under b h l (Mem.there m) s = false_unless (lt l x) (λ z. true_and_false (o.trans l x b.least z h) (b.none_before l m s))

      choose : (b : Minimum xs) → P x → (lt x b.least ≡ true) ⊎ (lt x b.least ≡ false) → Minimum (x ∷ xs)
      choose b s (inl z) = record { least = x; holds = s; none_before = under b z }
      choose b s (inr z) = record { least = b.least; holds = b.holds; none_before = keep b (λ y. z) }

      go : Minimum xs → P x ⊎ (P x → ⊥) → Minimum (x ∷ xs)
      go b (inl s) = choose b s (test (lt x b.least))
      go b (inr n) = record { least = b.least; holds = b.holds; none_before = keep b (λ s. absurd (n s)) }
