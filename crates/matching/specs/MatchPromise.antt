-- What is promised of the answers of matching and sameness together: statements, each a type that Proved.antt proves. Assumes
-- nothing.
use Rattle.std.specs.Prelude.{◌≡◌, Bool, true, false, List, ℕ, ◌≤◌, length, Option, Some, None, Result, Ok}
use Rattle.graphs.specs.Drawing.{devices, drawing_in, drawing_refusal}
use Rattle.graphs.specs.Map.{maps_into, contains, Same, Found}
use Rattle.records.specs.declared.refusal.Refusal.{Refusal}
use Rattle.laws.specs.Lent.{in_front}
use Rattle.matching.specs.MatchAnswers.{MatchSays, SameSays}

-- MATCHING: what is written is a map that comes before every other, one byte per device of P
unfoldable pub MapIsLeast : Type 0
MapIsLeast =
    (xs ys : List ℕ) (n : ℕ) (o z : List ℕ) → MatchSays xs ys (Ok (Some n)) o z
    → (f : List ℕ) × Found (drawing_in xs) (drawing_in ys) f × (n ≡ length f) × (n ≡ devices (drawing_in xs)) × (z ≡ in_front f o)

-- "not contained" comes exactly if no map exists
unfoldable pub NoneIsNone : Type 0
NoneIsNone =
    (xs ys : List ℕ) (r : Result (Option ℕ) Refusal) (o z : List ℕ) → drawing_refusal xs ≡ 0 → drawing_refusal ys ≡ 0 → devices
    (drawing_in xs) ≤ length o → MatchSays xs ys r o z
    → (r ≡ Ok None → (g : List ℕ) → maps_into (drawing_in xs) (drawing_in ys) g ≡ true → ⊥)
    × (((g : List ℕ) → maps_into (drawing_in xs) (drawing_in ys) g ≡ true → ⊥) → r ≡ Ok None)

-- an accepted drawing is contained in itself
unfoldable pub MatchReflexive : Type 0
MatchReflexive =
    (xs : List ℕ) (r : Result (Option ℕ) Refusal) (o z : List ℕ) → drawing_refusal xs ≡ 0 → devices
    (drawing_in xs) ≤ length o → MatchSays xs xs r o z
    → r ≡ Ok (Some (devices (drawing_in xs)))

-- a map of P into Q and one of Q into D give one of P into D
unfoldable pub MatchComposes : Type 0
MatchComposes =
    (xs ys ws : List ℕ) (n k : ℕ) (r : Result (Option ℕ) Refusal) (o z o' z' o'' z'' : List ℕ) → MatchSays xs ys (Ok (Some n)) o z → MatchSays ys ws
    (Ok (Some k)) o' z'
    → n ≤ length o'' → MatchSays xs ws r o'' z'' → r ≡ Ok (Some n)

-- SAMENESS: yes exactly if the drawings are the same, no exactly if not
unfoldable pub SameTells : Type 0
SameTells =
    (xs ys : List ℕ) (r : Result Bool Refusal) → drawing_refusal xs ≡ 0 → drawing_refusal ys ≡ 0 → SameSays xs ys r
    → (r ≡ Ok true → Same (drawing_in xs) (drawing_in ys)) × (Same (drawing_in xs) (drawing_in ys) → r ≡ Ok true)
    × (r ≡ Ok false → Same (drawing_in xs) (drawing_in ys) → ⊥) × ((Same (drawing_in xs) (drawing_in ys) → ⊥) → r ≡ Ok false)

-- two drawings are the same if the first is contained in the second with n and m equal
unfoldable pub SameIsContained : Type 0
SameIsContained =
    (xs ys : List ℕ) (r : Result Bool Refusal) → drawing_refusal xs ≡ 0 → drawing_refusal ys ≡ 0 → SameSays xs ys r
    → (r ≡ Ok true
    → (contains (drawing_in xs) (drawing_in ys) ≡ true) × (devices (drawing_in xs) ≡ devices (drawing_in ys))
    × (length (drawing_in xs).cables ≡ length (drawing_in ys).cables))
    × (contains (drawing_in xs) (drawing_in ys) ≡ true → devices (drawing_in xs) ≡ devices (drawing_in ys)
    → length (drawing_in xs).cables ≡ length (drawing_in ys).cables → r ≡ Ok true)

-- it is an equivalence over accepted drawings
pub record SameEquivalence : Type 0 where
  pub reflexive : (xs : List ℕ) (r : Result Bool Refusal) → drawing_refusal xs ≡ 0 → SameSays xs xs r → r ≡ Ok true
  pub symmetric : (xs ys : List ℕ) (r s : Result Bool Refusal) → drawing_refusal xs ≡ 0 → drawing_refusal ys ≡ 0 → SameSays xs ys r
      → SameSays ys xs s
      → r ≡ Ok true → s ≡ Ok true
  pub transitive : (xs ys ws : List ℕ) (r s t : Result Bool Refusal) → drawing_refusal xs ≡ 0 → drawing_refusal ys ≡ 0 → drawing_refusal ws ≡ 0
      → SameSays xs ys r → SameSays ys ws s → SameSays xs ws t → r ≡ Ok true → s ≡ Ok true → t ≡ Ok true
