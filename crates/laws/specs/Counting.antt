-- Counting: different members of a list are no more than it has (the pigeonhole principle). Assumes nothing.
use Rattle.std.specs.Prelude.{◌≡◌, refl, List, [], ◌∷◌, ◌⊎◌, ℕ, zero, suc, ◌≤◌, ◌<◌, length, get_or}
use Rattle.std.proofs.Common.{sym, ap, ◌∙◌, inl, inr, not-suc-le-zero, le_of_suc-le-suc, arith}
use Rattle.std.proofs.Math.Decide.{ℕ_discrete}
use Rattle.laws.specs.Lists.{Mem, MemPlace, place, mem_at, mem_eq}

-- no element twice
unfoldable pub Different : {A : Type 0} → List A → Type 0
Different [] = Unit {0}
Different (x ∷ xs) = (Mem x xs → ⊥) × Different xs

-- ys without one place of v
record Without {A : Type 0} (v : A) (ys : List A) : Type 0 where
  rest : List A
  count : length ys ≡ suc (length rest)
  cases : (w : A) → Mem w ys → (w ≡ v) ⊎ Mem w rest

without : {A : Type 0} {v : A} {ys : List A} → Mem v ys → Without v ys
without {A} {v} (Mem.here {x = y} {xs = ys} e) = record { rest = ys; count = refl; cases = cases }
  where
    cases : (w : A) → Mem w (y ∷ ys) → (w ≡ v) ⊎ Mem w ys
    cases w (Mem.here q) = inl (sym q ∙ e)
    cases w (Mem.there m) = inr m
without {A} {v} (Mem.there {x = y} {xs = ys} m) = go (without m)
  where
    go : Without v ys → Without v (y ∷ ys)
    go s = record { rest = y ∷ s.rest; count = ap suc s.count; cases = cases }
      where
        later : (w : A) → (w ≡ v) ⊎ Mem w s.rest → (w ≡ v) ⊎ Mem w (y ∷ s.rest)
        later w (inl q) = inl q
        later w (inr h) = inr (Mem.there h)

        cases : (w : A) → Mem w (y ∷ ys) → (w ≡ v) ⊎ Mem w (y ∷ s.rest)
        cases w (Mem.here q) = inr (Mem.here q)
        cases w (Mem.there h) = later w (s.cases w h)

-- THE PIGEONHOLE PRINCIPLE
pub different_fewer : {A : Type 0} (xs ys : List A) → Different xs → ((v : A) → Mem v xs → Mem v ys) → length xs ≤ length ys
unfolding Different
different_fewer [] ys n s = omega arith
different_fewer {A} (x ∷ xs) ys n s = go (without (s x (Mem.here refl))) (λ zs t. different_fewer xs zs n.1 t)
  where
    other : (zs : List A) (w : A) → Mem w xs → (w ≡ x) ⊎ Mem w zs → Mem w zs
    other zs w h (inl q) = absurd (n.0 (mem_eq q h))
    other zs w h (inr k) = k

    go : Without x ys → ((zs : List A) → ((v : A) → Mem v xs → Mem v zs) → length xs ≤ length zs) → suc (length xs) ≤ length ys
    go w r = omega (arith, w.count, r w.rest (λ v m. other w.rest v m (w.cases v (s v (Mem.there m)))))

-- as many: then they are all its members
pub different_covers : {A : Type 0} (xs ys : List A) → Different xs → ((v : A) → Mem v xs → Mem v ys) → length xs ≡ length ys
    → (v : A) → Mem v ys → Mem v xs
unfolding Different
different_covers [] [] n s e v m = m
different_covers [] (y ∷ ys) n s e v m = absurd (omega arith)
different_covers {A} (x ∷ xs) ys n s e v m = go (without (s x (Mem.here refl))) (λ zs. different_covers xs zs n.1)
  where
    other : (zs : List A) (w : A) → Mem w xs → (w ≡ x) ⊎ Mem w zs → Mem w zs
    other zs w h (inl q) = absurd (n.0 (mem_eq q h))
    other zs w h (inr k) = k

    go : Without x ys → ((zs : List A) → ((w : A) → Mem w xs → Mem w zs) → length xs ≡ length zs → (w : A) → Mem w zs → Mem w xs) → Mem v (x ∷ xs)
    go t ih = end (t.cases v m)
      where
        end : (v ≡ x) ⊎ Mem v t.rest → Mem v (x ∷ xs)
        end (inl q) = Mem.here (sym q)
        end (inr k) =
            Mem.there (ih t.rest (λ w h. other t.rest w h (t.cases w (s w (Mem.there h)))) (omega (arith, t.count)) v k)

-- LISTS OF NUMBERS, read at 256 past their end
abbrev pub at : List ℕ → ℕ → ℕ
at f v = get_or f v 256

abbrev pub Injective : List ℕ → Type 0
Injective f = (i j : ℕ) → i < length f → j < length f → at f i ≡ at f j → i ≡ j

pub injective_different : (f : List ℕ) → Injective f → Different f
unfolding Different
injective_different [] n = tt
injective_different (x ∷ xs) n = (
  λ m. head (place 256 m),
  injective_different xs
      (λ i j h g e. omega (arith, n (suc i) (suc j) (omega arith) (omega arith) e)),
)
  where
    head : MemPlace 256 xs x → ⊥
    head p = omega (arith, n 0 (suc p.i) (omega arith) (omega (arith, p.below)) (sym p.is))

pub different_injective : (f : List ℕ) → Different f → Injective f
unfolding Different
different_injective [] n i j h l e = absurd (not-suc-le-zero h)
different_injective (x ∷ xs) n zero zero h l e = refl
different_injective (x ∷ xs) n zero (suc j) h l e = absurd (n.0 (mem_eq (sym e) (mem_at 256 xs j (le_of_suc-le-suc l))))
different_injective (x ∷ xs) n (suc i) zero h l e = absurd (n.0 (mem_eq e (mem_at 256 xs i (le_of_suc-le-suc h))))
different_injective (x ∷ xs) n (suc i) (suc j) h l e = ap suc (different_injective xs n.1 i j (le_of_suc-le-suc h) (le_of_suc-le-suc l) e)

-- THE NUMBERS BELOW n
unfoldable pub below : ℕ → List ℕ
below zero = []
below (suc n) = n ∷ below n

pub below_length : (n : ℕ) → length (below n) ≡ n
unfolding below
below_length zero = refl
below_length (suc n) = ap suc (below_length n)

pub below_has : (n v : ℕ) → v < n → Mem v (below n)
unfolding below
below_has zero v h = absurd (not-suc-le-zero h)
below_has (suc n) v h = go (ℕ_discrete n v) (λ l. below_has n v l)
  where
    go : Dec (n ≡ v) → (v < n → Mem v (below n)) → Mem v (n ∷ below n)
    go (yes e) r = Mem.here e
    go (no e) r = Mem.there (r (omega arith))

pub below_bound : (n v : ℕ) → Mem v (below n) → v < n
unfolding below
below_bound zero v m = elim m [ ]
below_bound (suc n) v (Mem.here e) = omega arith
below_bound (suc n) v (Mem.there m) = omega (arith, below_bound n v m)

pub below_different : (n : ℕ) → Different (below n)
unfolding below Different
below_different zero = tt
below_different (suc n) = (λ m. omega (arith, below_bound n n m), below_different n)

-- different numbers below n are at most n
pub different_below : (n : ℕ) (f : List ℕ) → Different f → ((v : ℕ) → Mem v f → v < n) → length f ≤ n
different_below n f d low = omega (arith, below_length n, different_fewer f (below n) d (λ v m. below_has n v (low v m)))

-- n different numbers below n are all of them
pub different_all : (n : ℕ) (f : List ℕ) → Different f → ((v : ℕ) → Mem v f → v < n) → length f ≡ n → (v : ℕ) → v < n → Mem v f
different_all n f d low size v h =
    different_covers f (below n) d (λ w m. below_has n w (low w m)) (size ∙ sym (below_length n)) v (below_has n v h)

-- an injective list with values below n has at most n places
pub injective_fits : (n : ℕ) (f : List ℕ) → Injective f → ((i : ℕ) → i < length f → at f i < n) → length f ≤ n
injective_fits n f inj low = different_below n f (injective_different f inj) (λ v m. go v (place 256 m))
  where
    go : (v : ℕ) → MemPlace 256 f v → v < n
    go v p = rw p.is at (low p.i p.below)
