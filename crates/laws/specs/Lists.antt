-- Lists: members, one more element at the end, maps over a list. Assumes nothing.
use Rattle.std.specs.Prelude.{◌≡◌, refl, ◌⊎◌, ℕ, zero, suc, ◌+◌, ◌≤◌, ◌<◌, length, get_or, take, drop}
use Rattle.std.proofs.Common.{sym, ap, inl, inr, not-suc-le-zero, le_of_suc-le-suc, arith, length-append}
use mathlib.Core.List.{List, [], ◌∷◌, ◌++◌, map}
use Rattle.std.proofs.Math.Decide.{dec_lt}
use Rattle.std.proofs.Math.ListN.{get_or-append}
use Rattle.std.proofs.lemmas.List.{get_or_at}

-- v is an element of a list
pub data Mem {A : Type 0} (v : A) : List A → Type 0 where
  here : {x : A} {xs : List A} → x ≡ v → Mem v (x ∷ xs)
  there : {x : A} {xs : List A} → Mem v xs → Mem v (x ∷ xs)

-- the list with one more element at its end
abbrev pub snoc : {A : Type 0} → List A → A → List A
snoc xs x = xs ++ (x ∷ [])

-- the lists of a list, one after another
unfoldable pub concat : {A : Type 0} → List (List A) → List A
concat [] = []
concat (xs ∷ xss) = xs ++ concat xss

module _ {A : Type 0} where
  pub mem_eq : {v w : A} {xs : List A} → v ≡ w → Mem v xs → Mem w xs
  mem_eq e m = rw (← e) m

  pub mem_front : {v : A} {xs : List A} (ys : List A) → Mem v xs → Mem v (xs ++ ys)
  mem_front ys (here e) = here e
  mem_front ys (there m) = there (mem_front ys m)

  pub mem_back : {v : A} (xs : List A) {ys : List A} → Mem v ys → Mem v (xs ++ ys)
  mem_back [] m = m
  mem_back (x ∷ xs) m = there (mem_back xs m)

  pub mem_cases : {v : A} (xs : List A) {ys : List A} → Mem v (xs ++ ys) → Mem v xs ⊎ Mem v ys
  mem_cases [] m = inr m
  mem_cases (x ∷ xs) (here e) = inl (here e)
  mem_cases {v} (x ∷ xs) {ys} (there m) = go (mem_cases xs m)
    where
      go : Mem v xs ⊎ Mem v ys → Mem v (x ∷ xs) ⊎ Mem v ys
      go (inl h) = inl (there h)
      go (inr h) = inr h

  pub mem_concat : {v : A} {xs : List A} (xss : List (List A)) → Mem xs xss → Mem v xs → Mem v (concat xss)
  unfolding concat
  mem_concat [] h m = elim h [ ]
  mem_concat (ys ∷ yss) (here e) m = mem_front {xs = ys} (concat yss) (rw e m)
  mem_concat (ys ∷ yss) (there h) m = mem_back ys (mem_concat yss h m)

  -- where an element stands
  pub record MemPlace (d : A) (xs : List A) (v : A) : Type 0 where
    pub i : ℕ
    pub below : i < length xs
    pub is : get_or xs i d ≡ v

  pub place : (d : A) {v : A} {xs : List A} → Mem v xs → MemPlace d xs v
  place d (here e) = record { i = 0; below = omega arith; is = e }
  place d {v = v} (there {x = x} {xs = xs} m) = go (place d m)
    where
      go : MemPlace d xs v → MemPlace d (x ∷ xs) v
      go p = record { i = suc p.i; below = omega (arith, p.below); is = p.is }

  pub mem_at : (d : A) (xs : List A) (i : ℕ) → i < length xs → Mem (get_or xs i d) xs
  mem_at d [] i h = absurd (not-suc-le-zero h)
  mem_at d (x ∷ xs) zero h = here refl
  mem_at d (x ∷ xs) (suc i) h = there (mem_at d xs i (le_of_suc-le-suc h))

  -- within a list it plays no part what is read past its end
  pub get_d_default : (xs : List A) (i : ℕ) (d e : A) → i < length xs → get_or xs i d ≡ get_or xs i e
  get_d_default [] i d e h = absurd (not-suc-le-zero h)
  get_d_default (x ∷ xs) zero d e h = refl
  get_d_default (x ∷ xs) (suc i) d e h = get_d_default xs i d e (le_of_suc-le-suc h)

  pub nil_of_length : (xs : List A) → length xs ≡ 0 → xs ≡ []
  nil_of_length [] h = refl
  nil_of_length (x ∷ xs) h = absurd (omega arith)

  -- ONE MORE ELEMENT
  pub snoc_length : (xs : List A) (x : A) → length (snoc xs x) ≡ suc (length xs)
  snoc_length xs x = rw length-append (omega arith)

  pub snoc_old : (d : A) (xs : List A) (x : A) (i : ℕ) → i < length xs → get_or (snoc xs x) i d ≡ get_or xs i d
  snoc_old d xs x i h = get_or-append xs (x ∷ []) d i h

  pub snoc_new : (d : A) (xs : List A) (x : A) (i : ℕ) → i ≡ length xs → get_or (snoc xs x) i d ≡ x
  snoc_new d xs x i e = get_or_at xs x [] d i (sym e)

  pub snoc_below : (xs : List A) (x : A) (i : ℕ) → i < length (snoc xs x) → (i < length xs) ⊎ (i ≡ length xs)
  snoc_below xs x i h = go (dec_lt i (length xs))
    where
      go : Dec (i < length xs) → (i < length xs) ⊎ (i ≡ length xs)
      go (yes l) = inl l
      go (no l) = inr (omega (arith, rw snoc_length at h))

  -- a list that is not empty ends in an element
  pub record Snoc (xs : List A) (n : ℕ) : Type 0 where
    pub front : List A
    pub last : A
    pub whole : xs ≡ snoc front last
    pub size : length front ≡ n

  pub unsnoc : (xs : List A) (n : ℕ) → length xs ≡ suc n → Snoc xs n
  unsnoc [] n e = absurd (omega arith)
  unsnoc (x ∷ []) n e = record { front = []; last = x; whole = refl; size = omega arith }
  unsnoc (x ∷ y ∷ xs) zero e = absurd (omega arith)
  unsnoc (x ∷ y ∷ xs) (suc n) e = go (unsnoc (y ∷ xs) n (omega arith))
    where
      go : Snoc (y ∷ xs) n → Snoc (x ∷ y ∷ xs) (suc n)
      go s = record { front = x ∷ s.front; last = s.last; whole = ap {B = List A} (λ l. x ∷ l) s.whole; size = ap suc s.size }

-- FRONTS of a list, and what is left of them behind k elements
module _ {A : Type 0} where
  pub take_most : (m : ℕ) (xs : List A) → length (take m xs) ≤ m
  take_most zero xs = omega arith
  take_most (suc m) [] = omega arith
  take_most (suc m) (x ∷ xs) = omega (arith, take_most m xs)

  -- a longer front has something more at its end
  pub drop_take_more : (k j m : ℕ) (xs : List A) → j ≤ m → (ys : List A) × (drop k (take m xs) ≡ drop k (take j xs) ++ ys)
  drop_take_more zero zero m xs h = (take m xs, refl)
  drop_take_more zero (suc j) zero xs h = absurd (not-suc-le-zero h)
  drop_take_more zero (suc j) (suc m) [] h = ([], refl)
  drop_take_more zero (suc j) (suc m) (x ∷ xs) h =
      let r = drop_take_more zero j m xs (le_of_suc-le-suc h) in (r.0, ap {B = List A} (λ l. x ∷ l) r.1)
  drop_take_more (suc k) zero m xs h = (drop (suc k) (take m xs), refl)
  drop_take_more (suc k) (suc j) zero xs h = absurd (not-suc-le-zero h)
  drop_take_more (suc k) (suc j) (suc m) [] h = ([], refl)
  drop_take_more (suc k) (suc j) (suc m) (x ∷ xs) h = drop_take_more k j m xs (le_of_suc-le-suc h)

-- MAPS over a list
module _ {A B : Type 0} (f : A → B) where
  pub mem_map : {v : A} {xs : List A} → Mem v xs → Mem (f v) (map f xs)
  mem_map (here e) = here (ap f e)
  mem_map (there m) = there (mem_map m)

  pub map_take : (k : ℕ) (xs : List A) → take k (map f xs) ≡ map f (take k xs)
  map_take zero xs = refl
  map_take (suc k) [] = refl
  map_take (suc k) (x ∷ xs) = ap {B = List B} (λ l. f x ∷ l) (map_take k xs)

  pub map_append : (xs ys : List A) → map f (xs ++ ys) ≡ map f xs ++ map f ys
  map_append [] ys = refl
  map_append (x ∷ xs) ys = ap {B = List B} (λ l. f x ∷ l) (map_append xs ys)
