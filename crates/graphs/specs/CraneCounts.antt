-- How many different cranes a set of drawings has: it is a function of the set, falls with it, is at most the number of its drawings, and
-- just that where all cranes differ. Rests on the pigeonhole principle. Assumes nothing.
use Rattle.std.specs.Prelude.{◌≡◌, refl, Bool, true, false, cond, List, [], ◌∷◌, ℕ, zero, suc, ◌≤◌, ◌<◌, length, get_or}
use Rattle.std.proofs.lemmas.Bool.{false≢true}
use Rattle.std.proofs.Common.{not-suc-le-zero, le_of_suc-le-suc, arith}
use Rattle.laws.specs.Tests.{true_and_false}
use Rattle.laws.specs.Lists.{Mem, mem_eq}
use Rattle.laws.specs.Counting.{Different, different_fewer}
use Rattle.graphs.specs.Drawing.{member}
use Rattle.graphs.specs.Cables.{mem_from_test, mem_to_test}
use Rattle.graphs.specs.Survey.{count_true, marked_cranes, each_once, crane_count}

-- EACH ONCE: the same numbers, none twice
pub each_once_has : (xs : List ℕ) (v : ℕ) → Mem v xs → Mem v (each_once xs)
unfolding each_once
each_once_has [] v m = elim m [ ]
each_once_has (x ∷ xs) v m = go (member x xs) refl m (each_once_has xs v)
  where
    go : (t : Bool) → member x xs ≡ t → Mem v (x ∷ xs) → (Mem v xs → Mem v (each_once xs)) → Mem v (cond t (each_once xs) (x ∷ each_once xs))
    go true e (Mem.here q) ih = ih (mem_eq q (mem_from_test x xs e))
    go true e (Mem.there h) ih = ih h
    go false e (Mem.here q) ih = Mem.here q
    go false e (Mem.there h) ih = Mem.there (ih h)

pub each_once_from : (xs : List ℕ) (v : ℕ) → Mem v (each_once xs) → Mem v xs
unfolding each_once
each_once_from [] v m = m
each_once_from (x ∷ xs) v m = go (member x xs) m (each_once_from xs v)
  where
    go : (t : Bool) → Mem v (cond t (each_once xs) (x ∷ each_once xs)) → (Mem v (each_once xs) → Mem v xs) → Mem v (x ∷ xs)
    go true h ih = Mem.there (ih h)
    go false (Mem.here q) ih = Mem.here q
    go false (Mem.there h) ih = Mem.there (ih h)

pub each_once_different : (xs : List ℕ) → Different (each_once xs)
unfolding each_once Different
each_once_different [] = tt
each_once_different (x ∷ xs) = go (member x xs) refl (each_once_different xs)
  where
    go : (t : Bool) → member x xs ≡ t → Different (each_once xs) → Different (cond t (each_once xs) (x ∷ each_once xs))
    go true e d = d
    go false e d = unfold Different in (λ m. true_and_false (mem_to_test x xs (each_once_from xs x m)) e, d)

pub each_once_fewer : (xs ys : List ℕ) → ((v : ℕ) → Mem v xs → Mem v ys) → length (each_once xs) ≤ length (each_once ys)
each_once_fewer xs ys h =
    different_fewer (each_once xs) (each_once ys) (each_once_different xs) (λ v m. each_once_has ys v (h v (each_once_from xs v m)))

-- as many as a list of the same numbers without a double
pub each_once_length : (xs ys : List ℕ) → Different ys → ((v : ℕ) → Mem v xs → Mem v ys) → ((v : ℕ) → Mem v ys → Mem v xs)
    → length (each_once xs) ≡ length ys
each_once_length xs ys d into back =
    omega (
      arith,
      different_fewer (each_once xs) ys (each_once_different xs) (λ v m. into v (each_once_from xs v m)),
      different_fewer ys (each_once xs) d (λ v m. each_once_has xs v (back v m)),
    )

-- THE MARKED CRANES
pub record MarkedDrawing (cs : List ℕ) (ms : List Bool) (c : ℕ) : Type 0 where
  pub k : ℕ
  pub below : k < length cs
  pub marked : get_or ms k false ≡ true
  pub crane_is : get_or cs k 256 ≡ c

pub marked_from : (cs : List ℕ) (ms : List Bool) (c : ℕ) → Mem c (marked_cranes cs ms) → MarkedDrawing cs ms c
unfolding marked_cranes
marked_from [] ms c m = elim m [ ]
marked_from (x ∷ cs) [] c m = elim m [ ]
marked_from (x ∷ cs) (true ∷ ms) c (Mem.here q) = record { k = 0; below = omega arith; marked = refl; crane_is = q }
marked_from (x ∷ cs) (true ∷ ms) c (Mem.there m) =
    let t = marked_from cs ms c m in
    record { k = suc t.k; below = omega (arith, t.below); marked = t.marked; crane_is = t.crane_is }
marked_from (x ∷ cs) (false ∷ ms) c m =
    let t = marked_from cs ms c m in
    record { k = suc t.k; below = omega (arith, t.below); marked = t.marked; crane_is = t.crane_is }

pub marked_crane : (cs : List ℕ) (ms : List Bool) (k : ℕ) → k < length cs → get_or ms k false ≡ true → Mem (get_or cs k 256) (marked_cranes cs ms)
unfolding marked_cranes
marked_crane [] ms k h e = absurd (not-suc-le-zero h)
marked_crane (c ∷ cs) [] k h e = absurd (false≢true e)
marked_crane (c ∷ cs) (true ∷ ms) zero h e = Mem.here refl
marked_crane (c ∷ cs) (true ∷ ms) (suc k) h e = Mem.there (marked_crane cs ms k (le_of_suc-le-suc h) e)
marked_crane (c ∷ cs) (false ∷ ms) zero h e = absurd (false≢true e)
marked_crane (c ∷ cs) (false ∷ ms) (suc k) h e = marked_crane cs ms k (le_of_suc-le-suc h) e

marked_few : (cs : List ℕ) (ms : List Bool) → length (marked_cranes cs ms) ≤ count_true ms
unfolding marked_cranes count_true
marked_few [] ms = omega arith
marked_few (c ∷ cs) [] = omega arith
marked_few (c ∷ cs) (true ∷ ms) = omega (arith, marked_few cs ms)
marked_few (c ∷ cs) (false ∷ ms) = omega (arith, marked_few cs ms)

marked_all : (cs : List ℕ) (ms : List Bool) → length ms ≤ length cs → length (marked_cranes cs ms) ≡ count_true ms
unfolding marked_cranes count_true
marked_all [] [] h = refl
marked_all [] (m ∷ ms) h = absurd (omega arith)
marked_all (c ∷ cs) [] h = refl
marked_all (c ∷ cs) (true ∷ ms) h = omega (arith, marked_all cs ms (omega arith))
marked_all (c ∷ cs) (false ∷ ms) h = omega (arith, marked_all cs ms (omega arith))

marked_in : (cs : List ℕ) (ms : List Bool) (c : ℕ) → Mem c (marked_cranes cs ms) → Mem c cs
unfolding marked_cranes
marked_in [] ms c m = m
marked_in (x ∷ cs) [] c m = elim m [ ]
marked_in (x ∷ cs) (true ∷ ms) c (Mem.here q) = Mem.here q
marked_in (x ∷ cs) (true ∷ ms) c (Mem.there m) = Mem.there (marked_in cs ms c m)
marked_in (x ∷ cs) (false ∷ ms) c m = Mem.there (marked_in cs ms c m)

marked_different : (cs : List ℕ) (ms : List Bool) → Different cs → Different (marked_cranes cs ms)
unfolding marked_cranes Different
marked_different [] ms d = tt
marked_different (c ∷ cs) [] d = tt
marked_different (c ∷ cs) (true ∷ ms) d = (λ m. d.0 (marked_in cs ms c m), marked_different cs ms d.1)
marked_different (c ∷ cs) (false ∷ ms) d = marked_different cs ms d.1

-- THE COUNT is at most the number of drawings
pub crane_count_bound : (cs : List ℕ) (ms : List Bool) → crane_count cs ms ≤ count_true ms
crane_count_bound cs ms = omega (arith, marked_few cs ms, short (marked_cranes cs ms))
  where
    short : (xs : List ℕ) → length (each_once xs) ≤ length xs
    short xs = different_fewer (each_once xs) xs (each_once_different xs) (each_once_from xs)

-- and just that where all cranes differ
pub crane_count_all : (cs : List ℕ) (ms : List Bool) → Different cs → length ms ≤ length cs → crane_count cs ms ≡ count_true ms
crane_count_all cs ms d h =
    omega (
      arith,
      marked_all cs ms h,
      each_once_length (marked_cranes cs ms) (marked_cranes cs ms) (marked_different cs ms d) (λ v m. m) (λ v m. m),
    )

-- it falls with the set
pub crane_count_falls :
    (cs : List ℕ) (ms ns : List Bool) → ((i : ℕ) → get_or ms i false ≡ true → get_or ns i false ≡ true) → crane_count cs ms ≤ crane_count cs ns
crane_count_falls cs ms ns h = each_once_fewer (marked_cranes cs ms) (marked_cranes cs ns) (λ v m. go v (marked_from cs ms v m))
  where
    go : (v : ℕ) → MarkedDrawing cs ms v → Mem v (marked_cranes cs ns)
    go v t = mem_eq t.crane_is (marked_crane cs ns t.k t.below (h t.k t.marked))

-- what counts has a drawing
pub crane_count_some : (cs : List ℕ) (ms : List Bool) → 1 ≤ crane_count cs ms → (i : ℕ) × (i < length cs) × (get_or ms i false ≡ true)
crane_count_some cs ms h = go (each_once (marked_cranes cs ms)) refl h
  where
    go : (xs : List ℕ) → each_once (marked_cranes cs ms) ≡ xs → 1 ≤ length xs → (i : ℕ) × (i < length cs) × (get_or ms i false ≡ true)
    go [] e l = absurd (omega arith)
    go (x ∷ xs) e l =
        let t = marked_from cs ms x (each_once_from (marked_cranes cs ms) x (rw e (Mem.here refl))) in
        (t.k, t.below, t.marked)
