-- The support of a pattern is the number of different cranes that have a drawing in which it has an embedding; it falls with containment, looks
-- at the pattern up to a map, is at most the number of drawings that contain it, and just that where all cranes differ. Rests on the least map
-- and on crane counts. Assumes nothing.
use Rattle.std.specs.Prelude.{◌≡◌, Bool, true, ℕ, suc, ◌+◌, ◌≤◌, ◌<◌, length, get_or}
use Rattle.std.proofs.Math.Path.{refl, sym, ap₂}
use Rattle.std.proofs.Common.{◌∙◌, arith}
use Rattle.std.proofs.Math.Bool.{false, cond}
use mathlib.Core.List.{List, [], ◌∷◌, map}
use Rattle.std.proofs.Math.ListN.{length-map, get_or-map}
use Rattle.laws.specs.Tests.{true_and_false}
use Rattle.laws.specs.Lists.{Mem, mem_eq, get_d_default}
use Rattle.laws.specs.Counting.{Different, different_fewer}
use Rattle.graphs.specs.Drawing.{Drawing}
use Rattle.graphs.specs.Embedding.{EndsInRange}
use Rattle.graphs.specs.Survey.{containing, count_true, marked_cranes, each_once, support}
use Rattle.graphs.specs.CraneCounts.{
  MarkedDrawing,
  each_once_has,
  each_once_from,
  each_once_different,
  each_once_length,
  marked_from,
  marked_crane,
  crane_count_bound,
  crane_count_all,
}
use Rattle.graphs.specs.Embeddings.{compose, embedding_compose}
use Rattle.graphs.specs.Map.{contains}
use Rattle.graphs.specs.LeastMap.{contains_from_embedding, embedding_from_contains}
use Rattle.demands.specs.Terms.{Contained, Supported, DrawingsWith}

module _ (p : Drawing) (ends : EndsInRange p) where
  pub contained : (d : Drawing) → contains p d ≡ true → Contained p d
  contained d = embedding_from_contains p d ends

  pub contained_test : (d : Drawing) → Contained p d → contains p d ≡ true
  contained_test d c = contains_from_embedding p d c.0 ends c.1

  not_contained : (d : Drawing) → contains p d ≡ false → Contained p d → ⊥
  not_contained d e c = true_and_false (contained_test d c) e

  pub mark_at : (ds : List Drawing) (k : ℕ) (none : Drawing) → k < length ds → get_or (containing p ds) k false ≡ contains p (get_or ds k none)
  unfolding containing
  mark_at ds k none h =
      get_d_default (map (contains p) ds) k false (contains p none) (rw (length-map ds (contains p)) h)
      ∙ get_or-map (contains p) ds k none

  -- THE CRANES of the marked drawings
  module _ (cr : List ℕ) (ds : List Drawing) (sized : length cr ≡ length ds) where
    abbrev found : List ℕ
    found = marked_cranes cr (containing p ds)

    filed_from : (c : ℕ) → MarkedDrawing cr (containing p ds) c
        → (k : ℕ) × (k < length ds) × (get_or cr k 256 ≡ c) × ((none : Drawing) → Contained p (get_or ds k none))
    filed_from c t =
        let h : t.k < length ds = omega (arith, t.below) in
        (t.k, h, t.crane_is, λ none. contained (get_or ds t.k none) (sym (mark_at ds t.k none h) ∙ t.marked))

    found_has : (k : ℕ) (none : Drawing) → k < length ds → Contained p (get_or ds k none) → Mem (get_or cr k 256) (marked_cranes cr (containing p ds))
    found_has k none h c =
        marked_crane cr (containing p ds) k (omega arith) (mark_at ds k none h ∙ contained_test (get_or ds k none) c)

    pub supported : Supported p cr ds (support p cr ds)
    unfolding support
    supported =
        record {
          numbers = each_once found;
          once = each_once_different found;
          filed = λ c m. filed_from c (marked_from cr (containing p ds) c (each_once_from found c m));
          all = λ k none h c. each_once_has found (get_or cr k 256) (found_has k none h c);
          counts = refl;
        }

    -- is the only one
    pub supported_is : (n : ℕ) → Supported p cr ds n → n ≡ support p cr ds
    unfolding support
    supported_is n s = s.counts ∙ sym (each_once_length found s.numbers s.once into back)
      where
        into : (v : ℕ) → Mem v found → Mem v s.numbers
        into v m =
            let t = filed_from v (marked_from cr (containing p ds) v m) in
            mem_eq t.2 (s.all t.0 p t.1 (t.3 p))

        back : (v : ℕ) → Mem v s.numbers → Mem v found
        back v m = let t = s.filed v m in mem_eq t.2 (found_has t.0 p t.1 (t.3 p))

  -- DRAWINGS COUNTED ONE BY ONE
  same_count :
      (ds : List Drawing) (bs : List Bool) → length bs ≡ length ds
      → ((k : ℕ) (none : Drawing) → k < length ds → get_or bs k false ≡ contains p (get_or ds k none)) → count_true bs ≡ count_true (containing p ds)
  unfolding containing count_true
  same_count [] [] e h = refl
  same_count [] (b ∷ bs) e h = absurd (omega arith)
  same_count (d ∷ ds) [] e h = absurd (omega arith)
  same_count (d ∷ ds) (b ∷ bs) e h =
      ap₂ {C = ℕ} (λ (x : Bool) (n : ℕ). cond x 1 0 + n) (h 0 d (omega arith))
      (same_count ds bs (omega arith) (λ k none g. h (suc k) none (omega arith)))

  pub drawings_are : (ds : List Drawing) (n : ℕ) → DrawingsWith p ds n → n ≡ count_true (containing p ds)
  drawings_are ds n s = s.counts ∙ same_count ds s.marks s.size (λ k none h. told k none h (get_or s.marks k false) refl)
    where
      told : (k : ℕ) (none : Drawing) → k < length ds → (t : Bool) → get_or s.marks k false ≡ t → t ≡ contains p (get_or ds k none)
      told k none h true e = sym (contained_test (get_or ds k none) (s.yes k none h e))
      told k none h false e = go (contains p (get_or ds k none)) refl
        where
          go : (t : Bool) → contains p (get_or ds k none) ≡ t → false ≡ contains p (get_or ds k none)
          go true c = absurd (s.no k none h e (contained (get_or ds k none) c))
          go false c = sym c

  -- no fewer than the cranes, and as many where all of these differ
  module _ (cr : List ℕ) (ds : List Drawing) (sized : length cr ≡ length ds) (m n : ℕ) (s : Supported p cr ds m) (d : DrawingsWith p ds n) where
    pub cranes_at_most : m ≤ n
    cranes_at_most =
        unfold support in omega (arith, supported_is cr ds sized m s, drawings_are ds n d, crane_count_bound cr (containing p ds))

    pub cranes_all : Different cr → m ≡ n
    cranes_all different =
        unfold support containing in
        supported_is cr ds sized m s
        ∙ crane_count_all cr (containing p ds) different (omega (arith, length-map ds (contains p)))
        ∙ sym (drawings_are ds n d)

-- IT FALLS with containment, since embeddings compose
pub supports_fall :
    (p q : Drawing) → EndsInRange p → Contained p q → (cr : List ℕ) (ds : List Drawing) (m n : ℕ)
    → Supported p cr ds m → Supported q cr ds n → n ≤ m
supports_fall p q ends (f, e) cr ds m n s t =
    omega (arith, s.counts, t.counts, different_fewer t.numbers s.numbers t.once (λ c i. into c (t.filed c i)))
  where
    into : (c : ℕ) → (k : ℕ) × (k < length ds) × (get_or cr k 256 ≡ c) × ((none : Drawing) → Contained q (get_or ds k none)) → Mem c s.numbers
    into c (k, h, is, there) =
        let (g, i) = there p in
        mem_eq is (s.all k p h (compose f g, embedding_compose p q (get_or ds k p) f g ends e i))

-- and looks at the pattern up to a map
pub supports_same :
    (p q : Drawing) → EndsInRange p → EndsInRange q → Contained p q → Contained q p → (cr : List ℕ) (ds : List Drawing) (m n : ℕ)
    → Supported p cr ds m → Supported q cr ds n → m ≡ n
supports_same p q a b f g cr ds m n s t = omega (arith, supports_fall p q a f cr ds m n s t, supports_fall q p b g cr ds n m t s)
