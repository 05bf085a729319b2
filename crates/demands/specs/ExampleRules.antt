-- The example of a pattern is the first drawing of the survey in which it has an embedding: there is one where it has support, there is just one,
-- it does not fall as a pattern grows, and it looks at the pattern up to a map. Rests on the least map and on first marks. Assumes nothing.
use Rattle.std.specs.Prelude.{◌≡◌, List, ℕ, ◌≤◌, ◌<◌}
use Rattle.std.proofs.Common.{sym, ◌∙◌, arith}
use Rattle.std.proofs.Math.Bool.{true, false}
use Rattle.std.proofs.Math.Decide.{dec_lt}
use Rattle.std.proofs.Math.ListN.{length, get_or, length-map}
use Rattle.graphs.specs.Drawing.{Drawing}
use Rattle.graphs.specs.Embedding.{EndsInRange}
use Rattle.graphs.specs.Embeddings.{compose, embedding_compose}
use Rattle.graphs.specs.Map.{contains}
use Rattle.graphs.specs.Survey.{containing, support, first_true, example}
use Rattle.graphs.specs.CraneCounts.{crane_count_some}
use Rattle.graphs.specs.FirstMarks.{first_true_none, first_true_marked, first_true_is}
use Rattle.growth.specs.CellLaws.{member_below}
use Rattle.demands.specs.Terms.{Contained, Supported, FirstWith}
use Rattle.demands.specs.Supports.{contained, contained_test, mark_at, supported_is}

module _ (p : Drawing) (ends : EndsInRange p) where
  -- WHERE IT HAS SUPPORT it has an example
  pub first_with : (cr : List ℕ) (ds : List Drawing) → 1 ≤ support p cr ds → FirstWith p ds (example p ds)
  unfolding support example containing
  first_with cr ds some =
      let t = crane_count_some cr (containing p ds) some in
      let marked : get_or (containing p ds) (first_true (containing p ds)) false ≡ true = first_true_marked (containing p ds) t.0 t.2 in
      let low : first_true (containing p ds) < length ds =
      omega (arith, member_below (containing p ds) (first_true (containing p ds)) marked, length-map ds (contains p)) in
      record {
        below = low;
        there = λ none. contained p ends (get_or ds (first_true (containing p ds)) none)
            (sym (mark_at p ends ds (first_true (containing p ds)) none low) ∙ marked);
        none_before = λ k none h c.
            first_true_none (containing p ds) k h (mark_at p ends ds k none (omega arith) ∙ contained_test p ends (get_or ds k none) c);
      }

  pub first_there : (cr : List ℕ) (ds : List Drawing) → length cr ≡ length ds → (n : ℕ) → Supported p cr ds n → 1 ≤ n → (k : ℕ) × FirstWith p ds k
  first_there cr ds sized n s some = (example p ds, first_with cr ds (omega (arith, supported_is p ends cr ds sized n s)))

  -- THE ONLY ONE
  pub first_with_is : (ds : List Drawing) (n : ℕ) → FirstWith p ds n → n ≡ example p ds
  unfolding example
  first_with_is ds n f =
      first_true_is (containing p ds) n (mark_at p ends ds n p f.below ∙ contained_test p ends (get_or ds n p) (f.there p))
      (λ i h e. f.none_before i p h (contained p ends (get_or ds i p) (sym (mark_at p ends ds i p (omega (arith, f.below))) ∙ e)))

  -- IT DOES NOT FALL as a pattern grows, since embeddings compose
  pub first_rises : (q : Drawing) → Contained p q → (ds : List Drawing) (m n : ℕ) → FirstWith p ds m → FirstWith q ds n → m ≤ n
  first_rises q (f, e) ds m n x y = go (dec_lt n m)
    where
      go : Dec (n < m) → m ≤ n
      go (no h) = omega arith
      go (yes h) =
          let (g, i) = y.there p in
          absurd (x.none_before n p h (compose f g, embedding_compose p q (get_or ds n p) f g ends e i))

-- and looks at the pattern up to a map
pub first_same :
    (p q : Drawing) → EndsInRange p → EndsInRange q → Contained p q → Contained q p → (ds : List Drawing) (m n : ℕ)
    → FirstWith p ds m → FirstWith q ds n → m ≡ n
first_same p q a b f g ds m n x y = omega (arith, first_rises p a q f ds m n x y, first_rises q b p g ds n m y x)
