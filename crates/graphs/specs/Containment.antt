-- Containment: it composes, support never rises as a pattern grows and its example never falls, drawings that are the same are contained alike,
-- and sameness is containment with equal numbers. Rests on LeastMap.antt, Isomorphisms.antt and CountingCables.antt.
-- Assumes nothing.
use Rattle.std.specs.Prelude.{◌≡◌, Bool, true, false, length, get_or}
use Rattle.std.proofs.Math.Path.{refl, sym, ap, ap₂}
use Rattle.std.proofs.Common.{◌∙◌}
use mathlib.Core.List.{List, [], ◌∷◌}
use Prim.Native.Nat.{ℕ, zero, suc, ◌≤◌}
use Rattle.std.proofs.lemmas.List.{length-map}
use Rattle.laws.specs.Tests.{same_truth}
use Rattle.graphs.specs.Drawing.{Drawing, devices}
use Rattle.graphs.specs.Map.{contains, Same}
use Rattle.graphs.specs.Survey.{containing, crane_count, support, first_true, example}
use Rattle.graphs.specs.CraneCounts.{crane_count_falls}
use Rattle.graphs.specs.FirstMarks.{first_true_rises}
use Rattle.graphs.specs.Embedding.{EndsInRange}
use Rattle.graphs.specs.Graph.{Simple}
use Rattle.graphs.specs.Embeddings.{identity, embedding_identity, compose, embedding_compose}
use Rattle.graphs.specs.Isomorphisms.{
  isomorphism_devices,
  isomorphism_from_test,
  isomorphism_to_test,
  same_symmetric,
}
use Rattle.graphs.specs.CountingCables.{isomorphism_cables, embedding_full}
use Rattle.graphs.specs.LeastMap.{contains_from_embedding, embedding_from_contains}

-- CONTAINMENT is a preorder
pub contains_itself : (d : Drawing) → EndsInRange d → contains d d ≡ true
contains_itself d ends = contains_from_embedding d d (identity (devices d)) ends (embedding_identity d ends)

pub contains_compose : (p q d : Drawing) → EndsInRange p → EndsInRange q → contains p q ≡ true → contains q d ≡ true → contains p d ≡ true
contains_compose p q d ends_p ends_q a b =
    let f = embedding_from_contains p q ends_p a in
    let g = embedding_from_contains q d ends_q b in
    contains_from_embedding p d (compose f.0 g.0) ends_p (embedding_compose p q d f.0 g.0 ends_p f.1 g.1)

-- A PATTERN THAT GROWS is contained in no further drawing
module _ (p q : Drawing) (ends_p : EndsInRange p) (ends_q : EndsInRange q) (h : contains p q ≡ true) where
  pub containing_shrinks : (ds : List Drawing) (i : ℕ) → get_or (containing q ds) i false ≡ true → get_or (containing p ds) i false ≡ true
  unfolding containing
  containing_shrinks [] i e = e
  containing_shrinks (d ∷ ds) zero e = contains_compose p q d ends_p ends_q h e
  containing_shrinks (d ∷ ds) (suc i) e = containing_shrinks ds i e

  pub support_falls : (cs : List ℕ) (ds : List Drawing) → support q cs ds ≤ support p cs ds
  unfolding support
  support_falls cs ds = crane_count_falls cs (containing q ds) (containing p ds) (containing_shrinks ds)

  -- and the example does not come earlier
  pub example_rises : (ds : List Drawing) → example p ds ≤ example q ds
  unfolding example containing
  example_rises ds =
      first_true_rises (containing p ds) (containing q ds) (length-map ds (contains p) ∙ sym (length-map ds (contains q))) (containing_shrinks ds)

-- DRAWINGS THAT ARE THE SAME are contained alike
pub contains_from_same : (p d : Drawing) → EndsInRange p → EndsInRange d → Same p d → contains p d ≡ true
unfolding Same
contains_from_same p d ends_p ends_d (f, e) = contains_from_embedding p d f ends_p (isomorphism_from_test p d f ends_d e).embedding

module _ (p q : Drawing) (ends_p : EndsInRange p) (ends_q : EndsInRange q) (s : Same p q) where
  pub contains_same : (d : Drawing) → contains p d ≡ contains q d
  contains_same d =
      same_truth (contains p d) (contains q d)
      (contains_compose q p d ends_q ends_p (contains_from_same q p ends_q ends_p (same_symmetric p q ends_p ends_q s)))
      (contains_compose p q d ends_p ends_q (contains_from_same p q ends_p ends_q s))

  pub containing_same : (ds : List Drawing) → containing p ds ≡ containing q ds
  unfolding containing
  containing_same [] = refl
  containing_same (d ∷ ds) = ap₂ {C = List Bool} (λ b bs. b ∷ bs) (contains_same d) (containing_same ds)

  pub same_support : (cs : List ℕ) (ds : List Drawing) → support p cs ds ≡ support q cs ds
  unfolding support
  same_support cs ds = ap (crane_count cs) (containing_same ds)

  pub same_example : (ds : List Drawing) → example p ds ≡ example q ds
  unfolding example
  same_example ds = ap first_true (containing_same ds)

-- SAMENESS is containment with as many devices and as many cables
pub same_contained : (p d : Drawing) → Simple p → Simple d → Same p d
    → (contains p d ≡ true) × (devices p ≡ devices d) × (length p.cables ≡ length d.cables)
unfolding Same
same_contained p d a b (f, e) =
    let s = isomorphism_from_test p d f b.ends e in
    (contains_from_embedding p d f a.ends s.embedding, isomorphism_devices s, isomorphism_cables p d f a b s)

pub contained_is_same : (p d : Drawing) → Simple p → Simple d
    → contains p d ≡ true → devices p ≡ devices d → length p.cables ≡ length d.cables → Same p d
unfolding Same
contained_is_same p d a b h n m =
    let f = embedding_from_contains p d a.ends h in
    (f.0, isomorphism_to_test p d f.0 a.ends (embedding_full p d f.0 a b f.1 n m))
