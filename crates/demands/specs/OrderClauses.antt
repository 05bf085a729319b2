-- The order of codes, clause by clause as Yan and Han give it. Rests on the order of codes. Assumes nothing.
use Rattle.std.specs.Prelude.{◌≡◌, Bool, ◌&&◌, ◌||◌, List, [], ◌∷◌, ◌++◌, ◌⊎◌, ◌<◌, ltb, eqb}
use Rattle.std.proofs.Math.Path.{refl}
use Rattle.std.proofs.Common.{◌∙◌, inl, inr, arith}
use Rattle.std.proofs.Math.Bool.{true, false, cond}
use borrow.Author.Tests.{lt-ltb, le-ltb, eq-eqb}
use Rattle.laws.specs.Tests.{Three, less, same, more, false_unless}
use Rattle.codes.specs.Code.{Rec, forward, kinds_before, rec_before_by, rec_before, rec_same, before_by, before}
use Rattle.codes.specs.CodeOrder.{kinds_order, rec_same_test, before_strict, same_first, backward_before_forward}
use Rattle.demands.specs.Terms.{OrderClauses}

-- POSITIONS: two backward records, two forward ones
smaller_j : (e f : Rec) → e.j < e.i → f.j < f.i → e.j < f.j → rec_before e f ≡ true
unfolding rec_before_by forward
smaller_j e f p q h = rw (le-ltb e.i e.j (omega arith), le-ltb f.i f.j (omega arith), lt-ltb e.j f.j h)

greater_i : (e f : Rec) → e.i < e.j → f.i < f.j → f.i < e.i → rec_before e f ≡ true
unfolding rec_before_by forward
greater_i e f p q h = rw (lt-ltb e.i e.j p, lt-ltb f.i f.j q, lt-ltb f.i e.i h)

-- LABELS, where both ends are the same
module _ (e f : Rec) (is : e.i ≡ f.i) (js : e.j ≡ f.j) where
  by_labels : kinds_before e f ≡ true → rec_before e f ≡ true
  unfolding rec_before_by forward kinds_before
  by_labels h = rw (is, js) (go (ltb f.i f.j))
    where
      go : (t : Bool)
          → cond t
          (cond t (ltb f.i f.i || (eqb f.i f.i && (ltb f.j f.j || (eqb f.j f.j && kinds_before e f)))) false)
          (cond t true (ltb f.j f.j || (eqb f.j f.j && (ltb f.i f.i || (eqb f.i f.i && kinds_before e f)))))
          ≡ true
      go true =
          rw (le-ltb f.i f.i (omega arith), eq-eqb f.i f.i refl, le-ltb f.j f.j (omega arith), eq-eqb f.j f.j refl) h
      go false =
          rw (le-ltb f.i f.i (omega arith), eq-eqb f.i f.i refl, le-ltb f.j f.j (omega arith), eq-eqb f.j f.j refl) h

  kind_of_i : e.ki < f.ki → rec_before e f ≡ true
  unfolding kinds_before
  kind_of_i h = by_labels (rw (lt-ltb e.ki f.ki h))

  module _ (ks : e.ki ≡ f.ki) where
    cable_kind : e.c < f.c → rec_before e f ≡ true
    unfolding kinds_before
    cable_kind h =
        by_labels (rw (ks, le-ltb f.ki f.ki (omega arith), eq-eqb f.ki f.ki refl, lt-ltb e.c f.c h))

    kind_of_j : e.c ≡ f.c → e.kj < f.kj → rec_before e f ≡ true
    unfolding kinds_before
    kind_of_j cs h =
        by_labels
        (rw (
          ks,
          le-ltb f.ki f.ki (omega arith),
          eq-eqb f.ki f.ki refl,
          cs,
          le-ltb f.c f.c (omega arith),
          eq-eqb f.c f.c refl,
          lt-ltb e.kj f.kj h,
        ))

-- CODES: behind equal records the rest decides
behind : (rs ss ts : List Rec) → before (rs ++ ss) (rs ++ ts) ≡ before ss ts
behind [] ss ts = refl
behind (r ∷ rs) ss ts = same_first kinds_before r (rs ++ ss) (rs ++ ts) ∙ behind rs ss ts

differ : (e f : Rec) (ss ts : List Rec) → (e ≡ f → ⊥) → before (e ∷ ss) (f ∷ ts) ≡ rec_before e f
unfolding before_by
differ e f ss ts d = go (rec_same e f) refl
  where
    go : (t : Bool) → rec_same e f ≡ t → cond t (before ss ts) (rec_before e f) ≡ rec_before e f
    go true s = absurd (d (rec_same_test.to e f s))
    go false s = refl

begins : (e : Rec) (ss : List Rec) → before [] (e ∷ ss) ≡ true
unfolding before_by
begins e ss = refl

from_nothing : (rs : List Rec) (e : Rec) (ss : List Rec) → before rs (rs ++ (e ∷ ss)) ≡ true
from_nothing [] e ss = begins e ss
from_nothing (r ∷ rs) e ss = same_first kinds_before r rs (rs ++ (e ∷ ss)) ∙ from_nothing rs e ss

pub order_clauses : OrderClauses
order_clauses =
    record {
      backward_first = backward_before_forward kinds_before;
      smaller_j = smaller_j;
      greater_i = greater_i;
      kind_of_i = kind_of_i;
      cable_kind = cable_kind;
      kind_of_j = kind_of_j;
      first_difference = λ rs e f ss ts d. behind rs (e ∷ ss) (f ∷ ts) ∙ differ e f ss ts d;
      beginning = from_nothing;
      irreflexive = λ rs. false_unless (before rs rs) ((before_strict kinds_before kinds_order).irrefl rs);
      one_first = λ rs ss d. either rs ss d ((before_strict kinds_before kinds_order).tri rs ss);
      transitive = (before_strict kinds_before kinds_order).trans;
    }
  where
    either : (rs ss : List Rec) → (rs ≡ ss → ⊥) → Three (before rs ss ≡ true) (rs ≡ ss) (before ss rs ≡ true)
        → (before rs ss ≡ true) ⊎ (before ss rs ≡ true)
    either rs ss d (less p) = inl p
    either rs ss d (same p) = absurd (d p)
    either rs ss d (more p) = inr p
