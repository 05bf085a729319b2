-- Among the records that extend rows in a drawing there is a least. Rests on Greedy and on the decision whether a
-- drawing contains another. Assumes nothing.
use Rattle.std.specs.Prelude.{◌≡◌, refl, Bool, List, [], ◌∷◌, ◌⊎◌, ℕ, ◌+◌, ◌<◌, length}
use Rattle.std.proofs.Common.{ap, ◌∙◌, inl, inr, arith, length-append}
use Rattle.std.proofs.Math.Decide.{ℕ_discrete}
use Rattle.laws.specs.Lists.{Mem, snoc, snoc_old, snoc_new}
use Rattle.laws.specs.Selections.{each, each_has}
use Rattle.laws.specs.Counting.{below, below_has}
use Rattle.laws.specs.Minimum.{minimum}
use Rattle.graphs.specs.Drawing.{Cable, Drawing, kind}
use Rattle.graphs.specs.Map.{image}
use Rattle.graphs.specs.Cables.{Joins, along, against, Has, has_last}
use Rattle.graphs.specs.Embedding.{Embedding}
use Rattle.graphs.specs.LeastMap.{decide_embedding}
use Rattle.codes.specs.Code.{Rec, Reading, fresh, cable_of, begun, rows_refusal, read_rows, drawn, rec_before_by}
use Rattle.codes.specs.CodeOrder.{LabelOrder, rec_eq, rec_before_strict}
use Rattle.codes.specs.Step.{Step, steps_back, steps_forward, after}
use Rattle.codes.specs.Reading.{Invariant}
use Rattle.codes.specs.ReadRows.{rows_divided, rows_invariant}
use Rattle.codes.specs.Extension.{Extension}
use Rattle.codes.specs.Greedy.{Fits, fits_nil, fits_one, fits_extension, NoneBefore}

-- CANDIDATES for a next record: one for each cable, each way round, and each two numbers below 10
unfoldable both_ways : Drawing → Cable → (i j : ℕ) → List Rec
both_ways d c i j =
    record { i = i; j = j; ki = kind d c.a; c = c.kind; kj = kind d c.b }
    ∷ record { i = i; j = j; ki = kind d c.b; c = c.kind; kj = kind d c.a } ∷ []

pub candidates : Drawing → List Rec
candidates d = each d.cables λ c. each (below 10) λ i. each (below 10) λ j. both_ways d c i j

record StandingCable (u w k : ℕ) (cs : List Cable) : Type 0 where
  c : Cable
  member : Mem c cs
  joins : Joins u w c
  kind_is : c.kind ≡ k

standing : {u w k : ℕ} {cs : List Cable} → Has u w k cs → StandingCable u w k cs
standing (Has.here {c = c} j e) = record { c = c; member = Mem.here refl; joins = j; kind_is = e }
standing {u} {w} {k} (Has.there {c = c} {cs = ds} h) = go (standing h)
  where
    go : StandingCable u w k ds → StandingCable u w k (c ∷ ds)
    go s = record { c = s.c; member = Mem.there s.member; joins = s.joins; kind_is = s.kind_is }

is_candidate :
    (d : Drawing) (e : Rec) (u w : ℕ) → e.i < 10 → e.j < 10 → Has u w e.c d.cables → kind d u ≡ e.ki → kind d w ≡ e.kj
    → Mem e (candidates d)
unfolding candidates both_ways
is_candidate d e u w p q h a b = go (standing h)
  where
    go : StandingCable u w e.c d.cables → Mem e (candidates d)
    go s =
        each_has d.cables _ s.member
        (each_has (below 10) _ (below_has 10 e.i p) (each_has (below 10) _ (below_has 10 e.j q) (last s.joins)))
      where
        last : Joins u w s.c → Mem e (both_ways d s.c e.i e.j)
        last (along y z) = Mem.here (rec_eq _ _ refl refl (ap (kind d) y ∙ a) s.kind_is (ap (kind d) z ∙ b))
        last (against y z) = Mem.there (Mem.here (rec_eq _ _ refl refl (ap (kind d) z ∙ a) s.kind_is (ap (kind d) y ∙ b)))

extension_candidate : (d : Drawing) (x : Reading) → Invariant x → (e : Rec) → Extension d x e → Mem e (candidates d)
unfolding cable_of
extension_candidate d x v e t = go t.step t.embedding
  where
    g : List ℕ
    g = t.numbering

    go : (s : Step x e) → Embedding (drawn (after s)) d g → Mem e (candidates d)
    go (steps_back o p q) m =
        is_candidate d e (image g e.i) (image g e.j) (omega (arith, il, v.ten)) (omega (arith, jl, v.ten))
        (m.cables e.i e.j e.c (has_last x.cables (along refl refl) refl)) (m.kinds e.i (omega (arith, il, m.size)) ∙ p)
        (m.kinds e.j (omega (arith, jl, m.size)) ∙ q)
      where
        jl : e.j < length x.kinds
        jl = v.below e.j o.on_path

        il : e.i < length x.kinds
        il = omega (arith, v.top, o.is_end)
    go (steps_forward o p q r) m =
        is_candidate d e (image g e.i) (image g e.j) (omega (arith, il, v.ten)) (omega (arith, q))
        (m.cables e.i e.j e.c (has_last x.cables (along refl refl) refl))
        (m.kinds e.i (omega (arith, il, size)) ∙ snoc_old 256 x.kinds e.kj e.i il ∙ r)
        (m.kinds e.j (omega (arith, size)) ∙ snoc_new 256 x.kinds e.kj e.j p)
      where
        il : e.i < length x.kinds
        il = v.below e.i o

        size : length g ≡ length x.kinds + 1
        size = m.size ∙ length-append x.kinds (e.kj ∷ [])

pub fits_candidate : (d : Drawing) (rs : List Rec) (e : Rec) → Fits d (snoc rs e) → Mem e (candidates d)
unfolding cable_of
fits_candidate d [] e t =
    let g = fits_one d e t in
    let m : Embedding (drawn (begun e)) d g.2.0 = g.2.1 in
    is_candidate d e (image g.2.0 0) (image g.2.0 1) (omega (arith, g.0)) (omega (arith, g.1))
    (m.cables 0 1 e.c (Has.here (along g.0 g.1) refl)) (m.kinds 0 (omega (arith, m.size))) (m.kinds 1 (omega (arith, m.size)))
fits_candidate d (r ∷ rs) e t =
    extension_candidate d (read_rows fresh (r ∷ rs)) (rows_invariant r rs (rows_divided fresh (r ∷ rs) (e ∷ []) t.accepted).0) e
    (fits_extension d r rs e t)

-- whether rows fit is decidable
pub decide_fits : (d : Drawing) (rs : List Rec) → Fits d rs ⊎ (Fits d rs → ⊥)
decide_fits d [] = inl (fits_nil d)
decide_fits d (r ∷ rs) = go (ℕ_discrete (rows_refusal fresh (r ∷ rs)) 0)
  where
    x : Drawing
    x = drawn (read_rows fresh (r ∷ rs))

    with_map :
        rows_refusal fresh (r ∷ rs) ≡ 0 → ((f : List ℕ) × Embedding x d f) ⊎ (((f : List ℕ) × Embedding x d f) → ⊥)
        → Fits d (r ∷ rs) ⊎ (Fits d (r ∷ rs) → ⊥)
    with_map y (inl m) = inl (record { accepted = y; numbering = m.0; embedding = m.1 })
    with_map y (inr m) = inr (λ t. m (t.numbering, t.embedding))

    go : Dec (rows_refusal fresh (r ∷ rs) ≡ 0) → Fits d (r ∷ rs) ⊎ (Fits d (r ∷ rs) → ⊥)
    go (no n) = inr (λ t. n t.accepted)
    go (yes y) = with_map y (decide_embedding x d (rows_invariant r rs y).simple.ends)

-- THE LEAST EXTENSION
module _ (labels : Rec → Rec → Bool) where
  pub record LeastExtension (d : Drawing) (rs : List Rec) : Type 0 where
    pub e : Rec
    pub fits : Fits d (snoc rs e)
    pub least : NoneBefore labels d rs e

  pub least_extension : LabelOrder labels → (d : Drawing) (rs : List Rec) (e : Rec) → Fits d (snoc rs e) → LeastExtension d rs
  least_extension o d rs e t =
      let p = minimum (rec_before_by labels) (λ l. Fits d (snoc rs l)) (rec_before_strict labels o) (λ l. decide_fits d (snoc rs l))
      (candidates d) e t in
      record { e = p.least; fits = p.holds; least = λ l s. p.none_before l (fits_candidate d rs l s) s }
