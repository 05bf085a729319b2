-- Small patterns are a closed family, what is small can be decided, and a code stays small as long as its records' labels are. Rests on
-- RecordLabels. Assumes nothing.
use Rattle.std.specs.Prelude.{◌≡◌, refl, List, [], ◌∷◌, ◌⊎◌, ℕ, ◌<◌, length, get_or}
use Rattle.std.proofs.Common.{sym, ◌∙◌, subst, inl, inr, arith}
use Rattle.std.proofs.Math.Decide.{dec_lt}
use Rattle.laws.specs.Lists.{Mem, snoc, mem_eq, mem_at, place}
use Rattle.graphs.specs.Drawing.{Cable, kind}
use Rattle.graphs.specs.Map.{image}
use Rattle.graphs.specs.Cables.{Has, here, there, has_first}
use Rattle.graphs.specs.LeastMap.{embedding_from_contains}
use Rattle.codes.specs.Code.{Rec, fresh, read_rows, cable_of, rows_refusal, decoded}
use Rattle.growth.specs.Family.{Closed, Decidable, KeptByMaps}
use Rattle.books.specs.Book.{Small, unsupported}
use Rattle.books.specs.RecordLabels.{last_labels, last_adds}

-- a cable's own pair
mem_has : {c : Cable} {cs : List Cable} → Mem c cs → Has c.a c.b c.kind cs
mem_has {c} (Mem.here {xs = cs} q) = subst (λ (d : Cable). Has c.a c.b c.kind (d ∷ cs)) (sym q) (has_first c cs)
mem_has (Mem.there m) = there (mem_has m)

has_mem : {u v k : ℕ} {cs : List Cable} → Has u v k cs → (c : Cable) × Mem c cs × (c.kind ≡ k)
has_mem (here {c = c} j e) = (c, Mem.here refl, e)
has_mem (there h) = let t = has_mem h in (t.0, Mem.there t.1, t.2)

-- CLOSED
pub small_closed : (a b : ℕ) → Closed (Small a b)
small_closed a b p q x y h s = record { device_kinds = kinds; cable_kinds = cables }
  where
    kinds : (k : ℕ) → Mem k p.kinds → k < a
    kinds k m =
        let f = embedding_from_contains p q x.simple.ends h in
        let at = place 256 m in
        let low : at.i < length f.0 = omega (arith, f.1.size, at.below) in
        let is : get_or q.kinds (image f.0 at.i) 256 ≡ k = f.1.kinds at.i low ∙ at.is in
        s.device_kinds k (mem_eq is (mem_at 256 q.kinds (image f.0 at.i) (f.1.lands at.i low)))

    cables : (c : Cable) → Mem c p.cables → c.kind < b
    cables c m =
        let f = embedding_from_contains p q x.simple.ends h in
        let t = has_mem (f.1.cables c.a c.b c.kind (mem_has m)) in
        omega (arith, s.cable_kinds t.0 t.1, t.2)

-- the book's figure does not look at the pattern
pub unsupported_kept : KeptByMaps unsupported
unsupported_kept p q x y s = refl

-- DECIDED
all_below : {A : Type 0} (of : A → ℕ) (n : ℕ) (xs : List A) → ((x : A) → Mem x xs → of x < n) ⊎ (((x : A) → Mem x xs → of x < n) → ⊥)
all_below of n [] = inl (λ x m. elim m [ ])
all_below {A} of n (x ∷ xs) = go (dec_lt (of x) n) (all_below of n xs)
  where
    go : Dec (of x < n) → ((y : A) → Mem y xs → of y < n) ⊎ (((y : A) → Mem y xs → of y < n) → ⊥)
        → ((y : A) → Mem y (x ∷ xs) → of y < n) ⊎ (((y : A) → Mem y (x ∷ xs) → of y < n) → ⊥)
    go (yes l) (inl r) = inl each
      where
        each : (y : A) → Mem y (x ∷ xs) → of y < n
        each y (Mem.here q) = subst (λ (z : A). of z < n) q l
        each y (Mem.there m) = r y m
    go (yes l) (inr r) = inr (λ f. r (λ y m. f y (Mem.there m)))
    go (no l) r = inr (λ f. l (f x (Mem.here refl)))

pub small_decided : (a b : ℕ) → Decidable (Small a b)
small_decided a b p = go (all_below (λ k. k) a p.kinds) (all_below (λ (c : Cable). c.kind) b p.cables)
  where
    go : ((k : ℕ) → Mem k p.kinds → k < a) ⊎ (((k : ℕ) → Mem k p.kinds → k < a) → ⊥)
        → ((c : Cable) → Mem c p.cables → c.kind < b) ⊎ (((c : Cable) → Mem c p.cables → c.kind < b) → ⊥)
        → Small a b p ⊎ (Small a b p → ⊥)
    go (inl f) (inl g) = inl (record { device_kinds = f; cable_kinds = g })
    go (inl f) (inr g) = inr (λ s. g s.cable_kinds)
    go (inr f) g = inr (λ s. f s.device_kinds)

-- A RECORD'S LABELS within the bounds
pub record SmallLabels (a b : ℕ) (e : Rec) : Type 0 where
  pub from : e.ki < a
  pub along : e.c < b
  pub to : e.kj < a

-- no record is small
pub small_none : (a b : ℕ) → Small a b (decoded [])
unfolding decoded read_rows fresh
small_none a b = record { device_kinds = λ k m. elim m [ ]; cable_kinds = λ c m. elim m [ ] }

-- the last record of what is small
pub small_last : (a b : ℕ) (γ : List Rec) (e : Rec) → rows_refusal fresh (snoc γ e) ≡ 0 → Small a b (decoded (snoc γ e)) → SmallLabels a b e
unfolding cable_of
small_last a b γ e ok s =
    let l = last_labels γ e ok in
    record { from = s.device_kinds e.ki l.from; along = s.cable_kinds (cable_of e) l.along; to = s.device_kinds e.kj l.to }

-- ONE RECORD MORE with small labels
pub small_more : (a b : ℕ) (γ : List Rec) (e : Rec) → rows_refusal fresh (snoc γ e) ≡ 0 → Small a b (decoded γ) → SmallLabels a b e
    → Small a b (decoded (snoc γ e))
unfolding cable_of
small_more a b γ e ok s l =
    let d = last_adds γ e ok in
    record { device_kinds = λ k m. kinds k (d.kinds k m); cable_kinds = λ c m. cables c (d.cables c m) }
  where
    kinds : (k : ℕ) → Mem k (decoded γ).kinds ⊎ ((k ≡ e.ki) ⊎ (k ≡ e.kj)) → k < a
    kinds k (inl m) = s.device_kinds k m
    kinds k (inr (inl q)) = omega (arith, q, l.from)
    kinds k (inr (inr q)) = omega (arith, q, l.to)

    cables : (c : Cable) → Mem c (decoded γ).cables ⊎ (cable_of e ≡ c) → c.kind < b
    cables c (inl m) = s.cable_kinds c m
    cables c (inr q) = subst (λ (d : Cable). d.kind < b) q l.along
