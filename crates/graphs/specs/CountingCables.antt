-- Numbers of cables: an embedding has room for each cable, an isomorphism has as many, and an embedding with as many
-- devices and cables is an isomorphism. Rests on Isomorphisms.antt and the pigeonhole principle. Assumes nothing.
use Rattle.std.specs.Prelude.{◌≡◌, refl, List, [], ◌∷◌, map, ◌⊎◌, ℕ, ◌≤◌, ◌<◌, min, max, length}
use Rattle.std.proofs.Common.{sym, ap, ap₂, ◌∙◌, inl, inr, arith}
use Rattle.std.proofs.Math.Decide.{ℕ_discrete}
use Rattle.std.proofs.lemmas.List.{length-map}
use Rattle.laws.specs.Lists.{Mem, mem_eq}
use Rattle.laws.specs.Counting.{Different, different_fewer, different_covers}
use Rattle.graphs.specs.Drawing.{Cable, Drawing, devices}
use Rattle.graphs.specs.Map.{image}
use Rattle.graphs.specs.Cables.{along, against, Has, has_flip, has_eq, has_first}
use Rattle.graphs.specs.Embedding.{Embedding, Numbered, Preimage, Isomorphism}
use Rattle.graphs.specs.Graph.{Distinct, Simple, Walk, stay, onward, Connected}
use Rattle.graphs.specs.Simple.{distinct_single}
use Rattle.graphs.specs.Isomorphisms.{embedding_onto}

-- PAIRS WITHOUT ORDER: the lower end, then the higher
abbrev Pair : Type 0
Pair = ℕ × ℕ

key : ℕ → ℕ → Pair
key a b = (min a b, max a b)

key_flip : (a b : ℕ) → key a b ≡ key b a
unfolding key
key_flip a b = ap₂ {C = Pair} (λ x y. (x, y)) (omega arith) (omega arith)

key_cases : (a b c d : ℕ) → key a b ≡ key c d → ((a ≡ c) × (b ≡ d)) ⊎ ((a ≡ d) × (b ≡ c))
unfolding key
key_cases a b c d e = go (ℕ_discrete a c)
  where
    low : min a b ≡ min c d
    low = ap (λ (x : Pair). x.0) e

    high : max a b ≡ max c d
    high = ap (λ (x : Pair). x.1) e

    go : Dec (a ≡ c) → ((a ≡ c) × (b ≡ d)) ⊎ ((a ≡ d) × (b ≡ c))
    go (yes q) = inl (q, omega (arith, low, high))
    go (no q) = inr (omega (arith, low, high), omega (arith, low, high))

-- the pairs that cables join, devices renamed by g
unfoldable keys : (ℕ → ℕ) → List Cable → List Pair
keys g cs = map (λ c. key (g c.a) (g c.b)) cs

keys_length : (g : ℕ → ℕ) (cs : List Cable) → length (keys g cs) ≡ length cs
unfolding keys
keys_length g cs = length-map cs (λ c. key (g c.a) (g c.b))

keys_from_has : (g : ℕ → ℕ) {u v k : ℕ} (cs : List Cable) → Has u v k cs → Mem (key (g u) (g v)) (keys g cs)
unfolding keys
keys_from_has g [] h = elim h [ ]
keys_from_has g (c ∷ cs) (Has.here (along p q) e) = Mem.here (ap₂ {C = Pair} (λ x y. key (g x) (g y)) p q)
keys_from_has g {u} {v} (c ∷ cs) (Has.here (against p q) e) = Mem.here (ap₂ {C = Pair} (λ x y. key (g x) (g y)) p q ∙ key_flip (g v) (g u))
keys_from_has g (c ∷ cs) (Has.there h) = Mem.there (keys_from_has g cs h)

record Keyed (g : ℕ → ℕ) (cs : List Cable) (x : Pair) : Type 0 where
  u : ℕ
  v : ℕ
  k : ℕ
  has : Has u v k cs
  is : key (g u) (g v) ≡ x

keys_to_has : (g : ℕ → ℕ) (cs : List Cable) {x : Pair} → Mem x (keys g cs) → Keyed g cs x
unfolding keys
keys_to_has g [] m = elim m [ ]
keys_to_has g (c ∷ cs) (Mem.here e) = record { u = c.a; v = c.b; k = c.kind; has = has_first c cs; is = e }
keys_to_has g (c ∷ cs) {x} (Mem.there m) = go (keys_to_has g cs m)
  where
    go : Keyed g cs x → Keyed g (c ∷ cs) x
    go s = record { u = s.u; v = s.v; k = s.k; has = Has.there s.has; is = s.is }

-- DISTINCT CABLES have different pairs, also where ends are renamed apart
abbrev Apart : (ℕ → ℕ) → List Cable → Type 0
Apart g cs = (u v k x y l : ℕ) → Has u v k cs → Has x y l cs → g u ≡ g x → u ≡ x

keys_different : (g : ℕ → ℕ) (cs : List Cable) → Distinct cs → Apart g cs → Different (keys g cs)
unfolding keys Distinct Different
keys_different g [] n s = tt
keys_different g (c ∷ cs) n s =
    (λ m. head (keys_to_has g cs m), keys_different g cs n.1 (λ u v k x y l h j. s u v k x y l (Has.there h) (Has.there j)))
  where
    head : Keyed g cs (key (g c.a) (g c.b)) → ⊥
    head t = go (key_cases (g t.u) (g t.v) (g c.a) (g c.b) t.is)
      where
        same : (u v x y l : ℕ) → Has u v t.k cs → Has x y l (c ∷ cs) → g u ≡ g x → g v ≡ g y → Has x y t.k cs
        same u v x y l h j p q =
            has_eq (s u v t.k x y l (Has.there h) j p) (s v u t.k y x l (Has.there (has_flip h)) (has_flip j) q) refl h

        go : ((g t.u ≡ g c.a) × (g t.v ≡ g c.b)) ⊎ ((g t.u ≡ g c.b) × (g t.v ≡ g c.a)) → ⊥
        go (inl z) = n.0 t.k (same t.u t.v c.a c.b c.kind t.has (has_first c cs) z.0 z.1)
        go (inr z) = n.0 t.k (same t.v t.u c.a c.b c.kind (has_flip t.has) (has_first c cs) z.1 z.0)

-- NUMBERS OF CABLES
module _ (p d : Drawing) (f : List ℕ) (simple : Simple p) (m : Embedding p d f) where
  image_keys_different : Different (keys (image f) p.cables)
  image_keys_different =
      keys_different (image f) p.cables simple.distinct (λ u v k x y l h j. m.injective u x (end u v k h) (end x y l j))
    where
      end : (u v k : ℕ) → Has u v k p.cables → u < length f
      end u v k h = rw m.size (simple.ends u v k h)

  image_keys_there : (x : Pair) → Mem x (keys (image f) p.cables) → Mem x (keys (λ v. v) d.cables)
  image_keys_there x h =
      let t = keys_to_has (image f) p.cables h in
      mem_eq t.is (keys_from_has (λ v. v) d.cables (m.cables t.u t.v t.k t.has))

  pub embedding_cables : length p.cables ≤ length d.cables
  embedding_cables =
      rw (← keys_length (image f) p.cables, ← keys_length (λ v. v) d.cables)
      (different_fewer (keys (image f) p.cables) (keys (λ v. v) d.cables) image_keys_different image_keys_there)

pub preimages_cables : (p d : Drawing) (f : List ℕ) → Distinct d.cables
    → ((u v k : ℕ) → Has u v k d.cables → Preimage p f u v k) → length d.cables ≤ length p.cables
preimages_cables p d f n onto =
    rw (← keys_length (λ v. v) d.cables, ← keys_length (image f) p.cables)
    (different_fewer (keys (λ v. v) d.cables) (keys (image f) p.cables)
    (keys_different (λ v. v) d.cables n (λ u v k x y l h j e. e)) (λ x h. back x (keys_to_has (λ v. v) d.cables h)))
  where
    back : (x : Pair) → Keyed (λ v. v) d.cables x → Mem x (keys (image f) p.cables)
    back x t =
        let q = onto t.u t.v t.k t.has in
        mem_eq (ap₂ key q.from q.to ∙ t.is) (keys_from_has (image f) p.cables q.has)

pub isomorphism_cables : (p d : Drawing) (f : List ℕ) → Simple p → Simple d → Isomorphism p d f → length p.cables ≡ length d.cables
isomorphism_cables p d f a b s =
    omega (arith, embedding_cables p d f a s.embedding, preimages_cables p d f b.distinct s.cables_onto)

-- as many cables: every cable is met
pub embedding_cables_onto : (p d : Drawing) (f : List ℕ) → Simple p → Simple d → Embedding p d f
    → length p.cables ≡ length d.cables → (u v k : ℕ) → Has u v k d.cables → Preimage p f u v k
embedding_cables_onto p d f simple target m q u v k h = find (keys_to_has (image f) p.cables met)
  where
    size : length (keys (image f) p.cables) ≡ length (keys (λ v. v) d.cables)
    size = keys_length (image f) p.cables ∙ q ∙ sym (keys_length (λ v. v) d.cables)

    met : Mem (key u v) (keys (image f) p.cables)
    met =
        different_covers (keys (image f) p.cables) (keys (λ v. v) d.cables) (image_keys_different p d f simple m)
        (image_keys_there p d f simple m) size (key u v) (keys_from_has (λ v. v) d.cables h)

    meet : (i j l : ℕ) → Has i j l p.cables → image f i ≡ u → image f j ≡ v → Preimage p f u v k
    meet i j l g a b =
        let same : l ≡ k = distinct_single d.cables target.distinct u v l k (has_eq a b refl (m.cables i j l g)) h in
        record { i = i; j = j; has = has_eq refl refl same g; from = a; to = b }

    find : Keyed (image f) p.cables (key u v) → Preimage p f u v k
    find t = go (key_cases (image f t.u) (image f t.v) u v t.is)
      where
        go : ((image f t.u ≡ u) × (image f t.v ≡ v)) ⊎ ((image f t.u ≡ v) × (image f t.v ≡ u)) → Preimage p f u v k
        go (inl z) = meet t.u t.v t.k t.has z.0 z.1
        go (inr z) = meet t.v t.u t.k (has_flip t.has) z.1 z.0

-- AS MANY DEVICES AND AS MANY CABLES: every device and every cable is met
pub embedding_full : (p d : Drawing) (f : List ℕ) → Simple p → Simple d → Embedding p d f
    → devices p ≡ devices d → length p.cables ≡ length d.cables → Isomorphism p d f
embedding_full p d f simple target m e q =
    record { embedding = m; onto = embedding_onto p d f m e; cables_onto = embedding_cables_onto p d f simple target m q }

-- in a connected drawing of two devices or more a cable ends at each, so as many cables are enough
pub embedding_full_connected : (p d : Drawing) (f : List ℕ) → Simple p → Simple d → Connected d → 2 ≤ devices d → Embedding p d f
    → length p.cables ≡ length d.cables → Isomorphism p d f
embedding_full_connected p d f simple target joined two m q =
    record { embedding = m; onto = onto; cables_onto = cables_onto }
  where
    cables_onto : (u v k : ℕ) → Has u v k d.cables → Preimage p f u v k
    cables_onto = embedding_cables_onto p d f simple target m q

    numbered : (u w k : ℕ) → Preimage p f u w k → Numbered f w
    numbered u w k s = record { i = s.j; below = rw m.size (simple.ends s.j s.i k (has_flip s.has)); is = s.to }

    last : (u w : ℕ) → (u ≡ w → ⊥) → Walk d.cables u w → Numbered f w
    last u w n stay = absurd (n refl)
    last u w n (onward {v = v} {k = k} s h) = numbered v w k (cables_onto v w k h)

    onto : (w : ℕ) → w < devices d → Numbered f w
    onto w h = go (ℕ_discrete 0 w)
      where
        go : Dec (0 ≡ w) → Numbered f w
        go (yes e) = last 1 w (λ z. omega arith) (joined 1 w (omega arith) h)
        go (no e) = last 0 w e (joined 0 w (omega arith) h)
