-- The cables that an embedding lands on, as marks, and that they tell the pattern. Rests on embeddings. Assumes nothing.
use Rattle.std.specs.Prelude.{◌≡◌, Bool, true, false, ◌||◌, cond, ◌⊎◌, ℕ, ◌+◌, ◌≤◌, ◌<◌, length, get_or, drop}
use Rattle.std.proofs.Math.Path.{refl, sym, ap}
use Rattle.std.proofs.Common.{◌∙◌, inl, inr, arith}
use Rattle.std.proofs.lemmas.Bool.{false≢true}
use mathlib.Core.List.{List, [], ◌∷◌, map}
use Rattle.std.proofs.Math.Decide.{ℕ_discrete}
use Rattle.laws.specs.Tests.{or_cases, or_left, or_right}
use Rattle.laws.specs.Lists.{Mem}
use Rattle.laws.specs.Counting.{injective_fits}
use Rattle.graphs.specs.Drawing.{Cable, Drawing, devices, kind, joins}
use Rattle.graphs.specs.Map.{Same, image, inverse_from}
use Rattle.graphs.specs.Survey.{count_true}
use Rattle.graphs.specs.Cables.{
  Joins,
  along,
  against,
  Has,
  here,
  there,
  has_flip,
  has_eq,
  has_first,
  has_between,
  joins_flip,
  joins_from_test,
  joins_to_test,
}
use Rattle.graphs.specs.Embedding.{EndsInRange, Embedding, Numbered, Preimage}
use Rattle.graphs.specs.Graph.{Distinct, Simple, Walk, stay, onward, Connected, Pattern}
use Rattle.graphs.specs.Simple.{distinct_single}
use Rattle.graphs.specs.Embeddings.{compose, compose_size, compose_image}
use Rattle.graphs.specs.Isomorphisms.{inverse_undoes}
use Rattle.graphs.specs.LeastMap.{contains_from_embedding}
use Rattle.graphs.specs.CountingCables.{embedding_cables}
use Rattle.graphs.specs.Containment.{contained_is_same}

-- whether a cable joins the images of some cable's ends
unfoldable pub landed_on : (f : List ℕ) → List Cable → Cable → Bool
landed_on f [] c = false
landed_on f (q ∷ qs) c = joins (image f q.a) (image f q.b) c || landed_on f qs c

-- a mark for each cable of d
unfoldable pub image_marks : (p d : Drawing) (f : List ℕ) → List Bool
image_marks p d f = map (landed_on f p.cables) d.cables

-- HOW MANY: a cable of p lands on one cable alone
no_joins : (u v : ℕ) (cs : List Cable) → ((k : ℕ) → Has u v k cs → ⊥) → count_true (map (joins u v) cs) ≤ 0
unfolding count_true
no_joins u v [] n = omega arith
no_joins u v (c ∷ cs) n = go (joins u v c) refl (no_joins u v cs (λ k h. n k (there h)))
  where
    go : (t : Bool) → joins u v c ≡ t → count_true (map (joins u v) cs) ≤ 0 → cond t 1 0 + count_true (map (joins u v) cs) ≤ 0
    go true e ih = absurd (n c.kind (here (joins_from_test u v c e) refl))
    go false e ih = omega (arith, ih)

one_joins : (u v : ℕ) (cs : List Cable) → Distinct cs → count_true (map (joins u v) cs) ≤ 1
unfolding count_true Distinct
one_joins u v [] n = omega arith
one_joins u v (c ∷ cs) n = go (joins u v c) refl (one_joins u v cs n.1)
  where
    go : (t : Bool) → joins u v c ≡ t → count_true (map (joins u v) cs) ≤ 1 → cond t 1 0 + count_true (map (joins u v) cs) ≤ 1
    go true e ih = omega (arith, no_joins u v cs (λ k h. n.0 k (has_between (joins_from_test u v c e) h)))
    go false e ih = omega (arith, ih)

either_count : (g h : Cable → Bool) (cs : List Cable) → count_true (map (λ c. g c || h c) cs) ≤ count_true (map g cs) + count_true (map h cs)
unfolding count_true
either_count g h [] = omega arith
either_count g h (c ∷ cs) = go (g c) (h c) (either_count g h cs)
  where
    go : (s t : Bool) → count_true (map (λ c. g c || h c) cs) ≤ count_true (map g cs) + count_true (map h cs)
        → cond (s || t) 1 0 + count_true (map (λ c. g c || h c) cs)
        ≤ cond s 1 0 + count_true (map g cs) + (cond t 1 0 + count_true (map h cs))
    go true true ih = omega (arith, ih)
    go true false ih = omega (arith, ih)
    go false true ih = omega (arith, ih)
    go false false ih = omega (arith, ih)

none_landed : (f : List ℕ) (cs : List Cable) → count_true (map (landed_on f []) cs) ≤ 0
unfolding landed_on count_true
none_landed f [] = omega arith
none_landed f (c ∷ cs) = omega (arith, none_landed f cs)

landed_most : (f : List ℕ) (ps cs : List Cable) → Distinct cs → count_true (map (landed_on f ps) cs) ≤ length ps
unfolding landed_on
landed_most f [] cs n = none_landed f cs
landed_most f (q ∷ qs) cs n =
    omega (
      arith,
      either_count (joins (image f q.a) (image f q.b)) (landed_on f qs) cs,
      one_joins (image f q.a) (image f q.b) cs n,
      landed_most f qs cs n,
    )

-- WHICH: a mark says yes exactly where some cable lands
pub record Landed (f : List ℕ) (ps : List Cable) (c : Cable) : Type 0 where
  pub a : ℕ
  pub b : ℕ
  pub k : ℕ
  pub has : Has a b k ps
  pub joins : Joins (image f a) (image f b) c

landed_from_test : (f : List ℕ) (ps : List Cable) (c : Cable) → landed_on f ps c ≡ true → Landed f ps c
unfolding landed_on
landed_from_test f [] c e = absurd (false≢true e)
landed_from_test f (q ∷ qs) c e =
    go (or_cases (joins (image f q.a) (image f q.b) c) (landed_on f qs c) e) (landed_from_test f qs c)
  where
    later : Landed f qs c → Landed f (q ∷ qs) c
    later l = record { a = l.a; b = l.b; k = l.k; has = there l.has; joins = l.joins }

    go : (joins (image f q.a) (image f q.b) c ≡ true) ⊎ (landed_on f qs c ≡ true) → (landed_on f qs c ≡ true → Landed f qs c)
        → Landed f (q ∷ qs) c
    go (inl h) ih = record { a = q.a; b = q.b; k = q.kind; has = has_first q qs; joins = joins_from_test _ _ c h }
    go (inr h) ih = later (ih h)

landed_to_test : (f : List ℕ) (ps : List Cable) (c : Cable) → Landed f ps c → landed_on f ps c ≡ true
unfolding landed_on
landed_to_test f ps c l = go ps l.has
  where
    turned : {q : Cable} → Joins l.a l.b q → Joins (image f q.a) (image f q.b) c
    turned (along p r) = rw (p, r) l.joins
    turned (against p r) = rw (p, r) (joins_flip l.joins)

    go : (qs : List Cable) → Has l.a l.b l.k qs → landed_on f qs c ≡ true
    go [] h = elim h [ ]
    go (q ∷ qs) (here j e) = or_left (landed_on f qs c) (joins_to_test _ _ c (turned j))
    go (q ∷ qs) (there h) = or_right (joins (image f q.a) (image f q.b) c) (go qs h)

-- a cable of a list, by its ends
pub record FoundCable (u v k : ℕ) (cs : List Cable) : Type 0 where
  pub c : Cable
  pub member : Mem c cs
  pub joins : Joins u v c
  pub kind : c.kind ≡ k

find_cable : {u v k : ℕ} (cs : List Cable) → Has u v k cs → FoundCable u v k cs
find_cable [] h = elim h [ ]
find_cable (c ∷ cs) (here j e) = record { c = c; member = Mem.here refl; joins = j; kind = e }
find_cable {u} {v} {k} (c ∷ cs) (there h) = later (find_cable cs h)
  where
    later : FoundCable u v k cs → FoundCable u v k (c ∷ cs)
    later s = record { c = s.c; member = Mem.there s.member; joins = s.joins; kind = s.kind }

mem_has : {c : Cable} {cs : List Cable} → Mem c cs → Has c.a c.b c.kind cs
mem_has {c} {cs = b ∷ bs} (Mem.here e) = rw (← e) (has_first b bs)
mem_has (Mem.there m) = there (mem_has m)

-- equal marks say the same of each cable
same_mark : (g h : Cable → Bool) (cs : List Cable) → map g cs ≡ map h cs → (c : Cable) → Mem c cs → g c ≡ h c
same_mark g h [] e c m = elim m [ ]
same_mark g h (b ∷ bs) e c (Mem.here q) = rw (← q) (ap (λ (xs : List Bool). get_or xs 0 false) e)
same_mark g h (b ∷ bs) e c (Mem.there m) = same_mark g h bs (ap (drop 1) e) c m

-- some mark says yes
some_mark : (g : Cable → Bool) (cs : List Cable) (c : Cable) → Mem c cs → g c ≡ true → 1 ≤ count_true (map g cs)
unfolding count_true
some_mark g [] c m e = elim m [ ]
some_mark g (b ∷ bs) c (Mem.here q) e = let t : g b ≡ true = ap g q ∙ e in rw t (omega arith)
some_mark g (b ∷ bs) c (Mem.there m) e = omega (arith, some_mark g bs c m e)

-- THE MARKS of an embedding of a pattern: at least one says yes, and no more than the pattern has cables
module _ (p d : Drawing) (f : List ℕ) (target : Simple d) (m : Embedding p d f) where
  pub marks_most : count_true (image_marks p d f) ≤ length p.cables
  unfolding image_marks
  marks_most = landed_most f p.cables d.cables target.distinct

  pub marks_some : 1 ≤ length p.cables → 1 ≤ count_true (image_marks p d f)
  unfolding image_marks
  marks_some some = go p.cables refl
    where
      go : (cs : List Cable) → p.cables ≡ cs → 1 ≤ count_true (map (landed_on f p.cables) d.cables)
      go [] e = absurd (omega (arith, ap (length {A = Cable}) e))
      go (q ∷ qs) e =
          let h : Has q.a q.b q.kind p.cables = rw e (has_first q qs) in
          let s = find_cable d.cables (m.cables q.a q.b q.kind h) in
          some_mark (landed_on f p.cables) d.cables s.c s.member
          (landed_to_test f p.cables s.c (record { a = q.a; b = q.b; k = q.kind; has = h; joins = s.joins }))

-- TWO PATTERNS WITH THE SAME MARKS: each cable of the first lands where one of the second does
module _ (p q d : Drawing) (f g : List ℕ) (target : Simple d) (simple : Simple q) (m : Embedding p d f) (n : Embedding q d g)
    (alike : image_marks p d f ≡ image_marks q d g) where
  lands_too : (u v k : ℕ) → Has u v k p.cables → Preimage q g (image f u) (image f v) k
  unfolding image_marks
  lands_too u v k h = go s.joins t.joins
    where
      s : FoundCable (image f u) (image f v) k d.cables
      s = find_cable d.cables (m.cables u v k h)

      t : Landed g q.cables s.c
      t =
          landed_from_test g q.cables s.c
          (sym (same_mark (landed_on f p.cables) (landed_on g q.cables) d.cables alike s.c s.member)
          ∙ landed_to_test f p.cables s.c (record { a = u; b = v; k = k; has = h; joins = s.joins }))

      -- one cable joins the pair, so that the kinds are equal
      kinds : t.k ≡ k
      kinds =
          distinct_single d.cables target.distinct s.c.a s.c.b t.k k
          (has_between t.joins (n.cables t.a t.b t.k t.has))
          (has_eq refl refl s.kind (mem_has s.member))

      has : Has t.a t.b k q.cables
      has = has_eq refl refl kinds t.has

      go : Joins (image f u) (image f v) s.c → Joins (image g t.a) (image g t.b) s.c → Preimage q g (image f u) (image f v) k
      go (along a b) (along x y) = record { i = t.a; j = t.b; has = has; from = sym x ∙ a; to = sym y ∙ b }
      go (along a b) (against x y) = record { i = t.b; j = t.a; has = has_flip has; from = sym x ∙ a; to = sym y ∙ b }
      go (against a b) (along x y) = record { i = t.b; j = t.a; has = has_flip has; from = sym y ∙ b; to = sym x ∙ a }
      go (against a b) (against x y) = record { i = t.a; j = t.b; has = has; from = sym y ∙ b; to = sym x ∙ a }

  -- every device of a pattern ends a cable, so that it lands where a device of the second does
  covered : Connected p → 2 ≤ devices p → (v : ℕ) → v < devices p → Numbered g (image f v)
  covered joined two v h = go (ℕ_discrete 0 v)
    where
      last : (u w : ℕ) → (u ≡ w → ⊥) → Walk p.cables u w → Numbered g (image f w)
      last u w apart stay = absurd (apart refl)
      last u w apart (onward {v = v} {k = k} s e) =
          let t = lands_too v w k e in
          record { i = t.j; below = rw n.size (simple.ends t.j t.i k (has_flip t.has)); is = t.to }

      go : Dec (0 ≡ v) → Numbered g (image f v)
      go (yes e) = last 1 v (λ z. omega arith) (joined 1 v (omega arith) h)
      go (no e) = last 0 v e (joined 0 v (omega arith) h)

  -- by the map back the first embeds in the second
  module _ (joined : Connected p) (two : 2 ≤ devices p) (ends : EndsInRange p) where
    abbrev back : List ℕ
    back = inverse_from (devices d) 0 g

    sent : List ℕ
    sent = compose f back

    number : (v : ℕ) → v < length f → (t : Numbered g (image f v)) → image sent v ≡ t.i
    unfolding sent
    number v h t =
        compose_image f back v h ∙ ap (image back) (sym t.is)
        ∙ inverse_undoes (devices d) g n.injective t.i t.below (n.lands t.i t.below)

    at : (v : ℕ) → v < length f → Numbered g (image f v)
    at v h = covered joined two v (rw m.size at h)

    -- what it is sent to lands where it lands itself
    through : (v : ℕ) → v < length f → image g (image sent v) ≡ image f v
    through v h = ap (image g) (number v h (at v h)) ∙ (at v h).is

    below : (v : ℕ) → v < length f → image sent v < length g
    below v h = rw (number v h (at v h)) (at v h).below

    low : (v : ℕ) → v < length sent → v < length f
    unfolding sent
    low v h = rw (compose_size f back) at h

    inside : (u v k : ℕ) → Has u v k p.cables → u < length f
    inside u v k h = rw m.size (ends u v k h)

    embeds : Embedding p q sent
    unfolding sent
    embeds =
        record {
          size = compose_size f back ∙ m.size;
          injective = λ i j h l e.
              m.injective i j (low i h) (low j l) (sym (through i (low i h)) ∙ ap (image g) e ∙ through j (low j l));
          lands = λ i h. rw (← n.size) (below i (low i h));
          kinds = λ i h.
              sym (n.kinds (image sent i) (below i (low i h))) ∙ ap (kind d) (through i (low i h)) ∙ m.kinds i (low i h);
          cables = λ u v k h.
              let t = lands_too u v k h in
              let a : Numbered g (image f u) =
              record { i = t.i; below = rw n.size (simple.ends t.i t.j k t.has); is = t.from } in
              let b : Numbered g (image f v) =
              record { i = t.j; below = rw n.size (simple.ends t.j t.i k (has_flip t.has)); is = t.to } in
              has_eq (sym (number u (inside u v k h) a)) (sym (number v (inside v u k (has_flip h)) b)) refl t.has;
        }

    pub embeds_too : (e : List ℕ) × Embedding p q e
    embeds_too = (sent, embeds)

-- THE MARKS TELL THE PATTERN
pub marks_tell :
    (p q d : Drawing) (f g : List ℕ) → Simple d → Pattern p → Pattern q → Embedding p d f → Embedding q d g
    → image_marks p d f ≡ image_marks q d g → Same p q
marks_tell p q d f g target a b m n alike = go there back
  where
    there : (e : List ℕ) × Embedding p q e
    there = embeds_too p q d f g target b.simple m n alike a.connected a.devices_low a.simple.ends

    back : (e : List ℕ) × Embedding q p e
    back = embeds_too q p d g f target a.simple n m (sym alike) b.connected b.devices_low b.simple.ends

    go : (e : List ℕ) × Embedding p q e → (e : List ℕ) × Embedding q p e → Same p q
    go (e, x) (h, y) =
        let lower : length e ≤ devices q = injective_fits (devices q) e x.injective x.lands in
        let upper : length h ≤ devices p = injective_fits (devices p) h y.injective y.lands in
        contained_is_same p q a.simple b.simple (contains_from_embedding p q e a.simple.ends x)
        (omega (arith, x.size, y.size, lower, upper))
        (omega (arith, embedding_cables p q e a.simple x, embedding_cables q p h b.simple y))
