-- Cables as relations: a pair is joined either way round, by a cable of some kind. Assumes nothing.
use Rattle.std.specs.Prelude.{◌≡◌, refl, true, false, ◌&&◌, List, [], ◌∷◌, ◌++◌, ◌⊎◌, ℕ, zero, suc, ◌<◌, eqb, length, get_or}
use Rattle.std.proofs.Common.{sym, inl, inr, arith, eqb-true, eq-eqb}
use Rattle.std.proofs.lemmas.Bool.{false≢true}
use Rattle.laws.specs.Tests.{and_split, and_both, or_cases, or_left, or_right}
use Rattle.laws.specs.Lists.{Mem, snoc}
use Rattle.graphs.specs.Drawing.{Cable, joins, joined_by, member}
use Rattle.graphs.specs.Map.{has_cable}

-- a cable joins u and v, one way round or the other
pub data Joins (u v : ℕ) (c : Cable) : Type 0 where
  along : c.a ≡ u → c.b ≡ v → Joins u v c
  against : c.a ≡ v → c.b ≡ u → Joins u v c

-- some cable of kind k joins u and v
pub data Has (u v k : ℕ) : List Cable → Type 0 where
  here : {c : Cable} {cs : List Cable} → Joins u v c → c.kind ≡ k → Has u v k (c ∷ cs)
  there : {c : Cable} {cs : List Cable} → Has u v k cs → Has u v k (c ∷ cs)

pub joins_flip : {u v : ℕ} {c : Cable} → Joins u v c → Joins v u c
joins_flip (along p q) = against p q
joins_flip (against p q) = along p q

pub has_flip : {u v k : ℕ} {cs : List Cable} → Has u v k cs → Has v u k cs
has_flip (here j e) = here (joins_flip j) e
has_flip (there h) = there (has_flip h)

pub has_eq : {u v k u' v' k' : ℕ} {cs : List Cable} → u ≡ u' → v ≡ v' → k ≡ k' → Has u v k cs → Has u' v' k' cs
has_eq p q r h = rw (← p, ← q, ← r) h

-- what a cable's pair has, its own ends have
pub has_between : {u v k : ℕ} {c : Cable} {cs : List Cable} → Joins u v c → Has u v k cs → Has c.a c.b k cs
has_between (along p q) h = has_eq (sym p) (sym q) refl h
has_between (against p q) h = has_eq (sym p) (sym q) refl (has_flip h)

-- the first cable of a list
pub has_first : (c : Cable) (cs : List Cable) → Has c.a c.b c.kind (c ∷ cs)
has_first c cs = here (along refl refl) refl

-- CABLES OF A LONGER LIST
pub has_front : {u v k : ℕ} {cs : List Cable} (ds : List Cable) → Has u v k cs → Has u v k (cs ++ ds)
has_front ds (here j e) = here j e
has_front ds (there h) = there (has_front ds h)

pub has_last : {u v k : ℕ} (cs : List Cable) {c : Cable} → Joins u v c → c.kind ≡ k → Has u v k (snoc cs c)
has_last [] j e = here j e
has_last (d ∷ cs) j e = there (has_last cs j e)

pub record Last (u v k : ℕ) (c : Cable) : Type 0 where
  pub joins : Joins u v c
  pub kind : c.kind ≡ k

-- a cable of one more: an old one, or the last
pub last_cases : {u v k : ℕ} (cs : List Cable) {c : Cable} → Has u v k (snoc cs c) → Has u v k cs ⊎ Last u v k c
last_cases [] (here j e) = inr (record { joins = j; kind = e })
last_cases [] (there h) = elim h [ ]
last_cases (d ∷ cs) (here j e) = inl (here j e)
last_cases {u} {v} {k} (d ∷ cs) {c} (there h) = go (last_cases cs h)
  where
    go : Has u v k cs ⊎ Last u v k c → Has u v k (d ∷ cs) ⊎ Last u v k c
    go (inl g) = inl (there g)
    go (inr g) = inr g

-- THE TESTS say the same
pub joins_from_test : (u v : ℕ) (c : Cable) → joins u v c ≡ true → Joins u v c
unfolding joins
joins_from_test u v c e = go (or_cases (eqb c.a u && eqb c.b v) (eqb c.a v && eqb c.b u) e)
  where
    go : ((eqb c.a u && eqb c.b v) ≡ true) ⊎ ((eqb c.a v && eqb c.b u) ≡ true) → Joins u v c
    go (inl h) =
        let s = and_split (eqb c.a u) (eqb c.b v) h in
        along (eqb-true c.a u s.0) (eqb-true c.b v s.1)
    go (inr h) =
        let s = and_split (eqb c.a v) (eqb c.b u) h in
        against (eqb-true c.a v s.0) (eqb-true c.b u s.1)

pub joins_to_test : (u v : ℕ) (c : Cable) → Joins u v c → joins u v c ≡ true
unfolding joins
joins_to_test u v c (along p q) = or_left (eqb c.a v && eqb c.b u) (and_both (eq-eqb c.a u p) (eq-eqb c.b v q))
joins_to_test u v c (against p q) = or_right (eqb c.a u && eqb c.b v) (and_both (eq-eqb c.a v p) (eq-eqb c.b u q))

pub has_from_test : (u v k : ℕ) (cs : List Cable) → has_cable u v k cs ≡ true → Has u v k cs
unfolding has_cable
has_from_test u v k [] e = absurd (false≢true e)
has_from_test u v k (c ∷ cs) e = go (or_cases (joins u v c && eqb c.kind k) (has_cable u v k cs) e) (λ h. has_from_test u v k cs h)
  where
    go : ((joins u v c && eqb c.kind k) ≡ true) ⊎ (has_cable u v k cs ≡ true) → (has_cable u v k cs ≡ true → Has u v k cs) → Has u v k (c ∷ cs)
    go (inl h) r =
        let s = and_split (joins u v c) (eqb c.kind k) h in
        Has.here (joins_from_test u v c s.0) (eqb-true c.kind k s.1)
    go (inr h) r = Has.there (r h)

pub has_to_test : {u v k : ℕ} (cs : List Cable) → Has u v k cs → has_cable u v k cs ≡ true
unfolding has_cable
has_to_test [] h = elim h [ ]
has_to_test {u} {v} {k} (c ∷ cs) (Has.here j e) = or_left (has_cable u v k cs) (and_both (joins_to_test u v c j) (eq-eqb c.kind k e))
has_to_test {u} {v} {k} (c ∷ cs) (Has.there h) = or_right (joins u v c && eqb c.kind k) (has_to_test cs h)

pub joined_from_test : (u v : ℕ) (cs : List Cable) → joined_by u v cs ≡ true → (k : ℕ) × Has u v k cs
unfolding joined_by
joined_from_test u v [] e = absurd (false≢true e)
joined_from_test u v (c ∷ cs) e = go (or_cases (joins u v c) (joined_by u v cs) e) (λ h. joined_from_test u v cs h)
  where
    go : (joins u v c ≡ true) ⊎ (joined_by u v cs ≡ true) → (joined_by u v cs ≡ true → (k : ℕ) × Has u v k cs) → (k : ℕ) × Has u v k (c ∷ cs)
    go (inl h) r = (c.kind, Has.here (joins_from_test u v c h) refl)
    go (inr h) r = let s = r h in (s.0, Has.there s.1)

pub joined_to_test : {u v k : ℕ} (cs : List Cable) → Has u v k cs → joined_by u v cs ≡ true
unfolding joined_by
joined_to_test [] h = elim h [ ]
joined_to_test {u} {v} (c ∷ cs) (Has.here j e) = or_left (joined_by u v cs) (joins_to_test u v c j)
joined_to_test {u} {v} (c ∷ cs) (Has.there h) = or_right (joins u v c) (joined_to_test cs h)

-- members of a list of devices
pub mem_from_test : (v : ℕ) (xs : List ℕ) → member v xs ≡ true → Mem v xs
unfolding member
mem_from_test v [] e = absurd (false≢true e)
mem_from_test v (x ∷ xs) e = go (or_cases (eqb x v) (member v xs) e) (λ q. mem_from_test v xs q)
  where
    go : (eqb x v ≡ true) ⊎ (member v xs ≡ true) → (member v xs ≡ true → Mem v xs) → Mem v (x ∷ xs)
    go (inl q) r = Mem.here (eqb-true x v q)
    go (inr q) r = Mem.there (r q)

pub mem_to_test : (v : ℕ) (xs : List ℕ) → Mem v xs → member v xs ≡ true
unfolding member
mem_to_test v xs (Mem.here {x = x} {xs = ys} e) = or_left (member v ys) (eq-eqb x v e)
mem_to_test v xs (Mem.there {x = x} {xs = ys} m) = or_right (eqb x v) (mem_to_test v ys m)

-- A CABLE AT ITS PLACE in the list joins its ends
pub has_at : (cs : List Cable) (m : ℕ) (z : Cable) → m < length cs → Has (get_or cs m z).a (get_or cs m z).b (get_or cs m z).kind cs
has_at [] m z h = absurd (omega arith)
has_at (c ∷ cs) zero z h = Has.here (along refl refl) refl
has_at (c ∷ cs) (suc m) z h = Has.there (has_at cs m z (omega arith))
