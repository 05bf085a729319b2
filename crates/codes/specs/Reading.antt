-- What holds of a reading after its first record, and that each permitted step keeps it. Rests on Step. Assumes nothing.
use Rattle.std.specs.Prelude.{◌≡◌, List, [], ◌∷◌, ◌⊎◌}
use Rattle.std.proofs.Math.Path.{refl, sym}
use Rattle.std.proofs.Common.{◌∙◌, inr}
use Rattle.std.proofs.Math.Logic.{inl}
use Prim.Native.Nat.{ℕ, suc, ◌≤◌, ◌<◌}
use native.Mathlib.Omega.{arith}
use Rattle.std.proofs.Math.Decide.{dec_lt}
use Rattle.std.proofs.Math.ListN.{length}
use Rattle.laws.specs.Lists.{Mem, snoc, snoc_length}
use Rattle.graphs.specs.Drawing.{Cable}
use Rattle.graphs.specs.Cables.{Joins, along, against, Has, Last, has_flip, has_eq, has_front, has_last, last_cases}
use Rattle.graphs.specs.Graph.{Distinct, Simple}
use Rattle.graphs.specs.Simple.{distinct_snoc}
use Rattle.codes.specs.Code.{Rec, Reading, end, second, cut_to, cable_of, begun, forwarded, backed, drawn}
use Rattle.codes.specs.Step.{
  Backward,
  Step,
  steps_back,
  steps_forward,
  after,
  Falling,
  cut_within,
  cut_falling,
  cut_second,
}

-- the forward record that reached w: a cable from a lower device
pub record Parent (x : Reading) (w : ℕ) : Type 0 where
  pub u : ℕ
  pub k : ℕ
  pub has : Has u w k x.cables
  pub lower : u < w

pub record Invariant (x : Reading) : Type 0 where
  pub two : 2 ≤ length x.kinds
  pub ten : length x.kinds ≤ 10
  -- the path's end is the highest device, and the path falls from it
  pub top : suc (end x.path) ≡ length x.kinds
  pub falling : Falling x.path
  pub below : (q : ℕ) → Mem q x.path → q < length x.kinds
  -- a cable from the end goes to its parent, or to at most the j of the backward record before
  pub used : (j k : ℕ) → Has (end x.path) j k x.cables → (j ≡ second x.path) ⊎ ((x.back ≡ 10 → ⊥) × (j ≤ x.back))
  pub simple : Simple (drawn x)
  pub parent : (w : ℕ) → 0 < w → w < length x.kinds → Parent x w

-- a cable joins no device to itself if the last one's ends differ
loopless_snoc :
    (x : Reading) (e : Rec) → (e.i ≡ e.j → ⊥) → ((u k : ℕ) → Has u u k x.cables → ⊥)
    → (u k : ℕ) → Has u u k (snoc x.cables (cable_of e)) → ⊥
unfolding cable_of
loopless_snoc x e n old u k h = go (last_cases x.cables h)
  where
    same : Joins u u (cable_of e) → ⊥
    same (along p q) = n (p ∙ sym q)
    same (against p q) = n (p ∙ sym q)

    go : Has u u k x.cables ⊎ Last u u k (cable_of e) → ⊥
    go (inl g) = old u k g
    go (inr l) = same l.joins

-- ends of one cable more are below n if its own are
ends_snoc :
    (cs : List Cable) (e : Rec) (n : ℕ) → ((u v k : ℕ) → Has u v k cs → u < n) → e.i < n → e.j < n
    → (u v k : ℕ) → Has u v k (snoc cs (cable_of e)) → u < n
unfolding cable_of
ends_snoc cs e n old a b u v k h = go (last_cases cs h)
  where
    new : Joins u v (cable_of e) → u < n
    new (along p q) = let w : e.i ≡ u = p in omega arith
    new (against p q) = let w : e.j ≡ u = q in omega arith

    go : Has u v k cs ⊎ Last u v k (cable_of e) → u < n
    go (inl g) = old u v k g
    go (inr l) = new l.joins

-- A BACKWARD STEP
module _ (x : Reading) (v : Invariant x) (e : Rec) (o : Backward x e.i e.j) where
  back_j : e.j < length x.kinds
  back_j = v.below e.j o.on_path

  back_i : e.i < length x.kinds
  back_i = omega (arith, v.top, o.is_end)

  -- the pair was not joined before
  pub back_new : (k : ℕ) → Has e.i e.j k x.cables → ⊥
  back_new k h = go (v.used e.j k (has_eq o.is_end refl refl h)) o.rising
    where
      go : (e.j ≡ second x.path) ⊎ ((x.back ≡ 10 → ⊥) × (e.j ≤ x.back)) → (x.back ≡ 10) ⊎ (x.back < e.j) → ⊥
      go (inl z) r = o.not_parent z
      go (inr z) (inl r) = z.0 r
      go (inr z) (inr r) = omega (arith, z.1)

  back_used :
      (j k : ℕ) → Has (end x.path) j k (snoc x.cables (cable_of e)) → (j ≡ second x.path) ⊎ ((e.j ≡ 10 → ⊥) × (j ≤ e.j))
  unfolding cable_of
  back_used j k h = go (last_cases x.cables h)
    where
      under : (x.back ≡ 10 → ⊥) → j ≤ x.back → (x.back ≡ 10) ⊎ (x.back < e.j) → j ≤ e.j
      under n l (inl z) = absurd (n z)
      under n l (inr z) = omega arith

      old : (j ≡ second x.path) ⊎ ((x.back ≡ 10 → ⊥) × (j ≤ x.back)) → (j ≡ second x.path) ⊎ ((e.j ≡ 10 → ⊥) × (j ≤ e.j))
      old (inl z) = inl z
      old (inr z) = inr (omega (arith, v.ten, back_j), under z.0 z.1 o.rising)

      new : Joins (end x.path) j (cable_of e) → (j ≡ second x.path) ⊎ ((e.j ≡ 10 → ⊥) × (j ≤ e.j))
      new (along p q) = inr (omega (arith, v.ten, back_j), omega arith)
      new (against p q) = absurd (omega (arith, o.down, o.is_end))

      go :
          Has (end x.path) j k x.cables ⊎ Last (end x.path) j k (cable_of e)
          → (j ≡ second x.path) ⊎ ((e.j ≡ 10 → ⊥) × (j ≤ e.j))
      go (inl g) = old (v.used j k g)
      go (inr l) = new l.joins

  pub invariant_backward : Invariant (backed x e)
  unfolding cable_of
  invariant_backward = record {
    two = v.two;
    ten = v.ten;
    top = v.top;
    falling = v.falling;
    below = v.below;
    used = back_used;
    simple = record {
      ends = ends_snoc x.cables e (length x.kinds) v.simple.ends back_i back_j;
      loopless = loopless_snoc x e (λ z. omega (arith, o.down)) v.simple.loopless;
      distinct = distinct_snoc x.cables (cable_of e) v.simple.distinct back_new;
    };
    parent = λ w z l. let s = v.parent w z l in record { u = s.u; k = s.k; has = has_front (cable_of e ∷ []) s.has; lower = s.lower };
  }

-- A FORWARD STEP
module _ (x : Reading) (v : Invariant x) (e : Rec) (m : Mem e.i x.path) (p : e.j ≡ length x.kinds) (q : e.j ≤ 9) where
  ahead_i : e.i < length x.kinds
  ahead_i = v.below e.i m

  grown : {z : ℕ} → z ≤ suc (length x.kinds) → z ≤ length (snoc x.kinds e.kj)
  grown l = rw snoc_length l

  ahead_below : (c : ℕ) → Mem c (e.j ∷ cut_to e.i x.path) → c < length (snoc x.kinds e.kj)
  ahead_below c (Mem.here z) = grown (omega arith)
  ahead_below c (Mem.there z) = grown (omega (arith, v.below c (cut_within e.i x.path z)))

  ahead_used : (j k : ℕ) → Has e.j j k (snoc x.cables (cable_of e)) → j ≡ e.i
  unfolding cable_of
  ahead_used j k h = go (last_cases x.cables h)
    where
      new : Joins e.j j (cable_of e) → j ≡ e.i
      new (along y z) = let w : e.i ≡ e.j = y in absurd (omega (arith, ahead_i))
      new (against y z) = sym y

      go : Has e.j j k x.cables ⊎ Last e.j j k (cable_of e) → j ≡ e.i
      go (inl g) = absurd (omega (arith, v.simple.ends e.j j k g))
      go (inr l) = new l.joins

  ahead_parent : (w : ℕ) → 0 < w → w < length (snoc x.kinds e.kj) → Parent (forwarded x e) w
  unfolding cable_of
  ahead_parent w z l = go (dec_lt w (length x.kinds)) (rw snoc_length at l)
    where
      go : Dec (w < length x.kinds) → w < suc (length x.kinds) → Parent (forwarded x e) w
      go (yes b) c =
          let s = v.parent w z b in
          record { u = s.u; k = s.k; has = has_front (cable_of e ∷ []) s.has; lower = s.lower }
      go (no b) c =
          let y : e.j ≡ w = omega arith in
          record { u = e.i; k = e.c; has = has_last x.cables (along refl y) refl; lower = omega (arith, ahead_i) }

  pub invariant_forward : Invariant (forwarded x e)
  unfolding cable_of Falling end
  invariant_forward = record {
    two = grown (omega (arith, v.two));
    ten = rw snoc_length (omega arith);
    top = rw snoc_length (omega arith);
    falling = (λ c g. omega (arith, v.below c (cut_within e.i x.path g)), cut_falling e.i x.path v.falling);
    below = ahead_below;
    used = λ j k h. inl (ahead_used j k h ∙ sym (cut_second e.j e.i x.path m));
    simple = record {
      ends = ends_snoc x.cables e (length (snoc x.kinds e.kj)) (λ a b k h. grown (omega (arith, v.simple.ends a b k h)))
          (grown (omega (arith, ahead_i))) (grown (omega arith));
      loopless = loopless_snoc x e (λ z. omega (arith, ahead_i)) v.simple.loopless;
      distinct = distinct_snoc x.cables (cable_of e) v.simple.distinct (λ k h. omega (arith, v.simple.ends e.j e.i k (has_flip h)));
    };
    parent = ahead_parent;
  }

-- EVERY PERMITTED STEP keeps it
pub invariant_step : {x : Reading} {e : Rec} → Invariant x → (s : Step x e) → Invariant (after s)
invariant_step {x} {e} v (steps_back o p q) = invariant_backward x v e o
invariant_step {x} {e} v (steps_forward m p q r) = invariant_forward x v e m p q

-- THE FIRST RECORD, (0, 1), begins it
pub invariant_begun : (e : Rec) → e.i ≡ 0 → e.j ≡ 1 → Invariant (begun e)
unfolding cable_of Falling end second Distinct
invariant_begun e p q = record {
  two = omega arith;
  ten = omega arith;
  top = refl;
  falling = (λ c m. low m, (λ c m. elim m [ ], tt));
  below = λ c m. low_path m;
  used = λ j k h. inl (uses h);
  simple = record {
    ends = ends_snoc [] e 2 (λ u w k h. elim h [ ]) (omega arith) (omega arith);
    loopless = λ u k h. loop h;
    distinct = (λ k h. elim h [ ], tt);
  };
  parent = λ w z l. record { u = 0; k = e.c; has = Has.here (along p (q ∙ omega arith)) refl; lower = z };
}
  where
    low : {c : ℕ} → Mem c (0 ∷ []) → c < 1
    low (Mem.here z) = omega arith
    low (Mem.there z) = elim z [ ]

    low_path : {c : ℕ} → Mem c (1 ∷ 0 ∷ []) → c < 2
    low_path (Mem.here z) = omega arith
    low_path (Mem.there z) = omega (arith, low z)

    uses : {j k : ℕ} → Has 1 j k (cable_of e ∷ []) → j ≡ 0
    uses {j} (Has.here (along y z) g) = let w : e.i ≡ 1 = y in absurd (omega arith)
    uses {j} (Has.here (against y z) g) = let w : e.i ≡ j = y in omega arith
    uses (Has.there h) = elim h [ ]

    loop : {u k : ℕ} → Has u u k (cable_of e ∷ []) → ⊥
    loop {u} (Has.here (along y z) g) = let a : e.i ≡ u = y in let b : e.j ≡ u = z in omega arith
    loop {u} (Has.here (against y z) g) = let a : e.i ≡ u = y in let b : e.j ≡ u = z in omega arith
    loop (Has.there h) = elim h [ ]
