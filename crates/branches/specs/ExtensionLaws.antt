-- The walk over the places of a path and over the devices at a place: what is known after each. Assumes nothing.
use Rattle.std.specs.Prelude.{◌≡◌, Bool, true, false, List, ◌⊎◌, ℕ, ◌+◌, ◌≤◌, ◌<◌, length, get_or}
use Rattle.std.proofs.Common.{sym, ◌∙◌, inl, inr, not-suc-le-zero, arith}
use Rattle.std.proofs.Math.Decide.{dec_lt}
use borrow.Author.Tests.{eq-eqb, ne_eqb, lt-ltb, le-ltb}
use Rattle.laws.specs.Tests.{true_and_false}
use Rattle.laws.specs.Lists.{get_d_default}
use Rattle.codes.specs.BranchState.{
  State,
  OpenPlace,
  Free,
  chord_label,
  edge_label,
  ChordFound,
  NoChord,
  EdgeFound,
  NothingFound,
}
use Rattle.branches.specs.Extensions.{lesser_label, ChordSeen, EdgeTo, LeastEdge}

-- THE LESSER OF TWO LABELS, by the tests made
module _ (a b : ℕ) where
  pub lesser_second : a ≡ 0 → b ≡ lesser_label a b
  unfolding lesser_label
  lesser_second e = simp (eq-eqb _ _ e)

  module _ (some : a ≡ 0 → ⊥) where
    pub lesser_first : b ≡ 0 → a ≡ lesser_label a b
    unfolding lesser_label
    lesser_first e = simp (ne_eqb _ _ some, eq-eqb _ _ e)

    module _ (both : b ≡ 0 → ⊥) where
      pub lesser_lower : b < a → b ≡ lesser_label a b
      unfolding lesser_label
      lesser_lower h = simp (ne_eqb _ _ some, ne_eqb _ _ both, lt-ltb _ _ h)

      pub lesser_higher : a ≤ b → a ≡ lesser_label a b
      unfolding lesser_label
      lesser_higher h = simp (ne_eqb _ _ some, ne_eqb _ _ both, le-ltb _ _ h)

-- A DEVICE'S MARK, read with any default
module _ (b : State) (w : ℕ) (low : w < length b.used) (ten : length b.used ≡ 10) where
  pub marked_free : (z : Bool) → get_or b.used w z ≡ false → Free b w
  marked_free z e = record { below = omega arith; unused = get_d_default b.used w true z low ∙ e }

  pub marked_used : (z : Bool) → get_or b.used w z ≡ true → Free b w → ⊥
  marked_used z e f = true_and_false (get_d_default b.used w true z low ∙ e) f.unused

-- CHORDS: none goes below place q
abbrev pub NoChordBelow : List ℕ → State → ℕ → Type 0
NoChordBelow t b q = (p : ℕ) → p < q → OpenPlace b p → chord_label t b p ≡ 0

pub chords_start : (t : List ℕ) (b : State) → NoChordBelow t b 0
chords_start t b p h = absurd (not-suc-le-zero h)

pub chords_next : {t : List ℕ} {b : State} {q l : ℕ} → NoChordBelow t b q → ChordSeen t b q l → l ≡ 0 → NoChordBelow t b (q + 1)
chords_next {t} {b} {q} none seen e p h = go (dec_lt p q)
  where
    go : Dec (p < q) → OpenPlace b p → chord_label t b p ≡ 0
    go (yes g) o = none p g o
    go (no g) o = let z : p ≡ q = omega arith in rw z (seen.label (rw (← z) o) ∙ e)

pub chord_here : {t : List ℕ} {b : State} {q l : ℕ} → NoChordBelow t b q → ChordSeen t b q l → 0 < l → ChordFound t b q l
chord_here none seen h = record { place = seen.place h; label = seen.label (seen.place h); some = h; lowest = none }

pub chords_end : (t : List ℕ) (b : State) → NoChordBelow t b b.count → NoChord t b
chords_end t b none q o = none q (omega (arith, o.inner)) o

-- THE EDGES FROM ONE PLACE, device by device
pub edges_start : {t : List ℕ} {b : State} {q : ℕ} → LeastEdge t b q 0 0
edges_start = record { from = λ h. absurd (not-suc-le-zero h); least = λ w h. absurd (not-suc-le-zero h) }

module _ {t : List ℕ} {b : State} {q w l : ℕ} (before : LeastEdge t b q w l) where
  -- the label of a device, against the least so far
  abbrev Bounded : ℕ → ℕ → Type 0
  Bounded m x = (x ≡ 0) ⊎ ((0 < m) × (m ≤ x))

  pub edges_used : (Free b w → ⊥) → LeastEdge t b q (w + 1) l
  edges_used n = record { from = before.from; least = λ v h. go v h (dec_lt v w) }
    where
      go : (v : ℕ) → v < w + 1 → Dec (v < w) → Free b v → Bounded l (edge_label t b q v)
      go v h (yes g) f = before.least v g f
      go v h (no g) f = let z : v ≡ w = omega arith in absurd (n (rw z at f))

  module _ (free : Free b w) where
    abbrev x : ℕ
    x = edge_label t b q w

    -- the lesser is one of the two, and at most both
    lesser_least : (m : ℕ) → (m ≡ l) ⊎ (m ≡ x) → (0 < l → (0 < m) × (m ≤ l)) → (0 < x → (0 < m) × (m ≤ x)) → LeastEdge t b q (w + 1) m
    lesser_least m one low high = record { from = from one; least = λ v h. go v h (dec_lt v w) }
      where
        from : (m ≡ l) ⊎ (m ≡ x) → 0 < m → EdgeTo t b q m
        from (inl e) h = rw e (before.from (rw e at h))
        from (inr e) h = record { device = w; free = free; label = sym e }

        old : (y : ℕ) → Bounded l y → Bounded m y
        old y (inl e) = inl e
        old y (inr g) = let z = low g.0 in inr (z.0, omega (arith, z.1, g.1))

        new : Dec (0 < x) → Bounded m x
        new (yes g) = inr (high g)
        new (no g) = inl (omega arith)

        go : (v : ℕ) → v < w + 1 → Dec (v < w) → Free b v → Bounded m (edge_label t b q v)
        go v h (yes g) f = old (edge_label t b q v) (before.least v g f)
        go v h (no g) f = let z : v ≡ w = omega arith in rw z (new (dec_lt 0 x))

    pub edges_free : LeastEdge t b q (w + 1) (lesser_label l (edge_label t b q w))
    edges_free = go (dec_lt 0 l) (dec_lt 0 x) (dec_lt x l)
      where
        go : Dec (0 < l) → Dec (0 < x) → Dec (x < l) → LeastEdge t b q (w + 1) (lesser_label l x)
        go (no a) c k =
            let e = lesser_second l x (omega arith) in
            lesser_least _ (inr (sym e)) (λ h. absurd (a h)) (λ h. (rw (← e) h, rw (← e) (omega arith)))
        go (yes a) (no c) k =
            let e = lesser_first l x (λ z. omega arith) (omega arith) in
            lesser_least _ (inl (sym e)) (λ h. (rw (← e) h, rw (← e) (omega arith))) (λ h. absurd (c h))
        go (yes a) (yes c) (yes k) =
            let e = lesser_lower l x (λ z. omega arith) (λ z. omega arith) k in
            lesser_least _ (inr (sym e)) (λ h. (rw (← e) c, rw (← e) (omega arith))) (λ h. (rw (← e) c, rw (← e) (omega arith)))
        go (yes a) (yes c) (no k) =
            let e = lesser_higher l x (λ z. omega arith) (λ z. omega arith) (omega arith) in
            lesser_least _ (inl (sym e)) (λ h. (rw (← e) a, rw (← e) (omega arith))) (λ h. (rw (← e) a, rw (← e) (omega arith)))

-- THE DEEPEST PLACE with an edge: none starts from place q on
abbrev pub NoEdgeFrom : List ℕ → State → ℕ → Type 0
NoEdgeFrom t b q = (p w : ℕ) → q ≤ p → p < b.count → Free b w → edge_label t b p w ≡ 0

pub places_start : (t : List ℕ) (b : State) → NoEdgeFrom t b b.count
places_start t b p w h g = absurd (omega arith)

module _ {t : List ℕ} {b : State} {q l : ℕ} (edges : LeastEdge t b q 10 l) (a : ℕ) (is : a ≡ q + 1) (none : NoEdgeFrom t b a) where
  pub places_next : l ≡ 0 → NoEdgeFrom t b q
  places_next e p w h g f = go (dec_lt q p)
    where
      zero_label : (y : ℕ) → (y ≡ 0) ⊎ ((0 < l) × (l ≤ y)) → y ≡ 0
      zero_label y (inl z) = z
      zero_label y (inr z) = absurd (omega (arith, z.0))

      go : Dec (q < p) → edge_label t b p w ≡ 0
      go (yes k) = none p w (omega arith) g f
      go (no k) = let z : p ≡ q = omega arith in rw z (zero_label (edge_label t b q w) (edges.least w f.below f))

  pub edge_here : q < b.count → NoChord t b → 0 < l → EdgeFound t b q l
  edge_here low chords h =
      record {
        place = low;
        some = h;
        device = (edges.from h).device;
        free = (edges.from h).free;
        label = (edges.from h).label;
        least = λ w f. weaker (edge_label t b q w) (edges.least w f.below f);
        deepest = λ p w k. none p w (omega arith);
        no_chord = chords;
      }
    where
      weaker : (y : ℕ) → (y ≡ 0) ⊎ ((0 < l) × (l ≤ y)) → (y ≡ 0) ⊎ (l ≤ y)
      weaker y (inl z) = inl z
      weaker y (inr z) = inr z.1

pub edges_end : {t : List ℕ} {b : State} → NoChord t b → NoEdgeFrom t b 0 → NothingFound t b
edges_end chords none = record { no_chord = chords; no_edge = λ q w. none q w (omega arith) }
