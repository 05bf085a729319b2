-- The numbered records rise, and each record within the bounds has a number. Rests on RecordOrder. Assumes nothing.
use Rattle.std.specs.Prelude.{◌≡◌, true, List, [], ◌∷◌, ◌++◌, ◌⊎◌, ℕ, zero, suc, ◌+◌, ◌*◌, ◌-◌, ◌/◌, ◌%◌, ◌≤◌, ◌<◌}
use Rattle.std.proofs.Common.{sym, ap, ◌∙◌, subst, append-nil, append_assoc, inl, inr, arith, lt-ltb, le-ltb, eq-eqb}
use Rattle.std.proofs.Math.Decide.{dec_lt}
use Rattle.laws.specs.Lists.{Mem, snoc, mem_front, mem_back, mem_cases}
use Rattle.laws.specs.Selections.{mem_one}
use Rattle.laws.specs.Rising.{Rises, rises_nil, rises_cons, rises_append, rises_apart, rises_back}
use Rattle.codes.specs.Code.{Rec, forward, kinds_before, rec_before_by}
use Rattle.codes.specs.CodeOrder.{rec_eq}
use Rattle.growth.specs.RecordOrder.{lower_backward_first, deeper_forward_first, same_backward_first, same_forward_first}
use Rattle.books.specs.SmallRecords.{number_from, number_to, numbered, next_count, numbered_below}

-- a step back, and one forward
pub step_back : (n q : ℕ) → q + 1 < n → (number_from n q ≡ n - 1) × (number_to n q ≡ q)
step_back n q h = (rw (lt-ltb (q + 1) n h), rw (lt-ltb (q + 1) n h))

pub step_on : (n q : ℕ) → n ≤ q + 1 → (number_from n q ≡ 2 * n - (q + 2)) × (number_to n q ≡ n)
step_on n q h = (rw (le-ltb (q + 1) n h), rw (le-ltb (q + 1) n h))

-- the labels of a number are those of its rest by 27
labels_number : (t : ℕ) → 9 * (t / 9 % 3) + 3 * (t / 3 % 3) + t % 3 ≡ t % 27
labels_number t =
    let x : t ≡ 3 * (t / 3) + t % 3 = omega arith in
    let y : t / 3 / 3 ≡ t / 9 = omega arith in
    let z : t / 9 / 3 ≡ t / 27 = omega arith in
    let v : t / 3 ≡ 3 * (t / 3 / 3) + t / 3 % 3 = omega arith in
    let w : t / 9 ≡ 3 * (t / 9 / 3) + t / 9 % 3 = omega arith in
    let u : t ≡ 27 * (t / 27) + t % 27 = omega arith in
    omega arith

-- BY THE LABELS: a lower number below 27
labels_rise :
    (e g : Rec) → 9 * e.ki + 3 * e.c + e.kj < 9 * g.ki + 3 * g.c + g.kj → e.c < 3 → g.c < 3 → e.kj < 3 → g.kj < 3 → kinds_before e g ≡ true
unfolding kinds_before
labels_rise e g h a b c d = go (dec_lt e.ki g.ki) (dec_lt e.c g.c)
  where
    go : Dec (e.ki < g.ki) → Dec (e.c < g.c) → kinds_before e g ≡ true
    go (yes l) m = rw (lt-ltb e.ki g.ki l)
    go (no l) (yes m) =
        rw (le-ltb e.ki g.ki (omega arith), eq-eqb e.ki g.ki (omega arith), lt-ltb e.c g.c m)
    go (no l) (no m) =
        rw (
          le-ltb e.ki g.ki (omega arith),
          eq-eqb e.ki g.ki (omega arith),
          le-ltb e.c g.c (omega arith),
          eq-eqb e.c g.c (omega arith),
          lt-ltb e.kj g.kj (omega arith),
        )

-- backward before forward
backward_first : (e g : Rec) → e.j < e.i → g.i < g.j → rec_before_by kinds_before e g ≡ true
unfolding rec_before_by forward
backward_first e g p q = rw (le-ltb e.i e.j (omega arith), lt-ltb g.i g.j q)

-- THEY RISE
pub numbered_rise : (n s t : ℕ) → 1 ≤ n → s < t → t < next_count n → rec_before_by kinds_before (numbered n s) (numbered n t) ≡ true
numbered_rise n s t one less low = go (dec_lt (s / 27 + 1) n) (dec_lt (t / 27 + 1) n) (dec_lt (s / 27) (t / 27))
  where
    e : Rec
    e = numbered n s

    g : Rec
    g = numbered n t

    up : t / 27 + 1 < 2 * n
    up = omega arith

    by_labels : s / 27 ≡ t / 27 → kinds_before (numbered n s) (numbered n t) ≡ true
    by_labels q =
        let lower : s % 27 < t % 27 = omega arith in
        labels_rise (numbered n s) (numbered n t) (rw (labels_number s, labels_number t) lower) (omega arith) (omega arith) (omega arith)
        (omega arith)

    go : Dec (s / 27 + 1 < n) → Dec (t / 27 + 1 < n) → Dec (s / 27 < t / 27) → rec_before_by kinds_before (numbered n s) (numbered n t) ≡ true
    go (yes a) (yes b) (yes l) =
        let x = step_back n (s / 27) a in
        let y = step_back n (t / 27) b in
        lower_backward_first kinds_before (numbered n s) (numbered n t) (omega (arith, x.0, x.1)) (omega (arith, y.0, y.1))
        (omega (arith, x.1, y.1))
    go (yes a) (yes b) (no l) =
        let x = step_back n (s / 27) a in
        let y = step_back n (t / 27) b in
        same_backward_first kinds_before (numbered n s) (numbered n t) (omega (arith, x.0, x.1)) (x.0 ∙ sym y.0)
        (omega (arith, x.1, y.1)) (by_labels (omega arith))
    go (yes a) (no b) l =
        let x = step_back n (s / 27) a in
        let y = step_on n (t / 27) (omega arith) in
        backward_first (numbered n s) (numbered n t) (omega (arith, x.0, x.1)) (omega (arith, y.0, y.1))
    go (no a) (yes b) l = absurd (omega arith)
    go (no a) (no b) (yes l) =
        let x = step_on n (s / 27) (omega arith) in
        let y = step_on n (t / 27) (omega arith) in
        deeper_forward_first kinds_before (numbered n s) (numbered n t) (omega (arith, x.0, x.1)) (omega (arith, y.0, y.1))
        (omega (arith, x.0, y.0, up))
    go (no a) (no b) (no l) =
        let x = step_on n (s / 27) (omega arith) in
        let y = step_on n (t / 27) (omega arith) in
        same_forward_first kinds_before (numbered n s) (numbered n t) (omega (arith, x.0, x.1)) (omega (arith, x.0, y.0))
        (x.1 ∙ sym y.1) (by_labels (omega arith))

-- each joins two devices
pub numbered_joins : (n t : ℕ) → 1 ≤ n → (numbered n t).i ≡ (numbered n t).j → ⊥
numbered_joins n t one e = go (dec_lt (t / 27 + 1) n)
  where
    go : Dec (t / 27 + 1 < n) → ⊥
    go (yes a) = let x = step_back n (t / 27) a in omega (arith, x.0, x.1, e)
    go (no a) = let x = step_on n (t / 27) (omega arith) in omega (arith, x.0, x.1, e)

-- THOSE BELOW a number, one by one
pub numbered_next : (n k : ℕ) → numbered_below n (k + 1) ≡ snoc (numbered_below n k) (numbered n k)
unfolding numbered_below
numbered_next n k = rw add_one
  where
    add_one : k + 1 ≡ suc k
    add_one = omega arith

numbered_from : (n k : ℕ) {x : Rec} → Mem x (numbered_below n k) → (t : ℕ) × (t < k) × (numbered n t ≡ x)
unfolding numbered_below
numbered_from n zero m = elim m [ ]
numbered_from n (suc k) {x} m = go (numbered_from n k) (mem_cases (numbered_below n k) m)
  where
    go : (Mem x (numbered_below n k) → (t : ℕ) × (t < k) × (numbered n t ≡ x))
        → Mem x (numbered_below n k) ⊎ Mem x (numbered n k ∷ []) → (t : ℕ) × (t < suc k) × (numbered n t ≡ x)
    go ih (inl h) = let w = ih h in (w.0, omega (arith, w.1), w.2)
    go ih (inr h) = (k, omega arith, mem_one h)

pub numbered_has : (n k t : ℕ) → t < k → Mem (numbered n t) (numbered_below n k)
unfolding numbered_below
numbered_has n zero t h = absurd (omega arith)
numbered_has n (suc k) t h = go (numbered_has n k t) (dec_lt t k)
  where
    go : (t < k → Mem (numbered n t) (numbered_below n k)) → Dec (t < k) → Mem (numbered n t) (snoc (numbered_below n k) (numbered n k))
    go ih (yes l) = mem_front (numbered n k ∷ []) (ih l)
    go ih (no l) =
        let e : k ≡ t = omega arith in
        mem_back (numbered_below n k) (Mem.here (ap (numbered n) e))

-- each comes after those with lower numbers
pub numbered_earlier : (n k : ℕ) → 1 ≤ n → k < next_count n → (x : Rec) → Mem x (numbered_below n k)
    → rec_before_by kinds_before x (numbered n k) ≡ true
numbered_earlier n k one low x m =
    let w = numbered_from n k m in
    subst (λ (y : Rec). rec_before_by kinds_before y (numbered n k) ≡ true) w.2 (numbered_rise n w.0 k one w.1 low)

-- so they rise
numbered_rises : (n k : ℕ) → 1 ≤ n → k ≤ next_count n → Rises (rec_before_by kinds_before) (numbered_below n k)
unfolding numbered_below
numbered_rises n zero one low = rises_nil (rec_before_by kinds_before)
numbered_rises n (suc k) one low =
    rises_append (rec_before_by kinds_before) (numbered_below n k) (numbered n k ∷ []) (numbered_rises n k one (omega arith))
    (rises_cons (rec_before_by kinds_before) (numbered n k) [] (λ y m. elim m [ ]) (rises_nil (rec_before_by kinds_before)))
    (λ x y p q. subst (λ (z : Rec). rec_before_by kinds_before x z ≡ true) (mem_one q) (numbered_earlier n k one (omega arith) x p))

-- WHAT IS LEFT when number k was walked
pub record NumberedRest (n k : ℕ) : Type 0 where
  pub rest : List Rec
  pub whole : numbered_below n (next_count n) ≡ snoc (numbered_below n k) (numbered n k) ++ rest
  pub rise : Rises (rec_before_by kinds_before) rest
  pub apart : (x y : Rec) → Mem x (snoc (numbered_below n k) (numbered n k)) → Mem y rest → rec_before_by kinds_before x y ≡ true

-- those from number k on
numbered_more : (n k t : ℕ) → (rest : List Rec) × (numbered_below n (k + t) ≡ numbered_below n k ++ rest)
numbered_more n k zero = ([], ap (numbered_below n) none ∙ sym (append-nil (numbered_below n k)))
  where
    none : k + zero ≡ k
    none = omega arith
numbered_more n k (suc t) = go (numbered_more n k t)
  where
    one_more : k + suc t ≡ k + t + 1
    one_more = omega arith

    go : (rest : List Rec) × (numbered_below n (k + t) ≡ numbered_below n k ++ rest)
        → (rest : List Rec) × (numbered_below n (k + suc t) ≡ numbered_below n k ++ rest)
    go (rest, e) = (
      snoc rest (numbered n (k + t)),
      ap (numbered_below n) one_more ∙ numbered_next n (k + t) ∙ ap (λ (xs : List Rec). snoc xs (numbered n (k + t))) e
          ∙ append_assoc (numbered_below n k) rest (numbered n (k + t) ∷ []),
    )

pub numbered_split : (n k : ℕ) → 1 ≤ n → k < next_count n → NumberedRest n k
numbered_split n k one low = go (numbered_more n (k + 1) (next_count n - (k + 1)))
  where
    all : k + 1 + (next_count n - (k + 1)) ≡ next_count n
    all = omega arith

    go : (rest : List Rec) × (numbered_below n (k + 1 + (next_count n - (k + 1))) ≡ numbered_below n (k + 1) ++ rest) → NumberedRest n k
    go (rest, e) =
        let whole : numbered_below n (next_count n) ≡ snoc (numbered_below n k) (numbered n k) ++ rest =
        sym (ap (numbered_below n) all) ∙ e ∙ ap (λ (xs : List Rec). xs ++ rest) (numbered_next n k) in
        let rises = subst (Rises (rec_before_by kinds_before)) whole (numbered_rises n (next_count n) one (omega arith)) in
        record {
          rest = rest;
          whole = whole;
          rise = rises_back (rec_before_by kinds_before) (snoc (numbered_below n k) (numbered n k)) rest rises;
          apart = rises_apart (rec_before_by kinds_before) (snoc (numbered_below n k) (numbered n k)) rest rises;
        }

-- EACH RECORD of a step with labels below 3 has a number
pub step_numbered :
    (n q : ℕ) (e : Rec) → q + 1 < 2 * n → number_from n q ≡ e.i → number_to n q ≡ e.j → e.ki < 3 → e.c < 3 → e.kj < 3
    → (t : ℕ) × (t < next_count n) × (numbered n t ≡ e)
step_numbered n q e up i j a b c =
    let t = 27 * q + (9 * e.ki + 3 * e.c + e.kj) in
    let whole : q ≡ t / 27 = omega arith in (
      t,
      omega arith,
      rec_eq (numbered n t) e (ap (number_from n) (sym whole) ∙ i) (ap (number_to n) (sym whole) ∙ j) (omega arith) (omega arith) (omega arith),
    )
