-- The order of records and of codes is a strict total order, over any strict total order of the three labels. Rests on
-- the orders of laws. Assumes nothing.
use Rattle.std.specs.Prelude.{◌≡◌, Bool, true, false, ◌&&◌, ◌||◌, cond, ◌⊎◌, ℕ, ◌<◌, ◌≤◌, ltb, eqb}
use Rattle.std.proofs.Math.Path.{refl}
use Rattle.std.proofs.Common.{sym, ◌∙◌, subst, inl, inr, arith}
use mathlib.Core.List.{List, [], ◌∷◌, ◌++◌}
use borrow.Author.Tests.{ltb-false, eqb-true, eq-eqb, lt-ltb, le-ltb}
use Rattle.laws.specs.Tests.{Three, less, same, more, and_split, or_none, true_and_false, false_unless}
use Rattle.laws.specs.Orders.{
  WeakOrder,
  StrictOrder,
  EqualityTest,
  rising,
  falling,
  same_key,
  lexicographic,
  both_same,
  divided,
  list_before,
  rising_order,
  falling_order,
  lexicographic_order,
  strict_of_weak,
  divided_strict,
  list_before_strict,
  prefix_before,
  difference_before,
  Precedes,
  precedes,
}
use Rattle.codes.specs.Code.{Rec, forward, kinds_before, rec_before_by, rec_same, before_by}

pub rec_eq : (a b : Rec) → a.i ≡ b.i → a.j ≡ b.j → a.ki ≡ b.ki → a.c ≡ b.c → a.kj ≡ b.kj → a ≡ b
rec_eq a b p q r s t = λ x. record { i = p x; j = q x; ki = r x; c = s x; kj = t x }

-- the three labels are equal
unfoldable pub labels_same : Rec → Rec → Bool
labels_same = both_same (same_key (λ r. r.ki)) (both_same (same_key (λ r. r.c)) (same_key (λ r. r.kj)))

-- an order of the labels: any strict order whose ties have equal labels
abbrev pub LabelOrder : (Rec → Rec → Bool) → Type 0
LabelOrder labels = WeakOrder labels labels_same

pub rec_same_test : EqualityTest rec_same
unfolding rec_same
rec_same_test =
    record {
      to = λ a b p.
          let h = and_split (eqb a.i b.i && eqb a.j b.j) (eqb a.ki b.ki && (eqb a.c b.c && eqb a.kj b.kj)) p in
          let ij = and_split (eqb a.i b.i) (eqb a.j b.j) h.0 in
          let ls = and_split (eqb a.ki b.ki) (eqb a.c b.c && eqb a.kj b.kj) h.1 in
          let ck = and_split (eqb a.c b.c) (eqb a.kj b.kj) ls.1 in
          rec_eq a b (eqb-true _ _ ij.0) (eqb-true _ _ ij.1) (eqb-true _ _ ls.0) (eqb-true _ _ ck.0) (eqb-true _ _ ck.1);
      at = λ a.
          simp
          (eq-eqb a.i a.i refl, eq-eqb a.j a.j refl, eq-eqb a.ki a.ki refl, eq-eqb a.c a.c refl, eq-eqb a.kj a.kj refl);
    }

-- equal ends and equal labels make equal records
same_labels : (a b : Rec) → a.i ≡ b.i → a.j ≡ b.j → labels_same a b ≡ true → a ≡ b
unfolding labels_same both_same same_key
same_labels a b p q h =
    let ls = and_split (eqb a.ki b.ki) (eqb a.c b.c && eqb a.kj b.kj) h in
    let ck = and_split (eqb a.c b.c) (eqb a.kj b.kj) ls.1 in
    rec_eq a b p q (eqb-true _ _ ls.0) (eqb-true _ _ ck.0) (eqb-true _ _ ck.1)

same_keys :
    (a b : Rec) (k l : Rec → ℕ) → both_same (same_key k) (both_same (same_key l) labels_same) a b ≡ true
    → (k a ≡ k b → l a ≡ l b → labels_same a b ≡ true → a ≡ b) → a ≡ b
unfolding both_same same_key
same_keys a b k l h f =
    let p = and_split (eqb (k a) (k b)) (eqb (l a) (l b) && labels_same a b) h in
    let q = and_split (eqb (l a) (l b)) (labels_same a b) p.1 in
    f (eqb-true _ _ p.0) (eqb-true _ _ q.0) q.1

-- RECORDS AND CODES
module _ (labels : Rec → Rec → Bool) where
  -- two forward records: greater i first
  forward_before : Rec → Rec → Bool
  forward_before = lexicographic (falling (λ r. r.i)) (same_key (λ r. r.i)) (lexicographic (rising (λ r. r.j)) (same_key (λ r. r.j)) labels)

  -- two backward records: smaller j first
  backward_before : Rec → Rec → Bool
  backward_before = lexicographic (rising (λ r. r.j)) (same_key (λ r. r.j)) (lexicographic (rising (λ r. r.i)) (same_key (λ r. r.i)) labels)

  module _ (o : LabelOrder labels) where
    forward_strict : StrictOrder forward_before
    unfolding forward_before
    forward_strict =
        strict_of_weak _ _ (lexicographic_order _ _ _ _ (falling_order (λ r. r.i)) (lexicographic_order _ _ _ _ (rising_order (λ r. r.j)) o))
        (λ a b p. same_keys a b (λ r. r.i) (λ r. r.j) p (λ x y. same_labels a b x y))

    backward_strict : StrictOrder backward_before
    unfolding backward_before
    backward_strict =
        strict_of_weak _ _ (lexicographic_order _ _ _ _ (rising_order (λ r. r.j)) (lexicographic_order _ _ _ _ (rising_order (λ r. r.i)) o))
        (λ a b p. same_keys a b (λ r. r.j) (λ r. r.i) p (λ x y. same_labels a b y x))

    -- the order of records is strict and total
    pub rec_before_strict : StrictOrder (rec_before_by labels)
    unfolding rec_before_by forward_before backward_before divided lexicographic rising falling same_key
    rec_before_strict = divided_strict forward forward_before backward_before forward_strict backward_strict

    before_is : (xs ys : List Rec) → list_before (rec_before_by labels) rec_same xs ys ≡ before_by labels xs ys
    unfolding before_by list_before
    before_is xs [] = refl
    before_is [] (y ∷ ys) = refl
    before_is (x ∷ xs) (y ∷ ys) = rw (before_is xs ys)

    -- the order of codes is strict and total
    pub before_strict : StrictOrder (before_by labels)
    before_strict =
        let s = list_before_strict (rec_before_by labels) rec_same rec_before_strict rec_same_test in
        record {
          irrefl = λ xs p. s.irrefl xs (before_is xs xs ∙ p);
          trans = λ xs ys zs p q. sym (before_is xs zs) ∙ s.trans xs ys zs (before_is xs ys ∙ p) (before_is ys zs ∙ q);
          tri = λ xs ys. rw (← before_is xs ys, ← before_is ys xs) (s.tri xs ys);
        }

    -- a code that begins another comes before it
    pub prefix_comes_before : (xs : List Rec) (y : Rec) (ys : List Rec) → before_by labels xs (xs ++ y ∷ ys) ≡ true
    prefix_comes_before xs y ys =
        sym (before_is xs (xs ++ y ∷ ys)) ∙ prefix_before (rec_before_by labels) rec_same rec_before_strict rec_same_test xs y ys

    -- the first difference decides, whatever follows it
    pub difference_decides :
        (ps : List Rec) (x y : Rec) (xs ys : List Rec) → rec_before_by labels x y ≡ true → before_by labels (ps ++ x ∷ xs) (ps ++ y ∷ ys) ≡ true
    difference_decides ps x y xs ys h =
        sym (before_is (ps ++ x ∷ xs) (ps ++ y ∷ ys))
        ∙ difference_before (rec_before_by labels) rec_same rec_before_strict rec_same_test ps x y xs ys h

    -- why a code comes before another: it begins it, or they differ at some record
    pub why_before :
        (xs ys : List Rec) → before_by labels xs ys ≡ true → Precedes (rec_before_by labels) rec_same rec_before_strict rec_same_test xs ys
    why_before xs ys h = precedes (rec_before_by labels) rec_same rec_before_strict rec_same_test xs ys (before_is xs ys ∙ h)

    -- what is not before e, and not e, comes after it
    pub not_before : (a b : Rec) → rec_before_by labels a b ≡ false → rec_same b a ≡ false → rec_before_by labels b a ≡ true
    not_before a b f n = go (rec_before_strict.tri a b)
      where
        go : Three (rec_before_by labels a b ≡ true) (a ≡ b) (rec_before_by labels b a ≡ true) → rec_before_by labels b a ≡ true
        go (less p) = absurd (true_and_false p f)
        go (same p) = absurd (true_and_false (subst (λ (z : Rec). rec_same b z ≡ true) (sym p) (rec_same_test.at b)) n)
        go (more p) = p

    -- with a later first record a code does not come before
    pub later_not_before : (b l : Rec) (bs ls : List Rec) → rec_before_by labels b l ≡ true → before_by labels (l ∷ ls) (b ∷ bs) ≡ false
    later_not_before b l bs ls h =
        false_unless (before_by labels (l ∷ ls) (b ∷ bs))
        (λ q. before_strict.irrefl (b ∷ bs) (before_strict.trans (b ∷ bs) (l ∷ ls) (b ∷ bs) (difference_decides [] b l bs ls h) q))

    -- what is before or equal to a code that xs does not come before, xs does not come before either
    pub not_before_lower :
        (xs ys zs : List Rec) → before_by labels xs ys ≡ false → (zs ≡ ys) ⊎ (before_by labels zs ys ≡ true) → before_by labels xs zs ≡ false
    not_before_lower xs ys zs h (inl e) = rw e h
    not_before_lower xs ys zs h (inr e) = false_unless (before_by labels xs zs) (λ q. true_and_false (before_strict.trans xs zs ys q e) h)

  -- behind an equal first record the rest decides
  pub same_first : (e : Rec) (xs ys : List Rec) → before_by labels (e ∷ xs) (e ∷ ys) ≡ before_by labels xs ys
  unfolding before_by
  same_first e xs ys = rw (rec_same_test.at e)

  -- what the order says of positions alone
  pub backward_before_forward : (e l : Rec) → e.j < e.i → l.i < l.j → rec_before_by labels e l ≡ true
  unfolding rec_before_by forward
  backward_before_forward e l p q = rw (le-ltb e.i e.j (omega arith), lt-ltb l.i l.j q)

  pub backward_not_before : (e l : Rec) → e.j < e.i → l.j < l.i → rec_before_by labels e l ≡ false → l.j ≤ e.j
  unfolding rec_before_by forward
  backward_not_before e l p q b =
      ltb-false e.j l.j
      (or_none (ltb e.j l.j) _ (rw (le-ltb e.i e.j (omega arith), le-ltb l.i l.j (omega arith)) at b)).0

  pub forward_not_before : (e l : Rec) → e.i < e.j → l.i < l.j → rec_before_by labels e l ≡ false → e.i ≤ l.i
  unfolding rec_before_by forward
  forward_not_before e l p q b =
      ltb-false l.i e.i (or_none (ltb l.i e.i) _ (rw (lt-ltb e.i e.j p, lt-ltb l.i l.j q) at b)).0

-- the paper's order of labels is one
pub kinds_order : LabelOrder kinds_before
unfolding kinds_before labels_same lexicographic rising same_key both_same
kinds_order = lexicographic_order _ _ _ _ (rising_order (λ r. r.ki))
    (lexicographic_order _ _ _ _ (rising_order (λ r. r.c)) (rising_order (λ r. r.kj)))
