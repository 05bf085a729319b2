-- Strict total orders given by tests: by a key, one order after another, on lists. Assumes nothing.
use Rattle.std.specs.Prelude.{◌≡◌, Bool, ◌&&◌, ◌||◌, not, ◌⊎◌, ℕ, ltb, eqb}
use Rattle.std.proofs.Math.Path.{refl}
use Rattle.std.proofs.Common.{sym, ap, ap₂, ◌∙◌, true≢false, arith}
use Rattle.std.proofs.Math.Bool.{true, false, cond, false≢true}
use mathlib.Core.List.{List, [], ◌∷◌, ◌++◌}
use Rattle.std.proofs.Math.Logic.{inl, inr}
use borrow.Author.Tests.{ltb-true, eqb-true, lt-ltb, eq-eqb}
use Rattle.laws.specs.Tests.{
  Three,
  less,
  same,
  more,
  three_reversed,
  compare_numbers,
  or_cases,
  or_left,
  or_right,
  and_split,
  and_both,
}

-- AN ORDER with a test of sameness that need not be equality
pub record WeakOrder {A : Type 0} (lt eq : A → A → Bool) : Type 0 where
  pub eq_sym : (a b : A) → eq a b ≡ true → eq b a ≡ true
  pub eq_trans : (a b c : A) → eq a b ≡ true → eq b c ≡ true → eq a c ≡ true
  pub irrefl : (a : A) → lt a a ≡ true → ⊥
  pub trans : (a b c : A) → lt a b ≡ true → lt b c ≡ true → lt a c ≡ true
  pub left : (a b c : A) → eq a b ≡ true → lt b c ≡ true → lt a c ≡ true
  pub right : (a b c : A) → lt a b ≡ true → eq b c ≡ true → lt a c ≡ true
  pub tri : (a b : A) → Three (lt a b ≡ true) (eq a b ≡ true) (lt b a ≡ true)

-- A STRICT TOTAL ORDER
pub record StrictOrder {A : Type 0} (lt : A → A → Bool) : Type 0 where
  pub irrefl : (a : A) → lt a a ≡ true → ⊥
  pub trans : (a b c : A) → lt a b ≡ true → lt b c ≡ true → lt a c ≡ true
  pub tri : (a b : A) → Three (lt a b ≡ true) (a ≡ b) (lt b a ≡ true)

module _ {A : Type 0} where
  unfoldable pub rising : (A → ℕ) → A → A → Bool
  rising k a b = ltb (k a) (k b)

  unfoldable pub falling : (A → ℕ) → A → A → Bool
  falling k a b = rising k b a

  unfoldable pub same_key : (A → ℕ) → A → A → Bool
  same_key k a b = eqb (k a) (k b)

  unfoldable pub lexicographic : (lt eq lt2 : A → A → Bool) → A → A → Bool
  lexicographic lt eq lt2 a b = lt a b || (eq a b && lt2 a b)

  unfoldable pub both_same : (eq eq2 : A → A → Bool) → A → A → Bool
  both_same eq eq2 a b = eq a b && eq2 a b

  pub rising_order : (k : A → ℕ) → WeakOrder (rising k) (same_key k)
  unfolding rising same_key
  rising_order k =
      record {
        eq_sym = λ a b p. eq-eqb (k b) (k a) (omega (arith, eqb-true));
        eq_trans = λ a b c p q. eq-eqb (k a) (k c) (omega (arith, eqb-true));
        irrefl = λ a p. omega (arith, ltb-true);
        trans = λ a b c p q. lt-ltb (k a) (k c) (omega (arith, ltb-true));
        left = λ a b c p q. lt-ltb (k a) (k c) (omega (arith, eqb-true, ltb-true));
        right = λ a b c p q. lt-ltb (k a) (k c) (omega (arith, eqb-true, ltb-true));
        tri = λ a b. compare_numbers (k a) (k b);
      }

  -- the other way round
  pub reversed_order : (lt eq : A → A → Bool) → WeakOrder lt eq → WeakOrder (λ a b. lt b a) eq
  reversed_order lt eq o =
      record {
        eq_sym = o.eq_sym;
        eq_trans = o.eq_trans;
        irrefl = o.irrefl;
        trans = λ a b c p q. o.trans c b a q p;
        left = λ a b c p q. o.right c b a q (o.eq_sym a b p);
        right = λ a b c p q. o.left c b a (o.eq_sym b c q) p;
        tri = λ a b. three_reversed (o.tri a b);
      }

  pub falling_order : (k : A → ℕ) → WeakOrder (falling k) (same_key k)
  unfolding falling
  falling_order k = reversed_order (rising k) (same_key k) (rising_order k)

  -- another test of the same sameness
  pub order_by_other_sameness : (lt eq eq2 : A → A → Bool) → ((a b : A) → eq a b ≡ eq2 a b) → WeakOrder lt eq → WeakOrder lt eq2
  order_by_other_sameness lt eq eq2 e o =
      record {
        eq_sym = λ a b p. sym (e b a) ∙ o.eq_sym a b (e a b ∙ p);
        eq_trans = λ a b c p q. sym (e a c) ∙ o.eq_trans a b c (e a b ∙ p) (e b c ∙ q);
        irrefl = o.irrefl;
        trans = o.trans;
        left = λ a b c p q. o.left a b c (e a b ∙ p) q;
        right = λ a b c p q. o.right a b c p (e b c ∙ q);
        tri = λ a b. rw (← e a b) (o.tri a b);
      }

  module _ (lt eq lt2 eq2 : A → A → Bool) (o : WeakOrder lt eq) (o2 : WeakOrder lt2 eq2) where
    Split : A → A → Type 0
    Split a b = (lt a b ≡ true) ⊎ ((eq a b ≡ true) × (lt2 a b ≡ true))

    split : (a b : A) → lexicographic lt eq lt2 a b ≡ true → Split a b
    unfolding lexicographic Split
    split a b p = go (or_cases (lt a b) (eq a b && lt2 a b) p)
      where
        go : (lt a b ≡ true) ⊎ ((eq a b && lt2 a b) ≡ true) → (lt a b ≡ true) ⊎ ((eq a b ≡ true) × (lt2 a b ≡ true))
        go (inl q) = inl q
        go (inr q) = inr (and_split (eq a b) (lt2 a b) q)

    join : (a b : A) → Split a b → lexicographic lt eq lt2 a b ≡ true
    unfolding lexicographic Split
    join a b (inl p) = or_left (eq a b && lt2 a b) p
    join a b (inr p) = or_right (lt a b) (and_both p.0 p.1)

    part : (a b : A) → both_same eq eq2 a b ≡ true → (eq a b ≡ true) × (eq2 a b ≡ true)
    unfolding both_same
    part a b p = and_split (eq a b) (eq2 a b) p

    pack : (a b : A) → eq a b ≡ true → eq2 a b ≡ true → both_same eq eq2 a b ≡ true
    unfolding both_same
    pack a b p q = and_both p q

    lex_trans : (a b c : A) → Split a b → Split b c → Split a c
    unfolding Split
    lex_trans a b c (inl p) (inl q) = inl (o.trans a b c p q)
    lex_trans a b c (inl p) (inr q) = inl (o.right a b c p q.0)
    lex_trans a b c (inr p) (inl q) = inl (o.left a b c p.0 q)
    lex_trans a b c (inr p) (inr q) = inr (o.eq_trans a b c p.0 q.0, o2.trans a b c p.1 q.1)

    lex_left : (a b c : A) → eq a b ≡ true → eq2 a b ≡ true → Split b c → Split a c
    unfolding Split
    lex_left a b c p r (inl q) = inl (o.left a b c p q)
    lex_left a b c p r (inr q) = inr (o.eq_trans a b c p q.0, o2.left a b c r q.1)

    lex_right : (a b c : A) → Split a b → eq b c ≡ true → eq2 b c ≡ true → Split a c
    unfolding Split
    lex_right a b c (inl q) p r = inl (o.right a b c q p)
    lex_right a b c (inr q) p r = inr (o.eq_trans a b c q.0 p, o2.right a b c q.1 r)

    lex_irrefl : (a : A) → Split a a → ⊥
    unfolding Split
    lex_irrefl a (inl p) = o.irrefl a p
    lex_irrefl a (inr p) = o2.irrefl a p.1

    lex_tri : (a b : A) → Three (lexicographic lt eq lt2 a b ≡ true) (both_same eq eq2 a b ≡ true) (lexicographic lt eq lt2 b a ≡ true)
    unfolding Split
    lex_tri a b = go (o.tri a b)
      where
        next : eq a b ≡ true → Three (lt2 a b ≡ true) (eq2 a b ≡ true) (lt2 b a ≡ true)
            → Three (lexicographic lt eq lt2 a b ≡ true) (both_same eq eq2 a b ≡ true) (lexicographic lt eq lt2 b a ≡ true)
        next e (less p) = less (join a b (inr (e, p)))
        next e (same p) = same (pack a b e p)
        next e (more p) = more (join b a (inr (o.eq_sym a b e, p)))

        go : Three (lt a b ≡ true) (eq a b ≡ true) (lt b a ≡ true)
            → Three (lexicographic lt eq lt2 a b ≡ true) (both_same eq eq2 a b ≡ true) (lexicographic lt eq lt2 b a ≡ true)
        go (less p) = less (join a b (inl p))
        go (same e) = next e (o2.tri a b)
        go (more p) = more (join b a (inl p))

    pub lexicographic_order : WeakOrder (lexicographic lt eq lt2) (both_same eq eq2)
    lexicographic_order =
        record {
          eq_sym = λ a b p. pack b a (o.eq_sym a b (part a b p).0) (o2.eq_sym a b (part a b p).1);
          eq_trans = λ a b c p q. pack a c (o.eq_trans a b c (part a b p).0 (part b c q).0) (o2.eq_trans a b c (part a b p).1 (part b c q).1);
          irrefl = λ a p. lex_irrefl a (split a a p);
          trans = λ a b c p q. join a c (lex_trans a b c (split a b p) (split b c q));
          left = λ a b c p q. join a c (lex_left a b c (part a b p).0 (part a b p).1 (split b c q));
          right = λ a b c p q. join a c (lex_right a b c (split a b p) (part b c q).0 (part b c q).1);
          tri = lex_tri;
        }

module _ {A : Type 0} where
  pub strict_of_weak : (lt eq : A → A → Bool) → WeakOrder lt eq → ((a b : A) → eq a b ≡ true → a ≡ b) → StrictOrder lt
  strict_of_weak lt eq o to_eq =
      record { irrefl = o.irrefl; trans = o.trans; tri = λ a b. go a b (o.tri a b) }
    where
      go : (a b : A) → Three (lt a b ≡ true) (eq a b ≡ true) (lt b a ≡ true) → Three (lt a b ≡ true) (a ≡ b) (lt b a ≡ true)
      go a b (less p) = less p
      go a b (same p) = same (to_eq a b p)
      go a b (more p) = more p

  -- those that fail a test come before those that pass it
  unfoldable pub divided : (A → Bool) → (f g : A → A → Bool) → A → A → Bool
  divided t f g a b = cond (t a) (cond (t b) (f a b) false) (cond (t b) true (g a b))

  pub divided_strict : (t : A → Bool) (f g : A → A → Bool) → StrictOrder f → StrictOrder g → StrictOrder (divided t f g)
  unfolding divided
  divided_strict t f g s r =
      record {
        irrefl = λ a. go₁ a (t a);
        trans = λ a b c. go₂ a b c (t a) (t b) (t c);
        tri = λ a b. go₃ a b (t a) (t b);
      }
    where
      go₁ : (a : A) (x : Bool) → cond x (cond x (f a a) false) (cond x true (g a a)) ≡ true → ⊥
      go₁ a true h = s.irrefl a h
      go₁ a false h = r.irrefl a h

      go₂ : (a b c : A) (x y z : Bool) → cond x (cond y (f a b) false) (cond y true (g a b)) ≡ true
          → cond y (cond z (f b c) false) (cond z true (g b c)) ≡ true → cond x (cond z (f a c) false) (cond z true (g a c)) ≡ true
      go₂ a b c true true true p q = s.trans a b c p q
      go₂ a b c true true false p q = q
      go₂ a b c true false z p q = absurd (false≢true p)
      go₂ a b c false true true p q = refl
      go₂ a b c false true false p q = absurd (false≢true q)
      go₂ a b c false false true p q = refl
      go₂ a b c false false false p q = r.trans a b c p q

      go₃ : (a b : A) (x y : Bool)
          → Three (cond x (cond y (f a b) false) (cond y true (g a b)) ≡ true) (a ≡ b) (cond y (cond x (f b a) false) (cond x true (g b a)) ≡ true)
      go₃ a b true true = s.tri a b
      go₃ a b true false = more refl
      go₃ a b false true = less refl
      go₃ a b false false = r.tri a b

  -- LISTS: at the first element that differs; a list that begins another comes before it
  unfoldable pub list_before : (lt eq : A → A → Bool) → List A → List A → Bool
  list_before lt eq xs [] = false
  list_before lt eq [] (b ∷ ys) = true
  list_before lt eq (a ∷ xs) (b ∷ ys) = cond (eq a b) (list_before lt eq xs ys) (lt a b)

  pub record EqualityTest (eq : A → A → Bool) : Type 0 where
    pub to : (a b : A) → eq a b ≡ true → a ≡ b
    pub at : (a : A) → eq a a ≡ true

  module _ (lt eq : A → A → Bool) (s : StrictOrder lt) (e : EqualityTest eq) where
    list_before_cons :
        (a b : A) (xs ys : List A) → list_before lt eq (a ∷ xs) (b ∷ ys) ≡ true → (lt a b ≡ true) ⊎ ((a ≡ b) × (list_before lt eq xs ys ≡ true))
    unfolding list_before
    list_before_cons a b xs ys h = go (eq a b) refl h
      where
        go :
            (x : Bool) → eq a b ≡ x → cond x (list_before lt eq xs ys) (lt a b) ≡ true
            → (lt a b ≡ true) ⊎ ((a ≡ b) × (list_before lt eq xs ys ≡ true))
        go true p q = inr (e.to a b p, q)
        go false p q = inl q

    pub head_before : (a b : A) (xs ys : List A) → lt a b ≡ true → list_before lt eq (a ∷ xs) (b ∷ ys) ≡ true
    unfolding list_before
    head_before a b xs ys h = go (eq a b) refl
      where
        go : (x : Bool) → eq a b ≡ x → cond x (list_before lt eq xs ys) (lt a b) ≡ true
        go true p = absurd (s.irrefl b (rw (e.to a b p) at h))
        go false p = h

    pub head_same : (a b : A) (xs ys : List A) → a ≡ b → list_before lt eq xs ys ≡ true → list_before lt eq (a ∷ xs) (b ∷ ys) ≡ true
    unfolding list_before
    head_same a b xs ys p h = rw (← p, e.at a) h

    list_before_irrefl : (xs : List A) → list_before lt eq xs xs ≡ true → ⊥
    unfolding list_before
    list_before_irrefl [] h = false≢true h
    list_before_irrefl (a ∷ xs) h = list_before_irrefl xs (rw (e.at a) at h)

    list_before_trans : (xs ys zs : List A) → list_before lt eq xs ys ≡ true → list_before lt eq ys zs ≡ true → list_before lt eq xs zs ≡ true
    unfolding list_before
    list_before_trans xs ys [] p q = absurd (false≢true q)
    list_before_trans xs [] (z ∷ zs) p q = absurd (false≢true p)
    list_before_trans [] (y ∷ ys) (z ∷ zs) p q = refl
    list_before_trans (x ∷ xs) (y ∷ ys) (z ∷ zs) p q = go (list_before_cons x y xs ys p) (list_before_cons y z ys zs q) (list_before_trans xs ys zs)
      where
        go : (lt x y ≡ true) ⊎ ((x ≡ y) × (list_before lt eq xs ys ≡ true)) → (lt y z ≡ true) ⊎ ((y ≡ z) × (list_before lt eq ys zs ≡ true))
            → (list_before lt eq xs ys ≡ true → list_before lt eq ys zs ≡ true → list_before lt eq xs zs ≡ true)
            → list_before lt eq (x ∷ xs) (z ∷ zs) ≡ true
        go (inl a) (inl b) ih = head_before x z xs zs (s.trans x y z a b)
        go (inl a) (inr b) ih = head_before x z xs zs (rw b.0 at a)
        go (inr a) (inl b) ih = head_before x z xs zs (rw a.0 b)
        go (inr a) (inr b) ih = head_same x z xs zs (a.0 ∙ b.0) (ih a.1 b.1)

    list_before_tri : (xs ys : List A) → Three (list_before lt eq xs ys ≡ true) (xs ≡ ys) (list_before lt eq ys xs ≡ true)
    unfolding list_before
    list_before_tri [] [] = same refl
    list_before_tri [] (y ∷ ys) = less refl
    list_before_tri (x ∷ xs) [] = more refl
    list_before_tri (x ∷ xs) (y ∷ ys) = go (s.tri x y) (list_before_tri xs ys)
      where
        go : Three (lt x y ≡ true) (x ≡ y) (lt y x ≡ true) → Three (list_before lt eq xs ys ≡ true) (xs ≡ ys) (list_before lt eq ys xs ≡ true)
            → Three (list_before lt eq (x ∷ xs) (y ∷ ys) ≡ true) (x ∷ xs ≡ y ∷ ys) (list_before lt eq (y ∷ ys) (x ∷ xs) ≡ true)
        go (less p) ih = less (head_before x y xs ys p)
        go (more p) ih = more (head_before y x ys xs p)
        go (same p) (less q) = less (head_same x y xs ys p q)
        go (same p) (same q) = same (ap₂ ◌∷◌ p q)
        go (same p) (more q) = more (head_same y x ys xs (sym p) q)

    pub list_before_strict : StrictOrder (list_before lt eq)
    list_before_strict = record { irrefl = list_before_irrefl; trans = list_before_trans; tri = list_before_tri }

    -- a proper beginning comes before; the first difference decides, whatever follows it
    pub prefix_before : (xs : List A) (y : A) (ys : List A) → list_before lt eq xs (xs ++ y ∷ ys) ≡ true
    unfolding list_before
    prefix_before [] y ys = refl
    prefix_before (x ∷ xs) y ys = head_same x x xs (xs ++ y ∷ ys) refl (prefix_before xs y ys)

    pub difference_before : (ps : List A) (x y : A) (xs ys : List A) → lt x y ≡ true → list_before lt eq (ps ++ x ∷ xs) (ps ++ y ∷ ys) ≡ true
    difference_before [] x y xs ys h = head_before x y xs ys h
    difference_before (p ∷ ps) x y xs ys h = head_same p p (ps ++ x ∷ xs) (ps ++ y ∷ ys) refl (difference_before ps x y xs ys h)

    -- why a list comes before another
    pub data Precedes (xs ys : List A) : Type 0 where
      is_prefix : (z : A) (zs : List A) → ys ≡ xs ++ z ∷ zs → Precedes xs ys
      differs_at : (ps : List A) (x y : A) (us vs : List A) → xs ≡ ps ++ x ∷ us → ys ≡ ps ++ y ∷ vs → lt x y ≡ true → Precedes xs ys

    pub precedes : (xs ys : List A) → list_before lt eq xs ys ≡ true → Precedes xs ys
    unfolding list_before
    precedes xs [] h = absurd (false≢true h)
    precedes [] (y ∷ ys) h = is_prefix y ys refl
    precedes (x ∷ xs) (y ∷ ys) h = go (list_before_cons x y xs ys h) (precedes xs ys)
      where
        next : x ≡ y → Precedes xs ys → Precedes (x ∷ xs) (y ∷ ys)
        next p (is_prefix z zs q) = is_prefix z zs (ap₂ ◌∷◌ (sym p) q)
        next p (differs_at ps a b us vs q r l) = differs_at (x ∷ ps) a b us vs (ap (λ (l : List A). x ∷ l) q) (ap₂ ◌∷◌ (sym p) r) l

        go :
            (lt x y ≡ true) ⊎ ((x ≡ y) × (list_before lt eq xs ys ≡ true)) → (list_before lt eq xs ys ≡ true → Precedes xs ys)
            → Precedes (x ∷ xs) (y ∷ ys)
        go (inl l) ih = differs_at [] x y xs ys refl refl l
        go (inr p) ih = next p.0 (ih p.1)
