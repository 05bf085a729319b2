-- The order of two records, comparison by comparison, and what it tells. Rests on the order of codes. Assumes nothing.
use Rattle.std.specs.Prelude.{◌≡◌, Bool, ◌&&◌, ◌||◌, cond, List, ℕ, ◌+◌, ◌*◌, ◌<◌, ◌≤◌, ltb, eqb, get_or}
use Rattle.std.specs.declared.cmp.Ordering.{Ordering}
use Rattle.std.specs.declared.cmp.Ordering.TheVariants.{Less, Equal, Greater}
use Rattle.std.proofs.Math.Path.{refl}
use Rattle.std.proofs.Common.{sym, ap, ap₂, ◌∙◌, arith}
use Rattle.std.proofs.Math.Bool.{true, false}
use borrow.Author.Tests.{ltb-true, eqb-true, lt-ltb, le-ltb, eq-eqb}
use Rattle.laws.specs.Tests.{true_and_false, false_unless, same_truth}
use Rattle.laws.specs.Rows.{row, row_at}
use Rattle.codes.specs.Code.{Rec, rec_in, forward, kinds_before, rec_before_by, rec_same, rec_before}
use Rattle.codes.specs.CodeOrder.{rec_eq, rec_same_test, not_before, kinds_order}
use Rattle.code_records.specs.Records.{order_of, numbers_order, then, labels_order}

-- RECORD k of a code, byte by byte
pub record_read :
    (bs : List ℕ) (k : ℕ)
    → record { i = get_or bs (5 * k) 0; j = get_or bs (5 * k + 1) 0; ki = get_or bs (5 * k + 2) 0; c = get_or bs (5 * k + 3) 0; kj = get_or bs (5 * k + 4) 0 }
    ≡ rec_in (row 5 k bs)
unfolding rec_in
record_read bs k =
    rec_eq _ _ (ap (λ (n : ℕ). get_or bs n 0) first ∙ sym (row_at 5 k bs 0 0 (omega arith))) (sym (row_at 5 k bs 1 0 (omega arith)))
    (sym (row_at 5 k bs 2 0 (omega arith))) (sym (row_at 5 k bs 3 0 (omega arith))) (sym (row_at 5 k bs 4 0 (omega arith)))
  where
    first : 5 * k ≡ 5 * k + 0
    first = omega arith

-- AN ORDER from two tests: equal, and before
abbrev decided : (same before : Bool) → Ordering
decided e l = cond e Equal (cond l Less Greater)

numbers_decided : (a b : ℕ) → numbers_order a b ≡ decided (eqb a b) (ltb a b)
numbers_decided a b = go (ltb a b) (eqb a b) refl refl
  where
    go : (p q : Bool) → ltb a b ≡ p → eqb a b ≡ q → cond p Less (cond q Equal Greater) ≡ decided q p
    go true true e f = absurd (omega (arith, ltb-true a b e, eqb-true a b f))
    go true false e f = refl
    go false true e f = refl
    go false false e f = refl

-- lexicographic: the first decides, and where it finds no difference the next
then_decided :
    (e l f m : Bool) → (e ≡ true → l ≡ false) → then (decided e l) (decided f m) ≡ decided (e && f) (l || (e && m))
then_decided true true f m n = absurd (true_and_false refl (n refl))
then_decided true false f m n = refl
then_decided false true f m n = refl
then_decided false false f m n = refl

equal_not_less : (a b : ℕ) → eqb a b ≡ true → ltb a b ≡ false
equal_not_less a b e = le-ltb a b (omega (arith, eqb-true a b e))

numbers_then :
    (a b : ℕ) (o : Ordering) (f m : Bool) → o ≡ decided f m
    → then (numbers_order a b) o ≡ decided (eqb a b && f) (ltb a b || (eqb a b && m))
numbers_then a b o f m e =
    ap₂ then (numbers_decided a b) e ∙ then_decided (eqb a b) (ltb a b) f m (equal_not_less a b)

eqb_swap : (a b : ℕ) → eqb a b ≡ eqb b a
eqb_swap a b =
    same_truth (eqb a b) (eqb b a) (λ e. eq-eqb b a (sym (eqb-true a b e))) (λ e. eq-eqb a b (sym (eqb-true b a e)))

and_assoc : (a b c : Bool) → (a && (b && c)) ≡ ((a && b) && c)
and_assoc true b c = refl
and_assoc false b c = refl

and_exchange : (a b c : Bool) → (a && (b && c)) ≡ ((b && a) && c)
and_exchange true true c = refl
and_exchange true false c = refl
and_exchange false true c = refl
and_exchange false false c = refl

module _ (a b : Rec) where
  -- the labels are equal
  labels_equal : Bool
  labels_equal = eqb a.ki b.ki && (eqb a.c b.c && eqb a.kj b.kj)

  labels_decided : labels_order a b ≡ decided labels_equal (kinds_before a b)
  unfolding labels_order kinds_before labels_equal
  labels_decided =
      numbers_then a.ki b.ki _ _ _ (numbers_then a.c b.c _ _ _ (numbers_decided a.kj b.kj))

  -- TWO FORWARD: greater i first
  pub order_forward :
      a.i < a.j → b.i < b.j
      → then (numbers_order b.i a.i) (then (numbers_order a.j b.j) (labels_order a b)) ≡ order_of a b
  unfolding order_of rec_before_by rec_same forward labels_equal
  order_forward p q =
      rw (lt-ltb a.i a.j p, lt-ltb b.i b.j q, ← and_assoc (eqb a.i b.i), eqb_swap a.i b.i)
      (numbers_then b.i a.i _ _ _ (numbers_then a.j b.j _ _ _ labels_decided))

  -- TWO BACKWARD: smaller j first
  pub order_backward :
      a.j ≤ a.i → b.j ≤ b.i
      → then (numbers_order a.j b.j) (then (numbers_order a.i b.i) (labels_order a b)) ≡ order_of a b
  unfolding order_of rec_before_by rec_same forward labels_equal
  order_backward p q =
      rw (le-ltb a.i a.j p, le-ltb b.i b.j q, ← and_exchange (eqb a.j b.j))
      (numbers_then a.j b.j _ _ _ (numbers_then a.i b.i _ _ _ labels_decided))

  -- BACKWARD BEFORE FORWARD
  differs : (forward a ≡ forward b → ⊥) → rec_same a b ≡ false
  differs n = false_unless (rec_same a b) (λ e. n (ap forward (rec_same_test.to a b e)))

  pub order_backward_forward : a.j ≤ a.i → b.i < b.j → Less ≡ order_of a b
  unfolding order_of rec_before_by forward
  order_backward_forward p q =
      rw (differs (λ e. true_and_false (lt-ltb b.i b.j q) (sym e ∙ le-ltb a.i a.j p)), le-ltb a.i a.j p, lt-ltb b.i b.j q)

  pub order_forward_backward : a.i < a.j → b.j ≤ b.i → Greater ≡ order_of a b
  unfolding order_of rec_before_by forward
  order_forward_backward p q =
      rw (differs (λ e. true_and_false (lt-ltb a.i a.j p) (e ∙ le-ltb b.i b.j q)), lt-ltb a.i a.j p, le-ltb b.i b.j q)

  -- WHAT THE ORDER TELLS
  data Told : Ordering → Type 0 where
    told_before : rec_before a b ≡ true → Told Less
    told_equal : a ≡ b → Told Equal
    told_after : rec_before b a ≡ true → Told Greater

  differs_back : rec_same a b ≡ false → rec_same b a ≡ false
  differs_back p =
      false_unless (rec_same b a) (λ e. true_and_false (rec_same_test.at a) (rw (rec_same_test.to b a e) at p))

  told : (o : Ordering) → order_of a b ≡ o → Told o
  unfolding order_of
  told o e = rw (← e) (go (rec_same a b) (rec_before a b) refl refl)
    where
      go : (e l : Bool) → rec_same a b ≡ e → rec_before a b ≡ l → Told (decided e l)
      go true l p q = told_equal (rec_same_test.to a b p)
      go false true p q = told_before q
      go false false p q = told_after (not_before kinds_before kinds_order a b q (differs_back p))

  pub order_before : order_of a b ≡ Less → rec_before a b ≡ true
  order_before e = go (told Less e)
    where
      go : Told Less → rec_before a b ≡ true
      go (told_before p) = p

  pub order_equal : order_of a b ≡ Equal → a ≡ b
  order_equal e = go (told Equal e)
    where
      go : Told Equal → a ≡ b
      go (told_equal p) = p

  pub order_after : order_of a b ≡ Greater → rec_before b a ≡ true
  order_after e = go (told Greater e)
    where
      go : Told Greater → rec_before b a ≡ true
      go (told_after p) = p
