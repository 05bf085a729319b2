-- Rows of records read one after another: the tests of a step are `Step`, and accepted rows keep the invariant. Rests on
-- Reading. Assumes nothing.
use Rattle.std.specs.Prelude.{◌≡◌, false, ◌&&◌, ◌||◌, cond, List, [], ◌∷◌, ◌++◌, ◌⊎◌, suc, ◌+◌, ◌≤◌, ◌<◌, length, get_or}
use Rattle.std.proofs.Math.Path.{refl}
use Rattle.std.proofs.Common.{◌∙◌, arith}
use Rattle.std.proofs.Math.Bool.{Bool, true, not}
use Rattle.std.proofs.Math.Logic.{inl, inr}
use Rattle.std.proofs.Math.Dec.{ltb, leb, eqb}
use borrow.Author.Tests.{ltb-true, leb-true, eqb-true, eqb-false, not-true, lt-ltb, le-ltb, le-leb, eq-eqb, ne_eqb}
use Rattle.laws.specs.Tests.{and_split, and_both, or_cases, or_left, or_right}
use Rattle.laws.specs.Lists.{snoc, snoc_length}
use Rattle.graphs.specs.Drawing.{member}
use Rattle.graphs.specs.Cables.{mem_from_test, mem_to_test}
use Rattle.codes.specs.Code.{
  Rec,
  Reading,
  fresh,
  forward,
  end,
  second,
  forward_good,
  backward_good,
  step_good,
  kinds_match,
  cable_of,
  begun,
  stepped,
  rows_refusal,
  read_rows,
  rows_good,
  decoded,
}
use Rattle.codes.specs.Step.{Step, steps_back, steps_forward, after}
use Rattle.codes.specs.Reading.{Invariant, invariant_step, invariant_begun}

-- ONE STEP after the first: the tests are the relation
module _ (x : Reading) (v : Invariant x) (e : Rec) where
  not_fresh : eqb (length x.kinds) 0 ≡ false
  not_fresh = ne_eqb (length x.kinds) 0 (omega (arith, v.two))

  forward_from_test : forward_good x e ≡ true → get_or x.kinds e.i 256 ≡ e.ki → Step x e
  unfolding forward_good
  forward_from_test q ki =
      let s = and_split (eqb e.j (length x.kinds) && leb e.j 9) (member e.i x.path) q in
      let t = and_split (eqb e.j (length x.kinds)) (leb e.j 9) s.0 in
      steps_forward (mem_from_test e.i x.path s.1) (eqb-true e.j (length x.kinds) t.0) (leb-true e.j 9 t.1) ki

  backward_from_test : backward_good x e ≡ true → get_or x.kinds e.i 256 ≡ e.ki → get_or x.kinds e.j 256 ≡ e.kj → Step x e
  unfolding backward_good
  backward_from_test q ki kj =
      let place = eqb e.i (end x.path) && (ltb e.j e.i && member e.j x.path) in
      let choice = not (eqb e.j (second x.path)) && (eqb x.back 10 || ltb x.back e.j) in
      let s = and_split place choice q in
      let t = and_split (eqb e.i (end x.path)) (ltb e.j e.i && member e.j x.path) s.0 in
      let r = and_split (ltb e.j e.i) (member e.j x.path) t.1 in
      let z = and_split (not (eqb e.j (second x.path))) (eqb x.back 10 || ltb x.back e.j) s.1 in
      steps_back
      (record {
        is_end = eqb-true e.i (end x.path) t.0;
        down = ltb-true e.j e.i r.0;
        on_path = mem_from_test e.j x.path r.1;
        not_parent = eqb-false e.j (second x.path) (not-true _ z.0);
        rising = rise (or_cases (eqb x.back 10) (ltb x.back e.j) z.1);
      })
      ki kj
    where
      rise : (eqb x.back 10 ≡ true) ⊎ (ltb x.back e.j ≡ true) → (x.back ≡ 10) ⊎ (x.back < e.j)
      rise (inl q) = inl (eqb-true x.back 10 q)
      rise (inr q) = inr (ltb-true x.back e.j q)

  pub step_from_test : step_good x e ≡ true → kinds_match x e ≡ true → Step x e
  unfolding step_good kinds_match
  step_from_test g k = go (forward e) refl (rw not_fresh at g) (rw not_fresh at k)
    where
      first : Bool
      first = eqb (get_or x.kinds e.i 256) e.ki

      last : Bool
      last = eqb (get_or x.kinds e.j 256) e.kj

      go :
          (t : Bool) → forward e ≡ t → cond t (forward_good x e) (backward_good x e) ≡ true
          → (eqb (get_or x.kinds e.i 256) e.ki && (t || eqb (get_or x.kinds e.j 256) e.kj)) ≡ true → Step x e
      go true f q r = forward_from_test q (eqb-true (get_or x.kinds e.i 256) e.ki (and_split first true r).0)
      go false f q r =
          let s = and_split first last r in
          backward_from_test q (eqb-true (get_or x.kinds e.i 256) e.ki s.0) (eqb-true (get_or x.kinds e.j 256) e.kj s.1)

  pub step_to_test : Step x e → (step_good x e ≡ true) × (kinds_match x e ≡ true)
  unfolding step_good kinds_match forward_good backward_good forward
  step_to_test (steps_back o p q) = (
    rw (
      not_fresh,
      le-ltb e.i e.j (omega (arith, o.down)),
      eq-eqb e.i (end x.path) o.is_end,
      lt-ltb e.j e.i o.down,
      mem_to_test e.j x.path o.on_path,
      ne_eqb e.j (second x.path) o.not_parent,
    ) (rise o.rising),
    rw (
      not_fresh,
      le-ltb e.i e.j (omega (arith, o.down)),
      eq-eqb (get_or x.kinds e.i 256) e.ki p,
      eq-eqb
          (get_or x.kinds e.j 256) e.kj q,
    ),
  )
    where
      rise : (x.back ≡ 10) ⊎ (x.back < e.j) → (eqb x.back 10 || ltb x.back e.j) ≡ true
      rise (inl z) = or_left (ltb x.back e.j) (eq-eqb x.back 10 z)
      rise (inr z) = or_right (eqb x.back 10) (lt-ltb x.back e.j z)
  step_to_test (steps_forward m p q r) =
      let h = lt-ltb e.i e.j (omega (arith, v.below e.i m)) in (
        rw (not_fresh, h, eq-eqb e.j (length x.kinds) p, le-leb e.j 9 q, mem_to_test e.i x.path m),
        rw (not_fresh, h, eq-eqb (get_or x.kinds e.i 256) e.ki r),
      )

  pub stepped_is : (s : Step x e) → stepped x e ≡ after s
  unfolding stepped forward
  stepped_is (steps_back o p q) = rw (not_fresh, le-ltb e.i e.j (omega (arith, o.down)))
  stepped_is (steps_forward m p q r) = rw (not_fresh, lt-ltb e.i e.j (omega (arith, v.below e.i m)))

-- THE FIRST RECORD
pub begun_is : (e : Rec) → stepped fresh e ≡ begun e
unfolding stepped fresh
begun_is e = refl

pub begun_from_test : (e : Rec) → step_good fresh e ≡ true → (e.i ≡ 0) × (e.j ≡ 1)
unfolding step_good fresh
begun_from_test e g = let s = and_split (eqb e.i 0) (eqb e.j 1) g in (eqb-true e.i 0 s.0, eqb-true e.j 1 s.1)

pub begun_to_test : (e : Rec) → e.i ≡ 0 → e.j ≡ 1 → (step_good fresh e ≡ true) × (kinds_match fresh e ≡ true)
unfolding step_good kinds_match fresh
begun_to_test e p q = (rw (p, q), refl)

-- ROWS, one after another
pub record FirstRow (x : Reading) (r : Rec) (rs : List Rec) : Type 0 where
  pub step : step_good x r ≡ true
  pub kinds : kinds_match x r ≡ true
  pub rest : rows_refusal (stepped x r) rs ≡ 0

pub rows_cons : (x : Reading) (r : Rec) (rs : List Rec) → rows_refusal x (r ∷ rs) ≡ 0 → FirstRow x r rs
unfolding rows_refusal
rows_cons x r rs e = go (step_good x r) refl (kinds_match x r) refl e
  where
    go :
        (s : Bool) → step_good x r ≡ s → (k : Bool) → kinds_match x r ≡ k
        → cond (not s) 10 (cond (not k) 11 (rows_refusal (stepped x r) rs)) ≡ 0 → FirstRow x r rs
    go true p true q z = record { step = p; kinds = q; rest = z }
    go true p false q z = absurd (omega arith)
    go false p k q z = absurd (omega arith)

pub cons_rows : (x : Reading) (r : Rec) (rs : List Rec) → FirstRow x r rs → rows_refusal x (r ∷ rs) ≡ 0
unfolding rows_refusal
cons_rows x r rs c = rw (c.step, c.kinds) c.rest

pub rows_nil : (x : Reading) → rows_refusal x [] ≡ 0
unfolding rows_refusal
rows_nil x = refl

pub rows_divided : (x : Reading) (rs ss : List Rec) → rows_refusal x (rs ++ ss) ≡ 0 → (rows_refusal x rs ≡ 0) × (rows_refusal (read_rows x rs) ss ≡ 0)
unfolding read_rows
rows_divided x [] ss e = (rows_nil x, e)
rows_divided x (r ∷ rs) ss e =
    let c = rows_cons x r (rs ++ ss) e in
    let t = rows_divided (stepped x r) rs ss c.rest in
    (cons_rows x r rs (record { step = c.step; kinds = c.kinds; rest = t.0 }), t.1)

pub rows_join : (x : Reading) (rs ss : List Rec) → rows_refusal x rs ≡ 0 → rows_refusal (read_rows x rs) ss ≡ 0 → rows_refusal x (rs ++ ss) ≡ 0
unfolding read_rows
rows_join x [] ss e f = f
rows_join x (r ∷ rs) ss e f =
    let c = rows_cons x r rs e in
    cons_rows x r (rs ++ ss) (record { step = c.step; kinds = c.kinds; rest = rows_join (stepped x r) rs ss c.rest f })

pub read_append : (x : Reading) (rs ss : List Rec) → read_rows x (rs ++ ss) ≡ read_rows (read_rows x rs) ss
unfolding read_rows
read_append x [] ss = refl
read_append x (r ∷ rs) ss = read_append (stepped x r) rs ss

pub read_snoc : (x : Reading) (rs : List Rec) (e : Rec) → read_rows x (snoc rs e) ≡ stepped (read_rows x rs) e
read_snoc x rs e = read_append x rs (e ∷ []) ∙ one (read_rows x rs)
  where
    one : (y : Reading) → read_rows y (e ∷ []) ≡ stepped y e
    one y = unfold read_rows in refl

pub rows_one : (x : Reading) (e : Rec) → step_good x e ≡ true → kinds_match x e ≡ true → rows_refusal x (e ∷ []) ≡ 0
rows_one x e p q = cons_rows x e [] (record { step = p; kinds = q; rest = rows_nil (stepped x e) })

-- ACCEPTED ROWS keep the invariant
pub rows_keep : (x : Reading) → Invariant x → (rs : List Rec) → rows_refusal x rs ≡ 0 → Invariant (read_rows x rs)
unfolding read_rows
rows_keep x v [] e = v
rows_keep x v (r ∷ rs) e =
    let c = rows_cons x r rs e in
    let t : Step x r = step_from_test x v r c.step c.kinds in
    rows_keep (stepped x r) (rw (stepped_is x v r t) (invariant_step v t)) rs c.rest

pub rows_invariant : (r : Rec) (rs : List Rec) → rows_refusal fresh (r ∷ rs) ≡ 0 → Invariant (read_rows fresh (r ∷ rs))
unfolding read_rows
rows_invariant r rs z =
    let c = rows_cons fresh r rs z in
    let g = begun_from_test r c.step in
    rows_keep (stepped fresh r) (rw (begun_is r) (invariant_begun r g.0 g.1)) rs c.rest

-- one cable a record, accepted or not
record OneMore (x : Reading) (r : Rec) : Type 0 where
  started : 0 < length (stepped x r).kinds
  cables : length (stepped x r).cables ≡ suc (length x.cables)

one_more : (x : Reading) (r : Rec) → 0 < length x.kinds → OneMore x r
unfolding stepped
one_more x r h = go (ne_eqb (length x.kinds) 0 (λ e. omega arith)) (forward r) refl
  where
    go : eqb (length x.kinds) 0 ≡ false → (t : Bool) → forward r ≡ t → OneMore x r
    go e true f = record { started = rw (e, f, snoc_length) (omega arith); cables = rw (e, f) (snoc_length x.cables (cable_of r)) }
    go e false f = record { started = rw (e, f) h; cables = rw (e, f) (snoc_length x.cables (cable_of r)) }

more_rows : (x : Reading) (rs : List Rec) → 0 < length x.kinds → length (read_rows x rs).cables ≡ length x.cables + length rs
unfolding read_rows
more_rows x [] h = omega arith
more_rows x (r ∷ rs) h =
    let s = one_more x r h in
    omega (arith, more_rows (stepped x r) rs s.started, s.cables)

pub decoded_cables : (rs : List Rec) → length (decoded rs).cables ≡ length rs
unfolding decoded read_rows stepped fresh
decoded_cables [] = refl
decoded_cables (r ∷ rs) = more_rows _ rs (omega arith) ∙ omega arith

-- GOOD ROWS, part by part
pub record Good (rs : List Rec) : Type 0 where
  pub one : 1 ≤ length rs
  pub most : length rs ≤ 20
  pub accepted : rows_refusal fresh rs ≡ 0

pub good_from_test : (rs : List Rec) → rows_good rs ≡ true → Good rs
unfolding rows_good
good_from_test rs e =
    let s = and_split (leb 1 (length rs) && leb (length rs) 20) (eqb (rows_refusal fresh rs) 0) e in
    let t = and_split (leb 1 (length rs)) (leb (length rs) 20) s.0 in
    record { one = leb-true 1 (length rs) t.0; most = leb-true (length rs) 20 t.1; accepted = eqb-true (rows_refusal fresh rs) 0 s.1 }

pub good_to_test : (rs : List Rec) → Good rs → rows_good rs ≡ true
unfolding rows_good
good_to_test rs g =
    and_both (and_both (le-leb 1 (length rs) g.one) (le-leb (length rs) 20 g.most)) (eq-eqb (rows_refusal fresh rs) 0 g.accepted)
