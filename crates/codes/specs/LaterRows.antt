-- What later rows leave of a reading: no device goes or gets another kind, the rightmost path takes up none that it has left, and while no device
-- comes, backward records rise. Rests on Step, Reading and ReadRows. Assumes nothing.
use Rattle.std.specs.Prelude.{◌≡◌, refl, Bool, true, false, cond, List, [], ◌∷◌, ◌⊎◌, ℕ, ◌≤◌, ◌<◌, eqb, length, get_or}
use Rattle.std.proofs.Common.{sym, subst, ◌∙◌, inl, inr, arith, eqb-true}
use Rattle.laws.specs.Lists.{Mem, snoc_length, snoc_old}
use Rattle.codes.specs.Code.{Rec, Reading, cut_to, forwarded, stepped, rows_refusal, read_rows}
use Rattle.codes.specs.Step.{Step, steps_back, steps_forward, after, Falling, cut_within}
use Rattle.codes.specs.Reading.{Invariant, invariant_step}
use Rattle.codes.specs.ReadRows.{step_from_test, stepped_is, rows_cons}

pub record Later (x y : Reading) : Type 0 where
  pub more : length x.kinds ≤ length y.kinds
  pub kinds : (a : ℕ) → a < length x.kinds → get_or y.kinds a 256 ≡ get_or x.kinds a 256
  pub on_path : (a : ℕ) → Mem a y.path → a < length x.kinds → Mem a x.path
  pub rising : length y.kinds ≡ length x.kinds → (x.back ≡ 10 → ⊥) → (y.back ≡ 10 → ⊥) × (x.back ≤ y.back)

later_same : (x : Reading) → Later x x
later_same x = record { more = omega arith; kinds = λ a l. refl; on_path = λ a m l. m; rising = λ e n. (n, omega arith) }

later_then : {x y z : Reading} → Later x y → Later y z → Later x z
later_then {x} {y} {z} p q =
    record {
      more = omega (arith, p.more, q.more);
      kinds = λ a l. q.kinds a (omega (arith, p.more)) ∙ p.kinds a l;
      on_path = λ a m l. p.on_path a (q.on_path a m (omega (arith, p.more))) l;
      rising = λ e n.
          let s = p.rising (omega (arith, p.more, q.more)) n in
          let t = q.rising (omega (arith, p.more, q.more)) s.0 in
          (t.0, omega (arith, s.1, t.1));
    }

pub later_step : (x : Reading) → Invariant x → (s : Rec) (t : Step x s) → Later x (after t)
later_step x v s (steps_back o y z) =
    record {
      more = omega arith;
      kinds = λ a l. refl;
      on_path = λ a m l. m;
      rising = λ e n. (omega (arith, v.ten, v.below s.j o.on_path), go n o.rising);
    }
  where
    go : (x.back ≡ 10 → ⊥) → (x.back ≡ 10) ⊎ (x.back < s.j) → x.back ≤ s.j
    go n (inl h) = absurd (n h)
    go n (inr h) = omega arith
later_step x v s (steps_forward o j k y) =
    record {
      more = omega (arith, snoc_length x.kinds s.kj);
      kinds = λ a l. snoc_old 256 x.kinds s.kj a l;
      on_path = path;
      rising = λ e n. absurd (omega (arith, snoc_length x.kinds s.kj));
    }
  where
    path : (a : ℕ) → Mem a (s.j ∷ cut_to s.i x.path) → a < length x.kinds → Mem a x.path
    path a (Mem.here h) l = absurd (omega arith)
    path a (Mem.there h) l = cut_within s.i x.path h

pub later_rows : (x : Reading) → Invariant x → (ss : List Rec) → rows_refusal x ss ≡ 0 → Later x (read_rows x ss)
unfolding read_rows
later_rows x v [] ok = later_same x
later_rows x v (s ∷ ss) ok =
    later_then (subst (Later x) (sym is) (later_step x v s t))
    (later_rows (stepped x s) (subst Invariant (sym is) (invariant_step v t)) ss c.rest)
  where
    c : Rattle.codes.specs.ReadRows.FirstRow x s ss
    c = rows_cons x s ss ok

    t : Step x s
    t = step_from_test x v s c.step c.kinds

    is : stepped x s ≡ after t
    is = stepped_is x v s t

-- what is left of a path that is cut back to i is at most i
pub cut_low : (i : ℕ) (ps : List ℕ) {q : ℕ} → Falling ps → Mem q (cut_to i ps) → q ≤ i
unfolding cut_to Falling
cut_low i [] f m = elim m [ ]
cut_low i (p ∷ ps) {q} f m = go (eqb p i) refl (λ l. cut_low i ps f.1 l) m
  where
    go : (t : Bool) → eqb p i ≡ t → (Mem q (cut_to i ps) → q ≤ i) → Mem q (cond t (p ∷ ps) (cut_to i ps)) → q ≤ i
    go true e r (Mem.here l) = omega (arith, eqb-true p i e)
    go true e r (Mem.there l) = omega (arith, eqb-true p i e, f.0 q l)
    go false e r l = r l

-- A DEVICE THAT THE PATH LEAVES by a forward record from below it is on no later path
pub path_left :
    (x : Reading) → Invariant x → (s : Rec) (o : Mem s.i x.path) → s.j ≡ length x.kinds → (y : Reading) → Later (forwarded x s) y
    → (a : ℕ) → Mem a y.path → a < length x.kinds → a ≤ s.i
path_left x v s o j y t a m l = go (t.on_path a m (omega (arith, snoc_length x.kinds s.kj)))
  where
    go : Mem a (s.j ∷ cut_to s.i x.path) → a ≤ s.i
    go (Mem.here h) = absurd (omega arith)
    go (Mem.there h) = cut_low s.i x.path v.falling h
