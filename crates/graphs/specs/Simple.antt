-- Refusals 4, 5 and 6 leave exactly the simple graphs; a pair of them is joined by one kind. Rests on Cables and Graph.
-- Assumes nothing.
use Rattle.std.specs.Prelude.{◌≡◌, Bool, ◌||◌, List, [], ◌∷◌, ◌⊎◌, ℕ, ◌<◌}
use Rattle.std.proofs.Math.Path.{refl}
use Rattle.std.proofs.Common.{sym, ◌∙◌, inl, inr, arith}
use Rattle.std.proofs.Math.Bool.{true, false, cond}
use Rattle.std.proofs.Math.Dec.{leb, eqb}
use borrow.Author.Tests.{leb-false, eqb-false, lt-leb, ne_eqb}
use Rattle.laws.specs.Tests.{or_none, false_unless, true_and_false}
use Rattle.laws.specs.Lists.{snoc}
use Rattle.graphs.specs.Drawing.{Cable, Drawing, devices, joined_by, cable_refusal}
use Rattle.graphs.specs.Cables.{along, against, Has, has_flip, has_eq, has_first, has_front, has_last, Last, last_cases, has_between, joined_from_test, joined_to_test}
use Rattle.graphs.specs.Graph.{Distinct, Simple}

-- NO PAIR TWICE
-- a pair is joined by one kind
pub distinct_single : (cs : List Cable) → Distinct cs → (u v k l : ℕ) → Has u v k cs → Has u v l cs → k ≡ l
unfolding Distinct
distinct_single [] n u v k l h g = elim h [ ]
distinct_single (c ∷ cs) n u v k l (Has.here i p) (Has.here j q) = sym p ∙ q
distinct_single (c ∷ cs) n u v k l (Has.here i p) (Has.there g) = absurd (n.0 l (has_between i g))
distinct_single (c ∷ cs) n u v k l (Has.there h) (Has.here j q) = absurd (n.0 k (has_between j h))
distinct_single (c ∷ cs) n u v k l (Has.there h) (Has.there g) = distinct_single cs n.1 u v k l h g

-- one more cable, between a pair not joined so far
pub distinct_snoc : (cs : List Cable) (c : Cable) → Distinct cs → ((k : ℕ) → Has c.a c.b k cs → ⊥) → Distinct (snoc cs c)
unfolding Distinct
distinct_snoc [] c n new = (λ k h. elim h [ ], tt)
distinct_snoc (d ∷ cs) c n new = (λ k h. apart k (last_cases cs h), distinct_snoc cs c n.1 (λ k h. new k (Has.there h)))
  where
    apart : (k : ℕ) → Has d.a d.b k cs ⊎ Last d.a d.b k c → ⊥
    apart k (inl h) = n.0 k h
    apart k (inr l) = new d.kind (has_between l.joins (has_first d cs))

-- ONE CABLE
-- 4 an end is not below n; 5 both ends are equal; 6 the pair is joined by an earlier cable: none of them
record Fresh (n : ℕ) (earlier : List Cable) (c : Cable) : Type 0 where
  a_below : c.a < n
  b_below : c.b < n
  differ : c.a ≡ c.b → ⊥
  unjoined : (k : ℕ) → Has c.a c.b k earlier → ⊥

module _ (n : ℕ) (bs : List Cable) (c : Cable) (cs : List Cable) where
  fresh_from_test : cable_refusal n bs (c ∷ cs) ≡ 0 → Fresh n bs c × (cable_refusal n (snoc bs c) cs ≡ 0)
  unfolding cable_refusal
  fresh_from_test e = go (leb n c.a || leb n c.b) refl (eqb c.a c.b) refl (joined_by c.a c.b bs) refl e
    where
      go : (x : Bool) → (leb n c.a || leb n c.b) ≡ x → (y : Bool) → eqb c.a c.b ≡ y → (z : Bool) → joined_by c.a c.b bs ≡ z
          → cond {A = ℕ} x 4 (cond y 5 (cond z 6 (cable_refusal n (snoc bs c) cs))) ≡ 0
          → Fresh n bs c × (cable_refusal n (snoc bs c) cs ≡ 0)
      go true p y q z r t = absurd (omega arith)
      go false p true q z r t = absurd (omega arith)
      go false p false q true r t = absurd (omega arith)
      go false p false q false r t =
          let low = or_none (leb n c.a) (leb n c.b) p in (
            record {
              a_below = leb-false n c.a low.0;
              b_below = leb-false n c.b low.1;
              differ = eqb-false c.a c.b q;
              unjoined = λ k h. true_and_false (joined_to_test bs h) r;
            },
            t,
          )

  fresh_to_test : Fresh n bs c → cable_refusal n (snoc bs c) cs ≡ 0 → cable_refusal n bs (c ∷ cs) ≡ 0
  unfolding cable_refusal
  fresh_to_test f e = rw (lt-leb n c.a f.a_below, lt-leb n c.b f.b_below, ne_eqb c.a c.b f.differ, new) e
    where
      new : joined_by c.a c.b bs ≡ false
      new = false_unless (joined_by c.a c.b bs) (λ t. let j = joined_from_test c.a c.b bs t in f.unjoined j.0 j.1)

-- ALL CABLES, after earlier ones
record SimpleAfter (n : ℕ) (earlier cs : List Cable) : Type 0 where
  ends : (u v k : ℕ) → Has u v k cs → u < n
  loopless : (u k : ℕ) → Has u u k cs → ⊥
  distinct : Distinct cs
  apart : (u v k l : ℕ) → Has u v k cs → Has u v l earlier → ⊥

module _ (n : ℕ) (bs : List Cable) (c : Cable) (cs : List Cable) where
  simple_cons : Fresh n bs c → SimpleAfter n (snoc bs c) cs → SimpleAfter n bs (c ∷ cs)
  unfolding Distinct
  simple_cons f s =
      record {
        ends = ends;
        loopless = loopless;
        distinct = (λ k h. s.apart c.a c.b k c.kind h (has_last bs (along refl refl) refl), s.distinct);
        apart = apart;
      }
    where
      ends : (u v k : ℕ) → Has u v k (c ∷ cs) → u < n
      ends u v k (Has.here (along p q) e) = omega (arith, f.a_below)
      ends u v k (Has.here (against p q) e) = omega (arith, f.b_below)
      ends u v k (Has.there h) = s.ends u v k h

      loopless : (u k : ℕ) → Has u u k (c ∷ cs) → ⊥
      loopless u k (Has.here (along p q) e) = f.differ (p ∙ sym q)
      loopless u k (Has.here (against p q) e) = f.differ (p ∙ sym q)
      loopless u k (Has.there h) = s.loopless u k h

      apart : (u v k l : ℕ) → Has u v k (c ∷ cs) → Has u v l bs → ⊥
      apart u v k l (Has.here j e) g = f.unjoined l (has_between j g)
      apart u v k l (Has.there h) g = s.apart u v k l h (has_front (c ∷ []) g)

  simple_head : SimpleAfter n bs (c ∷ cs) → Fresh n bs c
  simple_head s =
      record {
        a_below = s.ends c.a c.b c.kind (has_first c cs);
        b_below = s.ends c.b c.a c.kind (has_flip (has_first c cs));
        differ = λ e. s.loopless c.a c.kind (has_eq refl (sym e) refl (has_first c cs));
        unjoined = λ k h. s.apart c.a c.b c.kind k (has_first c cs) h;
      }

  simple_tail : SimpleAfter n bs (c ∷ cs) → SimpleAfter n (snoc bs c) cs
  unfolding Distinct
  simple_tail s =
      record {
        ends = λ u v k h. s.ends u v k (Has.there h);
        loopless = λ u k h. s.loopless u k (Has.there h);
        distinct = s.distinct.1;
        apart = λ u v k l h g. apart u v k l h (last_cases bs g);
      }
    where
      apart : (u v k l : ℕ) → Has u v k cs → Has u v l bs ⊎ Last u v l c → ⊥
      apart u v k l h (inl g) = s.apart u v k l (Has.there h) g
      apart u v k l h (inr g) = s.distinct.0 k (has_between g.joins h)

simple_after_from_test : (n : ℕ) (bs cs : List Cable) → cable_refusal n bs cs ≡ 0 → SimpleAfter n bs cs
unfolding Distinct
simple_after_from_test n bs [] e =
    record { ends = λ u v k h. elim h [ ]; loopless = λ u k h. elim h [ ]; distinct = tt; apart = λ u v k l h g. elim h [ ] }
simple_after_from_test n bs (c ∷ cs) e =
    let f = fresh_from_test n bs c cs e in
    simple_cons n bs c cs f.0 (simple_after_from_test n (snoc bs c) cs f.1)

simple_after_to_test : (n : ℕ) (bs cs : List Cable) → SimpleAfter n bs cs → cable_refusal n bs cs ≡ 0
simple_after_to_test n bs [] s = unfold cable_refusal in refl
simple_after_to_test n bs (c ∷ cs) s =
    fresh_to_test n bs c cs (simple_head n bs c cs s) (simple_after_to_test n (snoc bs c) cs (simple_tail n bs c cs s))

-- THE TEST AND THE GRAPH
-- each cable, rising: 4 an end not below n; 5 both ends equal; 6 pair joined by an earlier cable
pub simple_from_test : (d : Drawing) → cable_refusal (devices d) [] d.cables ≡ 0 → Simple d
simple_from_test d e =
    let s = simple_after_from_test (devices d) [] d.cables e in
    record { ends = s.ends; loopless = s.loopless; distinct = s.distinct }

pub simple_to_test : (d : Drawing) → Simple d → cable_refusal (devices d) [] d.cables ≡ 0
simple_to_test d s =
    simple_after_to_test (devices d) [] d.cables
    (record { ends = s.ends; loopless = s.loopless; distinct = s.distinct; apart = λ u v k l h g. elim g [ ] })
