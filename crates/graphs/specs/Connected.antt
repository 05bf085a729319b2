-- The test `connected` holds exactly if a walk along cables joins every two devices. Rests on Cables, Graph and the
-- pigeonhole principle of laws. Assumes nothing.
use Rattle.std.specs.Prelude.{◌≡◌, refl, Bool, true, false, ◌&&◌, not, cond, ◌⊎◌}
use Rattle.std.proofs.Common.{sym, inl, inr}
use mathlib.Core.List.{List, [], ◌∷◌}
use Prim.Native.Nat.{ℕ, zero, suc, ◌+◌, ◌≤◌, ◌<◌}
use native.Mathlib.Omega.{arith}
use borrow.Author.Tests.{eqb-true, eq-eqb}
use Rattle.std.proofs.Math.ListN.{length}
use Rattle.laws.specs.Tests.{true_and_false}
use Rattle.laws.specs.Lists.{Mem, mem_eq}
use Rattle.laws.specs.Counting.{
  Different,
  different_fewer,
  different_below,
  different_all,
  below,
  below_length,
  below_bound,
  below_different,
}
use Rattle.graphs.specs.Drawing.{Cable, Drawing, devices, member, with_ends, spread, reached, connected}
use Rattle.graphs.specs.Cables.{Joins, along, against, Has, has_flip, mem_from_test, mem_to_test}
use Rattle.graphs.specs.Embedding.{EndsInRange}
use Rattle.graphs.specs.Graph.{Walk, stay, onward, Connected}

-- WALKS
pub walk_append : {cs : List Cable} {u v w : ℕ} → Walk cs u v → Walk cs v w → Walk cs u w
walk_append p stay = p
walk_append p (onward q h) = onward (walk_append p q) h

pub walk_back : {cs : List Cable} {u v : ℕ} → Walk cs u v → Walk cs v u
walk_back stay = stay
walk_back (onward p h) = walk_append (onward stay (has_flip h)) (walk_back p)

-- what goes along cables goes along walks
pub walk_closed : {cs : List Cable} (P : ℕ → Type 0) → ((u v k : ℕ) → Has u v k cs → P u → P v) → {u v : ℕ} → Walk cs u v → P u → P v
walk_closed P f stay x = x
walk_closed P f (onward {v = v} {w = w} {k = k} p h) x = f v w k h (walk_closed P f p x)

pub walks_from_zero : (d : Drawing) → ((v : ℕ) → v < devices d → Walk d.cables 0 v) → Connected d
walks_from_zero d f u v hu hv = walk_append (walk_back (f u hu)) (f v hv)

-- ONE CABLE: it takes up a device that it joins to one reached so far, or there is none
data Taken (c : Cable) (vs : List ℕ) : List ℕ → Type 0 where
  takes : {u v : ℕ} → Joins u v c → Mem u vs → (Mem v vs → ⊥) → Taken c vs (v ∷ vs)
  rests : ((u v : ℕ) → Joins u v c → Mem u vs → Mem v vs) → Taken c vs vs

with_ends_taken : (c : Cable) (vs : List ℕ) → Taken c vs (with_ends c vs)
unfolding with_ends
with_ends_taken c vs = go (member c.a vs) refl (member c.b vs) refl
  where
    out : {v : ℕ} → member v vs ≡ false → Mem v vs → ⊥
    out {v} e m = true_and_false (mem_to_test v vs m) e

    both : Mem c.a vs → Mem c.b vs → (u v : ℕ) → Joins u v c → Mem u vs → Mem v vs
    both a b u v (along p q) m = mem_eq q b
    both a b u v (against p q) m = mem_eq p a

    none : (Mem c.a vs → ⊥) → (Mem c.b vs → ⊥) → (u v : ℕ) → Joins u v c → Mem u vs → Mem v vs
    none a b u v (along p q) m = absurd (a (mem_eq (sym p) m))
    none a b u v (against p q) m = absurd (b (mem_eq (sym q) m))

    go : (x : Bool) → member c.a vs ≡ x → (y : Bool) → member c.b vs ≡ y
        → Taken c vs (cond (x && not y) (c.b ∷ vs) (cond (y && not x) (c.a ∷ vs) vs))
    go true p true q = rests (both (mem_from_test c.a vs p) (mem_from_test c.b vs q))
    go true p false q = takes (along refl refl) (mem_from_test c.a vs p) (out q)
    go false p true q = takes (against refl refl) (mem_from_test c.b vs q) (out p)
    go false p false q = rests (none (out p) (out q))

-- INVARIANTS: what still holds when a neighbour of a device taken up is taken up
abbrev PreservedByNeighbours : List Cable → (List ℕ → Type 0) → Type 0
PreservedByNeighbours cs Q = (u v k : ℕ) (vs : List ℕ) → Has u v k cs → Mem u vs → (Mem v vs → ⊥) → Q vs → Q (v ∷ vs)

module _ (Q : List ℕ → Type 0) where
  spread_keeps : (cs : List Cable) → PreservedByNeighbours cs Q → (vs : List ℕ) → Q vs → Q (spread cs vs)
  unfolding spread
  spread_keeps [] f vs q = q
  spread_keeps (c ∷ cs) f vs q =
      spread_keeps cs (λ u v k ws h. f u v k ws (Has.there h)) (with_ends c vs) (go (with_ends c vs) (with_ends_taken c vs))
    where
      go : (ws : List ℕ) → Taken c vs ws → Q ws
      go ws (takes {u = u} {v = v} j m n) = f u v c.kind vs (Has.here j refl) m n q
      go ws (rests r) = q

  reached_keeps : (cs : List Cable) → PreservedByNeighbours cs Q → (n : ℕ) (vs : List ℕ) → Q vs → Q (reached n cs vs)
  unfolding reached
  reached_keeps cs f zero vs q = q
  reached_keeps cs f (suc n) vs q = reached_keeps cs f n (spread cs vs) (spread_keeps cs f vs q)

-- ONE ROUND takes up a device, or no cable leaves what is reached
abbrev Closed : List Cable → List ℕ → Type 0
Closed cs vs = (u v k : ℕ) → Has u v k cs → Mem u vs → Mem v vs

data Round (cs : List Cable) (vs ws : List ℕ) : Type 0 where
  grows : length vs < length ws → Round cs vs ws
  stands : Closed cs vs → ws ≡ vs → Round cs vs ws

spread_longer : (cs : List Cable) (vs : List ℕ) (n : ℕ) → n ≤ length vs → n ≤ length (spread cs vs)
spread_longer cs vs n h = spread_keeps (λ ws. n ≤ length ws) cs (λ u v k ws g m o l. omega arith) vs h

spread_round : (cs : List Cable) (vs : List ℕ) → Round cs vs (spread cs vs)
unfolding spread
spread_round [] vs = stands (λ u v k h m. elim h [ ]) refl
spread_round (c ∷ cs) vs = go (with_ends c vs) (with_ends_taken c vs) (spread_round cs vs)
  where
    more : Round cs vs (spread cs vs) → ((u v : ℕ) → Joins u v c → Mem u vs → Mem v vs) → Round (c ∷ cs) vs (spread cs vs)
    more (grows l) r = grows l
    more (stands t e) r = stands closed e
      where
        closed : Closed (c ∷ cs) vs
        closed u v k (Has.here j q) m = r u v j m
        closed u v k (Has.there h) m = t u v k h m

    go : (ws : List ℕ) → Taken c vs ws → Round cs vs (spread cs vs) → Round (c ∷ cs) vs (spread cs ws)
    go ws (takes {v = v} j m n) r = grows (spread_longer cs (v ∷ vs) (suc (length vs)) (omega arith))
    go ws (rests q) r = more r q

-- so n rounds take up n devices, or no cable leaves what is reached
reached_stands : (cs : List Cable) (vs : List ℕ) → spread cs vs ≡ vs → (n : ℕ) → reached n cs vs ≡ vs
unfolding reached
reached_stands cs vs e zero = refl
reached_stands cs vs e (suc n) = rw e (reached_stands cs vs e n)

reached_enough : (cs : List Cable) (n : ℕ) (vs : List ℕ) → (n + length vs ≤ length (reached n cs vs)) ⊎ Closed cs (reached n cs vs)
unfolding reached
reached_enough cs zero vs = inl (omega arith)
reached_enough cs (suc n) vs = go (spread_round cs vs) (reached_enough cs n (spread cs vs))
  where
    ws : List ℕ
    ws = spread cs vs

    go : Round cs vs ws → (n + length ws ≤ length (reached n cs ws)) ⊎ Closed cs (reached n cs ws)
        → (suc n + length vs ≤ length (reached n cs ws)) ⊎ Closed cs (reached n cs ws)
    go (grows l) (inl h) = inl (omega arith)
    go (grows l) (inr h) = inr h
    go (stands t e) r = inr (rw (e, reached_stands cs vs e n) t)

-- THE TEST AND THE GRAPH: from device 0 cables lead to every other
record Explored (d : Drawing) (vs : List ℕ) : Type 0 where
  different : Different vs
  start : Mem 0 vs
  in_range : (v : ℕ) → Mem v vs → v < devices d
  walks : (v : ℕ) → Mem v vs → Walk d.cables 0 v

module _ (d : Drawing) (ends : EndsInRange d) (some : 0 < devices d) where
  reach : List ℕ
  reach = reached (devices d) d.cables (0 ∷ [])

  explored_first : Explored d (0 ∷ [])
  unfolding Different
  explored_first = record { different = (λ m. elim m [ ], tt); start = Mem.here refl; in_range = in_range; walks = walks }
    where
      in_range : (v : ℕ) → Mem v (0 ∷ []) → v < devices d
      in_range v (Mem.here e) = omega arith
      in_range v (Mem.there m) = elim m [ ]

      walks : (v : ℕ) → Mem v (0 ∷ []) → Walk d.cables 0 v
      walks v (Mem.here e) = rw (← e) stay
      walks v (Mem.there m) = elim m [ ]

  explored_next : PreservedByNeighbours d.cables (Explored d)
  unfolding Different
  explored_next u v k vs h m n f =
      record { different = (n, f.different); start = Mem.there f.start; in_range = in_range; walks = walks }
    where
      in_range : (w : ℕ) → Mem w (v ∷ vs) → w < devices d
      in_range w (Mem.here e) = omega (arith, ends v u k (has_flip h))
      in_range w (Mem.there o) = f.in_range w o

      walks : (w : ℕ) → Mem w (v ∷ vs) → Walk d.cables 0 w
      walks w (Mem.here e) = rw (← e) (onward (f.walks u m) h)
      walks w (Mem.there o) = f.walks w o

  explored : Explored d reach
  unfolding reach
  explored = reached_keeps (Explored d) d.cables explored_next (devices d) (0 ∷ []) explored_first

  pub connected_from_test : connected d ≡ true → Connected d
  unfolding connected reach
  connected_from_test e = walks_from_zero d (λ v h. explored.walks v (all v h))
    where
      all : (v : ℕ) → v < devices d → Mem v reach
      all = different_all (devices d) reach explored.different explored.in_range (eqb-true (length reach) (devices d) e)

  pub connected_to_test : Connected d → connected d ≡ true
  unfolding connected reach
  connected_to_test walk = eq-eqb (length reach) (devices d) (go (reached_enough d.cables (devices d) (0 ∷ [])))
    where
      few : length reach ≤ devices d
      few = different_below (devices d) reach explored.different explored.in_range

      go : (devices d + 1 ≤ length reach) ⊎ Closed d.cables reach → length reach ≡ devices d
      go (inl h) = absurd (omega (arith, few))
      go (inr t) = omega (arith, few, below_length (devices d), different_fewer (below (devices d)) reach (below_different (devices d)) all)
        where
          all : (v : ℕ) → Mem v (below (devices d)) → Mem v reach
          all v m = walk_closed (λ w. Mem w reach) t (walk 0 v some (below_bound (devices d) v m)) explored.start
