-- A table of labels, cable by cable: a table of the first k cables becomes one of k + 1. Rests on Simple and Patterns.
-- Assumes nothing.
use Rattle.std.specs.Prelude.{◌≡◌, refl, true, List, [], ◌∷◌, ◌++◌, ◌⊎◌, ℕ, suc, ◌+◌, ◌*◌, ◌<◌, length, get_or, take, drop, set, replicate}
use Rattle.std.proofs.Common.{sym, ap, ◌∙◌, inl, inr, add-one, arith, take-suc, take_all, lt-ltb}
use Rattle.std.proofs.Math.Decide.{ℕ_discrete}
use Rattle.std.proofs.Math.ListN.{length-set}
use Rattle.std.proofs.lemmas.List.{get_or-replicate}
use Rattle.std.proofs.Math.Seq.{split_at, get_or-set_same, get_or-set_other}
use Rattle.laws.specs.Tests.{and_both}
use Rattle.laws.specs.Lists.{snoc}
use Rattle.graphs.specs.Drawing.{Cable, Drawing, devices, kind, byte_list}
use Rattle.graphs.specs.Cables.{
  Joins,
  along,
  against,
  Has,
  has_flip,
  has_front,
  has_last,
  has_between,
  Last,
  last_cases,
}
use Rattle.graphs.specs.Graph.{Distinct, Section}
use Rattle.graphs.specs.Patterns.{byte_list_at}
use Rattle.codes.specs.BranchState.{label_of, label_at, Labels}
use Rattle.tables.specs.Tables.{first_cables, Table, put_cable}

-- a list whose elements are bytes
pub bytes_list : (xs : List ℕ) → ((i : ℕ) → i < length xs → get_or xs i 0 < 256) → byte_list xs ≡ true
unfolding byte_list
bytes_list [] h = refl
bytes_list (x ∷ xs) h = and_both (lt-ltb x 256 (h 0 (omega arith))) (bytes_list xs (λ i l. h (suc i) (omega arith)))

-- A CABLE AMONG OTHERS
has_middle : {u v k : ℕ} (cs : List Cable) {c : Cable} (ds : List Cable) → Joins u v c → c.kind ≡ k → Has u v k (cs ++ c ∷ ds)
has_middle [] ds j e = Has.here j e
has_middle (d ∷ cs) ds j e = Has.there (has_middle cs ds j e)

-- where no pair is joined twice, none of the cables before joins its pair
distinct_before : (cs : List Cable) (c : Cable) (ds : List Cable) → Distinct (cs ++ c ∷ ds) → (u v k : ℕ) → Joins u v c → Has u v k cs → ⊥
unfolding Distinct
distinct_before [] c ds n u v k j h = elim h [ ]
distinct_before (d ∷ cs) c ds n u v k j (Has.here i e) = n.0 c.kind (has_between i (has_middle cs ds j refl))
distinct_before (d ∷ cs) c ds n u v k j (Has.there h) = distinct_before cs c ds n.1 u v k j h

-- CELLS of a table
cell_differs : {u v a b : ℕ} → v < 10 → b < 10 → (u ≡ a → v ≡ b → ⊥) → 10 * u + v ≡ 10 * a + b → ⊥
cell_differs {u} {v} {a} {b} p q n e = n (omega arith) (omega arith)

-- A TABLE of no cables
pub table_start : (d : Drawing) → Section d → Table (first_cables d 0) (replicate 100 0)
table_start d p =
    record {
      size = refl;
      labels = record {
        joined = λ u v k h. elim h [ ];
        only = λ u v a b. inl (get_or-replicate 100 (10 * u + v) 0 0 (omega arith));
        kind_byte = λ v h. byte_list_at d.kinds v 256 p.bytes h;
        cable_byte = λ u v k h. elim h [ ];
      };
    }

-- ONE CABLE MORE
module _ (ks : List ℕ) (cs : List Cable) (c : Cable) (t : List ℕ) (T : Table (record { kinds = ks; cables = cs }) t) where
  abbrev a : ℕ
  a = c.a

  abbrev b : ℕ
  b = c.b

  abbrev after : List ℕ
  after = put_cable t c (get_or ks c.a 256) (get_or ks c.b 256)

  module _ (low_a : c.a < 10) (low_b : c.b < 10) (differ : c.a ≡ c.b → ⊥) where
    cell_along : label_at after c.a c.b ≡ label_of c.kind (get_or ks c.b 256)
    unfolding put_cable
    cell_along =
        get_or-set_other (set t (10 * a + b) _) (10 * b + a) (10 * a + b) _ 0 (cell_differs low_b low_a (λ x y. differ x))
        ∙ get_or-set_same t (10 * a + b) _ 0 (omega (arith, T.size))

    cell_against : label_at after c.b c.a ≡ label_of c.kind (get_or ks c.a 256)
    unfolding put_cable
    cell_against = get_or-set_same (set t (10 * a + b) _) (10 * b + a) _ 0 (rw length-set (omega (arith, T.size)))

    cell_other : (u v : ℕ) → v < 10 → (Joins u v c → ⊥) → label_at after u v ≡ label_at t u v
    unfolding put_cable
    cell_other u v h n =
        get_or-set_other (set t (10 * a + b) _) (10 * b + a) (10 * u + v) _ 0 (cell_differs h low_a (λ x y. n (against (sym y) (sym x))))
        ∙ get_or-set_other t (10 * a + b) (10 * u + v) _ 0 (cell_differs h low_b (λ x y. n (along (sym x) (sym y))))

    module _ (ends : (u v k : ℕ) → Has u v k cs → v < 10) (apart : (u v k : ℕ) → Joins u v c → Has u v k cs → ⊥) (byte : c.kind < 256) where
      new_label : (u v : ℕ) → Joins u v c → label_at after u v ≡ label_of c.kind (get_or ks v 256)
      new_label u v (along x y) = rw (← x, ← y) cell_along
      new_label u v (against x y) = rw (← x, ← y) cell_against

      joined : (u v k : ℕ) → Has u v k (snoc cs c) → label_at after u v ≡ label_of k (get_or ks v 256)
      joined u v k h = go (last_cases cs h)
        where
          go : Has u v k cs ⊎ Last u v k c → label_at after u v ≡ label_of k (get_or ks v 256)
          go (inl g) = cell_other u v (ends u v k g) (λ j. apart u v k j g) ∙ T.labels.joined u v k g
          go (inr g) = rw (← g.kind) (new_label u v g.joins)

      only : (u v : ℕ) → u < 10 → v < 10 → (label_at after u v ≡ 0) ⊎ ((k : ℕ) × Has u v k (snoc cs c))
      only u v p q = go (ℕ_discrete c.a u) (ℕ_discrete c.b v) (ℕ_discrete c.a v) (ℕ_discrete c.b u)
        where
          here : Joins u v c → (label_at after u v ≡ 0) ⊎ ((k : ℕ) × Has u v k (snoc cs c))
          here j = inr (c.kind, has_last cs j refl)

          old : (label_at t u v ≡ 0) ⊎ ((k : ℕ) × Has u v k cs) → label_at after u v ≡ label_at t u v
              → (label_at after u v ≡ 0) ⊎ ((k : ℕ) × Has u v k (snoc cs c))
          old (inl z) e = inl (e ∙ z)
          old (inr z) e = inr (z.0, has_front (c ∷ []) z.1)

          not_joined : ((c.a ≡ u) × (c.b ≡ v) → ⊥) → ((c.a ≡ v) × (c.b ≡ u) → ⊥) → Joins u v c → ⊥
          not_joined m n (along x y) = m (x, y)
          not_joined m n (against x y) = n (x, y)

          else : ((c.a ≡ u) × (c.b ≡ v) → ⊥) → ((c.a ≡ v) × (c.b ≡ u) → ⊥)
              → (label_at after u v ≡ 0) ⊎ ((k : ℕ) × Has u v k (snoc cs c))
          else m n = old (T.labels.only u v p q) (cell_other u v q (not_joined m n))

          go : Dec (c.a ≡ u) → Dec (c.b ≡ v) → Dec (c.a ≡ v) → Dec (c.b ≡ u)
              → (label_at after u v ≡ 0) ⊎ ((k : ℕ) × Has u v k (snoc cs c))
          go (yes x) (yes y) z w = here (along x y)
          go (yes x) (no y) (yes z) (yes w) = here (against z w)
          go (yes x) (no y) (yes z) (no w) = else (λ m. y m.1) (λ m. w m.1)
          go (yes x) (no y) (no z) w = else (λ m. y m.1) (λ m. z m.0)
          go (no x) y (yes z) (yes w) = here (against z w)
          go (no x) y (yes z) (no w) = else (λ m. x m.0) (λ m. w m.1)
          go (no x) y (no z) w = else (λ m. x m.0) (λ m. z m.0)

      cable_byte : (u v k : ℕ) → Has u v k (snoc cs c) → k < 256
      cable_byte u v k h = go (last_cases cs h)
        where
          go : Has u v k cs ⊎ Last u v k c → k < 256
          go (inl g) = T.labels.cable_byte u v k g
          go (inr g) = omega (arith, g.kind)

      table_snoc : Table (record { kinds = ks; cables = snoc cs c }) (put_cable t c (get_or ks c.a 256) (get_or ks c.b 256))
      unfolding put_cable
      table_snoc =
          record {
            size = length-set (set t _ _) _ _ ∙ length-set t _ _ ∙ T.size;
            labels = record { joined = joined; only = only; kind_byte = T.labels.kind_byte; cable_byte = cable_byte };
          }

-- OF A PATTERN, cable k
module _ (d : Drawing) (p : Section d) where
  module _ (k : ℕ) (c : Cable) (h : k < length d.cables) (is : get_or d.cables k c ≡ c) where
    whole : d.cables ≡ take k d.cables ++ c ∷ drop (suc k) d.cables
    whole = split_at d.cables k c h ∙ ap (λ (x : Cable). take k d.cables ++ x ∷ drop (suc k) d.cables) is

    there : {u v : ℕ} → Joins u v c → Has u v c.kind d.cables
    there j = rw whole (has_middle (take k d.cables) (drop (suc k) d.cables) j refl)

    pub cable_ends : (c.a < devices d) × (c.b < devices d)
    cable_ends =
        let ends = p.simple.ends in
        (ends c.a c.b c.kind (there (along refl refl)), ends c.b c.a c.kind (there (against refl refl)))

    ends_before : (u v l : ℕ) → Has u v l (take k d.cables) → v < 10
    ends_before u v l g =
        let h : Has u v l d.cables = rw whole (has_front (c ∷ drop (suc k) d.cables) g) in
        omega (arith, p.simple.ends v u l (has_flip h), p.devices_high)

    pub table_next :
        (t : List ℕ) → c.kind < 256 → Table (first_cables d k) t
        → Table (first_cables d (k + 1)) (put_cable t c (kind d c.a) (kind d c.b))
    table_next t byte T =
        rw (add-one, take-suc d.cables k c h, is)
        (table_snoc d.kinds (take k d.cables) c t T
        (omega (arith, cable_ends.0, p.devices_high)) (omega (arith, cable_ends.1, p.devices_high))
        (λ e. p.simple.loopless c.a c.kind (there (along refl (sym e)))) ends_before
        (distinct_before (take k d.cables) c _ (rw whole at p.simple.distinct)) byte)

  -- all cables
  pub table_end : (k : ℕ) (t : List ℕ) → k ≡ length d.cables → Table (first_cables d k) t → Labels d t
  table_end k t e T = rw (take_all k d.cables (omega arith)) at T.labels
