-- Records that a code has overlooked: if its last cable could have been taken at an earlier record, and would have come before
-- it, the code is not greedy. Rests on Branch and Greedy. Assumes nothing.
use Rattle.std.specs.Prelude.{◌≡◌, refl, Bool, true, List, [], ◌∷◌, ◌++◌, ℕ, ◌≤◌, ◌<◌, length}
use Rattle.std.proofs.Common.{sym, ap, ◌∙◌, subst, append-nil, append_assoc, arith}
use Rattle.laws.specs.Tests.{true_and_false}
use Rattle.laws.specs.Lists.{snoc, snoc_length, snoc_old, snoc_new}
use Rattle.graphs.specs.Drawing.{Drawing, devices, kind}
use Rattle.graphs.specs.Map.{image}
use Rattle.graphs.specs.Cables.{Has, has_flip, has_eq}
use Rattle.graphs.specs.Embedding.{EndsInRange}
use Rattle.codes.specs.Code.{Rec, Reading, fresh, rows_refusal, read_rows}
use Rattle.codes.specs.Step.{Step, steps_back, steps_forward}
use Rattle.codes.specs.ReadRows.{step_from_test, rows_cons, rows_divided, rows_invariant}
use Rattle.codes.specs.Extension.{Local, chord_at, edge_at, next}
use Rattle.codes.specs.Greedy.{NoneBefore, Greedy}
use Rattle.codes.specs.Branch.{Node, node_fits, node_next, ParentNode, node_parent}
use Rattle.codes.specs.LabelLaws.{forward_same_ends}

-- THE RECORD s with the labels of another cable from its device i
abbrev pub relabelled : Rec → (c kj : ℕ) → Rec
relabelled s c kj = record { i = s.i; j = s.j; ki = s.ki; c = c; kj = kj }

-- the cable of e leaves the device that the forward record s leaves, and comes before s with its labels
pub data Overlooks (labels : Rec → Rec → Bool) (s e : Rec) : Type 0 where
  by_edge : e.i < e.j → e.i ≡ s.i → labels (relabelled s e.c e.kj) s ≡ true → Overlooks labels s e
  by_chord : e.j ≤ e.i → e.j ≡ s.i → labels (relabelled s e.c e.ki) s ≡ true → Overlooks labels s e

-- A NUMBERING BEGINS with that of fewer records
pub record BeginsNumbering (f g : List ℕ) : Type 0 where
  pub low : length f ≤ length g
  pub same : (i : ℕ) → i < length f → image g i ≡ image f i

next_begins : {d : Drawing} {x : Reading} {f : List ℕ} {e : Rec} (h : Local d x f e) → BeginsNumbering f (next h)
next_begins (chord_at b h y z) = record { low = omega arith; same = λ i l. refl }
next_begins {f = f} (edge_at w o j n h y z) = record { low = omega (arith, snoc_length f w); same = λ i l. snoc_old 256 f w i l }

begins_through : {f g h : List ℕ} → BeginsNumbering f g → BeginsNumbering g h → BeginsNumbering f h
begins_through p q = record { low = omega (arith, p.low, q.low); same = λ i l. q.same i (omega (arith, p.low)) ∙ p.same i l }

pub record EarlierNode (d : Drawing) (γ : List Rec) (g : List ℕ) : Type 0 where
  pub f : List ℕ
  pub node : Node d γ f
  pub begins : BeginsNumbering f g

pub earlier_node : (d : Drawing) (r : Rec) (rs ss : List Rec) (g : List ℕ) → Node d (r ∷ rs ++ ss) g → EarlierNode d (r ∷ rs) g
earlier_node d r rs [] g n =
    record {
      f = g;
      node = subst (λ (γ : List Rec). Node d (r ∷ γ) g) (append-nil rs) n;
      begins = record { low = omega arith; same = λ i l. refl };
    }
earlier_node d r rs (s ∷ ss) g n =
    go (earlier_node d r (snoc rs s) ss g (subst (λ (γ : List Rec). Node d (r ∷ γ) g) (sym (append_assoc rs (s ∷ []) ss)) n))
  where
    go : EarlierNode d (r ∷ snoc rs s) g → EarlierNode d (r ∷ rs) g
    go t =
        let c = node_parent d r rs s t.f t.node in
        record {
          f = c.f;
          node = c.node;
          begins = begins_through (subst (BeginsNumbering c.f) c.is (next_begins c.local)) t.begins;
        }

-- each record of a greedy code has none before it
pub greedy_at : (labels : Rec → Rec → Bool) (d : Drawing) (γ rs : List Rec) (s : Rec) (more : List Rec) → Greedy labels d γ (rs ++ s ∷ more)
    → NoneBefore labels d (γ ++ rs) s
unfolding Greedy
greedy_at labels d γ [] s more g = rw append-nil g.0
greedy_at labels d γ (r ∷ rs) s more g = rw append_assoc at (greedy_at labels d (snoc γ r) rs s more g.1)

module _ (labels : Rec → Rec → Bool) (d : Drawing) (ten : devices d ≤ 10) (ends : EndsInRange d) (r : Rec) (ps : List Rec) (s : Rec) where
  -- A CABLE TO A LATER DEVICE v was free to be taken at s
  module _ (more : List Rec) (g : List ℕ) (n : Node d (r ∷ ps ++ s ∷ more) g) (up : s.i < s.j) where
    before : EarlierNode d (r ∷ ps) g
    before = earlier_node d r ps (s ∷ more) g n

    x : Reading
    x = read_rows fresh (r ∷ ps)

    split : (rows_refusal fresh (r ∷ ps) ≡ 0) × (rows_refusal (read_rows fresh (r ∷ ps)) (s ∷ more) ≡ 0)
    split = rows_divided fresh (r ∷ ps) (s ∷ more) n.accepted

    step : Step (read_rows fresh (r ∷ ps)) s
    step =
        let z = rows_cons (read_rows fresh (r ∷ ps)) s more split.1 in
        step_from_test (read_rows fresh (r ∷ ps)) (rows_invariant r ps split.0) s z.step z.kinds

    pub free_not_greedy :
        (v c : ℕ) → s.j ≤ v → v < length g → Has (image g s.i) (image g v) c d.cables
        → labels (relabelled s c (kind d (image g v))) s ≡ true
        → Node d (r ∷ ps ++ s ∷ more) g → Greedy labels d [] (r ∷ ps ++ s ∷ more) → ⊥
    free_not_greedy v c high low has earlier w greedy = go step
      where
        l : Rec
        l = relabelled s c (kind d (image g v))

        f : List ℕ
        f = before.f

        go : Step (read_rows fresh (r ∷ ps)) s → ⊥
        go (steps_back b y z) = omega (arith, b.down)
        go (steps_forward o j h k) =
            true_and_false (forward_same_ends labels l s up refl refl ∙ earlier)
            (greedy_at labels d [] (r ∷ ps) s more greedy l (node_fits d (snoc (r ∷ ps) l) (snoc f (image g v))
            (node_next d ten ends (r ∷ ps) f l before.node local)))
          where
            size : length before.f ≡ length (read_rows fresh (r ∷ ps)).kinds
            size = before.node.embedding.size

            i_low : s.i < length before.f
            i_low = omega (arith, size, before.node.invariant.below s.i o)

            new : (i : ℕ) → i < length before.f → image before.f i ≡ image g v → ⊥
            new i a e =
                omega (
                  arith,
                  w.embedding.injective i v (omega (arith, before.begins.low)) low (before.begins.same i a ∙ e),
                  size,
                )

            local : Local d (read_rows fresh (r ∷ ps)) before.f (relabelled s c (kind d (image g v)))
            local = edge_at (image g v) o j new (has_eq (before.begins.same s.i i_low) refl refl has) k refl

  -- THE LAST CABLE was overlooked at s
  module _ (qs : List Rec) (e : Rec) (g : List ℕ) (n : Node d (r ∷ ps ++ s ∷ snoc qs e) g) (up : s.i < s.j) where
    -- the records before the last, and after s
    last : ParentNode d (r ∷ ps ++ s ∷ qs) e g
    last = node_parent d r (ps ++ s ∷ qs) e g (subst (λ (γ : List Rec). Node d (r ∷ γ) g) (sym (append_assoc ps (s ∷ qs) (e ∷ []))) n)

    taken : EarlierNode d (r ∷ snoc ps s) last.f
    taken = earlier_node d r (snoc ps s) qs last.f (subst (λ (γ : List Rec). Node d (r ∷ γ) last.f)
        (sym (append_assoc ps (s ∷ []) qs)) last.node)

    parent_of_s : ParentNode d (r ∷ ps) s taken.f
    parent_of_s = node_parent d r ps s taken.f taken.node

    -- so the device that s leads to is there
    there : s.j < length last.f
    there = go parent_of_s.local parent_of_s.is
      where
        go : (h : Local d (read_rows fresh (r ∷ ps)) parent_of_s.f s) → next h ≡ taken.f → s.j < length last.f
        go (chord_at b h y z) q = absurd (omega (arith, b.down))
        go (edge_at w o j k h y z) q =
            omega (arith, ap length q, snoc_length parent_of_s.f w, j, parent_of_s.node.embedding.size, taken.begins.low)

    pub overlooked : Overlooks labels s e → Greedy labels d [] (r ∷ ps ++ s ∷ snoc qs e) → ⊥
    overlooked o greedy = go last.local last.is o
      where
        size : length last.f ≡ length (read_rows fresh (r ∷ ps ++ s ∷ qs)).kinds
        size = last.node.embedding.size

        i_there : s.i < length last.f
        i_there = omega (arith, there)

        go : (h : Local d (read_rows fresh (r ∷ ps ++ s ∷ qs)) last.f e) → next h ≡ g → Overlooks labels s e → ⊥
        go (chord_at b h y z) q (by_edge a i t) = omega (arith, b.down)
        go (chord_at b h y z) q (by_chord a i t) =
            let top = last.node.invariant.top in
            let v_low : e.i < length last.f = omega (arith, size, top, b.is_end) in
            let is : kind d (image g e.i) ≡ e.ki = ap (λ (k : List ℕ). kind d (image k e.i)) (sym q) ∙ last.node.embedding.kinds
            e.i v_low ∙ y in
            free_not_greedy (snoc qs e) g n up e.i e.c (omega (arith, there, size, top, b.is_end)) (omega (arith, ap length q))
            (has_flip (has_eq (ap (λ (k : List ℕ). image k e.i) q) (ap (λ (k : List ℕ). image k e.j) q ∙ ap (image g) i) refl h))
            (subst (λ (k : ℕ). labels (relabelled s e.c k) s ≡ true) (sym is) t) n greedy
        go (edge_at w o j k h y z) q (by_chord a i t) =
            omega (arith, j, last.node.invariant.below e.i o)
        go (edge_at w o j k h y z) q (by_edge a i t) =
            let v_is : image g e.j ≡ w = ap (λ (x : List ℕ). image x e.j) (sym q) ∙ snoc_new 256 last.f w e.j (j ∙ sym size) in
            let u_is : image g s.i ≡ image last.f e.i = ap (λ (x : List ℕ). image x s.i) (sym q) ∙ snoc_old 256 last.f w
            s.i i_there ∙ ap (image last.f) (sym i) in
            let is : kind d (image g e.j) ≡ e.kj = ap (kind d) v_is ∙ z in
            free_not_greedy (snoc qs e) g n up e.j e.c (omega (arith, there, size, j))
            (omega (arith, ap length q, snoc_length last.f w, size, j))
            (has_eq (sym u_is) (sym v_is) refl h) (subst (λ (k : ℕ). labels (relabelled s e.c k) s ≡ true) (sym is) t) n greedy
