-- What is found is the least record that goes on from a branch, in the paper's order; where nothing is found, none goes on;
-- the ties of an edge. Rests on LabelLaws and BranchLaws. Assumes nothing.
use Rattle.std.specs.Prelude.{◌≡◌, refl, false, List, ◌⊎◌, ℕ, ◌-◌, ◌/◌, ◌≤◌, ◌<◌, get_or}
use Rattle.std.proofs.Common.{sym, ap, ap₂, ◌∙◌, inl, inr, arith}
use Rattle.std.proofs.Math.Decide.{dec_lt}
use Rattle.laws.specs.Tests.{false_unless}
use Rattle.laws.specs.Lists.{snoc}
use Rattle.graphs.specs.Drawing.{Drawing, devices}
use Rattle.graphs.specs.Cables.{has_flip, has_eq}
use Rattle.graphs.specs.Embedding.{EndsInRange}
use Rattle.codes.specs.Code.{Rec, Reading, fresh, kinds_before, read_rows, rec_before_by}
use Rattle.codes.specs.CodeOrder.{kinds_order, rec_before_strict}
use Rattle.codes.specs.Extension.{Local, chord_at, edge_at, next}
use Rattle.codes.specs.BranchState.{
  label_of,
  Labels,
  State,
  numbering,
  device_at,
  OpenPlace,
  chord_label,
  edge_label,
  Free,
  ChordFound,
  EdgeFound,
  NothingFound,
  chord_of,
  edge_of,
  Represents,
}
use Rattle.codes.specs.LabelLaws.{
  label_whole,
  label_order,
  backward_not_lower,
  forward_not_first,
  forward_not_deeper,
  forward_same_ends,
  kinds_not_before,
}
use Rattle.codes.specs.BranchBounds.{Bounds, represents_bounds, device_is, unnumbered_free}
use Rattle.codes.specs.BranchLaws.{Sighted, sees_chord, sees_edge, local_sighted}

-- a tie: a device without a number at the same label, and the numbering g that it leads to
pub record Tie (t : List ℕ) (b : State) (q l : ℕ) (g : List ℕ) : Type 0 where
  pub w : ℕ
  pub free : Free b w
  pub label : edge_label t b q w ≡ l
  pub next_is : g ≡ snoc (numbering b) w

-- no record comes before itself
same_not_before : (e r : Rec) → e ≡ r → rec_before_by kinds_before e r ≡ false
same_not_before e r q =
    false_unless (rec_before_by kinds_before e r) (λ p. (rec_before_strict kinds_before kinds_order).irrefl r (rw q at p))

-- AGAINST WHAT IS SEEN, with the path's numbers below the new one and rising
module _ (t : List ℕ) (x : Reading) (b : State) (z : Bounds b) where
  chord_down : (q l : ℕ) → OpenPlace b q → (chord_of x b q l).j < (chord_of x b q l).i
  chord_down q l o = z.rises q (b.count - 1) (omega (arith, o.inner)) (omega (arith, o.inner))

  chord_least_sighted :
      (q l : ℕ) → ChordFound t b q l → (e : Rec) → Sighted t x b e → rec_before_by kinds_before e (chord_of x b q l) ≡ false
  chord_least_sighted q l c e (sees_edge p w below f s is) =
      rw is (forward_not_first kinds_before (edge_of x b p (edge_label t b p w)) (chord_of x b q l) (z.on_path p below) (chord_down q l c.place))
  chord_least_sighted q l c e (sees_chord p o s is) = rw is (go (dec_lt p q) (dec_lt q p))
    where
      m : ℕ
      m = chord_label t b p

      go : Dec (p < q) → Dec (q < p) → rec_before_by kinds_before (chord_of x b p (chord_label t b p)) (chord_of x b q l) ≡ false
      go (yes h) k = absurd (omega (arith, c.lowest p h o))
      go (no h) (yes k) =
          backward_not_lower kinds_before (chord_of x b p m) (chord_of x b q l) (chord_down p m o) (chord_down q l c.place)
          (z.rises q p k (omega (arith, o.inner)))
      go (no h) (no k) =
          let pq : p ≡ q = omega arith in
          same_not_before (chord_of x b p m) (chord_of x b q l) (ap₂ (chord_of x b) pq (ap (chord_label t b) pq ∙ c.label))

  edge_least_sighted :
      (q l : ℕ) → EdgeFound t b q l → (e : Rec) → Sighted t x b e → rec_before_by kinds_before e (edge_of x b q l) ≡ false
  edge_least_sighted q l c e (sees_chord p o s is) = absurd (omega (arith, c.no_chord p o))
  edge_least_sighted q l c e (sees_edge p w below f s is) = rw is (go (dec_lt p q) (dec_lt q p))
    where
      m : ℕ
      m = edge_label t b p w

      ahead : (edge_of x b p m).i < (edge_of x b p m).j
      ahead = z.on_path p below

      go : Dec (p < q) → Dec (q < p) → rec_before_by kinds_before (edge_of x b p (edge_label t b p w)) (edge_of x b q l) ≡ false
      go h (yes k) = absurd (omega (arith, c.deepest p w k below f))
      go (yes h) (no k) =
          forward_not_deeper kinds_before (edge_of x b p m) (edge_of x b q l) ahead (z.on_path q c.place) (z.rises p q h c.place)
      go (no h) (no k) =
          forward_same_ends kinds_before (edge_of x b p m) (edge_of x b q l) ahead i_is refl
          ∙ kinds_not_before (edge_of x b p m) (edge_of x b q l) (ap (λ (n : ℕ). get_or x.kinds n 256) i_is) (label_order l m c.some least)
        where
          pq : p ≡ q
          pq = omega arith

          i_is : get_or b.path p 0 ≡ get_or b.path q 0
          i_is = ap (λ (n : ℕ). get_or b.path n 0) pq

          by_least : (edge_label t b q w ≡ 0) ⊎ (l ≤ edge_label t b q w) → l ≤ edge_label t b q w
          by_least (inl y) = absurd (omega (arith, ap (λ (n : ℕ). edge_label t b n w) pq))
          by_least (inr y) = y

          least : l ≤ m
          least = omega (arith, by_least (c.least w f), ap (λ (n : ℕ). edge_label t b n w) pq)

module _ (d : Drawing) (ten : devices d ≤ 10) (ends : EndsInRange d) (t : List ℕ) (table : Labels d t) (γ : List Rec) (b : State)
    (r : Represents d γ b) where
  sighted : (e : Rec) → Local d (read_rows fresh γ) (numbering b) e → Sighted t (read_rows fresh γ) b e
  sighted = local_sighted d ten ends t table γ b r

  -- THE RECORD FOUND is the least that goes on
  pub chord_found_least :
      (q l : ℕ) → ChordFound t b q l → (e : Rec) → Local d (read_rows fresh γ) (numbering b) e
      → rec_before_by kinds_before e (chord_of (read_rows fresh γ) b q l) ≡ false
  chord_found_least q l c e h = chord_least_sighted t (read_rows fresh γ) b (represents_bounds d γ b ten r) q l c e (sighted e h)

  pub edge_found_least :
      (q l : ℕ) → EdgeFound t b q l → (e : Rec) → Local d (read_rows fresh γ) (numbering b) e
      → rec_before_by kinds_before e (edge_of (read_rows fresh γ) b q l) ≡ false
  edge_found_least q l c e h = edge_least_sighted t (read_rows fresh γ) b (represents_bounds d γ b ten r) q l c e (sighted e h)

  -- NOTHING FOUND: nothing goes on
  pub nothing_found : NothingFound t b → (e : Rec) → Local d (read_rows fresh γ) (numbering b) e → ⊥
  nothing_found n e h = go (sighted e h)
    where
      go : Sighted t (read_rows fresh γ) b e → ⊥
      go (sees_chord q o s is) = omega (arith, n.no_chord q o)
      go (sees_edge q w below f s is) = omega (arith, n.no_edge q w below f)

  -- TIES: the same edge record goes to any device without a number that has its label
  pub edge_ties :
      (q l : ℕ) → q < b.count → 0 < l → (h : Local d (read_rows fresh γ) (numbering b) (edge_of (read_rows fresh γ) b q l)) → Tie t b q l (next h)
  edge_ties q l below some (chord_at k c y z) =
      let s : b.given < get_or b.path q 0 = k.down in
      absurd (omega (arith, (represents_bounds d γ b ten r).on_path q below))
  edge_ties q l below some (edge_at w m j n c y z) =
      record {
        w = w;
        free = unnumbered_free d γ b ten r w (omega (arith, ends w _ _ (has_flip c))) n;
        label =
            table.joined (device_at b q) w ((l - 1) / 256) (has_eq (sym (device_is d γ b ten r q below)) refl refl c)
            ∙ ap (label_of ((l - 1) / 256)) z ∙ label_whole l some;
        next_is = refl;
      }
