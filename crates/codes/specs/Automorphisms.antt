-- Automorphisms of a drawing, and exchangeable devices (twins): what is seen below a numbering is seen below its image, so that
-- of exchangeable devices without a number one stands for all. Rests on Better, Runs and LabelLaws. Assumes nothing.
use Rattle.std.specs.Prelude.{◌≡◌, refl, Bool, cond, ℕ, zero, suc, ◌≤◌, ◌<◌, eqb, length}
use Rattle.std.proofs.Math.Path.{sym, subst}
use Rattle.std.proofs.Common.{ap, ap₂, ◌∙◌, arith}
use mathlib.Core.List.{List, [], ◌∷◌, map}
use Rattle.std.proofs.Math.Logic.{inl, inr}
use Rattle.std.proofs.Math.Decide.{ℕ_discrete}
use borrow.Author.Tests.{eq-eqb, ne_eqb}
use Rattle.laws.specs.Lists.{snoc, map_append}
use Rattle.graphs.specs.Drawing.{Drawing, devices, kind}
use Rattle.graphs.specs.Map.{image}
use Rattle.graphs.specs.Cables.{Has, has_eq, has_flip}
use Rattle.graphs.specs.Embedding.{Unnumbered}
use Rattle.graphs.specs.Graph.{Simple}
use Rattle.codes.specs.Code.{Rec, Reading}
use Rattle.codes.specs.CodeOrder.{LabelOrder}
use Rattle.codes.specs.Extension.{Local, chord_at, edge_at, next}
use Rattle.codes.specs.Better.{Better}
use Rattle.codes.specs.Runs.{Run, LeastRun}
use Rattle.codes.specs.BranchState.{label_at, Labels}
use Rattle.codes.specs.Twins.{Exchangeable}
use Rattle.codes.specs.LabelLaws.{Labelled, cable_labelled, cable_label_some, label_cable}

-- AN AUTOMORPHISM: different devices to different devices, each cable to one of its kind, with the kinds of its ends
pub record Automorphism (d : Drawing) (σ : ℕ → ℕ) : Type 0 where
  pub has_kept : (a b k : ℕ) → Has a b k d.cables → Has (σ a) (σ b) k d.cables
  pub kind_kept : (a b k : ℕ) → Has a b k d.cables → kind d (σ b) ≡ kind d b
  pub injective : (a b : ℕ) → σ a ≡ σ b → a ≡ b
  pub none_kept : σ 256 ≡ 256

module _ {d : Drawing} {σ : ℕ → ℕ} (α : Automorphism d σ) where
  -- THE IMAGE OF A NUMBERING
  image_mapped : (f : List ℕ) (i : ℕ) → image (map σ f) i ≡ σ (image f i)
  image_mapped [] i = sym α.none_kept
  image_mapped (x ∷ f) zero = refl
  image_mapped (x ∷ f) (suc i) = image_mapped f i

  size_mapped : (f : List ℕ) → length (map σ f) ≡ length f
  size_mapped [] = refl
  size_mapped (x ∷ f) = ap suc (size_mapped f)

  unnumbered_mapped : (f : List ℕ) (w : ℕ) → Unnumbered f w → Unnumbered (map σ f) (σ w)
  unnumbered_mapped f w n i h e = n i (omega (arith, size_mapped f)) (α.injective (image f i) w (sym (image_mapped f i) ∙ e))

  -- WHAT IS LOCAL to a numbering is local to its image, and leads to the image of what it leads to
  local_mapped : {x : Reading} {f : List ℕ} {e : Rec} (h : Local d x f e) → (g : Local d x (map σ f) e) × (next g ≡ map σ (next h))
  local_mapped {f = f} {e = e} (chord_at b h y z) = (
    chord_at b
        (has_eq (sym (image_mapped f e.i)) (sym (image_mapped f e.j)) refl
        (α.has_kept (image f e.i) (image f e.j) e.c h)) y z,
    refl,
  )
  local_mapped {f = f} {e = e} (edge_at w o j n h y z) = (
    edge_at (σ w) o j (unnumbered_mapped f w n)
        (has_eq (sym (image_mapped f e.i)) refl refl (α.has_kept (image f e.i) w e.c h)) y
        (α.kind_kept (image f e.i) w e.c h ∙ z),
    sym (map_append σ f (w ∷ [])),
  )

  -- what is better below a numbering is better below its image
  pub better_mapped :
      (labels : Rec → Rec → Bool) (γ ss : List Rec) (f : List ℕ) → Better labels d γ ss f → Better labels d γ ss (map σ f)
  unfolding Better
  better_mapped labels γ [] f b = b
  better_mapped labels γ (e ∷ ss) f (inl s) = inl (record { l = s.l; local = (local_mapped s.local).0; earlier = s.earlier })
  better_mapped labels γ (e ∷ ss) f (inr (h, b)) =
      let g = local_mapped h in
      inr (g.0, subst (Better labels d (snoc γ e) ss) (sym g.1) (better_mapped labels (snoc γ e) ss (next h) b))

  -- a run from a numbering is one from its image
  pub run_mapped : (γ : List Rec) (f : List ℕ) (ss : List Rec) → Run d γ f ss → Run d γ (map σ f) ss
  unfolding Run
  run_mapped γ f [] r = tt
  run_mapped γ f (e ∷ ss) (h, r) =
      let g = local_mapped h in
      (g.0, subst (λ (y : List ℕ). Run d (snoc γ e) y ss) (sym g.1) (run_mapped (snoc γ e) (next h) ss r))

  pub least_run_mapped :
      (labels : Rec → Rec → Bool) (o : LabelOrder labels) (γ : List Rec) (f : List ℕ) (rest : List Rec)
      → LeastRun labels o d γ (map σ f) rest → LeastRun labels o d γ f rest
  least_run_mapped labels o γ f rest h ss r e = h ss (run_mapped γ f ss r) e

-- THE SWAP of two devices
unfoldable pub swap : (u v n : ℕ) → ℕ
swap u v n = cond {A = ℕ} (eqb n u) v (cond {A = ℕ} (eqb n v) u n)

data Swapped (u v n m : ℕ) : Type 0 where
  first : n ≡ u → m ≡ v → Swapped u v n m
  second : n ≡ v → m ≡ u → Swapped u v n m
  neither : (n ≡ u → ⊥) → (n ≡ v → ⊥) → m ≡ n → Swapped u v n m

module _ (u v : ℕ) where
  swap_first : (n : ℕ) → n ≡ u → swap u v n ≡ v
  unfolding swap
  swap_first n e = rw (eq-eqb n u e)

  swap_neither : (n : ℕ) → (n ≡ u → ⊥) → (n ≡ v → ⊥) → swap u v n ≡ n
  unfolding swap
  swap_neither n p q = rw (ne_eqb n u p, ne_eqb n v q)

  swap_second : (n : ℕ) → n ≡ v → swap u v n ≡ u
  unfolding swap
  swap_second n e = go (ℕ_discrete n u)
    where
      go : Dec (n ≡ u) → swap u v n ≡ u
      go (yes p) = swap_first n p ∙ sym e ∙ p
      go (no p) = rw (ne_eqb n u p, eq-eqb n v e)

  swapped : (n : ℕ) → Swapped u v n (swap u v n)
  swapped n = go (ℕ_discrete n u) (ℕ_discrete n v)
    where
      go : Dec (n ≡ u) → Dec (n ≡ v) → Swapped u v n (swap u v n)
      go (yes p) q = first p (swap_first n p)
      go (no p) (yes q) = second q (swap_second n q)
      go (no p) (no q) = neither p q (swap_neither n p q)

  swap_twice : (n : ℕ) → swap u v (swap u v n) ≡ n
  swap_twice n = go (swapped n)
    where
      go : Swapped u v n (swap u v n) → swap u v (swap u v n) ≡ n
      go (first p q) = swap_second (swap u v n) q ∙ sym p
      go (second p q) = swap_first (swap u v n) q ∙ sym p
      go (neither p q e) = ap (swap u v) e ∙ e

  swap_injective : (a b : ℕ) → swap u v a ≡ swap u v b → a ≡ b
  swap_injective a b e = sym (swap_twice a) ∙ ap (swap u v) e ∙ swap_twice b

  -- a numbering without both stays
  swap_stays : (f : List ℕ) → Unnumbered f u → Unnumbered f v → map (swap u v) f ≡ f
  swap_stays [] p q = refl
  swap_stays (x ∷ f) p q =
      ap₂ (λ (y : ℕ) (ys : List ℕ). y ∷ ys) (swap_neither x (p 0 (omega arith)) (q 0 (omega arith)))
      (swap_stays f (λ i h. p (suc i) (omega arith)) (λ i h. q (suc i) (omega arith)))

  -- with the one at its end it becomes that with the other
  swap_ends : (f : List ℕ) → Unnumbered f u → Unnumbered f v → map (swap u v) (snoc f v) ≡ snoc f u
  swap_ends f p q =
      map_append (swap u v) f (v ∷ [])
      ∙ ap₂ (λ (ys : List ℕ) (y : ℕ). snoc ys y) (swap_stays f p q) (swap_second v refl)

module _ (d : Drawing) (s : Simple d) (ten : devices d ≤ 10) (t : List ℕ) (table : Labels d t) {u v : ℕ} (x : Exchangeable t u v) where
  -- THEIR SWAP IS AN AUTOMORPHISM
  swap_label :
      (a b : ℕ) → a < 10 → b < 10 → (a ≡ b → ⊥) → label_at t (swap u v a) (swap u v b) ≡ label_at t a b
  swap_label a b p q n = go (swapped u v a) (swapped u v b)
    where
      to : {a' b' c e : ℕ} → a' ≡ c → b' ≡ e → label_at t a' b' ≡ label_at t c e
      to y z = ap₂ (λ (i j : ℕ). label_at t i j) y z

      go : Swapped u v a (swap u v a) → Swapped u v b (swap u v b) → label_at t (swap u v a) (swap u v b) ≡ label_at t a b
      go (first y z) (first f g) = absurd (n (y ∙ sym f))
      go (first y z) (second f g) = to z g ∙ sym x.between ∙ to (sym y) (sym f)
      go (first y z) (neither f h g) = to z g ∙ sym (x.apart b q f h).0 ∙ to (sym y) refl
      go (second y z) (first f g) = to z g ∙ x.between ∙ to (sym y) (sym f)
      go (second y z) (second f g) = absurd (n (y ∙ sym f))
      go (second y z) (neither f h g) = to z g ∙ (x.apart b q f h).0 ∙ to (sym y) refl
      go (neither y m z) (first f g) = to z g ∙ sym (x.apart a p y m).1 ∙ to refl (sym f)
      go (neither y m z) (second f g) = to z g ∙ (x.apart a p y m).1 ∙ to refl (sym f)
      go (neither y m z) (neither f h g) = to z g

  swap_low : (a : ℕ) → a < 10 → swap u v a < 10
  swap_low a h = go (swapped u v a)
    where
      go : Swapped u v a (swap u v a) → swap u v a < 10
      go (first y z) = omega (arith, x.v_low)
      go (second y z) = omega (arith, x.u_low)
      go (neither y m z) = omega arith

  -- a cable's image, with the same label
  swapped_cable :
      (a b k : ℕ) → Has a b k d.cables → Has (swap u v a) (swap u v b) k d.cables × (kind d (swap u v b) ≡ kind d b)
  swapped_cable a b k h = (has_eq refl refl (c.1.cable_is ∙ sym l.cable_is) c.1.has, c.1.kind_is ∙ sym l.kind_is)
    where
      a_low : a < 10
      a_low = omega (arith, s.ends a b k h)

      b_low : b < 10
      b_low = omega (arith, s.ends b a k (has_flip h))

      l : Labelled d a b k (label_at t a b)
      l = cable_labelled d s.ends t table a b k h

      c : (j : ℕ) × Labelled d (swap u v a) (swap u v b) j (label_at t a b)
      c =
          label_cable d s.ends t table (swap u v a) (swap u v b) (label_at t a b) (swap_low a a_low) (swap_low b b_low)
          (swap_label a b a_low b_low (λ e. s.loopless a k (has_eq refl (sym e) refl h))) (cable_label_some d s.ends t table a b k h)

  pub swap_automorphism : Automorphism d (swap u v)
  swap_automorphism =
      record {
        has_kept = λ a b k h. (swapped_cable a b k h).0;
        kind_kept = λ a b k h. (swapped_cable a b k h).1;
        injective = swap_injective u v;
        none_kept = swap_neither u v 256 (λ e. omega (arith, x.u_low)) (λ e. omega (arith, x.v_low));
      }

  -- ONE STANDS FOR THE OTHER: neither has a number
  module _ (labels : Rec → Rec → Bool) (γ : List Rec) (f : List ℕ) (u_free : Unnumbered f u) (v_free : Unnumbered f v) where
    -- what is better behind v is better behind u
    pub twin_better : (ss : List Rec) → Better labels d γ ss (snoc f v) → Better labels d γ ss (snoc f u)
    twin_better ss b =
        subst (Better labels d γ ss) (swap_ends u v f u_free v_free) (better_mapped swap_automorphism labels γ ss (snoc f v) b)

    -- a code that no run behind u comes before, none behind v does
    pub twin_run :
        (o : LabelOrder labels) (rest : List Rec) → LeastRun labels o d γ (snoc f u) rest → LeastRun labels o d γ (snoc f v) rest
    twin_run o rest h =
        least_run_mapped swap_automorphism labels o γ (snoc f v) rest
        (subst (λ (g : List ℕ). LeastRun labels o d γ g rest) (sym (swap_ends u v f u_free v_free)) h)
