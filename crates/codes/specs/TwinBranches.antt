-- A branch of a search at a device that has a twin without a number below it: the twin ties with it, and stands for it. Rests on
-- Automorphisms, BranchBounds and BranchSteps. Assumes nothing.
use Rattle.std.specs.Prelude.{◌≡◌, Bool, List, ℕ, ◌≤◌, ◌<◌, get_or}
use Rattle.std.proofs.Common.{sym, ◌∙◌, subst, arith}
use Rattle.laws.specs.Lists.{snoc}
use Rattle.graphs.specs.Drawing.{Drawing, devices}
use Rattle.graphs.specs.Graph.{Simple}
use Rattle.codes.specs.Code.{Rec}
use Rattle.codes.specs.CodeOrder.{LabelOrder}
use Rattle.codes.specs.Better.{Better}
use Rattle.codes.specs.Runs.{LeastRun}
use Rattle.codes.specs.BranchState.{Labels, State, numbering, device_at, edge_label, Free, with_edge, Represents}
use Rattle.codes.specs.Twins.{FreeTwin}
use Rattle.codes.specs.BranchBounds.{
  represents_bounds,
  numbering_size,
  device_is,
  device_low,
  free_unnumbered,
}
use Rattle.codes.specs.BranchSteps.{numbering_with_edge}
use Rattle.codes.specs.Automorphisms.{twin_better, twin_run}

module _ (d : Drawing) (s : Simple d) (ten : devices d ≤ 10) (t : List ℕ) (table : Labels d t) (γ : List Rec) (b : State) (r : Represents d γ b)
    {w : ℕ} (f : Free b w) (x : FreeTwin t b.used w) where
  pub twin_free : Free b x.u
  twin_free = record { below = x.exchangeable.u_low; unused = x.free }

  -- a device of the path is none without a number
  path_not_free : (q : ℕ) → q < b.count → (v : ℕ) → Free b v → device_at b q ≡ v → ⊥
  path_not_free q h v g e =
      free_unnumbered d γ b ten r v g (get_or b.path q 0)
      (omega (arith, (represents_bounds d γ b ten r).on_path q h, numbering_size d γ b ten r)) (sym (device_is d γ b ten r q h) ∙ e)

  -- so that every device of the path sees both alike
  pub twin_label : (q : ℕ) → q < b.count → edge_label t b q x.u ≡ edge_label t b q w
  twin_label q h =
      (x.exchangeable.apart (device_at b q) (device_low d γ b ten r q h) (path_not_free q h x.u twin_free) (path_not_free q h w f)).1

  -- WITH A NUMBER FOR ONE OF THEM
  module _ (labels : Rec → Rec → Bool) (δ : List Rec) (q : ℕ) (room : b.given < 10) where
    ends_with : (v : ℕ) → numbering (with_edge b q v) ≡ snoc (numbering b) v
    ends_with v = numbering_with_edge d ten s.ends t table γ b r q v room

    pub twin_edge_better :
        (ss : List Rec) → Better labels d δ ss (numbering (with_edge b q w)) → Better labels d δ ss (numbering (with_edge b q x.u))
    twin_edge_better ss y =
        subst (Better labels d δ ss) (sym (ends_with x.u))
        (twin_better d s ten t table x.exchangeable labels δ (numbering b) (free_unnumbered d γ b ten r x.u twin_free)
        (free_unnumbered d γ b ten r w f) ss (subst (Better labels d δ ss) (ends_with w) y))

    pub twin_edge_run :
        (o : LabelOrder labels) (rest : List Rec) → LeastRun labels o d δ (numbering (with_edge b q x.u)) rest
        → LeastRun labels o d δ (numbering (with_edge b q w)) rest
    twin_edge_run o rest y =
        subst (λ (g : List ℕ). LeastRun labels o d δ g rest) (sym (ends_with w))
        (twin_run d s ten t table x.exchangeable labels δ (numbering b) (free_unnumbered d γ b ten r x.u twin_free)
        (free_unnumbered d γ b ten r w f) o rest (subst (λ (g : List ℕ). LeastRun labels o d δ g rest) (ends_with x.u) y))
