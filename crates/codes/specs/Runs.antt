-- Runs: records that are local step by step from one numbering. A code that no full run comes before, from any first
-- cable, is the least code. Rests on Branch and FullCode. Assumes nothing.
use Rattle.std.specs.Prelude.{◌≡◌, Bool, true, ◌⊎◌, ℕ, length}
use Rattle.std.proofs.Math.Path.{refl, subst}
use Rattle.std.proofs.Common.{sym, ◌∙◌, arith}
use Rattle.std.proofs.Math.Bool.{false}
use mathlib.Core.List.{List, [], ◌∷◌, ◌++◌, append_assoc, append-nil}
use Rattle.laws.specs.Tests.{Three, less, same, more, true_and_false}
use Rattle.laws.specs.Lists.{snoc}
use Rattle.graphs.specs.Drawing.{Drawing}
use Rattle.graphs.specs.Cables.{Has}
use Rattle.graphs.specs.Graph.{Pattern}
use Rattle.codes.specs.Code.{Rec, Reading, fresh, read_rows, rec_before_by, before_by, CodeOf, LeastBy}
use Rattle.codes.specs.CodeOrder.{
  LabelOrder,
  rec_before_strict,
  before_strict,
  later_not_before,
  not_before_lower,
  same_first,
}
use Rattle.codes.specs.Extension.{Local, next}
use Rattle.codes.specs.Greedy.{Fits, fits_prefix}
use Rattle.codes.specs.ReadRows.{rows_invariant}
use Rattle.codes.specs.FullCode.{Coded, coded_fits, coded_length, coded_from_test, coded_to_test, fits_coded}
use Rattle.codes.specs.FirstRecord.{first_record, FirstCable, fits_first}
use Rattle.codes.specs.Branch.{Node, node_fits, node_parent}

-- each record of ss is local to the numbering so far
unfoldable pub Run : (d : Drawing) (γ : List Rec) (f : List ℕ) (ss : List Rec) → Type 0
Run d γ f [] = Unit {0}
Run d γ f (e ∷ ss) = (h : Local d (read_rows fresh γ) f e) × Run d (snoc γ e) (next h) ss

-- rows that fit are a run from some numbering of their beginning
pub record BeginsRun (d : Drawing) (γ ss : List Rec) : Type 0 where
  pub f : List ℕ
  pub node : Node d γ f
  pub run : Run d γ f ss

pub fits_run : (d : Drawing) (r : Rec) (rs ss : List Rec) → Fits d (r ∷ rs ++ ss) → BeginsRun d (r ∷ rs) ss
unfolding Run
fits_run d r rs [] t =
    let z : Fits d (r ∷ rs) = rw append-nil at t in
    record {
      f = z.numbering;
      node = record {
        accepted = z.accepted;
        invariant = rows_invariant r rs
            z.accepted;
        embedding = z.embedding;
      };
      run = tt;
    }
fits_run d r rs (e ∷ ss) t = go (fits_run d r (snoc rs e) ss (rw append_assoc t))
  where
    go : BeginsRun d (r ∷ snoc rs e) ss → BeginsRun d (r ∷ rs) (e ∷ ss)
    go b =
        let c = node_parent d r rs e b.f b.node in
        record { f = c.f; node = c.node; run = (c.local, subst (λ (g : List ℕ). Run d (snoc (r ∷ rs) e) g ss) (sym c.is) b.run) }

module _ (labels : Rec → Rec → Bool) (o : LabelOrder labels) (d : Drawing) where
  -- no record local to f comes before e
  abbrev pub LeastLocal : Reading → List ℕ → Rec → Type 0
  LeastLocal x f e = (l : Rec) → Local d x f l → rec_before_by labels l e ≡ false

  -- no run from f of the length of tail comes before tail
  abbrev pub LeastRun : (γ : List Rec) (f : List ℕ) (tail : List Rec) → Type 0
  LeastRun γ f tail = (ss : List Rec) → Run d γ f ss → length ss ≡ length tail → before_by labels ss tail ≡ false

  pub least_run_done : (γ : List Rec) (f : List ℕ) → LeastRun γ f []
  unfolding before_by
  least_run_done γ f ss r e = refl

  -- the code is ahead already: all that goes on comes after b
  pub least_run_cut :
      (γ : List Rec) (f : List ℕ) (b : Rec) (tail : List Rec) → ((l : Rec) → Local d (read_rows fresh γ) f l → rec_before_by labels b l ≡ true)
      → LeastRun γ f (b ∷ tail)
  unfolding Run
  least_run_cut γ f b tail later [] r n = absurd (omega arith)
  least_run_cut γ f b tail later (l ∷ ss) (h, r) n = later_not_before labels o b l tail ss (later l h)

  -- e is the least that goes on, and its ties are done
  pub least_run_step :
      (γ : List Rec) (f : List ℕ) (e : Rec) (tail : List Rec) → LeastLocal (read_rows fresh γ) f e
      → ((h : Local d (read_rows fresh γ) f e) → LeastRun (snoc γ e) (next h) tail) → LeastRun γ f (e ∷ tail)
  unfolding Run
  least_run_step γ f e tail least ties [] r n = absurd (omega arith)
  least_run_step γ f e tail least ties (l ∷ ss) (h, r) n = go ((rec_before_strict labels o).tri e l) h r
    where
      go :
          Three (rec_before_by labels e l ≡ true) (e ≡ l) (rec_before_by labels l e ≡ true)
          → (h : Local d (read_rows fresh γ) f l) → Run d (snoc γ l) (next h) ss → before_by labels (l ∷ ss) (e ∷ tail) ≡ false
      go (less q) h r = later_not_before labels o e l tail ss q
      go (same q) h r =
          subst (λ (y : Rec). (h : Local d (read_rows fresh γ) f y) → Run d (snoc γ y) (next h) ss → before_by labels (y ∷ ss) (e ∷ tail) ≡ false) q
          (λ g t. same_first labels e ss tail ∙ ties g ss t (omega arith)) h r
      go (more q) h r = absurd (true_and_false q (least l h))

  -- a code that is lower or equal serves too
  pub least_run_lower :
      (γ : List Rec) (f : List ℕ) (tail lower : List Rec) → LeastRun γ f tail → length lower ≡ length tail
      → (lower ≡ tail) ⊎ (before_by labels lower tail ≡ true) → LeastRun γ f lower
  least_run_lower γ f tail lower h n z ss r e = not_before_lower labels o ss tail lower (h ss r (omega arith)) z

  -- FROM THE START: no first cable before r, and behind each that gives r no run before the rest
  pub least_from_runs :
      (p : Pattern d) (r : Rec) (tail : List Rec) → Fits d (r ∷ tail) → length (r ∷ tail) ≡ length d.cables
      → ((u w k : ℕ) → Has u w k d.cables → rec_before_by labels (first_record d u w k) r ≡ false)
      → ((u w k : ℕ) → Has u w k d.cables → first_record d u w k ≡ r → LeastRun (r ∷ []) (u ∷ w ∷ []) tail) → LeastBy labels d (r ∷ tail)
  least_from_runs p r tail t m first runs =
      record { code = coded_to_test d p.simple p.cables_high (r ∷ tail) (fits_coded d p r tail t m); least = least }
    where
      least : (ss : List Rec) → CodeOf d ss → (ss ≡ r ∷ tail → ⊥) → before_by labels (r ∷ tail) ss ≡ true
      least ss c n = go ((before_strict labels o).tri (r ∷ tail) ss)
        where
          k : Coded d ss
          k = coded_from_test d p.simple ss c

          full : length ss ≡ length (r ∷ tail)
          full = coded_length d p.simple ss k ∙ sym m

          not : (ss : List Rec) → Fits d ss → length ss ≡ length (r ∷ tail) → before_by labels ss (r ∷ tail) ≡ false
          not [] z e = absurd (omega arith)
          not (s ∷ ss) z e = by_first ((rec_before_strict labels o).tri r s) (fits_first d s one)
            where
              one : Fits d (s ∷ [])
              one = fits_prefix d (s ∷ []) ss z

              behind : BeginsRun d (s ∷ []) ss
              behind = fits_run d s [] ss z

              by_first :
                  Three (rec_before_by labels r s ≡ true) (r ≡ s) (rec_before_by labels s r ≡ true) → FirstCable d s one.numbering
                  → before_by labels (s ∷ ss) (r ∷ tail) ≡ false
              by_first (less q) a = later_not_before labels o r s tail ss q
              by_first (more q) a =
                  absurd (true_and_false q (subst (λ (y : Rec). rec_before_by labels y r ≡ false) a.record_is
                  (first a.u a.w a.k a.has)))
              by_first (same q) a =
                  let b = fits_first d s (node_fits d (s ∷ []) behind.f behind.node) in
                  let l = runs b.u b.w b.k b.has (b.record_is ∙ sym q) in
                  rw (← q) (same_first labels r ss tail ∙ l ss (rw (b.numbering_is, q) behind.run) (omega arith))

          go :
              Three (before_by labels (r ∷ tail) ss ≡ true) (r ∷ tail ≡ ss) (before_by labels ss (r ∷ tail) ≡ true)
              → before_by labels (r ∷ tail) ss ≡ true
          go (less q) = q
          go (same q) = absurd (n (sym q))
          go (more q) = absurd (true_and_false q (not ss (coded_fits k) full))
