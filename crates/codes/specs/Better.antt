-- The least test: a code is greedy exactly if no branch sees a record before the code's next one. Rests on Branch.
-- Assumes nothing.
use Rattle.std.specs.Prelude.{◌≡◌, Bool, true, false, ◌⊎◌, ℕ, ◌≤◌}
use Rattle.std.proofs.Common.{sym}
use Rattle.std.proofs.Math.Path.{subst}
use mathlib.Core.List.{List, [], ◌∷◌, ◌++◌, append_assoc}
use Rattle.std.proofs.Math.Logic.{inl, inr}
use Rattle.laws.specs.Tests.{true_and_false, false_unless}
use Rattle.laws.specs.Lists.{snoc}
use Rattle.graphs.specs.Drawing.{Drawing, devices}
use Rattle.graphs.specs.Cables.{Has}
use Rattle.graphs.specs.Embedding.{EndsInRange}
use Rattle.graphs.specs.Graph.{Simple}
use Rattle.codes.specs.Code.{Rec, Reading, fresh, rows_refusal, read_rows, rec_before_by}
use Rattle.codes.specs.ReadRows.{rows_invariant, rows_divided}
use Rattle.codes.specs.Extension.{Local, next, Seen, extension_seen}
use Rattle.codes.specs.Greedy.{fits_extension, NoneBefore, Greedy}
use Rattle.codes.specs.FirstRecord.{first_record, first_fits, fits_first}
use Rattle.codes.specs.Branch.{Node, node_fits, node_next, node_parent, node_first}

module _ (labels : Rec → Rec → Bool) (d : Drawing) where
  -- a record local to f comes before e
  pub record SeesBefore (x : Reading) (f : List ℕ) (e : Rec) : Type 0 where
    pub l : Rec
    pub local : Local d x f l
    pub earlier : rec_before_by labels l e ≡ true

  -- some branch below f sees a record before the next one of ss: here, or after following the next record
  unfoldable pub Better : (γ ss : List Rec) (f : List ℕ) → Type 0
  Better γ [] f = ⊥
  Better γ (e ∷ ss) f = SeesBefore (read_rows fresh γ) f e ⊎ ((h : Local d (read_rows fresh γ) f e) × Better (snoc γ e) ss (next h))

  -- what is seen before a record is seen whatever comes behind that record
  pub better_more : (γ ss ms : List Rec) (f : List ℕ) → Better γ ss f → Better γ (ss ++ ms) f
  unfolding Better
  better_more γ [] ms f b = absurd b
  better_more γ (e ∷ ss) ms f (inl s) = inl s
  better_more γ (e ∷ ss) ms f (inr (h, b)) = inr (h, better_more (snoc γ e) ss ms (next h) b)

  module _ (ten : devices d ≤ 10) (ends : EndsInRange d) where
    -- where something better is seen, the code is not greedy
    pub better_not_greedy : (γ ss : List Rec) (f : List ℕ) → Node d γ f → Better γ ss f → Greedy labels d γ ss → ⊥
    unfolding Better Greedy
    better_not_greedy γ [] f n b g = b
    better_not_greedy γ (e ∷ ss) f n (inl s) g =
        true_and_false s.earlier (g.0 s.l (node_fits d (snoc γ s.l) (next s.local) (node_next d ten ends γ f s.l n s.local)))
    better_not_greedy γ (e ∷ ss) f n (inr (h, b)) g = better_not_greedy (snoc γ e) ss (next h) (node_next d ten ends γ f e n h) b g.1

  -- where nothing better is seen from any numbering, it is
  pub none_better_greedy :
      (r : Rec) (rs ss : List Rec) → rows_refusal fresh (r ∷ rs ++ ss) ≡ 0 → ((f : List ℕ) → Node d (r ∷ rs) f → Better (r ∷ rs) ss f → ⊥)
      → Greedy labels d (r ∷ rs) ss
  unfolding Better Greedy
  none_better_greedy r rs [] ok none = tt
  none_better_greedy r rs (e ∷ ss) ok none = (least, none_better_greedy r (snoc rs e) ss (rw append_assoc ok) rest)
    where
      x : Reading
      x = read_rows fresh (r ∷ rs)

      begin : rows_refusal fresh (r ∷ rs) ≡ 0
      begin = (rows_divided fresh (r ∷ rs) (e ∷ ss) ok).0

      least : NoneBefore labels d (r ∷ rs) e
      least l t = false_unless (rec_before_by labels l e) seen
        where
          s : Seen d x l
          s = extension_seen d x (rows_invariant r rs begin) l (fits_extension d r rs l t)

          seen : rec_before_by labels l e ≡ true → ⊥
          seen z =
              none s.numbering (record { accepted = begin; invariant = rows_invariant r rs begin; embedding = s.embedding })
              (inl (record { l = l; local = s.local; earlier = z }))

      rest : (g : List ℕ) → Node d (snoc (r ∷ rs) e) g → Better (snoc (r ∷ rs) e) ss g → ⊥
      rest g n b =
          let c = node_parent d r rs e g n in
          none c.f c.node (inr (c.local, subst (Better (snoc (r ∷ rs) e) ss) (sym c.is) b))

  -- FROM THE START: every cable each way round against the first record
  module _ (s : Simple d) where
    pub start_not_greedy : (u w k : ℕ) → Has u w k d.cables → (r : Rec) (ss : List Rec) → rec_before_by labels (first_record d u w k) r ≡ true
        → Greedy labels d [] (r ∷ ss) → ⊥
    unfolding Greedy
    start_not_greedy u w k h r ss z g = true_and_false z (g.0 (first_record d u w k) (first_fits d s u w k h))

    pub branch_not_greedy : devices d ≤ 10 → (u w k : ℕ) → Has u w k d.cables → (ss : List Rec)
        → Better (first_record d u w k ∷ []) ss (u ∷ w ∷ []) → Greedy labels d [] (first_record d u w k ∷ ss) → ⊥
    unfolding Greedy
    branch_not_greedy ten u w k h ss b g =
        better_not_greedy ten s.ends (first_record d u w k ∷ []) ss (u ∷ w ∷ []) (node_first d s u w k h) b g.1

    pub start_greedy : (r : Rec) (ss : List Rec) → rows_refusal fresh (r ∷ ss) ≡ 0
        → ((u w k : ℕ) → Has u w k d.cables → rec_before_by labels (first_record d u w k) r ≡ false)
        → ((u w k : ℕ) → Has u w k d.cables → first_record d u w k ≡ r → Better (r ∷ []) ss (u ∷ w ∷ []) → ⊥)
        → Greedy labels d [] (r ∷ ss)
    unfolding Greedy
    start_greedy r ss ok least none = (first, none_better_greedy r [] ss ok branch)
      where
        first : NoneBefore labels d [] r
        first l t =
            let c = fits_first d l t in
            subst (λ (z : Rec). rec_before_by labels z r ≡ false) c.record_is (least c.u c.w c.k c.has)

        branch : (f : List ℕ) → Node d (r ∷ []) f → Better (r ∷ []) ss f → ⊥
        branch f n b =
            let c = fits_first d r (node_fits d (r ∷ []) f n) in
            none c.u c.w c.k c.has c.record_is (subst (Better (r ∷ []) ss) (sym c.numbering_is) b)
