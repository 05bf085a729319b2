-- The order of records, where it says yes: by position, by the kind of i, by label. Rests on Code and FirstRecord. Assumes nothing.
use Rattle.std.specs.Prelude.{◌≡◌, refl, Bool, true, ℕ, ◌<◌}
use Rattle.std.proofs.Common.{◌∙◌, arith}
use Rattle.std.proofs.Math.Decide.{dec_lt}
use borrow.Author.Tests.{lt-ltb, le-ltb, eq-eqb}
use Rattle.graphs.specs.Drawing.{Drawing, kind}
use Rattle.codes.specs.Code.{Rec, forward, kinds_before, rec_before_by}
use Rattle.codes.specs.FirstRecord.{first_record}
use Rattle.codes.specs.BranchState.{label_of}
use Rattle.codes.specs.LabelLaws.{forward_same_ends}

-- BY POSITION, and by the labels where positions are equal
module _ (labels : Rec → Rec → Bool) (e g : Rec) where
  pub lower_backward_first : e.j < e.i → g.j < g.i → e.j < g.j → rec_before_by labels e g ≡ true
  unfolding rec_before_by forward
  lower_backward_first p q h =
      rw (le-ltb e.i e.j (omega arith), le-ltb g.i g.j (omega arith), lt-ltb e.j g.j h)

  pub deeper_forward_first : e.i < e.j → g.i < g.j → g.i < e.i → rec_before_by labels e g ≡ true
  unfolding rec_before_by forward
  deeper_forward_first p q h = rw (lt-ltb e.i e.j p, lt-ltb g.i g.j q, lt-ltb g.i e.i h)

  pub same_backward_first : e.j < e.i → e.i ≡ g.i → e.j ≡ g.j → labels e g ≡ true → rec_before_by labels e g ≡ true
  unfolding rec_before_by forward
  same_backward_first p i j l =
      rw (
        le-ltb e.i e.j (omega arith),
        le-ltb g.i g.j (omega arith),
        le-ltb e.j g.j (omega arith),
        eq-eqb e.j g.j j,
        le-ltb e.i g.i (omega arith),
        eq-eqb e.i g.i i,
      ) l

  pub same_forward_first : e.i < e.j → e.i ≡ g.i → e.j ≡ g.j → labels e g ≡ true → rec_before_by labels e g ≡ true
  same_forward_first p i j l = forward_same_ends labels e g p i j ∙ l

-- BY THE LABELS: a smaller kind of i, or an equal one and a smaller label
pub smaller_kind_first : (e g : Rec) → e.ki < g.ki → kinds_before e g ≡ true
unfolding kinds_before
smaller_kind_first e g h = rw (lt-ltb e.ki g.ki h)

pub smaller_label_first :
    (e g : Rec) → e.ki ≡ g.ki → e.kj < 256 → g.kj < 256 → label_of e.c e.kj < label_of g.c g.kj → kinds_before e g ≡ true
unfolding kinds_before
smaller_label_first e g k p q h = go (dec_lt e.c g.c)
  where
    go : Dec (e.c < g.c) → kinds_before e g ≡ true
    go (yes l) = rw (le-ltb e.ki g.ki (omega arith), eq-eqb e.ki g.ki k, lt-ltb e.c g.c l)
    go (no l) =
        rw (
          le-ltb e.ki g.ki (omega arith),
          eq-eqb e.ki g.ki k,
          le-ltb e.c g.c (omega arith),
          eq-eqb e.c g.c (omega arith),
          lt-ltb e.kj g.kj (omega arith),
        )

-- FIRST RECORDS: a smaller kind of device 0 first
pub first_kind_order :
    (d e : Drawing) (u w k v z l : ℕ) → kind d u < kind e v
    → rec_before_by kinds_before (first_record d u w k) (first_record e v z l) ≡ true
unfolding first_record
first_kind_order d e u w k v z l h =
    same_forward_first kinds_before (first_record d u w k) (first_record e v z l) (omega arith) refl refl
    (smaller_kind_first (first_record d u w k) (first_record e v z l) h)
