-- Rows that a drawing contains, and greedy codes: each record is the least that goes on. A greedy code comes before any
-- other of its length. Rests on Extension and CodeOrder. Assumes nothing.
use Rattle.std.specs.Prelude.{◌≡◌, Bool, true, false, cond, ℕ, length}
use Rattle.std.proofs.Math.Path.{refl}
use Rattle.std.proofs.Common.{sym, ap₂, ◌∙◌, subst, not-suc-le-zero, arith}
use mathlib.Core.List.{List, [], ◌∷◌, ◌++◌, append-nil, append_assoc}
use Rattle.laws.specs.Lists.{snoc}
use Rattle.graphs.specs.Drawing.{Drawing}
use Rattle.graphs.specs.Embedding.{Embedding}
use Rattle.graphs.specs.Embeddings.{compose, embedding_compose}
use Rattle.codes.specs.Code.{
  Rec,
  Reading,
  fresh,
  begun,
  rows_refusal,
  read_rows,
  drawn,
  rec_same,
  rec_before_by,
  before_by,
}
use Rattle.codes.specs.CodeOrder.{LabelOrder, rec_same_test, not_before}
use Rattle.codes.specs.Step.{Step, steps_back, steps_forward, after}
use Rattle.codes.specs.Reading.{Invariant}
use Rattle.codes.specs.ReadRows.{
  step_from_test,
  step_to_test,
  stepped_is,
  begun_is,
  begun_from_test,
  rows_cons,
  rows_divided,
  rows_join,
  rows_one,
  read_snoc,
  rows_invariant,
}
use Rattle.codes.specs.Extension.{Extension, unbackward, unforward}

-- PARTIAL CODES: rows that the reader accepts, and a numbering that embeds what they describe in d
pub record Fits (d : Drawing) (rs : List Rec) : Type 0 where
  pub accepted : rows_refusal fresh rs ≡ 0
  pub numbering : List ℕ
  pub embedding : Embedding (drawn (read_rows fresh rs)) d numbering

pub fits_nil : (d : Drawing) → Fits d []
unfolding rows_refusal read_rows fresh
fits_nil d = record {
  accepted = refl;
  numbering = [];
  embedding = record {
    size = refl;
    injective = λ i j h. absurd (not-suc-le-zero h);
    lands = λ i h. absurd (not-suc-le-zero h);
    kinds = λ i h. absurd (not-suc-le-zero h);
    cables = λ a b k h. elim h [ ];
  };
}

-- of one record: it is (0, 1)
pub fits_one : (d : Drawing) (e : Rec) → Fits d (e ∷ []) → (e.i ≡ 0) × (e.j ≡ 1) × ((f : List ℕ) × Embedding (drawn (begun e)) d f)
unfolding read_rows
fits_one d e t =
    let c = rows_cons fresh e [] t.accepted in
    let g = begun_from_test e c.step in
    (g.0, g.1, (t.numbering, subst (λ (y : Reading). Embedding (drawn y) d t.numbering) (begun_is e) t.embedding))

-- one record more is an extension
module _ (d : Drawing) (r : Rec) (rs : List Rec) (e : Rec) where
  pub fits_extension : Fits d (snoc (r ∷ rs) e) → Extension d (read_rows fresh (r ∷ rs)) e
  fits_extension t =
      record {
        step = s;
        numbering = t.numbering;
        embedding =
            subst (λ (y : Reading). Embedding (drawn y) d t.numbering) (read_snoc fresh (r ∷ rs) e ∙ stepped_is x v e s) t.embedding;
      }
    where
      x : Reading
      x = read_rows fresh (r ∷ rs)

      c : (rows_refusal fresh (r ∷ rs) ≡ 0) × (rows_refusal x (e ∷ []) ≡ 0)
      c = rows_divided fresh (r ∷ rs) (e ∷ []) t.accepted

      v : Invariant x
      v = rows_invariant r rs c.0

      s : Step x e
      s = let z = rows_cons x e [] c.1 in step_from_test x v e z.step z.kinds

  pub extension_fits : rows_refusal fresh (r ∷ rs) ≡ 0 → Extension d (read_rows fresh (r ∷ rs)) e → Fits d (snoc (r ∷ rs) e)
  extension_fits ok t =
      record {
        accepted = rows_join fresh (r ∷ rs) (e ∷ []) ok (let z = step_to_test x v e t.step in rows_one x e z.0 z.1);
        numbering = t.numbering;
        embedding =
            subst (λ (y : Reading). Embedding (drawn y) d t.numbering) (sym (read_snoc fresh (r ∷ rs) e ∙ stepped_is x v e t.step))
            t.embedding;
      }
    where
      x : Reading
      x = read_rows fresh (r ∷ rs)

      v : Invariant x
      v = rows_invariant r rs ok

-- a numbering of an extension has one of what was extended
extension_shortened : (d : Drawing) (x : Reading) → Invariant x → (e : Rec) → Extension d x e → (f : List ℕ) × Embedding (drawn x) d f
extension_shortened d x v e t = go t.step t.embedding
  where
    go : (s : Step x e) → Embedding (drawn (after s)) d t.numbering → (f : List ℕ) × Embedding (drawn x) d f
    go (steps_back o p q) m = (t.numbering, (unbackward d x v e t.numbering m).0)
    go (steps_forward o p q r) m = let s = unforward d x v e t.numbering (v.below e.i o) p m in (s.f, s.embedding)

fits_shorter : (d : Drawing) (rs : List Rec) (e : Rec) → Fits d (snoc rs e) → Fits d rs
fits_shorter d [] e t = fits_nil d
fits_shorter d (r ∷ rs) e t =
    let ok : rows_refusal fresh (r ∷ rs) ≡ 0 = (rows_divided fresh (r ∷ rs) (e ∷ []) t.accepted).0 in
    let s = extension_shortened d (read_rows fresh (r ∷ rs)) (rows_invariant r rs ok) e (fits_extension d r rs e t) in
    record { accepted = ok; numbering = s.0; embedding = s.1 }

-- what has the longer rows has the shorter
pub fits_prefix : (d : Drawing) (rs ss : List Rec) → Fits d (rs ++ ss) → Fits d rs
fits_prefix d rs [] t = rw append-nil at t
fits_prefix d rs (s ∷ ss) t = fits_shorter d rs s (fits_prefix d (snoc rs s) ss (rw append_assoc t))

-- what a contained drawing has, the one that contains it has
pub fits_through : (e d : Drawing) (f : List ℕ) → Embedding e d f → (rs : List Rec) → Fits e rs → Fits d rs
fits_through e d f m [] t = fits_nil d
fits_through e d f m (r ∷ rs) t =
    record {
      accepted = t.accepted;
      numbering = compose t.numbering f;
      embedding =
          embedding_compose (drawn (read_rows fresh (r ∷ rs))) e d t.numbering f (rows_invariant r rs t.accepted).simple.ends
          t.embedding m;
    }

-- GREEDY
module _ (labels : Rec → Rec → Bool) where
  -- no record that extends rs in d comes before e
  abbrev pub NoneBefore : Drawing → List Rec → Rec → Type 0
  NoneBefore d rs e = (l : Rec) → Fits d (snoc rs l) → rec_before_by labels l e ≡ false

  -- after γ, each record of rs is the least that goes on
  unfoldable pub Greedy : Drawing → (γ rs : List Rec) → Type 0
  Greedy d γ [] = Unit {0}
  Greedy d γ (e ∷ rs) = NoneBefore d γ e × Greedy d (snoc γ e) rs

  pub greedy_snoc : (d : Drawing) (γ rs : List Rec) (e : Rec) → Greedy d γ rs → NoneBefore d (γ ++ rs) e → Greedy d γ (snoc rs e)
  unfolding Greedy
  greedy_snoc d γ [] e g h = (rw append-nil at h, tt)
  greedy_snoc d γ (r ∷ rs) e g h = (g.0, greedy_snoc d (snoc γ r) rs e g.1 (rw append_assoc h))

  pub greedy_prefix : (d : Drawing) (γ rs ss : List Rec) → Greedy d γ (rs ++ ss) → Greedy d γ rs
  unfolding Greedy
  greedy_prefix d γ [] ss g = tt
  greedy_prefix d γ (r ∷ rs) ss g = (g.0, greedy_prefix d (snoc γ r) rs ss g.1)

  -- where less fits, what is greedy stays so
  pub greedy_within : (d e : Drawing) → ((rs : List Rec) → Fits e rs → Fits d rs) → (γ rs : List Rec) → Greedy d γ rs → Greedy e γ rs
  unfolding Greedy
  greedy_within d e into γ [] g = tt
  greedy_within d e into γ (r ∷ rs) g = (λ l t. g.0 l (into (snoc γ l) t), greedy_within d e into (snoc γ r) rs g.1)

  -- A GREEDY CODE COMES BEFORE every other of its length
  pub greedy_before :
      LabelOrder labels → (d : Drawing) (γ rs ss : List Rec) → Greedy d γ rs → Fits d (γ ++ ss) → length ss ≡ length rs → (ss ≡ rs → ⊥)
      → before_by labels rs ss ≡ true
  unfolding Greedy before_by
  greedy_before o d γ [] [] g t n z = absurd (z refl)
  greedy_before o d γ [] (s ∷ ss) g t n z = absurd (omega arith)
  greedy_before o d γ (r ∷ rs) [] g t n z = absurd (omega arith)
  greedy_before o d γ (r ∷ rs) (s ∷ ss) g t n z = go (rec_same r s) refl (λ h q. greedy_before o d (snoc γ r) rs ss g.1 h (omega arith) q)
    where
      front : Fits d (snoc γ s)
      front = fits_prefix d (snoc γ s) ss (rw append_assoc t)

      go :
          (b : Bool) → rec_same r s ≡ b → (Fits d (snoc γ r ++ ss) → (ss ≡ rs → ⊥) → before_by labels rs ss ≡ true)
          → cond b (before_by labels rs ss) (rec_before_by labels r s) ≡ true
      go true e h =
          let q : r ≡ s = rec_same_test.to r s e in
          h (rw (q, append_assoc) t) (λ y. z (ap₂ {C = List Rec} (λ a b. a ∷ b) (sym q) y))
      go false e h = not_before labels o s r (g.0 s front) e
