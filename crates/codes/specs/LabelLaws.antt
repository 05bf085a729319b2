-- Labels of a table: the cable that each stands for, its two kinds taken out again, and that the order of labels is the
-- paper's order of records. Rests on CodeOrder and BranchState. Assumes nothing.
use Rattle.std.specs.Prelude.{◌≡◌, Bool, false, List, ◌⊎◌, ℕ, ◌-◌, ◌/◌, ◌%◌, ◌≤◌, ◌<◌}
use Rattle.std.proofs.Common.{sym, inl, inr, arith}
use Rattle.std.proofs.Math.Decide.{dec_lt}
use borrow.Author.Tests.{lt-ltb, le-ltb, eq-eqb, ne_eqb}
use Rattle.graphs.specs.Drawing.{Drawing, kind}
use Rattle.graphs.specs.Cables.{Has, has_flip}
use Rattle.graphs.specs.Embedding.{EndsInRange}
use Rattle.codes.specs.Code.{Rec, forward, kinds_before, rec_before_by}
use Rattle.codes.specs.BranchState.{label_of, label_at, Labels}

-- ONE LABEL, taken apart and put together
pub label_parts : (c kj : ℕ) → kj < 256 → (c ≡ (label_of c kj - 1) / 256) × (kj ≡ (label_of c kj - 1) % 256)
label_parts c kj h = (omega arith, omega arith)

pub label_whole : (l : ℕ) → 0 < l → label_of ((l - 1) / 256) ((l - 1) % 256) ≡ l
label_whole l h = omega arith

-- of two labels the smaller has the smaller cable kind, or the same and at most the kind
pub label_order :
    (l m : ℕ) → 0 < l → l ≤ m
    → ((l - 1) / 256 < (m - 1) / 256) ⊎ (((l - 1) / 256 ≡ (m - 1) / 256) × ((l - 1) % 256 ≤ (m - 1) % 256))
label_order l m h le = go (dec_lt ((l - 1) / 256) ((m - 1) / 256))
  where
    go :
        Dec ((l - 1) / 256 < (m - 1) / 256)
        → ((l - 1) / 256 < (m - 1) / 256) ⊎ (((l - 1) / 256 ≡ (m - 1) / 256) × ((l - 1) % 256 ≤ (m - 1) % 256))
    go (yes p) = inl p
    go (no p) = inr (omega arith, omega arith)

-- THE CABLE that a label stands for, of kind k from u to v
pub record Labelled (d : Drawing) (u v k l : ℕ) : Type 0 where
  pub has : Has u v k d.cables
  pub is : l ≡ label_of k (kind d v)
  pub cable_is : k ≡ (l - 1) / 256
  pub kind_is : kind d v ≡ (l - 1) % 256
  pub byte : kind d v < 256

module _ (d : Drawing) (ends : EndsInRange d) (t : List ℕ) (table : Labels d t) where
  -- the end of a cable has a kind
  pub end_byte : (u v k : ℕ) → Has u v k d.cables → kind d v < 256
  end_byte u v k h = table.kind_byte v (ends v u k (has_flip h))

  -- a cable has a label
  pub cable_labelled : (u v k : ℕ) → Has u v k d.cables → Labelled d u v k (label_at t u v)
  cable_labelled u v k h =
      let e = table.joined u v k h in
      let b = end_byte u v k h in
      record { has = h; is = e; cable_is = omega arith; kind_is = omega arith; byte = b }

  pub cable_label_some : (u v k : ℕ) → Has u v k d.cables → 0 < label_at t u v
  cable_label_some u v k h = omega (arith, table.joined u v k h)

  -- a label other than 0 has a cable
  pub label_cable : (u v l : ℕ) → u < 10 → v < 10 → label_at t u v ≡ l → 0 < l → (k : ℕ) × Labelled d u v k l
  label_cable u v l p q e h = go (table.only u v p q)
    where
      go : (label_at t u v ≡ 0) ⊎ ((k : ℕ) × Has u v k d.cables) → (k : ℕ) × Labelled d u v k l
      go (inl z) = absurd (omega arith)
      go (inr z) = (z.0, rw (← e) (cable_labelled u v z.0 z.1))

-- THE ORDER OF RECORDS, where it says no, or leaves it to the labels
module _ (labels : Rec → Rec → Bool) (e r : Rec) where
  pub backward_not_lower : e.j < e.i → r.j < r.i → r.j < e.j → rec_before_by labels e r ≡ false
  unfolding rec_before_by forward
  backward_not_lower p q h =
      rw (
        le-ltb e.i e.j (omega arith),
        le-ltb r.i r.j (omega arith),
        le-ltb e.j r.j (omega arith),
        ne_eqb e.j r.j (λ z. omega arith),
      )

  pub forward_not_first : e.i < e.j → r.j < r.i → rec_before_by labels e r ≡ false
  unfolding rec_before_by forward
  forward_not_first p q = rw (lt-ltb e.i e.j p, le-ltb r.i r.j (omega arith))

  pub forward_not_deeper : e.i < e.j → r.i < r.j → e.i < r.i → rec_before_by labels e r ≡ false
  unfolding rec_before_by forward
  forward_not_deeper p q h =
      rw (
        lt-ltb e.i e.j p,
        lt-ltb r.i r.j q,
        le-ltb r.i e.i (omega arith),
        ne_eqb e.i r.i (λ z. omega arith),
      )

  -- between the same ends the labels decide
  pub forward_same_ends : e.i < e.j → e.i ≡ r.i → e.j ≡ r.j → rec_before_by labels e r ≡ labels e r
  unfolding rec_before_by forward
  forward_same_ends p i j =
      rw (
        lt-ltb e.i e.j p,
        lt-ltb r.i r.j (omega arith),
        le-ltb r.i e.i (omega arith),
        eq-eqb e.i r.i i,
        le-ltb e.j r.j (omega arith),
        eq-eqb e.j r.j j,
      )

-- the paper's order of labels, from equal kinds: where it says no
pub kinds_not_before :
    (e r : Rec) → e.ki ≡ r.ki → (r.c < e.c) ⊎ ((r.c ≡ e.c) × (r.kj ≤ e.kj)) → kinds_before e r ≡ false
unfolding kinds_before
kinds_not_before e r k (inl h) =
    rw (
      le-ltb e.ki r.ki (omega arith),
      eq-eqb e.ki r.ki k,
      le-ltb e.c r.c (omega arith),
      ne_eqb e.c r.c (λ z. omega arith),
    )
kinds_not_before e r k (inr h) =
    rw (
      le-ltb e.ki r.ki (omega arith),
      eq-eqb e.ki r.ki k,
      le-ltb e.c r.c (omega (arith, h.0)),
      eq-eqb e.c r.c (sym h.0),
      le-ltb e.kj r.kj h.1,
    )
