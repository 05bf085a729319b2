-- The labels of a record as one number, and that records between the same ends come in the order of their numbers. Rests on
-- LabelLaws. Assumes nothing.
use Rattle.std.specs.Prelude.{◌≡◌, ℕ, ◌+◌, ◌*◌, ◌<◌}
use Rattle.std.proofs.Common.{◌∙◌, arith}
use Rattle.std.proofs.Math.Bool.{true}
use Rattle.std.proofs.Math.Decide.{dec_lt}
use borrow.Author.Tests.{lt-ltb, le-ltb, eq-eqb}
use Rattle.codes.specs.Code.{Rec, kinds_before, rec_before}
use Rattle.codes.specs.CodeOrder.{rec_eq}
use Rattle.codes.specs.LabelLaws.{forward_same_ends}

-- kind of i, cable kind and kind of j as the digits of a number
pub record NumbersLabels (r : Rec) (l : ℕ) : Type 0 where
  pub is : l ≡ 65536 * r.ki + (256 * r.c + r.kj)
  pub i_byte : r.ki < 256
  pub cable_byte : r.c < 256
  pub j_byte : r.kj < 256

module _ (a b : Rec) {m n : ℕ} (p : NumbersLabels a m) (q : NumbersLabels b n) where
  -- the order of labels is that of the numbers
  number_before : m < n → kinds_before a b ≡ true
  unfolding kinds_before
  number_before h = kind (dec_lt a.ki b.ki) (dec_lt a.c b.c)
    where
      kind : Dec (a.ki < b.ki) → Dec (a.c < b.c) → kinds_before a b ≡ true
      kind (yes k) c = rw (lt-ltb a.ki b.ki k)
      kind (no k) (yes c) =
          let same : a.ki ≡ b.ki = omega (arith, p.is, q.is, p.cable_byte, q.cable_byte, p.j_byte, q.j_byte) in
          rw (le-ltb a.ki b.ki (omega arith), eq-eqb a.ki b.ki same, lt-ltb a.c b.c c)
      kind (no k) (no c) =
          let same : a.ki ≡ b.ki = omega (arith, p.is, q.is, p.cable_byte, q.cable_byte, p.j_byte, q.j_byte) in
          let cable : a.c ≡ b.c = omega (arith, p.is, q.is, p.j_byte, q.j_byte) in
          rw (
            le-ltb a.ki b.ki (omega arith),
            eq-eqb a.ki b.ki same,
            le-ltb a.c b.c (omega arith),
            eq-eqb a.c b.c cable,
            lt-ltb a.kj b.kj (omega (arith, p.is, q.is)),
          )

  module _ (up : a.i < a.j) (i : a.i ≡ b.i) (j : a.j ≡ b.j) where
    pub lower_number : m < n → rec_before a b ≡ true
    lower_number h = forward_same_ends kinds_before a b up i j ∙ number_before h

    pub same_number : m ≡ n → a ≡ b
    same_number e =
        let kind : a.ki ≡ b.ki = omega (arith, p.is, q.is, p.cable_byte, q.cable_byte, p.j_byte, q.j_byte) in
        let cable : a.c ≡ b.c = omega (arith, p.is, q.is, p.j_byte, q.j_byte) in
        rec_eq a b i j kind cable (omega (arith, p.is, q.is))
