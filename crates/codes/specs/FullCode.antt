-- Codes of a whole drawing: a DFS code of d is rows that fit with as many records as d has cables. Greedy full codes are
-- least, and at most one code is. Rests on Greedy, Isomorphisms and CountingCables. Assumes nothing.
use Rattle.std.specs.Prelude.{◌≡◌, Bool, true, List, [], ◌∷◌, ℕ, ◌≤◌, length}
use Rattle.std.proofs.Common.{sym, ◌∙◌, arith}
use Rattle.laws.specs.Tests.{Three, less, same, more}
use Rattle.laws.specs.Orders.{StrictOrder}
use Rattle.graphs.specs.Drawing.{Drawing, devices}
use Rattle.graphs.specs.Embedding.{Isomorphism}
use Rattle.graphs.specs.Embeddings.{identity}
use Rattle.graphs.specs.Isomorphisms.{isomorphism_from_test, isomorphism_to_test, isomorphism_identity}
use Rattle.graphs.specs.CountingCables.{isomorphism_cables, embedding_full_connected}
use Rattle.graphs.specs.Graph.{Simple, Pattern}
use Rattle.codes.specs.Code.{
  Rec,
  fresh,
  rows_refusal,
  decoded,
  CodeOf,
  before_by,
  LeastAmong,
  LeastBy,
}
use Rattle.codes.specs.CodeOrder.{LabelOrder, before_strict}
use Rattle.codes.specs.ReadRows.{rows_invariant, decoded_cables, good_from_test, good_to_test}
use Rattle.codes.specs.Greedy.{Fits, Greedy, greedy_before}

-- a code of d: rows that describe a drawing that is the same
pub record Coded (d : Drawing) (rs : List Rec) : Type 0 where
  pub one : 1 ≤ length rs
  pub accepted : rows_refusal fresh rs ≡ 0
  pub numbering : List ℕ
  pub isomorphism : Isomorphism (decoded rs) d numbering

pub decoded_simple : (r : Rec) (rs : List Rec) → rows_refusal fresh (r ∷ rs) ≡ 0 → Simple (decoded (r ∷ rs))
unfolding decoded
decoded_simple r rs ok = (rows_invariant r rs ok).simple

pub coded_simple : (d : Drawing) (rs : List Rec) → Coded d rs → Simple (decoded rs)
coded_simple d [] c = absurd (omega (arith, c.one))
coded_simple d (r ∷ rs) c = decoded_simple r rs c.accepted

pub coded_fits : {d : Drawing} {rs : List Rec} → Coded d rs → Fits d rs
unfolding decoded
coded_fits c = record { accepted = c.accepted; numbering = c.numbering; embedding = c.isomorphism.embedding }

-- rows are a code of what they describe
pub coded_itself : (r : Rec) (rs : List Rec) → rows_refusal fresh (r ∷ rs) ≡ 0 → Coded (decoded (r ∷ rs)) (r ∷ rs)
coded_itself r rs ok =
    record {
      one = omega arith;
      accepted = ok;
      numbering = identity (devices (decoded (r ∷ rs)));
      isomorphism = isomorphism_identity (decoded (r ∷ rs)) (decoded_simple r rs ok).ends;
    }

module _ (d : Drawing) (s : Simple d) where
  -- a code has as many records as the drawing has cables
  pub coded_length : (rs : List Rec) → Coded d rs → length rs ≡ length d.cables
  coded_length rs c = sym (decoded_cables rs) ∙ isomorphism_cables (decoded rs) d c.numbering (coded_simple d rs c) s c.isomorphism

  -- the tests say the same
  pub coded_from_test : (rs : List Rec) → CodeOf d rs → Coded d rs
  coded_from_test rs c =
      let g = good_from_test rs c.good in
      record {
        one = g.one;
        accepted = g.accepted;
        numbering = c.numbers;
        isomorphism = isomorphism_from_test (decoded rs) d c.numbers s.ends c.describes;
      }

  pub coded_to_test : length d.cables ≤ 20 → (rs : List Rec) → Coded d rs → CodeOf d rs
  coded_to_test most rs c =
      record {
        good = good_to_test rs (record { one = c.one; most = omega (arith, coded_length rs c); accepted = c.accepted });
        numbers = c.numbering;
        describes = isomorphism_to_test (decoded rs) d c.numbering (coded_simple d rs c).ends c.isomorphism;
      }

  module _ (labels : Rec → Rec → Bool) (o : LabelOrder labels) (most : length d.cables ≤ 20) where
    -- A GREEDY CODE IS LEAST
    pub greedy_least : (rs : List Rec) → Greedy labels d [] rs → Coded d rs → LeastBy labels d rs
    greedy_least rs g c =
        record {
          code = coded_to_test most rs c;
          least = λ ss k.
              let t = coded_from_test ss k in
              greedy_before labels o d [] rs ss g (coded_fits t) (coded_length ss t ∙ sym (coded_length rs c));
        }

-- ROWS THAT FIT with as many records as a pattern has cables are a code of it
pub fits_coded : (d : Drawing) → Pattern d → (r : Rec) (rs : List Rec) → Fits d (r ∷ rs) → length (r ∷ rs) ≡ length d.cables → Coded d (r ∷ rs)
unfolding decoded
fits_coded d p r rs t m =
    record {
      one = omega arith;
      accepted = t.accepted;
      numbering = t.numbering;
      isomorphism =
          embedding_full_connected (decoded (r ∷ rs)) d t.numbering (decoded_simple r rs t.accepted) p.simple p.connected p.devices_low
          t.embedding (decoded_cables (r ∷ rs) ∙ m);
    }

-- AT MOST ONE CODE IS LEAST, of two families that have each other's
pub least_same :
    (labels : Rec → Rec → Bool) → LabelOrder labels → (C E : List Rec → Type 0) (rs ss : List Rec) → LeastAmong labels C rs
    → LeastAmong labels E ss → C ss → E rs → rs ≡ ss
least_same labels o C E rs ss a b c g = go (s.tri rs ss)
  where
    s : StrictOrder (before_by labels)
    s = before_strict labels o

    go : Three (before_by labels rs ss ≡ true) (rs ≡ ss) (before_by labels ss rs ≡ true) → rs ≡ ss
    go (same h) = h
    go (less h) = absurd (s.irrefl rs (s.trans rs ss rs h (b.least rs g (λ q. s.irrefl rs (rw (← q) at h)))))
    go (more h) = absurd (s.irrefl ss (s.trans ss rs ss h (a.least ss c (λ q. s.irrefl ss (rw (← q) at h)))))

pub least_unique :
    (labels : Rec → Rec → Bool) → LabelOrder labels → (d : Drawing) (rs ss : List Rec) → LeastBy labels d rs → LeastBy labels d ss → rs ≡ ss
least_unique labels o d rs ss a b = least_same labels o (CodeOf d) (CodeOf d) rs ss a b b.code a.code
