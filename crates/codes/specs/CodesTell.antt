-- Least codes tell drawings apart, over any order of the labels: they are equal exactly when the drawings are the same.
-- Rests on FullCode and Isomorphisms. Assumes nothing.
use Rattle.std.specs.Prelude.{◌≡◌, Bool, List}
use Rattle.graphs.specs.Drawing.{Drawing}
use Rattle.graphs.specs.Map.{Same}
use Rattle.graphs.specs.Isomorphisms.{same_symmetric, same_transitive}
use Rattle.graphs.specs.Graph.{Simple}
use Rattle.codes.specs.Code.{Rec, CodeOf, LeastBy, decoded}
use Rattle.codes.specs.CodeOrder.{LabelOrder}
use Rattle.codes.specs.FullCode.{coded_simple, coded_from_test, least_same}

module _ (d e : Drawing) (s : Simple d) (t : Simple e) where
  -- a code of a drawing is a code of every drawing that is the same
  pub code_along : (rs : List Rec) → Same d e → CodeOf d rs → CodeOf e rs
  unfolding Same
  code_along rs m c =
      let x = same_transitive (decoded rs) d e (coded_simple d rs (coded_from_test d s rs c)).ends s.ends t.ends
      (c.numbers, c.describes) m in
      record { good = c.good; numbers = x.0; describes = x.1 }

  -- one code of two drawings makes them the same
  pub code_makes_same : (rs : List Rec) → CodeOf d rs → CodeOf e rs → Same d e
  unfolding Same
  code_makes_same rs c g =
      let low = (coded_simple d rs (coded_from_test d s rs c)).ends in
      same_transitive d (decoded rs) e s.ends low t.ends (same_symmetric (decoded rs) d low s.ends (c.numbers, c.describes))
      (g.numbers, g.describes)

module _ (labels : Rec → Rec → Bool) (o : LabelOrder labels) (d e : Drawing) (s : Simple d) (t : Simple e) where
  pub least_codes_tell :
      (rs ss : List Rec) → LeastBy labels d rs → LeastBy labels e ss → (rs ≡ ss → Same d e) × (Same d e → rs ≡ ss)
  least_codes_tell rs ss a b = (
    λ h. code_makes_same d e s t rs a.code (rw h b.code),
    λ m. least_same labels o (CodeOf d) (CodeOf e) rs ss a b (code_along e d t s ss (same_symmetric d e s.ends t.ends m) b.code)
        (code_along d e s t rs m a.code),
  )
