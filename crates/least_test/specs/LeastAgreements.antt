-- What the starts of a code tell: how far it agrees with the least code of what it describes, and whether it is that code. Rests on LeastStarts and
-- LeastAgreement. Assumes nothing.
use Rattle.std.specs.Prelude.{◌≡◌, true, List, [], ◌∷◌, ℕ, zero, suc, ◌<◌, length}
use Rattle.std.proofs.Common.{sym, ◌∙◌, subst, arith}
use Rattle.std.proofs.Math.Seq.{take-length}
use Rattle.graphs.specs.Graph.{Pattern}
use Rattle.codes.specs.Code.{Rec, fresh, rows_refusal, kinds_before, decoded, rows_good, Least}
use Rattle.codes.specs.Agreement.{agreement}
use Rattle.codes.specs.CodeOrder.{kinds_order}
use Rattle.codes.specs.ReadRows.{good_from_test}
use Rattle.codes.specs.Greedy.{Greedy}
use Rattle.codes.specs.FullCode.{Coded, coded_fits, coded_itself, coded_length, coded_from_test, greedy_least}
use Rattle.codes.specs.LeastCode.{least_greedy}
use Rattle.codes.specs.LeastAgreement.{greedy_agreement}
use Rattle.least_seen.specs.Betters.{SomeStart, FirstOfStarts}
use Rattle.least_test.specs.LeastStarts.{none_of_none, some_not_greedy, none_greedy}

-- good rows are a code of what they describe
rows_coded : (rs : List Rec) → rows_good rs ≡ true → Coded (decoded rs) rs
rows_coded [] g = absurd (omega (arith, (good_from_test [] g).one))
rows_coded (r ∷ rs) g = coded_itself r rs (good_from_test (r ∷ rs) g).accepted

module _ (rs : List Rec) (good : rows_good rs ≡ true) (p : Pattern (decoded rs)) where
  accepted : rows_refusal fresh rs ≡ 0
  accepted = (good_from_test rs good).accepted

  -- THE AGREEMENT WITH THE LEAST CODE is the number of the first record before which some start has another
  pub starts_agreement : (ls : List Rec) → Least (decoded rs) ls → (r : ℕ) → FirstOfStarts rs (length rs) 0 r → agreement rs ls ≡ r
  starts_agreement ls l r f =
      greedy_agreement kinds_before kinds_order (decoded rs) p ls l rs (coded_fits (rows_coded rs good)) sizes r f.within
      (none_greedy rs r accepted p (none r f.none)) (λ h. some_not_greedy rs (suc r) p (f.some h))
    where
      sizes : length rs ≡ length ls
      sizes =
          coded_length (decoded rs) p.simple rs (rows_coded rs good)
          ∙ sym (coded_length (decoded rs) p.simple ls (coded_from_test (decoded rs) p.simple ls l.code))

      none : (r : ℕ) → (0 < r → SomeStart rs r → ⊥) → SomeStart rs r → ⊥
      none zero n = none_of_none rs
      none (suc r) n = n (omega arith)

  -- IT IS THE LEAST exactly if no start comes before it
  pub some_not_least : SomeStart rs (length rs) → Least (decoded rs) rs → ⊥
  some_not_least s l =
      some_not_greedy rs (length rs) p s
      (subst (Greedy kinds_before (decoded rs) []) (sym (take-length rs)) (least_greedy kinds_before kinds_order (decoded rs) p rs l))

  pub none_least : (SomeStart rs (length rs) → ⊥) → Least (decoded rs) rs
  none_least n =
      greedy_least (decoded rs) p.simple kinds_before kinds_order p.cables_high rs
      (subst (Greedy kinds_before (decoded rs) []) (take-length rs) (none_greedy rs (length rs) accepted p n)) (rows_coded rs good)
