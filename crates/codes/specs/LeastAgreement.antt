-- How far a code agrees with the least one: as far as it is greedy. Rests on LeastCode and AgreementLaws. Assumes nothing.
use Rattle.std.specs.Prelude.{◌≡◌, Bool, true, List, [], ℕ, suc, ◌≤◌, ◌<◌, length, take, drop}
use Rattle.std.proofs.Common.{sym, ap, ◌∙◌, subst, arith, take-append-drop, length-take-le, take-take}
use Rattle.std.proofs.Math.Decide.{dec_lt}
use Rattle.laws.specs.Tests.{Three, less, same, more}
use Rattle.graphs.specs.Drawing.{Drawing}
use Rattle.graphs.specs.Graph.{Pattern}
use Rattle.codes.specs.Code.{Rec, before_by, LeastBy}
use Rattle.codes.specs.Agreement.{agreement}
use Rattle.codes.specs.AgreementLaws.{agreement_first, agreement_equal, agreement_longest}
use Rattle.codes.specs.CodeOrder.{LabelOrder, before_strict}
use Rattle.codes.specs.Greedy.{Fits, fits_prefix, Greedy, greedy_prefix, greedy_before}
use Rattle.codes.specs.FullCode.{coded_fits, coded_from_test}
use Rattle.codes.specs.LeastCode.{least_greedy}

module _ (labels : Rec → Rec → Bool) (o : LabelOrder labels) (d : Drawing) (p : Pattern d) (ls : List Rec) (l : LeastBy labels d ls) where
  -- the first records of the least code fit, and are greedy
  least_front_greedy : (k : ℕ) → Greedy labels d [] (take k ls)
  least_front_greedy k =
      greedy_prefix labels d [] (take k ls) (drop k ls)
      (subst (Greedy labels d []) (sym (take-append-drop k ls)) (least_greedy labels o d p ls l))

  least_front_fits : (k : ℕ) → Fits d (take k ls)
  least_front_fits k =
      fits_prefix d (take k ls) (drop k ls)
      (subst (Fits d) (sym (take-append-drop k ls)) (coded_fits (coded_from_test d p.simple ls l.code)))

  -- GREEDY ROWS BEGIN THE LEAST CODE
  pub greedy_begins : (k : ℕ) (rs : List Rec) → Fits d rs → Greedy labels d [] rs → length rs ≡ k → k ≤ length ls → rs ≡ take k ls
  greedy_begins k rs fits greedy size low = go ((before_strict labels o).tri rs (take k ls))
    where
      sizes : length rs ≡ length (take k ls)
      sizes = size ∙ sym (length-take-le k ls low)

      both : before_by labels rs (take k ls) ≡ true → before_by labels (take k ls) rs ≡ true → ⊥
      both a b = (before_strict labels o).irrefl rs ((before_strict labels o).trans rs (take k ls) rs a b)

      go : Three (before_by labels rs (take k ls) ≡ true) (rs ≡ take k ls) (before_by labels (take k ls) rs ≡ true) → rs ≡ take k ls
      go (less z) =
          absurd (both z (greedy_before labels o d [] (take k ls) rs (least_front_greedy k) fits sizes
          (λ e. (before_strict labels o).irrefl rs (subst (λ (ts : List Rec). before_by labels rs ts ≡ true) (sym e) z))))
      go (same e) = e
      go (more z) =
          absurd (both (greedy_before labels o d [] rs (take k ls) greedy (least_front_fits k) (sym sizes)
          (λ e. (before_strict labels o).irrefl rs (subst (λ (ts : List Rec). before_by labels ts rs ≡ true) e z))) z)

  -- THE AGREEMENT WITH THE LEAST CODE: as many records as are greedy
  module _ (rs : List Rec) (fits : Fits d rs) (size : length rs ≡ length ls) where
    pub greedy_agreement : (k : ℕ) → k ≤ length rs → Greedy labels d [] (take k rs)
        → (k < length rs → Greedy labels d [] (take (suc k) rs) → ⊥) → agreement rs ls ≡ k
    greedy_agreement k low greedy ends = go (dec_lt k (agreement rs ls))
      where
        front : Fits d (take k rs)
        front = fits_prefix d (take k rs) (drop k rs) (subst (Fits d) (sym (take-append-drop k rs)) fits)

        least : k ≤ agreement rs ls
        least =
            agreement_longest rs ls k low (omega arith)
            (greedy_begins k (take k rs) front greedy (length-take-le k rs low) (omega arith))

        longer : k < agreement rs ls → take (suc k) ls ≡ take (suc k) rs
        longer h =
            sym (take-take (suc k) (agreement rs ls) ls h)
            ∙ ap (take (suc k)) (sym (agreement_equal rs ls))
            ∙ take-take (suc k) (agreement rs ls) rs h

        go : Dec (k < agreement rs ls) → agreement rs ls ≡ k
        go (yes h) =
            absurd (ends (omega (arith, agreement_first rs ls)) (subst (Greedy labels d []) (longer h) (least_front_greedy (suc k))))
        go (no h) = omega (arith, least)
