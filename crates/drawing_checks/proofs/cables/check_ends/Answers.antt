-- `cables::check_ends` meets its contract: each return has the tests that lead to it. Assumes nothing.
use Prim.Native.Nat.{◌<◌}
use mathlib.Core.Path.{refl, sym}
use mathlib.Core.Logic.{⊎_elim}
use native.Mathlib.Omega.{arith}
use borrow.Author.Tests.{leb-true, leb-false}
use Rattle.graphs.specs.Drawing.{joined_by}
use Rattle.records.specs.CableLaws.{fault_first_end, fault_second_end, fault_loop, fault_none}
use Rattle.drawing_checks.proofs.cables.check_ends.Goals as goal
use Rattle.drawing_checks.proofs.cables.check_ends.Goals.{Else-n-b}

pub returns-then-n-a : goal.returns-then-n-a
returns-then-n-a c =
    ⊎_elim
    (λ w. sym (fault_first_end _ _ _ (omega arith)))
    (λ w. sym (fault_second_end _ _ _ (omega arith) (omega (arith, leb-true))))
    c.then-n-a.either

-- the ends that the first test lets pass
first_below : (c : Else-n-b) → c.args.cable.a < c.args.n
first_below c = omega arith

second_below : (c : Else-n-b) → c.args.cable.b < c.args.n
second_below c = omega (arith, leb-false)

pub returns-then-a-b : goal.returns-then-a-b
returns-then-a-b c = sym (fault_loop _ _ _ (first_below c.before) (second_below c.before) (omega arith))

pub returns : goal.returns
unfolding joined_by
returns c = sym (fault_none _ _ _ (first_below c.before) (second_below c.before) (λ e. omega arith) refl)
