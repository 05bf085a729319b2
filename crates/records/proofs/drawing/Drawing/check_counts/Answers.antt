-- `drawing::Drawing::check_counts` meets its contract: each return has the tests that lead to it. Assumes nothing.
use mathlib.Core.Path.{sym, ◌∙◌}
use mathlib.Core.Logic.{⊎_elim}
use Prim.Native.Nat.{◌≤◌}
use native.Mathlib.Omega.{arith}
use borrow.Author.Tests.{ltb-true, ltb-false}
use Rattle.records.specs.declared.drawing.Drawing.{Drawing}
use Rattle.records.specs.DrawingLaws.{devices_too_few, devices_too_many, cables_unfit, counts_fine}
use Rattle.records.proofs.drawing.Drawing.check_counts.Goals as goal
use Rattle.records.proofs.drawing.Drawing.check_counts.Goals.{Else-self-gt-MOST_DEVICES}

pub returns-then-self-lt-LEAST_DEVICES : goal.returns-then-self-lt-LEAST_DEVICES
returns-then-self-lt-LEAST_DEVICES c =
    let d = c.args.self in
    ⊎_elim
    (λ w. sym (devices_too_few d (omega arith)))
    (λ w. sym (devices_too_many d (omega (arith, ltb-true))))
    c.then-self-lt-LEAST_DEVICES.either

-- what the tests of the devices let pass
abbrev Devices : Drawing → Type 0
Devices d = (1 ≤ d.devices) × (d.devices ≤ 10)

devices_pass : (c : Else-self-gt-MOST_DEVICES) → Devices c.args.self
devices_pass c = (omega arith, omega (arith, ltb-false))

pub returns-then-not-cables_fit : goal.returns-then-not-cables_fit
returns-then-not-cables_fit c =
    let n = devices_pass c.before.before in
    sym (cables_unfit _ n.0 n.1 (sym c.cables_fit.ensures ∙ c.if-not-cables_fit.true))

pub returns : goal.returns
returns c =
    let n = devices_pass c.before.before in
    sym (counts_fine _ n.0 n.1 (sym c.cables_fit.ensures ∙ c.if-not-cables_fit.false))
