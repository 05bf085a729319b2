-- `drawing::Drawing::cables_fit` meets its contract: a lone device has no cable, more have 1 to 20. Assumes nothing.
use mathlib.Core.Path.{sym, ◌∙◌}
use native.Mathlib.Omega.{arith}
use borrow.Author.Tests.{le-leb, lt-leb}
use Rattle.graphs.specs.Sections.{fit_one, fit_more}
use Rattle.records.proofs.drawing.Drawing.cables_fit.Goals as goal

pub returns-then-self-eq1 : goal.returns-then-self-eq1
returns-then-self-eq1 c = sym (fit_one _ _ c.if-self-eq1.true)

pub returns-then-self-ge-LEAST_CABLES : goal.returns-then-self-ge-LEAST_CABLES
returns-then-self-ge-LEAST_CABLES c = sym (fit_more _ _ c.if-self-eq1.false ∙ simp (le-leb 1 _ c.if-self-ge-LEAST_CABLES.true))

pub returns-else-self-ge-LEAST_CABLES : goal.returns-else-self-ge-LEAST_CABLES
returns-else-self-ge-LEAST_CABLES c =
    let cables = c.args.self.cables in
    sym (fit_more _ _ c.if-self-eq1.false ∙ simp (lt-leb 1 cables (omega (arith, c.if-self-ge-LEAST_CABLES.false))))
