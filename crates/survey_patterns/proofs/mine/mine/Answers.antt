-- `mine::mine` meets its contract. The invariant: what begins with a kind below `kind` is listed.
use mathlib.Core.Path.{refl, ◌∙◌}
use native.Mathlib.Omega.{arith}
use Rattle.growth.specs.Page.{page}
use Rattle.survey_patterns.specs.SurveyMinedLaws.{mine_starts, mine_skips, mine_ends}
use Rattle.survey_patterns.proofs.mine.mine.Goals as goal
use Rattle.survey_patterns.proofs.mine.mine.Goals.{then-occurs-kind+in_ok-written, else-occurs-kind}

pub loop-kind-init : goal.loop-kind-init
loop-kind-init c =
    let a = c.args in (
      c.kinds_of-occurs.ensures,
      mine_starts c.requires.0 (page a.settings.checking a.given.now a.output.now) c.requires.1 c.requires.2,
      c.requires.3,
      refl,
    )

pub returns-in_err-written : goal.returns-in_err-written
returns-in_err-written c =
    let a = c.args in
    rw c.from_residual.ensures (c.in_err-written.ensures.after (page a.settings.checking a.given.now a.output.now) c.loop-kind.invariant.1)

pub loop-kind-preserved : goal.loop-kind-preserved
loop-kind-preserved c =
    let a = c.args in
    let l = c.loop-kind in
    let same = c.if-occurs-kind.auto.output ∙ l.invariant.3 in
    elim c.if-occurs-kind.branch [
      | then-occurs-kind+in_ok-written w ↦ (
        l.invariant.0,
        rw (w.cells-is, w.seen-is, w.list-is, w.output-is, w.written-is)
            (w.in_ok-written.ensures.after (page a.settings.checking a.given.now a.output.now) l.invariant.1),
        rw (w.kept-is, w.ends-is) w.mine_kind.ensures.sized,
        same,
      )
      | else-occurs-kind w ↦ (
        l.invariant.0,
        rw (w.cells-is, w.seen-is, w.list-is, w.output-is, w.written-is)
            (mine_skips c.requires.0 c.loop-kind-test.true l.invariant.0 w.if-occurs-kind.false l.invariant.1),
        rw (w.kept-is, w.ends-is) l.invariant.2,
        same,
      )
    ]

pub returns : goal.returns
returns c = mine_ends c.requires.0 (omega (arith, c.loop-kind-test.false)) c.loop-kind.invariant.1
