-- `hopeful::hopeless` meets its contract. Assumes nothing.
use Rattle.std.proofs.Common.{sym, ◌∙◌, arith}
use Rattle.walks.specs.HopeLaws.{lone_look, told_hopeless, before_hopeless, against_hopeless, edge_hopeless, chord_hopeless}
use Rattle.extending.proofs.hopeful.hopeless.Goals as goal
use Rattle.extending.proofs.hopeful.hopeless.Goals.{then-labels_before-via-then-labels_before, then-labels_before-via-else-labels_before+then-labels_before-2}

pub returns-then-m-eq0 : goal.returns-then-m-eq0
returns-then-m-eq0 c = lone_look c.requires c.if-m-eq0.true

pub returns-then-labels_before : goal.returns-then-labels_before
returns-then-labels_before c =
    told_hopeless c.requires
    (elim c.then-labels_before.branch [
      | then-labels_before-via-then-labels_before w ↦
          before_hopeless c.requires (omega (arith, c.if-m-eq0.false)) (sym c.labels_before.ensures ∙ w.if-labels_before.true)
      | then-labels_before-via-else-labels_before+then-labels_before-2 w ↦
          against_hopeless c.requires (omega (arith, c.if-m-eq0.false))
          (sym w.labels_before-else-labels_before.ensures ∙ w.if-labels_before-2.true)
    ])

pub returns-then-next : goal.returns-then-next
returns-then-next c = edge_hopeless c.requires c.overlooked.result c.if-next.true c.overlooked.ensures

pub returns : goal.returns
returns c = chord_hopeless c.requires c.overlooked-2.result (omega (arith, c.if-next.false)) c.overlooked-2.ensures
