-- `reached::spread` meets its contract. The invariant: the marks have what the cables before c take up. Assumes nothing.
use mathlib.Core.Path.{◌≡◌, ap}
use native.Mathlib.Omega.{arith}
use borrow.Author.Rules.{rules}
use Rattle.graphs.specs.Drawing.{Cable}
use Rattle.drawing_checks.specs.ReachedLaws.{round_start, round_next}
use Rattle.drawing_checks.proofs.reached.spread.Goals as goal

pub loop-c-init : goal.loop-c-init
loop-c-init c = (search rules, round_start c.args.drawing.now c.args.reached)

pub with_ends-reached-requires : goal.with_ends-reached-requires
with_ends-reached-requires c =
    let l = c.loop-c in
    let p = c.requires in
    let e = c.at.ensures in (
      rw (ap (λ (x : Cable). x.a) e) (p.0.first l.c (omega arith)),
      rw (ap (λ (x : Cable). x.b) e) (p.0.second l.c (omega arith)),
      omega (arith, l.invariant.1.most, p.0.few),
    )

pub loop-c-preserved : goal.loop-c-preserved
loop-c-preserved c =
    let l = c.loop-c in
    let a = c.args in
    let k = c.at in
    let w = c.with_ends-reached in (
      search rules,
      round_next a.drawing.now a.reached l.c l.reached w.result k.result l.invariant.1 w.ensures k.ensures,
    )

pub returns : goal.returns
returns c =
    let e : c.loop-c.c ≡ c.args.m = omega arith in
    rw e at c.loop-c.invariant.1
