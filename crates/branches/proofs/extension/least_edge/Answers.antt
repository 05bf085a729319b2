-- `extension::least_edge` meets its contract. The invariant: the least label to a free device below w. Assumes
-- nothing.
use Rattle.std.proofs.Common.{◌≡◌, arith, rules}
use Rattle.branches.specs.Branches.{in_place}
use Rattle.branches.specs.ExtensionLaws.{marked_free, marked_used, edges_used, edges_free}
use Rattle.branches.proofs.extension.least_edge.Goals as goal
use Rattle.branches.proofs.extension.least_edge.Goals.{then-not-is_used, else-not-is_used}

pub loop-w-preserved : goal.loop-w-preserved
loop-w-preserved c = (
  search rules,
  λ count given low.
      let b = in_place c.args.numbers.now c.args.used.now c.args.path.now count given low in
      elim c.if-not-is_used.branch [
        | then-not-is_used w ↦
            rw (w.least-is, w.lesser-least.ensures, w.label.ensures, c.device_at-from.ensures.0)
            (edges_free (c.loop-w.invariant.1 count given low)
            (marked_free b c.loop-w.w (omega arith) c.requires.1 _ w.if-not-is_used.true))
        | else-not-is_used w ↦
            rw w.least-is
            (edges_used (c.loop-w.invariant.1 count given low)
            (marked_used b c.loop-w.w (omega arith) c.requires.1 _ w.if-not-is_used.false))
      ],
)

pub returns : goal.returns
returns c count given low =
    let l = c.loop-w in
    let e : l.w ≡ 10 = omega arith in
    rw e at (l.invariant.1 count given low)
