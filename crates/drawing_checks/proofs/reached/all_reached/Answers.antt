-- `reached::all_reached` meets its contract. The invariant: the marks are of what the rounds so far reach, and few.
-- Assumes nothing.
use Prim.Native.Nat.{◌<◌, ◌^◌}
use mathlib.Core.Path.{◌≡◌}
use native.Mathlib.Omega.{arith}
use borrow.Author.Rules.{rules}
use Rattle.drawing_checks.specs.ReachedLaws.{rounds_start, rounds_next, rounds_end, sound_low}
use Rattle.drawing_checks.proofs.reached.all_reached.Goals as goal

pub loop-round-init : goal.loop-round-init
loop-round-init c =
    let a = c.args in
    let m = c.start-reached.ensures in
    (search rules, rounds_start a.drawing.now a.counts c.start-reached.result m, omega (arith, m.size))

pub spread-reached-requires : goal.spread-reached-requires
spread-reached-requires c =
    let few : c.loop-round.reached.count < 2 ^ 31 = omega (arith, c.loop-round.invariant.2, c.requires.counted.devices_most) in
    (sound_low c.args.drawing.now c.args.counts c.requires, few)

pub loop-round-preserved : goal.loop-round-preserved
loop-round-preserved c =
    let l = c.loop-round in (
      search rules,
      rounds_next c.args.drawing.now c.args.counts l.round l.reached c.spread-reached.result l.invariant.1 c.spread-reached.ensures,
      omega (arith, l.invariant.2, c.spread-reached.ensures.most, c.requires.counted.cables_most),
    )

pub returns : goal.returns
returns c =
    let l = c.loop-round in
    let e : l.round ≡ c.args.counts.devices = omega (arith, l.invariant.0, c.loop-round-test.false) in
    rounds_end c.args.drawing.now c.args.counts c.requires.counted l.reached (rw e at l.invariant.1)
