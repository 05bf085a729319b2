-- `reached::Reached::with_ends` meets its contract: the marks of the two ends say which is taken up. Assumes nothing.
use mathlib.Core.Bool.{true, false}
use Rattle.drawing_checks.specs.ReachedLaws.{ends_kept, ends_first, ends_second}
use Rattle.drawing_checks.proofs.reached.Reached.with_ends.Goals as goal

pub returns-then-self-b : goal.returns-then-self-b
returns-then-self-b c =
    ends_kept c.args.self c.args.cable c.requires.0 c.requires.1 true c.if-self-a.true c.if-self-b.true

pub returns-then-self-a : goal.returns-then-self-a
returns-then-self-a c =
    ends_second c.args.self c.args.cable c.requires.0 c.requires.1 c.with_device.result
    c.if-self-a.true c.if-self-b.false c.with_device.ensures

pub returns-then-self-b-2 : goal.returns-then-self-b-2
returns-then-self-b-2 c =
    ends_first c.args.self c.args.cable c.requires.0 c.requires.1 c.with_device-then-self-b-2.result
    c.if-self-a.false c.if-self-b-2.true c.with_device-then-self-b-2.ensures

pub returns : goal.returns
returns c =
    ends_kept c.args.self c.args.cable c.requires.0 c.requires.1 false c.if-self-a.false c.if-self-b-2.false
