-- `ahead::next_hopeful` meets its contract. The invariant: the candidates below k were passed over. Assumes nothing.
use native.Mathlib.Omega.{arith}
use Rattle.looking.specs.LookingLaws.{pass_none, may_lengthen, pass_all, pass_next, pass_found}
use Rattle.looking.proofs.ahead.next_hopeful.Goals as goal

pub loop-k-init : goal.loop-k-init
loop-k-init c = pass_none c.requires

pub lengthen-requires : goal.lengthen-requires
lengthen-requires c =
    may_lengthen c.requires c.loop-k.invariant c.loop-k-test.true

pub returns-in-Some : goal.returns-in-Some
returns-in-Some c = pass_found c.requires c.loop-k.invariant c.lengthen.ensures c.loop-k-test.true c.in-Some.is

pub loop-k-preserved : goal.loop-k-preserved
loop-k-preserved c = pass_next c.requires c.loop-k.invariant c.lengthen.ensures c.loop-k-test.true c.in_default.is

pub returns : goal.returns
returns c = pass_all c.requires c.loop-k.invariant (omega (arith, c.loop-k-test.false))
