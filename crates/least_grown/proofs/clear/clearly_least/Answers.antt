-- `clear::clearly_least` meets its contract. Assumes nothing.
use mathlib.Core.Path.{sym, subst}
use Prim.Native.Nat.{ℕ}
use native.Mathlib.Omega.{arith}
use borrow.Author.Rules.{rules}
use borrow.Author.Tests.{not-true}
use Rattle.codes.specs.Code.{Rec, code_records}
use Rattle.codes.specs.CodeBytes.{accepted_code}
use Rattle.least_seen.specs.Betters.{SomeStart}
use Rattle.least_test.specs.StartNumbers.{NumbersLabels}
use Rattle.least_grown.specs.ClearlyLeast.{StartsAfter, SomeParts}
use Rattle.least_grown.specs.ClearlyLeastLaws.{no_start_before}
use Rattle.least_grown.proofs.clear.clearly_least.Goals as goal

pub at-requires : goal.at-requires
at-requires c =
    let a = accepted_code c.args.code.now c.requires.0 in
    omega (arith, a.one, a.records)

pub some_parts-requires : goal.some_parts-requires
some_parts-requires c =
    let a = accepted_code c.args.code.now c.requires.0 in
    (search rules, omega (arith, a.one, c.requires.1))

pub returns-then-starts_after : goal.returns-then-starts_after
returns-then-starts_after c e =
    let bs = c.args.code.now in
    subst (λ (m : ℕ). SomeStart (code_records bs) m → ⊥) (sym c.requires.1)
    (no_start_before bs c.requires.0
    (subst (λ (r : Rec). NumbersLabels r c.labels_number.result) c.at.ensures c.labels_number.ensures)
    (subst (StartsAfter bs c.labels_number.result) c.requires.1 (c.starts_after.ensures.holds c.if-starts_after.true))
    (subst (λ (m : ℕ). SomeParts bs m → ⊥) c.requires.1 (c.some_parts.ensures.fails (not-true c.some_parts.result e)))
    c.requires.2)
