-- `grown::start_before` meets its contract. Assumes nothing.
use mathlib.Core.Path.{subst}
use mathlib.Core.List.{List}
use Prim.Native.Nat.{ℕ, ◌≤◌}
use native.Mathlib.Omega.{arith}
use Rattle.codes.specs.CodeBytes.{accepted_code}
use Rattle.codes.specs.BranchState.{first_state}
use Rattle.codes.specs.TwinLaws.{none_noted}
use Rattle.least_seen.specs.Betters.{BetterBelow}
use Rattle.least_test.specs.FirstStartLaws.{starts_decide}
use Rattle.least_grown.specs.GrownCode.{GrownCode}
use Rattle.least_grown.specs.OwnStartLaws.{own_start_settled}
use Rattle.least_grown.specs.OwnTieLaws.{no_tie_untied, grown_counted}
use Rattle.least_grown.proofs.grown.start_before.Goals as goal

-- the code has a record
some_records : {bs : List ℕ} {m n : ℕ} → GrownCode bs m n → 1 ≤ m
some_records {bs} p = omega (arith, (accepted_code bs p.accepted).one, p.records)

pub own_tie-own-requires : goal.own_tie-own-requires
own_tie-own-requires c =
    let p = c.requires in
    (grown_counted p c.labels_of_code-table.ensures, omega (arith, some_records p))

pub overflow_sub-m : goal.overflow_sub-m
overflow_sub-m c = some_records c.requires

pub first_of_starts-requires : goal.first_of_starts-requires
first_of_starts-requires c =
    let p = c.requires in
    let counted = grown_counted p c.labels_of_code-table.ensures in (
      counted,
      p.records,
      λ e b.
          own_start_settled c.args.code.now p.accepted
          (no_tie_untied counted p.records (c.own_tie-own.ensures.fails e)) p.well
          (subst (λ (m : ℕ). BetterBelow c.args.code.now m 1 (first_state 0 1)) p.records b),
      none_noted,
    )

pub returns : goal.returns
returns c = starts_decide (some_records c.requires) c.first_of_starts.ensures
