-- `starts::first_of_starts` meets its contract. The invariant: what the starts from the first k records tell. Assumes nothing.
use mathlib.Core.Path.{sym, ap, ◌∙◌, subst}
use mathlib.Core.Bool.{true≢false}
use Prim.Native.Nat.{ℕ}
use native.Mathlib.Omega.{arith}
use borrow.Author.Rules.{rules}
use Rattle.laws.specs.Rows.{row}
use Rattle.codes.specs.Code.{Rec, rec_in, decoded, code_records}
use Rattle.codes.specs.CodeBytes.{accepted_code}
use Rattle.codes.specs.BranchState.{first_state}
use Rattle.code_records.specs.Records.{as_rec}
use Rattle.least_seen.specs.Betters.{SeenCable, reversed_record, FirstStart}
use Rattle.least_seen.specs.Accepting.{TestCounts}
use Rattle.least_seen.specs.TestFollowLaws.{better_of_more}
use Rattle.least_test.specs.StartNumbers.{NumbersLabels}
use Rattle.least_test.specs.LeastStarts.{seen_along, seen_against, own_start}
use Rattle.least_test.specs.FirstStartLaws.{starts_begun, starts_told, along_enough, against_enough, starts_next}
use Rattle.least_test.proofs.starts.first_of_starts.Goals as goal
use Rattle.least_test.proofs.starts.first_of_starts.Goals.{After-at-cable, After-start_first_better-bound-in-loop-k}

-- the cable read in a turn, seen from either end
from_i :
    (c : After-at-cable)
    → SeenCable (decoded (code_records c.args.code.now)) (as_rec c.at-cable.result)
from_i c =
    seen_along c.args.code.now c.requires.0.tabled.accepted c.loop-k.k (omega (arith, c.requires.1))
    (as_rec c.at-cable.result) c.at-cable.ensures

from_j :
    (c : After-at-cable)
    → SeenCable (decoded (code_records c.args.code.now))
    (reversed_record (as_rec c.at-cable.result))
from_j c =
    seen_against c.args.code.now c.requires.0.tabled.accepted c.loop-k.k (omega (arith, c.requires.1))
    (as_rec c.at-cable.result) c.at-cable.ensures

pub at-requires : goal.at-requires
at-requires c =
    let o = accepted_code c.args.code.now c.requires.0.tabled.accepted in
    omega (arith, o.one, o.records)

pub loop-k-init : goal.loop-k-init
loop-k-init c = (
  search rules,
  starts_begun c.args.code.now c.requires.0.tabled.accepted _ c.requires.1,
  subst (λ (r : Rec). NumbersLabels r c.labels_number-first.result) c.at.ensures c.labels_number-first.ensures,
)

-- the starts so far bound the records that are looked at
counted :
    (c : After-at-cable)
    → TestCounts c.args.table.now c.args.code.now c.loop-k.bound c.args.n
counted c =
    let p = c.requires.0 in
    record {
      tabled = p.tabled;
      records = omega (arith, c.loop-k.invariant.1.within, p.records);
      within = p.within;
      most = p.most;
    }

pub start_first_better-bound-requires : goal.start_first_better-bound-requires
start_first_better-bound-requires c =
    let l = c.loop-k in (
      counted (goal.at.start_first_better-bound-requires c).After-at-cable,
      l.invariant.1.left,
      from_i (goal.at.start_first_better-bound-requires c).After-at-cable,
      l.invariant.2,
      λ e.
          let f = c.followed.ensures e in
          own_start c.args.code.now c.requires.0.tabled.accepted (from_i (goal.at.start_first_better-bound-requires c).After-at-cable)
          (c.at-cable.ensures ∙ ap (λ (k : ℕ). rec_in (row 5 k c.args.code.now)) f.1) l.bound
          (λ x. c.requires.2 f.0 (better_of_more c.args.code.now l.bound c.args.m 1 (first_state 0 1) l.invariant.1.within x)),
      c.requires.3,
    )

pub returns-then-bound-enough : goal.returns-then-bound-enough
returns-then-bound-enough c =
    along_enough c.loop-k.invariant.1 c.at-cable.ensures (from_i (goal.at.returns-then-bound-enough c).After-at-cable) c.start_first_better-bound.ensures c.if-bound-enough.true

pub start_first_better-bound-requires-in-loop-k : goal.start_first_better-bound-requires-in-loop-k
start_first_better-bound-requires-in-loop-k c =
    let f = c.start_first_better-bound.ensures in
    let n = counted (goal.at.start_first_better-bound-requires-in-loop-k c).After-at-cable in (
      record { tabled = n.tabled; records = omega (arith, f.within, n.records); within = n.within; most = n.most },
      omega (arith, c.if-bound-enough.false),
      subst (SeenCable (decoded (code_records c.args.code.now))) (sym c.reversed.ensures) (from_j (goal.at.start_first_better-bound-requires-in-loop-k c).After-at-cable),
      c.loop-k.invariant.2,
      λ e. absurd (true≢false e),
      c.requires.3,
    )

-- what is told of the cable turned round
turned :
    (c : After-start_first_better-bound-in-loop-k)
    → let e = as_rec c.at-cable.result in
    FirstStart c.args.code.now c.start_first_better-bound.result c.args.enough e.j e.i e.c
    c.start_first_better-bound-in-loop-k.result
turned c =
    subst
    (λ (r : Rec).
    FirstStart c.args.code.now c.start_first_better-bound.result c.args.enough r.i r.j r.c
    c.start_first_better-bound-in-loop-k.result)
    c.reversed.ensures c.start_first_better-bound-in-loop-k.ensures

pub returns-then-bound-enough-2 : goal.returns-then-bound-enough-2
returns-then-bound-enough-2 c =
    against_enough c.loop-k.invariant.1 c.at-cable.ensures (from_i (goal.at.returns-then-bound-enough-2 c).After-at-cable) c.start_first_better-bound.ensures
    (omega (arith, c.if-bound-enough.false)) (turned (goal.at.returns-then-bound-enough-2 c).After-start_first_better-bound-in-loop-k) c.if-bound-enough-2.true

pub overflow_step-k : goal.overflow_step-k
overflow_step-k c =
    omega (arith, c.loop-k-test.true, c.ranges.m)

pub loop-k-preserved : goal.loop-k-preserved
loop-k-preserved c =
    let l = c.loop-k in (
      search rules,
      starts_next l.invariant.1 c.at-cable.ensures (from_i (goal.at.loop-k-preserved c).After-at-cable) c.start_first_better-bound.ensures
          (omega (arith, c.if-bound-enough.false)) (turned (goal.at.loop-k-preserved c).After-start_first_better-bound-in-loop-k) (omega (arith, c.if-bound-enough-2.false)),
      l.invariant.2,
    )

pub returns : goal.returns
returns c =
    let l = c.loop-k in
    starts_told l.invariant.1 (omega (arith, c.requires.1, c.loop-k-test.false))
