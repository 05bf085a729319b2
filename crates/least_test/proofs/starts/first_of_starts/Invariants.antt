-- `starts::first_of_starts` meets its contract. The invariant: what the starts from the first k records tell. Assumes nothing.
use Prim.Native.Nat.{◌≤◌}
use Rattle.laws.specs.Rows.{row}
use Rattle.codes.specs.Code.{rec_in}
use Rattle.least_test.specs.StartNumbers.{NumbersLabels}
use Rattle.least_test.specs.FirstStartLaws.{StartsTried}
use Rattle.least_test.proofs.starts.first_of_starts.Given as goal

abbrev pub invariant-loop-k : goal.invariant-loop-k
invariant-loop-k l =
    (l.k ≤ l.m) × StartsTried l.code l.m l.bound l.k × NumbersLabels (rec_in (row 5 0 l.code)) l.first
