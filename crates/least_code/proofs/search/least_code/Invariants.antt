-- `search::least_code` meets its contract. The invariant: the busiest cable and those before c are seen, both ways round.
-- Assumes nothing.
use mathlib.Core.Path.{◌≡◌}
use Prim.Native.Nat.{◌≤◌}
use lib.ListN.{length}
use Rattle.graphs.specs.Drawing.{drawing_in}
use Rattle.codes.specs.Code.{recs_in}
use Rattle.least_code.specs.Starting.{Starts, SeenIn, FirstAndBefore}
use Rattle.least_code.proofs.search.least_code.Given as goal

abbrev pub invariant-loop-c : goal.invariant-loop-c
invariant-loop-c l =
    (l.c ≤ l.m) × (length l.records ≡ 100) × Starts (drawing_in l.drawing) (recs_in l.held l.records) (SeenIn (FirstAndBefore l.drawing l.busy l.c))
