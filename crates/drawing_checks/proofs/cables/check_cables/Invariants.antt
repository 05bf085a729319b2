-- `cables::check_cables` meets its contract. The invariant: what the cables from c on give is what all give, and the marks are those of the
-- pairs that the cables before c join. Assumes nothing.
use Prim.Native.Nat.{◌≤◌}
use mathlib.Core.List.{[]}
use mathlib.Core.Path.{◌≡◌}
use Rattle.graphs.specs.Drawing.{cable_refusal}
use Rattle.records.specs.DrawingCables.{cables_before}
use Rattle.records.specs.CableLaws.{refusal_from}
use Rattle.drawing_checks.specs.Joined.{MarksJoined}
use Rattle.drawing_checks.proofs.cables.check_cables.Given as goal

abbrev pub invariant-loop-c : goal.invariant-loop-c
invariant-loop-c l =
    (l.c ≤ l.m) × MarksJoined l.joined (cables_before l.c l.drawing) × (cable_refusal l.n [] (cables_before l.m l.drawing) ≡ refusal_from l.n l.m l.c l.drawing)
