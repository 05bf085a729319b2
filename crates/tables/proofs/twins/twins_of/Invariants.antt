-- `twins::twins_of` meets its contract. The invariant: what is noted is right, of each device. Assumes nothing.
use Rattle.std.proofs.Common.{◌≡◌, ℕ, ◌<◌, length, get_or}
use Rattle.codes.specs.Twins.{TwinNoted}
use Rattle.tables.proofs.twins.twins_of.Given as goal

abbrev pub invariant-loop-v : goal.invariant-loop-v
invariant-loop-v l =
    (length l.twins ≡ 10) × ((x : ℕ) → x < 10 → TwinNoted l.table x (get_or l.twins x 0))
