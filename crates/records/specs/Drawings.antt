-- The counts of a drawing's record, and the places where a drawing is turned back. Assumes nothing: these are definitions.
use Rattle.std.specs.Prelude.{◌≡◌, ◌&&◌, not, cond, List, ℕ, ◌≤◌, leb, length, get_or}
use Rattle.graphs.specs.Drawing.{cables_fit, drawing_in, unused_zero, connected}
use Rattle.records.specs.declared.drawing.Drawing.{Drawing}

-- what the first two bytes say
abbrev pub counts_in : List ℕ → Drawing
counts_in bs = record { devices = get_or bs 0 0; cables = get_or bs 1 0 }

-- counts: 2 n; then 3 m
unfoldable pub counts_refusal : Drawing → ℕ
counts_refusal d =
    cond (not (leb 1 d.devices && leb d.devices 10)) 2 (cond (not (cables_fit d.devices d.cables)) 3 0)

-- rest of the drawing: 7 unused byte not zero; then 8 not connected
unfoldable pub rest_refusal : List ℕ → ℕ
rest_refusal bs = cond (not (unused_zero bs)) 7 (cond (connected (drawing_in bs)) 0 8)

-- a record of the right length, with its counts, which are within the limits
pub record CountsWithin (bs : List ℕ) (d : Drawing) : Type 0 where
  pub whole : length bs ≡ 73
  pub counts : d ≡ counts_in bs
  pub devices_most : d.devices ≤ 10
  pub cables_most : d.cables ≤ 20
