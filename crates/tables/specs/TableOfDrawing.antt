-- The table of an accepted drawing record, cable by cable. Rests on TableLaws and the cables of a record. Assumes nothing.
use Rattle.std.specs.Prelude.{◌≡◌, List, [], ℕ, ◌+◌, ◌*◌, ◌<◌, length, get_or}
use Rattle.std.proofs.Math.Path.{sym}
use Rattle.std.proofs.Common.{◌∙◌, arith, eq-eqb}
use Rattle.laws.specs.Tests.{and_both}
use Rattle.laws.specs.Lists.{get_d_default}
use Rattle.graphs.specs.Drawing.{Cable, devices, cable_in, drawing_in, drawing_refusal, accepted}
use Rattle.graphs.specs.Graph.{Section}
use Rattle.graphs.specs.Patterns.{AcceptedParts, accepted_parts, accepted_section, kind_byte}
use Rattle.codes.specs.BranchState.{Labels}
use Rattle.records.specs.DrawingCables.{cable_at}
use Rattle.records.specs.CableLaws.{cable_read, before_at}
use Rattle.tables.specs.Tables.{first_cables, Table, put_cable}
use Rattle.tables.specs.TableLaws.{bytes_list, cable_ends, table_next, table_end}

-- an accepted record of bytes
pub record ByteRecord (bs : List ℕ) : Type 0 where
  pub bytes : (i : ℕ) → get_or bs i 0 < 256
  pub accepted : drawing_refusal bs ≡ 0

module _ {bs : List ℕ} (A : ByteRecord bs) where
  parts : AcceptedParts bs
  parts = accepted_parts bs A.accepted

  pub record_size : length bs ≡ 73
  record_size = parts.size

  pub record_section : Section (drawing_in bs)
  unfolding accepted
  record_section = accepted_section bs (and_both (bytes_list bs (λ i h. A.bytes i)) (eq-eqb _ 0 A.accepted))

  -- CABLE c of the record
  module _ (c : ℕ) (h : c < get_or bs 1 0) {x : Cable} (is : x ≡ cable_at bs c) where
    pub cable_below : c < length (drawing_in bs).cables
    cable_below = omega (arith, parts.cable_count)

    pub there : get_or (drawing_in bs).cables c x ≡ x
    unfolding drawing_in
    there = get_d_default (drawing_in bs).cables c x (cable_in []) cable_below ∙ before_at (get_or bs 1 0) bs c h ∙ sym is

    pub ends : (x.a < devices (drawing_in bs)) × (x.b < devices (drawing_in bs))
    ends = cable_ends (drawing_in bs) record_section c x cable_below there

    kind_low : x.kind < 256
    kind_low = rw (is, ← cable_read bs c) (A.bytes (12 + 3 * c + 2))

    pub cable_low : (x.a < 10) × (x.b < 10) × (x.kind < 256)
    cable_low = (omega (arith, ends.0, record_section.devices_high), omega (arith, ends.1, record_section.devices_high), kind_low)

    pub drawing_turn : {t : List ℕ} → Table (first_cables (drawing_in bs) c) t
        → Table (first_cables (drawing_in bs) (c + 1)) (put_cable t x (get_or bs (2 + x.a) 0) (get_or bs (2 + x.b) 0))
    drawing_turn {t} T =
        rw (kind_byte bs A.accepted x.a ends.0, kind_byte bs A.accepted x.b ends.1)
        (table_next (drawing_in bs) record_section c x cable_below there t kind_low T)

  pub drawing_done : (c : ℕ) {t : List ℕ} → c ≡ get_or bs 1 0 → Table (first_cables (drawing_in bs) c) t → Labels (drawing_in bs) t
  drawing_done c {t} e T = table_end (drawing_in bs) record_section c t (e ∙ sym parts.cable_count) T
