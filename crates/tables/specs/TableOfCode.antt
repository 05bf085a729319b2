-- The table of what an accepted code describes, record by record. Rests on TableLaws and CodeCables. Assumes nothing.
use Rattle.std.specs.Prelude.{◌≡◌, List, ℕ, ◌+◌, ◌*◌, ◌/◌, ◌<◌, length, get_or}
use Rattle.std.proofs.Common.{sym, ◌∙◌, arith}
use Rattle.laws.specs.Rows.{row, row_at}
use Rattle.graphs.specs.Drawing.{devices}
use Rattle.graphs.specs.Graph.{Section, Pattern}
use Rattle.graphs.specs.Sections.{pattern_section}
use Rattle.codes.specs.Code.{Rec, rec_in, cable_of, decoded, code_refusal, code_records}
use Rattle.codes.specs.Decoded.{rows_bytes, decoded_pattern, decoded_kinds_bytes}
use Rattle.codes.specs.CodeBytes.{accepted_code}
use Rattle.codes.specs.BranchState.{Labels}
use Rattle.tables.specs.CodeCables.{code_cables, record_cable, record_i_kind, record_j_kind}
use Rattle.tables.specs.Tables.{first_cables, Table, put_cable}
use Rattle.tables.specs.TableLaws.{bytes_list, cable_ends, table_next, table_end}

-- an accepted code of bytes
pub record ByteCode (bs : List ℕ) : Type 0 where
  pub bytes : (i : ℕ) → get_or bs i 0 < 256
  pub accepted : code_refusal bs ≡ 0

module _ {bs : List ℕ} (A : ByteCode bs) where
  pub code_pattern : Pattern (decoded (code_records bs))
  unfolding rows_bytes
  code_pattern =
      let a = accepted_code bs A.accepted in
      decoded_pattern (code_records bs) a.good (decoded_kinds_bytes (code_records bs) (rw a.bytes (bytes_list bs (λ i h. A.bytes i))))

  pub code_section : Section (decoded (code_records bs))
  code_section = pattern_section code_pattern

  -- RECORD k of the code
  module _ (k : ℕ) (h : k < length bs / 5) {r : Rec} (is : r ≡ rec_in (row 5 k bs)) where
    below : k < length (decoded (code_records bs)).cables
    below = rw (code_cables bs) h

    ends : (r.i < devices (decoded (code_records bs))) × (r.j < devices (decoded (code_records bs)))
    unfolding cable_of
    ends = cable_ends (decoded (code_records bs)) code_section k (cable_of r) below (record_cable bs k h r is)

    kind_low : r.c < 256
    unfolding rec_in
    kind_low = rw (is, row_at 5 k bs 3 0 (omega arith)) (A.bytes (5 * k + 3))

    pub record_low : (r.i < 10) × (r.j < 10) × (r.c < 256)
    record_low = (omega (arith, ends.0, code_section.devices_high), omega (arith, ends.1, code_section.devices_high), kind_low)

    pub code_turn :
        {t : List ℕ} → Table (first_cables (decoded (code_records bs)) k) t
        → Table (first_cables (decoded (code_records bs)) (k + 1)) (put_cable t (cable_of r) r.ki r.kj)
    unfolding cable_of
    code_turn {t} T =
        rw (← record_i_kind bs k h r is A.accepted, ← record_j_kind bs k h r is A.accepted)
        (table_next (decoded (code_records bs)) code_section k (cable_of r) below (record_cable bs k h r is) t kind_low T)

  pub code_done :
      (k : ℕ) {t : List ℕ} → k ≡ length bs / 5 → Table (first_cables (decoded (code_records bs)) k) t → Labels (decoded (code_records bs)) t
  code_done k {t} e T = table_end (decoded (code_records bs)) code_section k t (e ∙ sym (code_cables bs)) T
