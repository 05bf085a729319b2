-- The cranes of a survey, byte by byte, and the table of sheets in its place behind the tables of the drawings, which stay. Rests on records
-- of any size and SheetLaws. Assumes nothing.
use Rattle.std.specs.Prelude.{◌≡◌, List, [], ℕ, ◌+◌, ◌*◌, ◌≤◌, ◌<◌, length, get_or}
use Rattle.std.proofs.Common.{◌∙◌, arith}
use Rattle.std.proofs.lemmas.List.{length-map}
use Rattle.std.proofs.Math.ListN.{get_or-map}
use Rattle.laws.specs.Lists.{get_d_default}
use Rattle.laws.specs.Rows.{rows_length, rows_at, row_at}
use Rattle.laws.specs.PutRecords.{put_record}
use Rattle.laws.specs.PutRecordLaws.{put_length, put_same, put_other}
use Rattle.graphs.specs.Drawing.{crane_in}
use Rattle.graphs.specs.Survey.{records_in, cranes, bytes_refusal, drawing_count}
use Rattle.graphs.specs.AcceptedSurvey.{accepted_survey}
use Rattle.growth.specs.Sheets.{SheetsNoted, CountsCranes}
use Rattle.growth.specs.SheetLaws.{sheets_count_cranes}
use Rattle.growth.specs.Sizes.{tables_size}
use Rattle.walks.specs.DrawingTables.{Tables}
use Rattle.walks.specs.LabelBits.{BitsNoted}
use Rattle.walks.specs.SheetTables.{sheets_of, BesideSheets}

-- ONE CRANE for each drawing
pub cranes_counted : (bs : List ℕ) → length (cranes bs) ≡ drawing_count bs
unfolding cranes records_in
cranes_counted bs = length-map (records_in bs) crane_in ∙ rows_length 73 (drawing_count bs) bs

-- it is the last byte of the drawing's record
pub crane_byte : (bs : List ℕ) (d : ℕ) → d < drawing_count bs → get_or (cranes bs) d 256 ≡ get_or bs (73 * d + 72) 0
unfolding cranes records_in crane_in
crane_byte bs d h =
    get_d_default (cranes bs) d 256 (crane_in []) (omega (arith, cranes_counted bs)) ∙ get_or-map crane_in (records_in bs) d []
    ∙ rw (rows_at 73 (drawing_count bs) d bs h) (row_at 73 d bs 72 0 (omega arith))

-- THE TABLE of sheets put in its place
module _ (sheets before : List ℕ) (size : length sheets ≡ 100) (room : length before ≡ tables_size) where
  pub sheets_put : sheets_of (put_record 100 128 sheets before) ≡ sheets
  sheets_put = put_same 100 128 sheets before size (omega arith)

  pub sheets_put_beside : BesideSheets before (put_record 100 128 sheets before)
  sheets_put_beside =
      record {
        size = put_length 100 128 sheets before size (omega arith);
        same = λ j h. put_other 100 128 sheets before size (omega arith) j (λ e. omega arith);
      }

-- so what stands beside it is as it was: the tables of the drawings, and the bits of their labels
module _ (survey : List ℕ) {before after : List ℕ} (most : drawing_count survey ≤ 32) (b : BesideSheets before after) where
  pub tables_beside : Tables survey before → Tables survey after
  tables_beside T =
      record {
        size = b.size ∙ T.size;
        table = λ d h. rw (b.same d (omega arith)) (T.table d h);
        slots = λ d h. rw (b.same d (omega arith), b.same (32 + d) (omega arith), b.same (64 + d) (omega arith)) (T.slots d h);
      }

  pub bits_beside : (rank : List ℕ) (n : ℕ) → BitsNoted survey before rank n → BitsNoted survey after rank n
  bits_beside rank n B few d h = rw (b.same (96 + d) (omega arith), b.same d (omega arith)) (B few d h)

-- AND THE TABLE of an accepted survey counts its cranes
pub sheets_counted :
    (bs : List ℕ) {sheets : List ℕ} → (bytes_refusal bs).number ≡ 0 → SheetsNoted (cranes bs) sheets → CountsCranes (cranes bs) sheets
sheets_counted bs a s = sheets_count_cranes (omega (arith, cranes_counted bs, (accepted_survey bs a).most)) s
