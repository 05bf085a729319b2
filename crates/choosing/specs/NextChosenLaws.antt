-- What was counted can be chosen from, and what is chosen are the candidates of the code. The one place where what is counted meets what
-- is chosen. Rests on PreparedLaws. Assumes nothing.
use Rattle.std.proofs.Common.{◌∙◌, sym}
use Rattle.std.specs.Prelude.{List, ℕ}
use Rattle.codes.specs.Code.{Rec}
use Rattle.growth.specs.Floors.{GrownAbove}
use Rattle.walks.specs.LabelMarks.{drawings_of, cranes_of}
use Rattle.walks.specs.Prepared.{Readied, CountedCells, CountedAbove}
use Rattle.walks.specs.PreparedLaws.{as_many_cranes}
use Rattle.walks.specs.SheetTables.{sheets_of}
use Rattle.walks.specs.Choices.{OfSets, CanChoose, Chose}
use Rattle.choosing.specs.NextChosen.{RoomToChoose, CandidatesChosen}

module _ {survey labels rank : List ℕ} {n s : ℕ} (r : Readied survey labels rank n) {list : List ℕ} {base : ℕ} (room : RoomToChoose s list base)
    (γ : List Rec) {cells seen : List ℕ} {found : ℕ} (above : CountedAbove (drawings_of survey) γ rank n cells seen found) where
  c : CountedCells (drawings_of survey) (GrownAbove γ above.floors) rank n cells seen found
  c = above.counted

  of_sets : OfSets (cranes_of survey) c.sets cells
  of_sets = record { size = λ p. c.counting.size p ∙ sym (as_many_cranes survey); cell = c.cell }

  pub counted_chooses : CanChoose (sheets_of labels) cells seen found s list base
  counted_chooses =
      record {
        cr = cranes_of survey;
        cranes_told = r.prepared.sheets;
        sets = c.sets;
        of_sets = of_sets;
        places = c.places;
        sized = c.sized;
        one = room.one;
        list_size = room.list_size;
        room = room.room;
      }

  pub counted_chosen : {cells₂ list₂ : List ℕ} {top : ℕ} → Chose (sheets_of labels) cells s list base cells₂ seen list₂ top
      → CandidatesChosen (cranes_of survey) (drawings_of survey) γ rank n s cells₂ seen list base list₂ top
  counted_chosen t =
      record {
        floors = above.floors;
        laid = above.laid;
        sets = c.sets;
        counting = c.counting;
        chosen = t.chosen (cranes_of survey) r.prepared.sheets c.sets of_sets n r.prepared.ranks.most;
        low = t.low;
        high = t.high;
        kept = t.kept;
        blank = t.blank;
      }
