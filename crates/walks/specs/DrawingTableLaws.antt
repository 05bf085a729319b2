-- The tables of a survey's drawings and their slots, drawing by drawing: those of one more put in their places. Rests on records of any
-- size and SlotLaws. Assumes nothing.
use Rattle.std.specs.Prelude.{◌≡◌, List, ◌++◌, ℕ, ◌+◌, ◌*◌, ◌≤◌, ◌<◌, length, take, drop}
use Rattle.std.proofs.Common.{ap, ◌∙◌, not-suc-le-zero, arith, take_all}
use Rattle.std.proofs.Math.Decide.{ℕ_discrete}
use Rattle.std.proofs.Math.Seq.{paste}
use Rattle.laws.specs.Rows.{row}
use Rattle.graphs.specs.Drawing.{drawing_in}
use Rattle.codes.specs.BranchState.{Labels}
use Rattle.laws.specs.PutRecords.{put_record}
use Rattle.laws.specs.PutRecordLaws.{put_length, put_same, put_other}
use Rattle.growth.specs.Sizes.{tables_size}
use Rattle.walks.specs.Slots.{drawing_slots, drawing_ends, SlotsIn}
use Rattle.walks.specs.SlotsMade.{SlotsBefore, EndsBefore}
use Rattle.walks.specs.SlotLaws.{slotted}
use Rattle.walks.specs.DrawingTables.{TablesBefore, DrawingPut}

-- ONE RECORD of any size, copied in
pub copied_whole : (w k : ℕ) (r xs : List ℕ) → length r ≡ w → paste xs (w * k) r w ≡ put_record w k r xs
unfolding put_record
copied_whole w k r xs e = ap (λ (l : List ℕ). take (w * k) xs ++ l ++ drop (w * k + w) xs) (take_all w r (omega arith))

-- ONE TABLE in its place leaves the size
room_for : (k : ℕ) (xs : List ℕ) → k < 129 → length xs ≡ tables_size → 100 * k + 100 ≤ length xs
room_for k xs h e = omega arith

pub put_sized : (k : ℕ) (r xs : List ℕ) → k < 129 → length r ≡ 100 → length xs ≡ tables_size → length (put_record 100 k r xs) ≡ tables_size
put_sized k r xs h size e = put_length 100 k r xs size (room_for k xs h e) ∙ e

-- ONE DRAWING: its table, its slots and their groups' ends
pub drawing_put :
    (d : ℕ) (t slots ends before : List ℕ) → d < 32 → length before ≡ tables_size → length t ≡ 100 → SlotsBefore t 10 slots
    → EndsBefore slots 10 ends
    → DrawingPut t d before (put_record 100 (64 + d) ends (put_record 100 (32 + d) slots (put_record 100 d t before)))
drawing_put d t slots ends before low size e s f =
    record {
      size = put_sized (64 + d) ends second (omega arith) f.size second_size;
      table_is = third_other d (λ q. omega arith) ∙ second_other d (λ q. omega arith) ∙ table_is;
      slots = rw (
        third_other d (λ q. omega arith),
        second_other d (λ q. omega arith),
        table_is,
        third_other (32 + d) (λ q. omega arith),
        put_same 100 (32 + d) slots first s.size room_second,
        put_same 100 (64 + d) ends second f.size room_third,
      )
          (slotted s f);
      other = λ j x y z. third_other j z ∙ second_other j y ∙ put_other 100 d t before e room_first j x;
    }
  where
    first : List ℕ
    first = put_record 100 d t before

    second : List ℕ
    second = put_record 100 (32 + d) slots first

    first_size : length first ≡ tables_size
    first_size = put_sized d t before (omega arith) e size

    second_size : length second ≡ tables_size
    second_size = put_sized (32 + d) slots first (omega arith) s.size first_size

    room_first : 100 * d + 100 ≤ length before
    room_first = room_for d before (omega arith) size

    room_second : 100 * (32 + d) + 100 ≤ length first
    room_second = room_for (32 + d) first (omega arith) first_size

    room_third : 100 * (64 + d) + 100 ≤ length second
    room_third = room_for (64 + d) second (omega arith) second_size

    table_is : row 100 d first ≡ t
    table_is = put_same 100 d t before e room_first

    second_other : (j : ℕ) → (j ≡ 32 + d → ⊥) → row 100 j second ≡ row 100 j first
    second_other = put_other 100 (32 + d) slots first s.size room_second

    third_other : (j : ℕ) → (j ≡ 64 + d → ⊥) → row 100 j (put_record 100 (64 + d) ends second) ≡ row 100 j second
    third_other = put_other 100 (64 + d) ends second f.size room_third

-- DRAWING BY DRAWING
module _ (bs : List ℕ) where
  pub tables_none : (ls : List ℕ) → length ls ≡ tables_size → TablesBefore 0 bs ls
  tables_none ls e = record { size = e; table = λ d h. absurd (not-suc-le-zero h); slots = λ d h. absurd (not-suc-le-zero h) }

  pub tables_next :
      (n : ℕ) {before after t : List ℕ} → n < 32 → Labels (drawing_in (row 73 n bs)) t → DrawingPut t n before after
      → TablesBefore n bs before → TablesBefore (n + 1) bs after
  tables_next n {before} {after} {t} h l p T =
      record { size = p.size; table = λ d g. table d g (ℕ_discrete d n); slots = λ d g. slots d g (ℕ_discrete d n) }
    where
      -- the rows of an earlier drawing are as they were
      table_same : (d : ℕ) → d < n → row 100 d after ≡ row 100 d before
      table_same d g = p.other d (λ q. omega arith) (λ q. omega arith) (λ q. omega arith)

      slots_same : (d : ℕ) → d < n → drawing_slots after d ≡ drawing_slots before d
      slots_same d g = p.other (32 + d) (λ q. omega arith) (λ q. omega arith) (λ q. omega arith)

      ends_same : (d : ℕ) → d < n → drawing_ends after d ≡ drawing_ends before d
      ends_same d g = p.other (64 + d) (λ q. omega arith) (λ q. omega arith) (λ q. omega arith)

      table : (d : ℕ) → d < n + 1 → Dec (d ≡ n) → Labels (drawing_in (row 73 d bs)) (row 100 d after)
      table d g (yes q) = rw (q, p.table_is) l
      table d g (no q) = rw (table_same d (omega arith)) (T.table d (omega arith))

      slots : (d : ℕ) → d < n + 1 → Dec (d ≡ n) → SlotsIn after d
      slots d g (yes q) = rw q p.slots
      slots d g (no q) =
          rw (table_same d (omega arith), slots_same d (omega arith), ends_same d (omega arith)) (T.slots d (omega arith))
