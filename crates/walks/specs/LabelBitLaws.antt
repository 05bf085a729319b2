-- The bits of labels, label by label and drawing by drawing: those of one more put in their place behind the tables. Rests on records of any
-- size and PreparedLaws. Assumes nothing.
use Rattle.std.specs.Prelude.{◌≡◌, refl, List, ℕ, zero, suc, ◌+◌, ◌*◌, ◌/◌, ◌%◌, ◌^◌, ◌≤◌, ◌<◌, length, get_or, set}
use Rattle.std.proofs.Common.{◌∙◌, subst, not-suc-le-zero, one-mul, mod-eq_of_lt, arith, length-set, get_or-set_same, get_or-set_other}
use Rattle.std.proofs.Math.Decide.{ℕ_discrete}
use Rattle.std.proofs.Math.Pow.{pow-lt}
use Rattle.laws.specs.Rows.{row}
use Rattle.laws.specs.PutRecords.{put_record}
use Rattle.laws.specs.PutRecordLaws.{put_length, put_same, put_other}
use Rattle.graphs.specs.Survey.{bytes_refusal, drawing_count}
use Rattle.growth.specs.Places.{Ranks}
use Rattle.walks.specs.Sight.{Ranked}
use Rattle.walks.specs.LabelMarks.{drawings_of}
use Rattle.walks.specs.DrawingTables.{Tables}
use Rattle.walks.specs.LabelBits.{label_bit, sweep_most, BitsIn, BitsBefore, BitsOfRow}
use Rattle.walks.specs.PreparedLaws.{tables_ranked}

-- ONE LABEL: none has no bit, and that of any other is 1, shifted by its number
pub no_label_bit : (rank : List ℕ) (l : ℕ) → l ≡ 0 → 0 ≡ label_bit rank l
unfolding label_bit
no_label_bit rank zero e = refl
no_label_bit rank (suc l) e = absurd (omega arith)

pub shifted_label_bit :
    (rank : List ℕ) (l : ℕ) → 0 < l → get_or rank l 0 < sweep_most → (1 * 2 ^ get_or rank l 0) % 2 ^ 32 ≡ label_bit rank l
unfolding label_bit
shifted_label_bit rank zero s h = absurd (omega arith)
shifted_label_bit rank (suc l) s h = rw one-mul (mod-eq_of_lt (pow-lt {i = get_or rank (suc l) 0} {j = 32} h))

-- CELL i of a table whose n labels are numbered
cell_ranked :
    {t rank : List ℕ} {n : ℕ} → Ranked t rank n → (i : ℕ) → i < 100
    → (get_or t i 0 ≤ 65536) × (0 < get_or t i 0 → get_or rank (get_or t i 0) 0 < n)
cell_ranked {t} {rank} {n} o i h =
    let e : 10 * (i / 10) + i % 10 ≡ i = omega arith in
    subst (λ (j : ℕ). (get_or t j 0 ≤ 65536) × (0 < get_or t j 0 → get_or rank (get_or t j 0) 0 < n)) e
    (o.low (i / 10) (i % 10) (omega arith) (omega arith), o.ranked (i / 10) (i % 10) (omega arith) (omega arith))

-- so each label of an accepted survey with few labels has a bit
pub cell_has_bit :
    {bs labels rank alphabet : List ℕ} {n : ℕ} → (bytes_refusal bs).number ≡ 0 → Tables bs labels → Ranks (drawings_of bs) rank alphabet n
    → n ≤ sweep_most → (d : ℕ) → d < drawing_count bs → (i : ℕ) → i < 100
    → (get_or (row 100 d labels) i 0 ≤ 65536) × (0 < get_or (row 100 d labels) i 0 → get_or rank (get_or (row 100 d labels) i 0) 0 < sweep_most)
cell_has_bit a T o few d h i g =
    let c = cell_ranked (tables_ranked a T o d h) i g in
    (c.0, λ s. omega (arith, c.1 s))

-- LABEL BY LABEL
module _ (t rank : List ℕ) where
  pub row_bits_none : (bits : List ℕ) → length bits ≡ 100 → BitsOfRow t rank 0 bits
  row_bits_none bits e = record { size = e; each = λ i h. absurd (not-suc-le-zero h) }

  pub row_bits_next :
      (k : ℕ) (bits : List ℕ) (x : ℕ) → k < 100 → x ≡ label_bit rank (get_or t k 0) → BitsOfRow t rank k bits
      → BitsOfRow t rank (k + 1) (set bits k x)
  row_bits_next k bits x h e b = record { size = length-set bits k x ∙ b.size; each = λ i g. go i g (ℕ_discrete i k) }
    where
      go : (i : ℕ) → i < k + 1 → Dec (i ≡ k) → get_or (set bits k x) i 0 ≡ label_bit rank (get_or t i 0)
      go i g (yes q) = rw q (get_or-set_same bits k x 0 (omega (arith, b.size)) ∙ e)
      go i g (no q) = get_or-set_other bits k i x 0 q ∙ b.each i (omega arith)

-- DRAWING BY DRAWING
pub bits_none : (labels rank : List ℕ) → BitsBefore 0 labels rank
bits_none labels rank d h = absurd (not-suc-le-zero h)

module _ {bs labels rank bits : List ℕ} (n : ℕ) (low : n < 32) (T : Tables bs labels) (b : BitsOfRow (row 100 n labels) rank 100 bits) where
  room : 100 * (96 + n) + 100 ≤ length labels
  room = omega (arith, T.size)

  row_same : (j : ℕ) → (j ≡ 96 + n → ⊥) → row 100 j (put_record 100 (96 + n) bits labels) ≡ row 100 j labels
  row_same = put_other 100 (96 + n) bits labels b.size room

  -- the tables are as they were
  pub bits_leave_tables : drawing_count bs ≤ 32 → Tables bs (put_record 100 (96 + n) bits labels)
  bits_leave_tables most =
      record {
        size = put_length 100 (96 + n) bits labels b.size room ∙ T.size;
        table = λ d h. rw (row_same d (λ e. omega arith)) (T.table d h);
        slots = λ d h.
            rw (row_same d (λ e. omega arith), row_same (32 + d) (λ e. omega arith), row_same (64 + d) (λ e. omega arith)) (T.slots d h);
      }

  pub bits_next : BitsBefore n labels rank → BitsBefore (n + 1) (put_record 100 (96 + n) bits labels) rank
  bits_next B d h = go (ℕ_discrete d n)
    where
      go : Dec (d ≡ n) → BitsIn (put_record 100 (96 + n) bits labels) rank d
      go (yes q) =
          rw (q, put_same 100 (96 + n) bits labels b.size room, row_same n (λ e. omega arith))
          (λ u w f g. b.each (10 * u + w) (omega arith))
      go (no q) = rw (row_same d (λ e. omega arith), row_same (96 + d) (λ e. q (omega arith))) (B d (omega arith))
