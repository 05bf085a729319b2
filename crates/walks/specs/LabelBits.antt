-- The labels of a drawing as bits: that of a label is the bit of its number, so that one number holds a set of labels. Assumes nothing:
-- these are definitions.
use Rattle.std.specs.Prelude.{◌≡◌, List, ℕ, zero, suc, ◌+◌, ◌^◌, ◌≤◌, ◌<◌, length, get_or}
use Rattle.laws.specs.Rows.{row}
use Rattle.codes.specs.BranchState.{label_at}
use Rattle.graphs.specs.Survey.{drawing_count}

-- THE MOST LABELS that a number has bits for
abbrev pub sweep_most : ℕ
sweep_most = 32

-- the bit of a label: that of its number; 0, which is none, has no bit
unfoldable pub label_bit : (rank : List ℕ) (l : ℕ) → ℕ
label_bit rank zero = 0
label_bit rank (suc l) = 2 ^ get_or rank (suc l) 0

-- THE BITS OF DRAWING d stand behind the labels, slots and groups' ends of all drawings, as its labels do
abbrev pub drawing_bits : (labels : List ℕ) (d : ℕ) → List ℕ
drawing_bits labels d = row 100 (96 + d) labels

abbrev pub BitsIn : (labels rank : List ℕ) (d : ℕ) → Type 0
BitsIn labels rank d =
    (u w : ℕ) → u < 10 → w < 10 → label_at (drawing_bits labels d) u w ≡ label_bit rank (label_at (row 100 d labels) u w)

-- those of the first n drawings
abbrev pub BitsBefore : (n : ℕ) (labels rank : List ℕ) → Type 0
BitsBefore n labels rank = (d : ℕ) → d < n → BitsIn labels rank d

-- those of all drawings of a survey whose n labels are few enough
abbrev pub BitsNoted : (survey labels rank : List ℕ) (n : ℕ) → Type 0
BitsNoted survey labels rank n = n ≤ sweep_most → BitsBefore (drawing_count survey) labels rank

-- THE FIRST k BITS of a drawing with the table t
pub record BitsOfRow (t rank : List ℕ) (k : ℕ) (bits : List ℕ) : Type 0 where
  pub size : length bits ≡ 100
  pub each : (i : ℕ) → i < k → get_or bits i 0 ≡ label_bit rank (get_or t i 0)
