-- How many bytes a text has at most: those of the longest line for each entry, 40 for what else there may be. Assumes nothing.
use Rattle.std.specs.Prelude.{Bool, true, false, ◌&&◌, cond, List, [], ◌∷◌, ◌++◌, map, Result, Ok, Err, leb, length, get_or, take, drop}
use Prim.Native.Nat.{ℕ, zero, suc, ◌+◌, ◌*◌, ◌/◌, ◌^◌, ◌≤◌, ◌<◌, min}
use Rattle.std.proofs.Math.Nat.{mul-suc}
use native.Mathlib.Omega.{arith}
use Rattle.std.proofs.Math.Decide.{dec_lt}
use Rattle.std.proofs.Math.ListN.{length-append, get_or-eq_default}
use Rattle.std.proofs.Common.{length-take, get_or-take, get_or-drop}
use Rattle.laws.specs.Lists.{concat}
use Rattle.laws.specs.Rows.{rows}
use Rattle.codes.specs.Code.{rec_in, recs_in}
use Rattle.growth.specs.Sizes.{example_at, entry_size}
use Rattle.records.specs.declared.refusal.Refusal.{Refusal}
use Rattle.records.specs.Refusals.{number_of, number_small}
use Rattle.records.specs.declared.refusal.Fault.{Fault}
use Rattle.text_lines.specs.Texts.{
  decimal,
  drawing_word,
  record_text,
  entry_text,
  longest_line,
  catalogue_text,
  drawing_text,
  refusal_text,
  entry_shown,
  entries_shown,
  text_of,
}
use Rattle.text_lines.specs.TextLaws.{entries_count}
use Rattle.text_lines.specs.Numbers.{decimal_length}

-- BYTES, and parts of them
abbrev pub BytesIn : List ℕ → Type 0
BytesIn bs = (i : ℕ) → get_or bs i 0 < 256

low_take : (n : ℕ) (bs : List ℕ) → BytesIn bs → BytesIn (take n bs)
low_take n bs h i = go (dec_lt i n)
  where
    go : Dec (i < n) → get_or (take n bs) i 0 < 256
    go (yes p) = rw (get_or-take n bs i 0 p) (h i)
    go (no p) = rw (get_or-eq_default (take n bs) 0 {n = i} (omega (arith, length-take n bs))) (omega arith)

low_drop : (n : ℕ) (bs : List ℕ) → BytesIn bs → BytesIn (drop n bs)
low_drop n bs h i = rw (get_or-drop n bs i 0) (h (n + i))

-- RECORDS of any size, each of whose texts has at most so many bytes
module _
    {A : Type 0}
    (w most : ℕ)
    (f : List ℕ → A)
    (text : A → List ℕ)
    (each : (r : List ℕ) → BytesIn r → length (text (f r)) ≤ most) where
  rows_size : (k : ℕ) (bs : List ℕ) → BytesIn bs → length (concat (map text (map f (rows w k bs)))) ≤ most * k
  unfolding concat rows
  rows_size zero bs h = omega arith
  rows_size (suc k) bs h =
      omega (
        arith,
        length-append (text (f (take w bs))) (concat (map text (map f (rows w k (drop w bs))))),
        each (take w bs) (low_take w bs h),
        rows_size k (drop w bs) (low_drop w bs h),
        mul-suc most k,
      )

-- A RECORD: five numbers of at most three digits with a mark in front
byte_digits : (n : ℕ) → n < 256 → length (decimal n) ≤ 3
byte_digits n h = decimal_length n 2 (omega arith)

record_size : (bs : List ℕ) → BytesIn bs → length (32 ∷ record_text (rec_in bs)) ≤ 20
unfolding record_text rec_in
record_size bs h =
    simp length-append (omega (
      arith,
      byte_digits (get_or bs 0 0) (h 0),
      byte_digits (get_or bs 1 0) (h 1),
      byte_digits (get_or bs 2 0) (h 2),
      byte_digits (get_or bs 3 0) (h 3),
      byte_digits (get_or bs 4 0) (h 4),
    ))

-- AN ENTRY
line_size : (bs : List ℕ) → BytesIn bs → length (entry_text (entry_shown bs)) ≤ longest_line
unfolding entry_text entry_shown recs_in
line_size bs h =
    simp length-append (omega (
      arith,
      byte_digits (get_or bs 1 0) (h 1),
      byte_digits (get_or bs example_at 0) (h example_at),
      rows_size 5 20 rec_in (λ r. 32 ∷ record_text r) record_size (min (get_or bs 0 0) 8) (drop 2 bs) (low_drop 2 bs h),
    ))

-- A CATALOGUE, whose count is a number of the machine's
catalogue_size :
    (n : ℕ) (bs : List ℕ) → n < 10 ^ 20 → BytesIn bs
    → length (catalogue_text (entries_shown n bs)) ≤ longest_line * (length bs / entry_size) + 40
unfolding catalogue_text
catalogue_size n bs g h =
    simp length-append (rw (entries_count (min n (length bs / entry_size)) bs) (omega (
      arith,
      decimal_length (min n (length bs / entry_size)) 19 (omega arith),
      rows_size entry_size longest_line entry_shown entry_text line_size (min n (length bs / entry_size)) bs h,
    )))

-- A REFUSAL

drawing_size : (n d : ℕ) → d < 10 ^ 20 → length (drawing_text n d) ≤ 29
drawing_size n d h = go (leb 2 n && leb n 8)
  where
    go : (x : Bool) → length (cond x (drawing_word ++ decimal d) []) ≤ 29
    go true = omega (arith, decimal_length d 19 h)
    go false = omega arith

refusal_size : (r : Refusal) (d : ℕ) → d < 10 ^ 20 → length (refusal_text (number_of r) d) ≤ 40
unfolding refusal_text
refusal_size r d h =
    let two_digits : number_of r < 10 ^ 2 = omega (arith, number_small r) in
    simp length-append (omega (arith, decimal_length (number_of r) 1 two_digits, drawing_size (number_of r) d h))

-- AN ANSWER whose count and drawing are numbers of the machine's
abbrev pub MachineNumbers : Result ℕ Fault → Type 0
MachineNumbers (Ok n) = n < 10 ^ 20
MachineNumbers (Err f) = f.drawing < 10 ^ 20

pub text_size :
    (a : Result ℕ Fault) (bs : List ℕ) → MachineNumbers a → BytesIn bs
    → length (text_of a bs) ≤ longest_line * (length bs / entry_size) + 40
text_size (Ok n) bs g h = catalogue_size n bs g h
text_size (Err f) bs g h = omega (arith, refusal_size f.refusal f.drawing g)
