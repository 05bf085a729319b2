-- The text of a catalogue line by line and record by record, and entries read back from their bytes. Rests on records of any
-- size. Assumes nothing.
use Rattle.std.specs.Prelude.{◌≡◌, refl, length, get_or, take, drop}
use Rattle.std.proofs.Common.{sym, ap, ap₂, ◌∙◌, add-one, arith, length-append, drop-drop, take-suc, take-append-drop, le-leb}
use Rattle.std.specs.Simd.{first_chunks}
use mathlib.Core.List.{List, [], ◌∷◌, ◌++◌, map, append_assoc, append-nil}
use Prim.Native.Nat.{ℕ, zero, suc, ◌+◌, ◌*◌, ◌-◌, ◌/◌, ◌≤◌, ◌<◌, min}
use Rattle.std.proofs.lemmas.List.{length-map}
use Rattle.std.proofs.lemmas.Bool.{lt-leb}
use Rattle.laws.specs.Lists.{Mem, concat}
use Rattle.laws.specs.Rows.{row, rows, row_zero, row_tail, rows_concat, concat_length, rows_length}
use Rattle.codes.specs.Code.{rec_in, recs_in}
use Rattle.growth.specs.Sizes.{example_at, entry_size}
use Rattle.growth.specs.Catalogue.{figures, Entry, entry, entry_bytes, all_bytes}
use Rattle.growth.specs.EntryLaws.{entry_cables, entry_figures, entry_records, entries_sized}
use Rattle.text_lines.specs.Texts.{
  decimal,
  drawing_word,
  drawing_text,
  record_text,
  records_text,
  entry_text,
  lines,
  entry_shown,
  first_entries,
  entries_shown,
}

-- A PART of lent bytes from `at` on is the k-th record behind the first s
pub part_row : (w s k : ℕ) (xs : List ℕ) (at : ℕ) → at ≡ s + w * k → take (at + w - at) (drop at xs) ≡ row w k (drop s xs)
unfolding row
part_row w s k xs at e = let size : at + w - at ≡ w = omega arith in rw (size, e, drop-drop (w * k) s xs)

-- THE TEXT OF ONE RECORD MORE, of any size
module _ {A : Type 0} (w : ℕ) (f : List ℕ → A) (text : A → List ℕ) where
  rows_text_more :
      (k : ℕ) (xs : List ℕ) → concat (map text (map f (rows w k xs))) ++ text (f (row w k xs))
      ≡ concat (map text (map f (rows w (suc k) xs)))
  unfolding concat rows
  rows_text_more zero xs = rw (row_zero w xs) (sym (append-nil (text (f (take w xs)))))
  rows_text_more (suc k) xs =
      append_assoc (text (f (take w xs))) (concat (map text (map f (rows w k (drop w xs))))) (text (f (row w (suc k) xs)))
      ∙ rw (← row_tail w k xs) (ap (λ (l : List ℕ). text (f (take w xs)) ++ l) (rows_text_more k (drop w xs)))

pub records_more :
    (k : ℕ) (bs : List ℕ) → records_text (recs_in k bs) ++ (32 ∷ record_text (rec_in (row 5 k bs)))
    ≡ records_text (recs_in (k + 1) bs)
unfolding recs_in
records_more k bs = rw add-one (rows_text_more 5 rec_in (λ r. 32 ∷ record_text r) k bs)

pub lines_more :
    (k : ℕ) (bs : List ℕ) → lines (first_entries k bs) ++ entry_text (entry_shown (row entry_size k bs))
    ≡ lines (first_entries (k + 1) bs)
lines_more k bs = rw add-one (rows_text_more entry_size entry_shown entry_text k bs)

-- THE TEXT OF SEVERAL, one behind the other, of what each row stands for
module _ {A B : Type 0} (of_row : A → B) (text : B → List ℕ) where
  abbrev texts : List A → List ℕ
  texts xs = concat (map text (map of_row xs))

  texts_append : (xs ys : List A) → texts (xs ++ ys) ≡ texts xs ++ texts ys
  unfolding concat
  texts_append [] ys = refl
  texts_append (x ∷ xs) ys =
      ap (λ (l : List ℕ). text (of_row x) ++ l) (texts_append xs ys) ∙ sym (append_assoc (text (of_row x)) (texts xs) (texts ys))

  -- with the next one
  pub texts_more :
      (xs : List A) (i : ℕ) (d : A) → i < length xs → texts (take i xs) ++ text (of_row (get_or xs i d)) ≡ texts (take (i + 1) xs)
  unfolding concat
  texts_more xs i d h =
      ap (λ (l : List ℕ). texts (take i xs) ++ l) (sym (append-nil (text (of_row (get_or xs i d)))))
      ∙ sym (texts_append (take i xs) (get_or xs i d ∷ []))
      ∙ ap texts (rw (add-one, take-suc xs i d h))

  -- and all of them
  pub texts_rest : (xs : List A) (i : ℕ) → texts (take i xs) ++ texts (drop i xs) ≡ texts xs
  texts_rest xs i = sym (texts_append (take i xs) (drop i xs)) ∙ ap texts (take-append-drop i xs)

-- AS ARRAYS: the first records of a list are the first of the arrays that it is cut into
chunk_rows : (w n k : ℕ) (xs : List ℕ) → k ≤ n → take k (first_chunks w n xs) ≡ rows w k xs
unfolding rows
chunk_rows w n zero xs h = refl
chunk_rows w zero (suc k) xs h = absurd (omega arith)
chunk_rows w (suc n) (suc k) xs h = ap (λ (l : List (List ℕ)). take w xs ∷ l) (chunk_rows w n k (drop w xs) (omega arith))

-- those of the list itself, and of a part of it that ends with it
module _ {xs part : List ℕ} {cut : List (List ℕ)} (w k : ℕ) (same : part ≡ xs) (is : cut ≡ first_chunks w (length part / w) part) where
  pub rows_cut : k ≤ length part / w → take k cut ≡ rows w k xs
  rows_cut h = ap (take k) is ∙ chunk_rows w (length part / w) k part h ∙ ap (rows w k) same

-- HOW MANY
pub entries_count : (n : ℕ) (bs : List ℕ) → length (first_entries n bs) ≡ n
entries_count n bs = length-map (rows entry_size n bs) entry_shown ∙ rows_length entry_size n bs

-- THE DRAWING AT FAULT: for refusals 2 to 8
module _ (n d : ℕ) where
  pub drawing_none_below : n < 2 → [] ≡ drawing_text n d
  drawing_none_below h = rw (lt-leb 2 n h)

  pub drawing_none_above : 8 < n → [] ≡ drawing_text n d
  drawing_none_above h = rw (le-leb 2 n (omega arith), lt-leb n 8 h)

  pub drawing_told : 2 ≤ n → n ≤ 8 → drawing_word ++ decimal d ≡ drawing_text n d
  drawing_told h g = rw (le-leb 2 n h, le-leb n 8 g)

-- AN ENTRY OF AT MOST 8 CABLES is shown as it stands in its bytes: support, example, and as many records as its number of cables counts
pub shown_whole :
    (bs : List ℕ) → get_or bs 0 0 ≤ 8
    → entry_shown bs ≡ entry (figures (get_or bs 1 0) (get_or bs example_at 0)) (recs_in (get_or bs 0 0) (drop 2 bs))
unfolding entry_shown
shown_whole bs h =
    let few : min (get_or bs 0 0) 8 ≡ get_or bs 0 0 = omega arith in
    rw few

-- ENTRIES READ BACK from their bytes
entry_back : (e : Entry) → length e.code ≤ 8 → entry_shown (entry_bytes e) ≡ e
entry_back e h =
    shown_whole (entry_bytes e) (rw (entry_cables e) h)
    ∙ ap₂ {C = Entry} (λ f rs. entry f rs) (entry_figures e h) (entry_records e)

map_back : (es : List Entry) → ((e : Entry) → Mem e es → length e.code ≤ 8) → map entry_shown (map entry_bytes es) ≡ es
map_back [] h = refl
map_back (e ∷ es) h = ap₂ {C = List Entry} (λ a b. a ∷ b) (entry_back e (h e (Mem.here refl))) (map_back es (λ f m. h f (Mem.there m)))

pub entries_back :
    (es : List Entry) (rest : List ℕ) → ((e : Entry) → Mem e es → length e.code ≤ 8)
    → entries_shown (length es) (all_bytes es ++ rest) ≡ es
unfolding all_bytes
entries_back es rest h =
    ap (λ (n : ℕ). map entry_shown (rows entry_size n bytes)) count
    ∙ ap (map entry_shown) (rows_concat entry_size (map entry_bytes es) rest (entries_sized es h))
    ∙ map_back es h
  where
    bytes : List ℕ
    bytes = concat (map entry_bytes es) ++ rest

    count : min (length es) (length bytes / entry_size) ≡ length (map entry_bytes es)
    count =
        omega (
          arith,
          length-append (concat (map entry_bytes es)) rest,
          concat_length entry_size (map entry_bytes es) (entries_sized es h),
          length-map es entry_bytes,
        )
