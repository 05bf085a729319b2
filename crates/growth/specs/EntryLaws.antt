-- Entries in the output: one entry written byte by byte, and one entry more behind those that are there. Rests on records
-- of any size. Assumes nothing.
use Rattle.std.specs.Prelude.{◌≡◌, refl, List, [], ◌∷◌, ◌++◌, map, ℕ, suc, ◌+◌, ◌*◌, ◌-◌, ◌≤◌, ◌<◌, length, get_or, take, drop, set, replicate}
use Rattle.std.proofs.Common.{sym, ap, ◌∙◌, append_assoc, add-one, arith, length-append, length-set, take-suc, take-suc-set, take_all, get_or-take, get_or-append-add, length-take-le, lt-ltb, le-ltb}
use Rattle.std.proofs.Math.Decide.{dec_lt}
use Rattle.std.proofs.lemmas.List.{length-replicate, length-map, get_or-replicate}
use Rattle.std.proofs.Math.ListN.{get_or-append}
use Rattle.laws.specs.Lists.{Mem, snoc, concat, map_append}
use Rattle.laws.specs.Rows.{Sized, concat_length}
use Rattle.codes.specs.Code.{rec_bytes, recs_in}
use Rattle.codes.specs.CodeBytes.{rec_bytes_length, rec_bytes_in, recs_in_length, recs_in_bytes}
use Rattle.growth.specs.Sizes.{example_at, entry_size}
use Rattle.growth.specs.Catalogue.{Figures, figures, Entry, entry_bytes, all_bytes}
use Rattle.growth.specs.Entries.{byte_or_zero, told, BytesWritten, WritesOn}
use Rattle.laws.specs.PutRecords.{put_record}
use Rattle.laws.specs.PutRecordLaws.{put_behind}

-- WHAT IS WRITTEN where
pub byte_within : (bs : List ℕ) (n i : ℕ) → i < n → get_or bs i 0 ≡ byte_or_zero bs n i
unfolding byte_or_zero
byte_within bs n i h = simp (lt-ltb i n h)

pub byte_past : (bs : List ℕ) (n i : ℕ) → n ≤ i → 0 ≡ byte_or_zero bs n i
unfolding byte_or_zero
byte_past bs n i h = simp (le-ltb i n h)

-- the first n bytes with zeros behind them
padded_at :
    (bs : List ℕ) (n i w : ℕ) → n ≤ length bs → n ≤ w → i < w → get_or (take n bs ++ replicate (w - n) 0) i 0 ≡ byte_or_zero bs n i
padded_at bs n i w h g l = go (dec_lt i n)
  where
    size : length (take n bs) ≡ n
    size = length-take-le n bs h

    go : Dec (i < n) → get_or (take n bs ++ replicate (w - n) 0) i 0 ≡ byte_or_zero bs n i
    go (yes p) = get_or-append (take n bs) (replicate (w - n) 0) 0 i (omega (arith, size)) ∙ get_or-take n bs i 0 p ∙ byte_within bs n i p
    go (no p) =
        let e : i ≡ length (take n bs) + (i - n) = omega (arith, size) in
        ap (λ (k : ℕ). get_or (take n bs ++ replicate (w - n) 0) k 0) e
        ∙ get_or-append-add (take n bs) (replicate (w - n) 0) (i - n) 0
        ∙ get_or-replicate (w - n) (i - n) 0 0 (omega arith)
        ∙ byte_past bs n i (omega arith)

-- ONE ENTRY: of a code's bytes
module _ (bs : List ℕ) (m : ℕ) (f : Figures) (room : length bs ≡ 100) (few : m ≤ 8) where
  -- the records with zeros behind them
  abbrev padded : List ℕ
  padded = take (5 * m) bs ++ replicate (40 - 5 * m) 0

  padded_size : length padded ≡ 40
  padded_size =
      omega (
        arith,
        length-append (take (5 * m) bs) (replicate (40 - 5 * m) 0),
        length-take-le (5 * m) bs (omega arith),
        length-replicate {A = ℕ} (40 - 5 * m) 0,
      )

  told_is : told bs m f ≡ m ∷ f.support ∷ (padded ++ (f.example ∷ []))
  unfolding entry_bytes
  told_is = rw (recs_in_length m bs, rec_bytes_in m bs (omega arith))

  pub told_size : length (told bs m f) ≡ entry_size
  told_size = ap length told_is ∙ omega (arith, length-append padded (f.example ∷ []), padded_size)

  -- byte by byte
  behind_two : (i : ℕ) → 2 ≤ i → get_or (told bs m f) i 0 ≡ get_or (padded ++ (f.example ∷ [])) (i - 2) 0
  behind_two i l =
      let e : i ≡ suc (suc (i - 2)) = omega arith in
      ap (λ (x : List ℕ). get_or x i 0) told_is ∙ ap (λ (k : ℕ). get_or (m ∷ f.support ∷ (padded ++ (f.example ∷ []))) k 0) e

  told_at : (i : ℕ) → 2 ≤ i → i < example_at → get_or (told bs m f) i 0 ≡ byte_or_zero bs (5 * m) (i - 2)
  told_at i l h =
      behind_two i l ∙ get_or-append padded (f.example ∷ []) 0 (i - 2) (omega (arith, padded_size))
      ∙ padded_at bs (5 * m) (i - 2) 40 (omega arith) (omega arith) (omega arith)

  told_last : get_or (told bs m f) example_at 0 ≡ f.example
  told_last =
      behind_two example_at (omega arith) ∙ ap (λ (k : ℕ). get_or (padded ++ (f.example ∷ [])) k 0) (omega (arith, padded_size))
      ∙ get_or-append-add padded (f.example ∷ []) 0 0

  -- WHILE IT IS WRITTEN
  pub written_start : (out : List ℕ) → length out ≡ entry_size → BytesWritten (told bs m f) 2 (set (set out 0 m) 1 f.support)
  written_start [] h = absurd (omega arith)
  written_start (a ∷ []) h = absurd (omega arith)
  written_start (a ∷ b ∷ out) h = record { size = h; front = ap (take 2) (sym told_is) }

  written_next :
      (i : ℕ) (out : List ℕ) (b : ℕ) → i < entry_size → BytesWritten (told bs m f) i out → b ≡ get_or (told bs m f) i 0
      → BytesWritten (told bs m f) (i + 1) (set out i b)
  written_next i out b h w e =
      record {
        size = length-set out i b ∙ w.size;
        front =
            rw (
              add-one,
              take-suc-set out i b (omega (arith, w.size)),
              take-suc (told bs m f) i 0 (omega (arith, told_size)),
              w.front,
              e,
            ) refl;
      }

  -- the example is its last byte
  pub written_end : (out : List ℕ) → BytesWritten (told bs m f) example_at out → set out example_at f.example ≡ told bs m f
  written_end out w =
      let t = written_next example_at out f.example (omega arith) w (sym told_last) in
      sym (take_all entry_size (set out example_at f.example) (omega (arith, t.size))) ∙ t.front
      ∙ take_all entry_size (told bs m f) (omega (arith, told_size))

-- BYTE BY BYTE, whatever the figures
pub writes_none : (bs : List ℕ) (m i : ℕ) (out : List ℕ) → WritesOn bs m i i out out
writes_none bs m i out = record { on = λ f w. w }

module _ (bs : List ℕ) (m : ℕ) (room : length bs ≡ 100) (few : m ≤ 8) (from i : ℕ) (low : 2 ≤ i) (high : i < example_at) (before out : List ℕ)
    (w : WritesOn bs m from i before out) where
  writes_byte : (b : ℕ) → b ≡ byte_or_zero bs (5 * m) (i - 2) → WritesOn bs m from (i + 1) before (set out i b)
  writes_byte b e =
      record { on = λ f v. written_next bs m f room few i out b (omega arith) (w.on f v) (e ∙ sym (told_at bs m f room few i low high)) }

  pub writes_record : i < 2 + 5 * m → (b : ℕ) → b ≡ get_or bs (i - 2) 0 → WritesOn bs m from (i + 1) before (set out i b)
  writes_record h b e = writes_byte b (e ∙ byte_within bs (5 * m) (i - 2) (omega arith))

  pub writes_zero : 2 + 5 * m ≤ i → WritesOn bs m from (i + 1) before (set out i 0)
  writes_zero h = writes_byte 0 (byte_past bs (5 * m) (i - 2) (omega arith))

-- ALL ENTRIES
-- an entry of at most 8 records has its bytes
pub entry_bytes_length : (e : Entry) → length e.code ≤ 8 → length (entry_bytes e) ≡ entry_size
unfolding entry_bytes
entry_bytes_length e h =
    omega (
      arith,
      length-append (rec_bytes e.code ++ replicate (40 - 5 * length e.code) 0) (e.figures.example ∷ []),
      length-append (rec_bytes e.code) (replicate (40 - 5 * length e.code) 0),
      rec_bytes_length e.code,
      length-replicate {A = ℕ} (40 - 5 * length e.code) 0,
    )

-- READ BACK: its number of cables, its figures and its records
pub entry_cables : (e : Entry) → get_or (entry_bytes e) 0 0 ≡ length e.code
unfolding entry_bytes
entry_cables e = refl

pub entry_figures : (e : Entry) → length e.code ≤ 8 → figures (get_or (entry_bytes e) 1 0) (get_or (entry_bytes e) example_at 0) ≡ e.figures
unfolding entry_bytes
entry_figures e h =
    let size : example_at ≡ length front + 0 = omega (arith, length-append front last, entry_bytes_length e h) in
    ap (figures e.figures.support) (ap (λ (k : ℕ). get_or (front ++ last) k 0) size ∙ get_or-append-add front last 0 0)
  where
    front : List ℕ
    front = (length e.code ∷ e.figures.support ∷ []) ++ rec_bytes e.code ++ replicate (40 - 5 * length e.code) 0

    last : List ℕ
    last = e.figures.example ∷ []

pub entry_records : (e : Entry) → recs_in (get_or (entry_bytes e) 0 0) (drop 2 (entry_bytes e)) ≡ e.code
unfolding entry_bytes
entry_records e =
    ap (recs_in (length e.code)) (append_assoc (rec_bytes e.code) zeros (e.figures.example ∷ []))
    ∙ recs_in_bytes e.code (zeros ++ (e.figures.example ∷ []))
  where
    zeros : List ℕ
    zeros = replicate (40 - 5 * length e.code) 0

pub entries_sized : (es : List Entry) → ((e : Entry) → Mem e es → length e.code ≤ 8) → Sized entry_size (map entry_bytes es)
unfolding Sized
entries_sized [] h = tt
entries_sized (e ∷ es) h = (entry_bytes_length e (h e (Mem.here refl)), entries_sized es (λ f m. h f (Mem.there m)))

-- so all of them together have theirs
pub all_bytes_length : (es : List Entry) → ((e : Entry) → Mem e es → length e.code ≤ 8) → length (all_bytes es) ≡ entry_size * length es
unfolding all_bytes
all_bytes_length es h =
    concat_length entry_size (map entry_bytes es) (entries_sized es h) ∙ ap (λ (k : ℕ). entry_size * k) (length-map es entry_bytes)

pub all_bytes_append : (es gs : List Entry) → all_bytes (es ++ gs) ≡ all_bytes es ++ all_bytes gs
unfolding all_bytes concat
all_bytes_append [] gs = refl
all_bytes_append (e ∷ es) gs =
    ap (λ (l : List ℕ). entry_bytes e ++ l) (all_bytes_append es gs) ∙ sym (append_assoc (entry_bytes e) (all_bytes es) (all_bytes gs))

-- ONE ENTRY MORE behind those that are there
pub entry_behind :
    (es : List Entry) (e : Entry) (output rest : List ℕ) → ((f : Entry) → Mem f es → length f.code ≤ 8)
    → output ≡ all_bytes es ++ rest → put_record entry_size (length es) (entry_bytes e) output ≡ all_bytes (snoc es e) ++ drop entry_size rest
unfolding all_bytes
entry_behind es e output rest h is =
    ap (put_record entry_size (length es) (entry_bytes e)) is
    ∙ ap (λ (n : ℕ). put_record entry_size n (entry_bytes e) (concat (map entry_bytes es) ++ rest)) (sym (length-map es entry_bytes))
    ∙ put_behind entry_size (map entry_bytes es) (entry_bytes e) rest (entries_sized es h)
    ∙ ap (λ (rs : List (List ℕ)). concat rs ++ drop entry_size rest) (sym (map_append entry_bytes es (e ∷ [])))
