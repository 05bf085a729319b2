-- The drawing at fault in the answer of a catalogue is one of the survey's; the book names none. Assumes nothing.
use Rattle.std.specs.Prelude.{◌≡◌, refl, Bool, true, Result, Ok, Err, ◌&&◌, not, cond, ℕ, zero, suc, ◌+◌, ◌*◌, ◌/◌, ◌%◌, ◌≤◌, ◌<◌, ltb, leb, eqb, length}
use Rattle.std.proofs.Math.Bool.{false}
use mathlib.Core.List.{List, [], ◌∷◌}
use Rattle.std.proofs.Common.{arith, leb-true, eqb-true}
use Rattle.std.proofs.Math.Dec.{lit<}
use Rattle.laws.specs.Tests.{and_split}
use Rattle.laws.specs.Rows.{rows_length}
use Rattle.graphs.specs.Drawing.{Drawing, drawing_refusal}
use Rattle.graphs.specs.Survey as surveys
use Rattle.graphs.specs.Survey.{records_in, drawings_refusal, length_refusal, bytes_refusal, survey_refusal}
use Rattle.growth.specs.Sizes.{entry_size}
use Rattle.growth.specs.Catalogue.{Entry, OftenIn, figures_of, Figures}
use Rattle.books.specs.Book.{Small, unsupported, book_refusal}
use Rattle.records.specs.declared.refusal.Fault.{Fault}
use Rattle.records.specs.Catalogued.{catalogued_refusal}
use Rattle.entries.specs.Written.{EntriesWritten, ListAs, ListSays}
use Rattle.records.specs.ListsChecked.{list_refusal}
use Rattle.mining.specs.CatalogueSays.{CatalogueSays}
use Rattle.mining.specs.CheckSays.{ToldBy, check_refusal, CheckAs, CheckSays}
use Rattle.pattern_book.specs.BookSays.{BookSays}

-- THE DRAWING AT FAULT, or 0 where none is
module _ (most : ℕ) (some : 0 < most) where
  either_drawing : (t : Bool) (a b : surveys.Refusal) → a.drawing < most → b.drawing < most → (cond t a b).drawing < most
  either_drawing true a b h g = h
  either_drawing false a b h g = g

  faulty_drawing : (d : ℕ) (rs : List (List ℕ)) → d + length rs ≤ most → (drawings_refusal d rs).drawing < most
  unfolding drawings_refusal surveys.refusal
  faulty_drawing d [] h = some
  faulty_drawing d (r ∷ rs) h =
      either_drawing (eqb (drawing_refusal r) 0) _ _ (faulty_drawing (suc d) rs (omega arith)) (omega arith)

-- a survey whose length is accepted has at most 32 drawings
most_drawings : (bs : List ℕ) → length_refusal bs ≡ 0 → length bs / 73 ≤ 32
unfolding length_refusal
most_drawings bs e = go (eqb (length bs % 73) 0) (leb 1 (length bs / 73) && leb (length bs / 73) 32) refl e
  where
    go :
        (a b : Bool) → (leb 1 (length bs / 73) && leb (length bs / 73) 32) ≡ b → cond {A = ℕ} (not a) 1 (cond (not b) 14 0) ≡ 0
        → length bs / 73 ≤ 32
    go true true p e = leb-true (length bs / 73) 32 (and_split (leb 1 (length bs / 73)) (leb (length bs / 73) 32) p).1
    go true false p e = absurd (omega arith)
    go false b p e = absurd (omega arith)

bytes_drawing : (bs : List ℕ) → (bytes_refusal bs).drawing < 32
unfolding bytes_refusal surveys.refusal records_in
bytes_drawing bs = go (eqb (length_refusal bs) 0) refl
  where
    go :
        (t : Bool) → eqb (length_refusal bs) 0 ≡ t
        → (cond {A = surveys.Refusal} t (drawings_refusal 0 (records_in bs)) (record { number = length_refusal bs; drawing = 0 })).drawing < 32
    go true e =
        unfold records_in in
        faulty_drawing 32 (lit< tt) 0 _
        (omega (arith, rows_length 73 (length bs / 73) bs, most_drawings bs (eqb-true (length_refusal bs) 0 e)))
    go false e = lit< tt

survey_drawing : (bs : List ℕ) (s l : ℕ) → (survey_refusal bs s l).drawing < 32
unfolding survey_refusal surveys.refusal
survey_drawing bs s l =
    either_drawing 32 (lit< tt) (not (leb 1 s && leb s 32)) _ _ (lit< tt)
    (either_drawing 32 (lit< tt) (not (leb 1 l && leb l 8)) _ _ (lit< tt) (bytes_drawing bs))

-- A LIST that is refused names the drawing of its refusal, and none with 15
pub list_drawing :
    (f : surveys.Refusal) (Wanted : Drawing → Type 0) (figure : Drawing → Figures) (l : ℕ) (r : Result ℕ Fault) (o z : List ℕ) → f.drawing < 32
    → ListSays f Wanted figure l r o z → (catalogued_refusal r).drawing < 32
list_drawing f Wanted figure l r o z low says = go f.number says
  where
    written : (t : Bool) (es : List Entry) → EntriesWritten t es r o z → (catalogued_refusal r).drawing < 32
    written true es w = unfold surveys.refusal in rw w.0 (lit< tt)
    written false es w = unfold surveys.refusal in rw w.0 (lit< tt)

    go : (n : ℕ) → ListAs n f Wanted figure l r o z → (catalogued_refusal r).drawing < 32
    go zero w = written (ltb (length o) (entry_size * length w.0)) w.0 w.2
    go (suc n) w = rw w.0 low

pub says_drawing : (bs : List ℕ) (s l : ℕ) (r : Result ℕ Fault) (o z : List ℕ) → CatalogueSays bs s l r o z → (catalogued_refusal r).drawing < 32
says_drawing bs s l r o z =
    list_drawing (survey_refusal bs s l) (OftenIn bs s) (figures_of bs) l r o z (survey_drawing bs s l)

pub book_drawing : (a b l : ℕ) (r : Result ℕ Fault) (o z : List ℕ) → BookSays a b l r o z → (catalogued_refusal r).drawing < 32
unfolding surveys.refusal
book_drawing a b l r o z = list_drawing (surveys.refusal (book_refusal a b l) 0) (Small a b) unsupported l r o z (lit< tt)

-- so is that in the answer of a list's check
refusal_drawing : (bs : List ℕ) (s l : ℕ) (list : List ℕ) → (check_refusal bs s l list).drawing < 32
unfolding check_refusal surveys.refusal
refusal_drawing bs s l list =
    either_drawing 32 (lit< tt) (eqb (survey_refusal bs s l).number 0) _ _ (lit< tt) (survey_drawing bs s l)

pub check_drawing : (bs : List ℕ) (s l : ℕ) (list : List ℕ) (r : Result Bool Fault) → CheckSays bs s l list r → (list_refusal r).drawing < 32
unfolding surveys.refusal
check_drawing bs s l list r says = go (check_refusal bs s l list).number says
  where
    told : (A : Type 0) (r : Result Bool Fault) → ToldBy r A → (list_refusal r).drawing < 32
    told A (Ok true) w = lit< tt
    told A (Ok false) w = lit< tt
    told A (Err f) w = absurd w

    go : (n : ℕ) → CheckAs n (check_refusal bs s l list) bs s l list r → (list_refusal r).drawing < 32
    go zero w = told _ r w.2
    go (suc n) w = rw w (refusal_drawing bs s l list)
