-- The number of a list's answer tells its parts: no catalogue and no book has so many entries that their count reaches 2^32. Rests on what the
-- call says and on how many entries there can be. Assumes nothing.
use Rattle.std.specs.Prelude.{◌≡◌, Bool, true, false, List, ℕ, zero, suc, ◌*◌, ◌≤◌, ◌<◌, ltb, length, Result, Ok, Err}
use Rattle.std.proofs.Math.Path.{refl, ap}
use Rattle.std.proofs.Common.{◌∙◌, lit<}
use native.Mathlib.Omega.{arith}
use Rattle.std.proofs.Math.Dec.{lit≤}
use Rattle.graphs.specs.Drawing.{Drawing}
use Rattle.graphs.specs.Survey as surveys
use Rattle.graphs.specs.Survey.{survey_refusal}
use Rattle.codes.specs.Code.{kinds_before}
use Rattle.growth.specs.Sizes.{entry_size}
use Rattle.growth.specs.Catalogue.{Entry, ListOf, OftenIn, figures_of, Figures}
use Rattle.books.specs.Book.{Small, unsupported, book_refusal}
use Rattle.books.specs.BookSettings.{settings_fit}
use Rattle.books.specs.BookCount.{book_most}
use Rattle.records.specs.Catalogued.{catalogued_refusal, catalogued_count}
use Rattle.entries.specs.Written.{EntriesWritten, ListAs, ListSays}
use Rattle.answer_numbers.specs.Packed.{packed}
use Rattle.records.specs.Refusals.{number_small}
use Rattle.answer_numbers.specs.PackedLaws.{Tells, packed_tells}
use Rattle.holvreiz.specs.Returns.{CatalogueReturns, BookReturns}
use Rattle.demands.specs.Terms.{ListRefused, ListReturned, CatalogueReturned, BookReturned}
use Rattle.demands.specs.RefusedLaws.{list_turned_back}
use Rattle.growth.specs.SurveySizes.{catalogue_most}
use Rattle.records.specs.declared.refusal.Fault.{Fault}

-- WHAT IS COUNTED: no more than any list of the family has
module _ (f : surveys.Refusal) (Wanted : Drawing → Type 0) (figure : Drawing → Figures) (l most : ℕ)
    (bound : f.number ≡ 0 → (es : List Entry) → ListOf kinds_before Wanted figure l es → length es ≤ most) where
  counted_most : (r : Result ℕ Fault) (o z : List ℕ) → ListSays f Wanted figure l r o z → catalogued_count r ≤ most
  counted_most r o z says = go f.number refl says
    where
      written : (t : Bool) (es : List Entry) → length es ≤ most → EntriesWritten t es r o z → catalogued_count r ≤ most
      written true es h w = rw w.0 (omega arith)
      written false es h w = rw w.0 h

      none : (r : Result ℕ Fault) (n : ℕ) → f.number ≡ suc n → catalogued_refusal r ≡ f → catalogued_count r ≤ most
      none (Ok k) n e h = absurd (entries_not k n e h)
        where
          entries_not : (k n : ℕ) → f.number ≡ suc n → catalogued_refusal (Ok k) ≡ f → ⊥
          entries_not k n e h =
              let zero_number : (catalogued_refusal (Ok k)).number ≡ 0 = unfold surveys.refusal in refl in
              omega (arith, e, zero_number, ap (λ (x : surveys.Refusal). x.number) h)
      none (Err x) n e h = omega arith

      go : (n : ℕ) → f.number ≡ n → ListAs n f Wanted figure l r o z → catalogued_count r ≤ most
      go zero e (es, c, w) = written (ltb (length o) (entry_size * length es)) es (bound e es c) w
      go (suc n) e (g, w) = none r n e g

  -- THE NUMBER of an answer tells its parts, and with them what the call refuses
  module _ (low : most < 4294967296) (r : Result ℕ Fault) (x : ℕ)
      (is : x ≡ packed (catalogued_refusal r).number (catalogued_count r) (catalogued_refusal r).drawing) (o z : List ℕ)
      (says : ListSays f Wanted figure l r o z) where
    tells : Tells x (catalogued_refusal r).number (catalogued_count r) (catalogued_refusal r).drawing
    tells = rw is (packed_tells _ _ _ (omega (arith, refusal_small r)) (omega (arith, counted_most r o z says)))
      where
        refusal_small : (r : Result ℕ Fault) → (catalogued_refusal r).number ≤ 18
        refusal_small (Ok n) = unfold surveys.refusal in lit≤ tt
        refusal_small (Err f) = unfold surveys.refusal in number_small f.refusal

    pub c_list_refused : ListReturned f Wanted figure l x o z
    unfolding surveys.refusal
    c_list_refused =
        record {
          early = λ h.
              let e = told.early h in
              (t.refusal_in ∙ ap number_at e.0, t.drawing_in ∙ ap drawing_at e.0, t.count_in ∙ e.1, e.2);
          short = λ fine es k h.
              let e = told.short fine es k h in (
                t.refusal_in ∙ ap (λ (r : Result ℕ Fault). (catalogued_refusal r).number) e.0,
                t.drawing_in ∙ ap (λ (r : Result ℕ Fault). (catalogued_refusal r).drawing) e.0,
                t.count_in ∙ ap catalogued_count e.0,
                e.1,
              );
          enough = λ fine es k h.
              let e = told.enough fine es k h in (
                t.refusal_in ∙ ap (λ (r : Result ℕ Fault). (catalogued_refusal r).number) e.0,
                t.drawing_in ∙ ap (λ (r : Result ℕ Fault). (catalogued_refusal r).drawing) e.0,
                t.count_in ∙ ap catalogued_count e.0,
                e.1,
              );
        }
      where
        told : ListRefused f Wanted figure l r o z
        told = list_turned_back f Wanted figure l r o z says

        t : Tells x (catalogued_refusal r).number (catalogued_count r) (catalogued_refusal r).drawing
        t = tells

        number_at : surveys.Refusal → ℕ
        number_at g = g.number

        drawing_at : surveys.Refusal → ℕ
        drawing_at g = g.drawing

-- FROM C: 12, 13, 1, 14, then 2 to 8 with the drawing; then 15; or the number of entries, at most 8,446,368
pub c_catalogue_refused : (bs : List ℕ) (s l x : ℕ) (o z : List ℕ) → CatalogueReturns bs s l x o z → CatalogueReturned bs s l x o z
c_catalogue_refused bs s l x o z c =
    c_list_refused (survey_refusal bs s l) (OftenIn bs s) (figures_of bs) l 8446368 (λ e es k. catalogue_most bs s l es e k) (lit< tt)
    c.answer x c.number o z c.says

-- 16, 17; then 15; or the number of entries, far below 2^32
pub c_book_refused : (a b l x : ℕ) (o z : List ℕ) → BookReturns a b l x o z → BookReturned a b l x o z
unfolding surveys.refusal
c_book_refused a b l x o z c =
    c_list_refused (surveys.refusal (book_refusal a b l) 0) (Small a b) unsupported l 196975827
    (λ e es k. let s = settings_fit a b l e in book_most a b l s.0 s.1 s.2 es k) (lit< tt) c.answer x c.number o z c.says
