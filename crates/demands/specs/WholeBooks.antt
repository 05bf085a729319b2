-- A book that is written to its end is whole: every small pattern has just one entry, and there is no other. That follows from what the call says,
-- and from nothing else. Rests on WholeLists. Assumes nothing.
use Rattle.std.specs.Prelude.{◌≡◌, List, ℕ, ◌≤◌, ◌<◌, Ok}
use Rattle.std.proofs.Common.{ap, arith}
use Rattle.graphs.specs.Drawing.{Drawing}
use Rattle.graphs.specs.Graph.{Section}
use Rattle.graphs.specs.Survey as surveys
use Rattle.growth.specs.Catalogue.{Figures, figures}
use Rattle.books.specs.Book.{Small, unsupported, book_refusal}
use Rattle.books.specs.BookSettings.{settings_fit}
use Rattle.books.specs.SmallFamily.{small_closed, unsupported_kept}
use Rattle.pattern_book.specs.BookSays.{BookSays}
use Rattle.demands.specs.Terms.{entry_in, EntryFor, WholeList, WholeBook}
use Rattle.demands.specs.WholeLists.{EntrySays, list_accepted, Finished, finished, whole_says, whole_there, whole_list}

-- where entries are answered, the settings are accepted
pub book_accepted : (a b l n : ℕ) (o z : List ℕ) → BookSays a b l (Ok n) o z → book_refusal a b l ≡ 0
unfolding surveys.refusal
book_accepted a b l n o z = list_accepted (Small a b) unsupported l (surveys.refusal (book_refusal a b l) 0) n o z

module _ (a b l n : ℕ) (o z : List ℕ) (high : l ≤ 8) (f : Finished (Small a b) unsupported l n o z) where
  list : WholeList n o z
  list = whole_list (Small a b) unsupported l (small_closed a b) unsupported_kept high f

  says : (p : Drawing) → Section p → (k : ℕ) → k < n → EntryFor p z k → EntrySays (Small a b) unsupported l (entry_in k z) p
  says = whole_says (Small a b) unsupported l (small_closed a b) unsupported_kept high f

  told : (k : ℕ) → k < n → (entry_in k z).figures ≡ figures 0 0
  told k h = let e = list.sound k h in (says e.0 e.1 k h e.2).figures_are

  demanded : WholeBook a b l n o z
  demanded =
      record {
        list = list;
        there = λ p i some h s. whole_there (Small a b) unsupported l (small_closed a b) unsupported_kept high f p i some h (λ w. s);
        small = λ p i k h c. let t = says p i k h c in (t.pattern.cables_low, t.size, t.wanted);
        support = λ k h. ap (λ (f : Figures). f.support) (told k h);
        example = λ k h. ap (λ (f : Figures). f.example) (told k h);
      }

-- ONE THEOREM: a book that the call says to have n entries is whole
pub whole_book : (a b l n : ℕ) (o z : List ℕ) → BookSays a b l (Ok n) o z → WholeBook a b l n o z
whole_book a b l n o z says =
    demanded a b l n o z (omega (arith, (settings_fit a b l (book_accepted a b l n o z says)).2))
    (finished (Small a b) unsupported l (surveys.refusal (book_refusal a b l) 0) n o z says)
