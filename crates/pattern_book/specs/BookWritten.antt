-- Writing the book: the refusals of its settings, and what the walk over all first records has written. Rests on SmallGrowth and WrittenLaws.
-- Assumes nothing.
use Rattle.std.specs.Prelude.{◌≡◌, true, false, List, [], ℕ, ◌≤◌, ◌<◌, leb, length, replicate, Option, Some, None, Result, Ok, Err}
use Rattle.std.proofs.Common.{sym, ap, subst, arith}
use borrow.Author.Tests.{le-leb, lt-leb}
use Rattle.graphs.specs.Survey as surveys
use Rattle.codes.specs.Code.{Rec, fresh, rows_refusal, decoded, kinds_before}
use Rattle.codes.specs.CodeFronts.{no_records}
use Rattle.codes.specs.CodeOrder.{kinds_order}
use Rattle.codes.specs.ReadRows.{rows_nil}
use Rattle.growth.specs.Family.{Listable}
use Rattle.growth.specs.Growth.{Listed}
use Rattle.growth.specs.ListingLaws.{lists_none}
use Rattle.records.specs.declared.refusal.Refusal.TheVariants.{OutputLength, KindCount, BookLimit}
use Rattle.records.specs.declared.refusal.Fault.{Fault}
use Rattle.records.specs.Refusals.{lone_fault}
use Rattle.records.specs.Catalogued.{catalogued_refusal}
use Rattle.entries.specs.ListOutcomes.{Outcome}
use Rattle.entries.specs.Written.{ListWritten}
use Rattle.entries.specs.WrittenLaws.{outcome_as, list_written, list_too_long, says_refused, says_list}
use Rattle.books.specs.Book.{Small, unsupported, one_to_three, book_refusal}
use Rattle.books.specs.SmallRecords.{width}
use Rattle.books.specs.SmallFamily.{small_closed, small_none, unsupported_kept}
use Rattle.small_patterns.specs.declared.next.BookBounds.{BookBounds}
use Rattle.small_patterns.specs.SmallWalk.{Asked, SmallHeld, CanWalkSmall, SmallWalked}
use Rattle.small_patterns.specs.SmallGrowth.{small_all}
use Rattle.pattern_book.specs.BookSays.{BookSays}

-- A SETTING is tested from below, then from above
pub setting_low : (n : ℕ) → n < 1 → false ≡ one_to_three n
unfolding one_to_three
setting_low n h = rw (lt-leb 1 n h)

pub setting_rest : (n : ℕ) → 1 ≤ n → leb n 3 ≡ one_to_three n
unfolding one_to_three
setting_rest n h = rw (le-leb 1 n h)

-- THE WALK BEGINS without a record, with device 0
module _ {g : BookBounds} {code : List ℕ} (long : length code ≡ 100) where
  held : SmallHeld g code 0 1
  held =
      record {
        long = long;
        accepted = subst (λ (γ : List Rec). rows_refusal fresh γ ≡ 0) (sym (no_records code)) (rows_nil fresh);
        small = subst (λ (γ : List Rec). Asked g (decoded γ)) (sym (no_records code)) (small_none g.devices g.cables);
        wide = sym (ap width (no_records code));
      }

  pub book_walks : (some : 1 ≤ g.limit) (out : List ℕ) → CanWalkSmall g code 0 1 out 0
  book_walks some out = record { held = held; less = some; room = omega arith }

  -- AND HAS WRITTEN all that goes on from there
  module _ {out z now : List ℕ} {r : Option ℕ} (w : SmallWalked g code 0 1 out 0 r now z) where
    pub book_grown : Outcome false unsupported (Listed kinds_before kinds_order (Listable kinds_before (Asked g)) g.limit []) [] out z r
    book_grown =
        outcome_as false unsupported
        (λ more t. subst (λ (γ : List Rec). Listed kinds_before kinds_order (Listable kinds_before (Asked g)) g.limit γ more) (no_records code)
        (small_all held more t)) [] out z r (w.told [] out (lists_none unsupported out))

  -- THE BOOK, or 15
  pub book_written :
      {out z now : List ℕ} {k : ℕ} → SmallWalked g code 0 1 out 0 (Some k) now z → ListWritten (Asked g) unsupported g.limit out (Ok k) z
  book_written {out} {z} {now} {k} w =
      list_written (Asked g) unsupported g.limit (small_closed g.devices g.cables) unsupported_kept (omega (arith, g.limit_few)) out z k
      (book_grown w) w.size

  pub book_too_long :
      {out y now z : List ℕ} → SmallWalked g code 0 1 out 0 None now y → z ≡ replicate (length y) 0
      → ListWritten (Asked g) unsupported g.limit out (Err (lone_fault OutputLength)) z
  book_too_long {out} {y} {now} {z} w is =
      list_too_long (Asked g) unsupported g.limit (small_closed g.devices g.cables) unsupported_kept (omega (arith, g.limit_few)) out y z
      (book_grown w) w.size is

-- THE OUTCOME OF THE CALL
module _ (a b l : ℕ) (o z : List ℕ) where
  refusal_first : one_to_three a ≡ false → book_refusal a b l ≡ 16
  unfolding book_refusal
  refusal_first e = rw e

  refusal_second : one_to_three a ≡ true → one_to_three b ≡ false → book_refusal a b l ≡ 16
  unfolding book_refusal
  refusal_second e f = rw (e, f)

  turned_back : (r : Result ℕ Fault) → 0 < book_refusal a b l → catalogued_refusal r ≡ surveys.refusal (book_refusal a b l) 0 → z ≡ o
      → BookSays a b l r o z
  unfolding surveys.refusal
  turned_back r h e same = says_refused (surveys.refusal (book_refusal a b l) 0) (Small a b) unsupported l r o z h e same

  says_kinds : book_refusal a b l ≡ 16 → z ≡ o → BookSays a b l (Err (lone_fault KindCount)) o z
  says_kinds e = turned_back (Err (lone_fault KindCount)) (omega (arith, e)) (rw e)

  -- 16
  pub says_first : one_to_three a ≡ false → z ≡ o → BookSays a b l (Err (lone_fault KindCount)) o z
  says_first e = says_kinds (refusal_first e)

  pub says_second : one_to_three a ≡ true → one_to_three b ≡ false → z ≡ o → BookSays a b l (Err (lone_fault KindCount)) o z
  says_second e f = says_kinds (refusal_second e f)

  module _ (x : one_to_three a ≡ true) (y : one_to_three b ≡ true) where
    -- 17
    pub says_book_limit : one_to_three l ≡ false → z ≡ o → BookSays a b l (Err (lone_fault BookLimit)) o z
    unfolding book_refusal
    says_book_limit e =
        let f : book_refusal a b l ≡ 17 = rw (x, y, e) in
        turned_back (Err (lone_fault BookLimit)) (omega (arith, f)) (rw f)

    -- the book, or 15
    pub says_book : (r : Result ℕ Fault) → one_to_three l ≡ true → ListWritten (Small a b) unsupported l o r z → BookSays a b l r o z
    unfolding book_refusal surveys.refusal
    says_book r e w = says_list (surveys.refusal (book_refusal a b l) 0) (Small a b) unsupported l r o z (rw (x, y, e)) w
