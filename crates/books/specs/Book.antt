-- The book of all small patterns: every connected pattern up to some cables with kinds below some bounds, by its least code. Assumes nothing:
-- these are definitions.
use Rattle.std.specs.Prelude.{◌≡◌, Bool, ◌&&◌, not, cond, List, ℕ, ◌<◌, leb}
use Rattle.laws.specs.Lists.{Mem}
use Rattle.graphs.specs.Drawing.{Cable, Drawing}
use Rattle.codes.specs.Code.{kinds_before}
use Rattle.growth.specs.Catalogue.{Figures, figures, Entry, ListOf}

-- SMALL: every device's kind is below a, every cable's kind below b
pub record Small (a b : ℕ) (p : Drawing) : Type 0 where
  pub device_kinds : (k : ℕ) → Mem k p.kinds → k < a
  pub cable_kinds : (c : Cable) → Mem c p.cables → c.kind < b

-- no survey stands behind the book: support 0, and 0 as the example
abbrev pub unsupported : Drawing → Figures
unsupported p = figures 0 0

-- THE BOOK: codes rise; each entry is a small pattern's of at most l cables, with its least code and these figures; each such pattern has one
abbrev pub Book : (a b l : ℕ) (es : List Entry) → Type 0
Book a b l = ListOf kinds_before (Small a b) unsupported l

-- ITS SETTINGS: 16, a number of kinds is not 1 to 3; then 17, the size limit is not
unfoldable pub one_to_three : ℕ → Bool
one_to_three n = leb 1 n && leb n 3

unfoldable pub book_refusal : (a b l : ℕ) → ℕ
book_refusal a b l = cond (not (one_to_three a && one_to_three b)) 16 (cond (not (one_to_three l)) 17 0)

-- THE STATEMENT: for all numbers of kinds and every size limit there is just one book
unfoldable pub BookThere : Type 0
BookThere = (a b l : ℕ) → (es : List Entry) × Book a b l es × ((gs : List Entry) → Book a b l gs → gs ≡ es)
