-- Families of patterns: the least codes of one, and what a family needs for its codes to grow record by record. Assumes nothing:
-- these are definitions.
use Rattle.std.specs.Prelude.{◌≡◌, Bool, true, List, ◌∷◌, ◌++◌, ◌⊎◌}
use Rattle.laws.specs.Lists.{Mem}
use Rattle.graphs.specs.Drawing.{Drawing, is_pattern}
use Rattle.graphs.specs.Map.{contains, Same}
use Rattle.graphs.specs.Embedding.{EndsInRange}
use Rattle.graphs.specs.Graph.{Pattern}
use Rattle.codes.specs.Code.{Rec, decoded, LeastBy}
use Rattle.growth.specs.Catalogue.{Figures, Entry, entry}

-- WHAT A LIST LISTS: the least code of a pattern that is wanted
pub record Listable (labels : Rec → Rec → Bool) (Wanted : Drawing → Type 0) (rs : List Rec) : Type 0 where
  pub drawn : is_pattern (decoded rs) ≡ true
  pub least : LeastBy labels (decoded rs) rs
  pub wanted : Wanted (decoded rs)

-- CLOSED: with a pattern all patterns are wanted that it contains
abbrev pub Closed : (Drawing → Type 0) → Type 0
Closed Wanted = (p q : Drawing) → Pattern p → Pattern q → contains p q ≡ true → Wanted q → Wanted p

-- figures of patterns up to a map that keeps kinds and cables
abbrev pub KeptByMaps : (Drawing → Figures) → Type 0
KeptByMaps figure = (p q : Drawing) → EndsInRange p → EndsInRange q → Same p q → figure p ≡ figure q

-- it can be decided what is wanted
abbrev pub Decidable : (Drawing → Type 0) → Type 0
Decidable Wanted = (p : Drawing) → Wanted p ⊎ (Wanted p → ⊥)

-- A FAMILY THAT CAN BE LISTED: closed and decided, and every next record of what is listed is among some
pub record Family (labels : Rec → Rec → Bool) (Wanted : Drawing → Type 0) : Type 0 where
  pub closed : Closed Wanted
  pub decided : Decidable Wanted
  pub next : List Rec → List Rec
  pub all : (γ : List Rec) (e : Rec) (rest : List Rec) → Listable labels Wanted (γ ++ e ∷ rest) → Mem e (next γ)

-- the entry of a code
abbrev pub entry_for : (Drawing → Figures) → List Rec → Entry
entry_for figure rs = entry (figure (decoded rs)) rs
