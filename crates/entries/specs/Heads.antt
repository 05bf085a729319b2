-- The entry of a code with given numbers, as bytes, and what is asked of them. Assumes nothing: these are definitions.
use Rattle.std.specs.Prelude.{◌≡◌, List, ℕ, ◌≤◌, length}
use Rattle.growth.specs.Catalogue.{Figures, figures}
use Rattle.growth.specs.Entries.{told}
use Rattle.records.specs.declared.entry.Entry.{Entry}

-- no more cables than an entry has records for, at most 32 cranes, and a drawing's number, or 32 where there is none
abbrev pub HeadFits : (code : List ℕ) → Entry → Type 0
HeadFits code h = (length code ≡ 100) × (h.cables ≤ 8) × (h.support ≤ 32) × (h.example ≤ 32)

abbrev pub head_figures : Entry → Figures
head_figures h = figures h.support h.example

-- THE BYTES of that entry
abbrev pub headed : (code : List ℕ) → Entry → List ℕ
headed code h = told code h.cables (head_figures h)
