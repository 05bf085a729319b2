-- What the search for the least record that goes on finds, in terms of BranchState. Assumes nothing: these are definitions.
use Rattle.std.specs.Prelude.{◌≡◌, cond, List, ◌⊎◌, ℕ, ◌≤◌, ◌<◌, ltb, eqb, Option, Some, None}
use Rattle.codes.specs.BranchState.{
  State,
  OpenPlace,
  Free,
  chord_label,
  edge_label,
  ChordFound,
  NoChord,
  EdgeFound,
  NothingFound,
}
use Rattle.branches.specs.declared.extension.Extension.{Extension}
use Rattle.branches.specs.declared.extension.Extension.TheVariants.{Chord, Edge}

-- WHAT IS FOUND, case by case
abbrev pub ExtensionFound : List ℕ → State → Option Extension → Type 0
ExtensionFound t b (Some (Chord q l)) = ChordFound t b q l
ExtensionFound t b (Some (Edge q l)) = EdgeFound t b q l
ExtensionFound t b None = NothingFound t b

-- the first chord, to a place and with a label, or none
abbrev pub FirstChord : List ℕ → State → Option (ℕ × ℕ) → Type 0
FirstChord t b (Some z) = ChordFound t b z.0 z.1
FirstChord t b None = NoChord t b

-- the label of the chord to place q, 0 where the place is not open
pub record ChordSeen (t : List ℕ) (b : State) (q l : ℕ) : Type 0 where
  pub label : OpenPlace b q → chord_label t b q ≡ l
  pub place : 0 < l → OpenPlace b q

-- the lesser of two labels, of which 0 is none
unfoldable pub lesser_label : ℕ → ℕ → ℕ
lesser_label a b = cond (eqb a 0) b (cond (eqb b 0) a (cond (ltb b a) b a))

-- a free device at the other end of an edge from place q
pub record EdgeTo (t : List ℕ) (b : State) (q l : ℕ) : Type 0 where
  pub device : ℕ
  pub free : Free b device
  pub label : edge_label t b q device ≡ l

-- the least label of an edge from place q to a free device below n, or 0
pub record LeastEdge (t : List ℕ) (b : State) (q n l : ℕ) : Type 0 where
  pub from : 0 < l → EdgeTo t b q l
  pub least : (w : ℕ) → w < n → Free b w → (edge_label t b q w ≡ 0) ⊎ ((0 < l) × (l ≤ edge_label t b q w))
