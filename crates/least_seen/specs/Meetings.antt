-- How a branch stands against the next row of an accepted code. Assumes nothing: these are definitions.
use Rattle.std.specs.Prelude.{◌≡◌, Bool, true, List, ◌∷◌, ◌++◌, ℕ}
use Rattle.graphs.specs.Drawing.{Drawing}
use Rattle.codes.specs.Code.{Rec, fresh, kinds_before, rec_before, rows_refusal, read_rows}
use Rattle.codes.specs.Extension.{Local}
use Rattle.codes.specs.Better.{SeesBefore}
use Rattle.codes.specs.BranchState.{label_of, State, numbering, ChordFound, EdgeFound, chord_of, edge_of}
use Rattle.branches.specs.Branches.{in_place}
use Rattle.least_seen.specs.declared.met.Met.{Met}
use Rattle.least_seen.specs.declared.met.Met.TheVariants.{Earlier, Back, Front, Later}
use Rattle.least_seen.specs.BetterLaws.{Sees}

-- THE ROW e comes next in an accepted code, behind the rows γ of a branch
pub record RowNext (d : Drawing) (t : List ℕ) (γ : List Rec) (b : State) (e : Rec) : Type 0 where
  pub sees : Sees d t γ b
  pub rest : List Rec
  pub accepted : rows_refusal fresh (γ ++ e ∷ rest) ≡ 0

-- WHAT IT MEETS: a record before it; itself, as the least that goes on; or only records after it
abbrev pub RowMet : (d : Drawing) (t : List ℕ) (γ : List Rec) (b : State) (e : Rec) → Met → Type 0
RowMet d t γ b e Earlier = SeesBefore kinds_before d (read_rows fresh γ) (numbering b) e
RowMet d t γ b e Back =
    (q : ℕ) × ChordFound t b q (label_of e.c e.kj) × (chord_of (read_rows fresh γ) b q (label_of e.c e.kj) ≡ e)
RowMet d t γ b e (Front q l) = EdgeFound t b q l × (edge_of (read_rows fresh γ) b q l ≡ e)
RowMet d t γ b e Later = (l : Rec) → Local d (read_rows fresh γ) (numbering b) l → rec_before e l ≡ true

-- of a branch in arrays, whatever it stands for
abbrev pub SomeRowNext : (t numbers : List ℕ) (used : List Bool) (path : List ℕ) (count low : ℕ) (e : Rec) → Type 0
SomeRowNext t numbers used path count low e =
    (d : Drawing) × (γ : List Rec) × (given : ℕ) × RowNext d t γ (in_place numbers used path count given low) e

abbrev pub RowTold : (t numbers : List ℕ) (used : List Bool) (path : List ℕ) (count low : ℕ) (e : Rec) → Met → Type 0
RowTold t numbers used path count low e r =
    (d : Drawing) (γ : List Rec) (given : ℕ) → RowNext d t γ (in_place numbers used path count given low) e
    → RowMet d t γ (in_place numbers used path count given low) e r
