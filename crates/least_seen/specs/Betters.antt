-- What the least test decides, branch by branch. Assumes nothing: these are definitions.
use Rattle.std.specs.Prelude.{◌≡◌, true, List, [], ◌∷◌, ◌⊎◌, ℕ, ◌/◌, ◌≤◌, ◌<◌, length, take, drop, Option, Some, None}
use Rattle.laws.specs.Rows.{row}
use Rattle.laws.specs.FirstSeen.{FirstPlace}
use Rattle.graphs.specs.Drawing.{Drawing, kind}
use Rattle.graphs.specs.Cables.{Has}
use Rattle.codes.specs.Code.{Rec, rec_in, kinds_before, rec_before, decoded, code_refusal, code_records}
use Rattle.codes.specs.FirstRecord.{first_record}
use Rattle.codes.specs.Better.{Better}
use Rattle.codes.specs.BranchState.{Labels, State, numbering, Represents}
use Rattle.branches.specs.declared.extension.Extension.{Extension}
use Rattle.branches.specs.declared.extension.Extension.TheVariants.{Chord, Edge}
use Rattle.std.specs.declared.cmp.Ordering.{Ordering}
use Rattle.std.specs.declared.cmp.Ordering.TheVariants.{Greater}
use Rattle.code_records.specs.Records.{order_of}
use Rattle.branches.specs.Ways.{chord_with, edge_with}

-- HOW AN EXTENSION COMPARES with the record e: with e's kind of i, and after it where nothing goes on
abbrev pub step_order : State → Option Extension → Rec → Ordering
step_order b (Some (Chord q l)) e = order_of (chord_with b q l e.ki) e
step_order b (Some (Edge q l)) e = order_of (edge_with b q l e.ki) e
step_order b None e = Greater

-- an accepted code with the table of what it describes
pub record Tabled (t bs : List ℕ) : Type 0 where
  pub accepted : code_refusal bs ≡ 0
  pub labels : Labels (decoded (code_records bs)) t

-- a branch that has followed the first k records of the code
pub record Follows (t bs : List ℕ) (k : ℕ) (b : State) : Type 0 where
  pub tabled : Tabled t bs
  pub within : k ≤ length bs / 5
  pub branch : Represents (decoded (code_records bs)) (take k (code_records bs)) b

-- something before one of the code's next records is seen below it, of the first m records of the code
abbrev pub BetterBelow : List ℕ → (m k : ℕ) → State → Type 0
BetterBelow bs m k b = Better kinds_before (decoded (code_records bs)) (take k (code_records bs)) (drop k (take m (code_records bs))) (numbering b)

-- r is the first of these records before which something is seen, or m
abbrev pub FirstBetter : List ℕ → (m enough k : ℕ) → State → (r : ℕ) → Type 0
FirstBetter bs m enough k b r = FirstPlace (λ j. BetterBelow bs j k b) m enough r

-- STARTS: a cable seen from one end
pub record SeenCable (d : Drawing) (e : Rec) : Type 0 where
  pub has : Has e.i e.j e.c d.cables
  pub i_kind : kind d e.i ≡ e.ki
  pub j_kind : kind d e.j ≡ e.kj

-- the same seen from the other
abbrev pub reversed_record : Rec → Rec
reversed_record e = record { i = e.j; j = e.i; ki = e.kj; c = e.c; kj = e.ki }

-- a code that begins with the cable from u to w comes before rs
unfoldable pub StartBetter : Drawing → List Rec → (u w k : ℕ) → Type 0
StartBetter d [] u w k = ⊥
StartBetter d (r ∷ rs) u w k =
    (rec_before (first_record d u w k) r ≡ true) ⊎ ((first_record d u w k ≡ r) × Better kinds_before d (r ∷ []) rs (u ∷ w ∷ []))

-- of the first m records of the code bs itself
abbrev pub BeginsBetter : (bs : List ℕ) → (m u w k : ℕ) → Type 0
BeginsBetter bs m u w k = StartBetter (decoded (code_records bs)) (take m (code_records bs)) u w k

-- some cable, seen from one end, does
pub record SomeStart (rs : List Rec) (m : ℕ) : Type 0 where
  pub u : ℕ
  pub w : ℕ
  pub k : ℕ
  pub has : Has u w k (decoded rs).cables
  pub better : StartBetter (decoded rs) (take m rs) u w k

-- of the cables of the first n records none does, seen from either end
pub record Tried (bs : List ℕ) (m n : ℕ) : Type 0 where
  pub along : (j : ℕ) → j < n → (e : Rec) → e ≡ rec_in (row 5 j bs) → BeginsBetter bs m e.i e.j e.c → ⊥
  pub against : (j : ℕ) → j < n → (e : Rec) → e ≡ rec_in (row 5 j bs) → BeginsBetter bs m e.j e.i e.c → ⊥

-- the first record before which one start has another, and that of all starts
abbrev pub FirstStart : (bs : List ℕ) → (m enough u w k r : ℕ) → Type 0
FirstStart bs m enough u w k r = FirstPlace (λ j. BeginsBetter bs j u w k) m enough r

abbrev pub FirstOfStarts : (rs : List Rec) → (m enough r : ℕ) → Type 0
FirstOfStarts rs m enough r = FirstPlace (SomeStart rs) m enough r
