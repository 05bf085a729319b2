-- The search for the least code as the program makes it: what each step is handed and what it leaves. Assumes nothing:
-- these are definitions.
use Rattle.std.specs.Prelude.{◌≡◌, true, List, ◌∷◌, ◌++◌, ℕ, ◌+◌, ◌≤◌, ◌<◌, length, Option, Some}
use Rattle.laws.specs.Lists.{snoc}
use Rattle.graphs.specs.Drawing.{drawing_in, drawing_refusal}
use Rattle.graphs.specs.Graph.{Pattern}
use Rattle.codes.specs.Code.{Rec, fresh, recs_in, read_rows, kinds_before, rec_before}
use Rattle.codes.specs.CodeOrder.{kinds_order}
use Rattle.codes.specs.Tight.{Tight}
use Rattle.codes.specs.Searched.{Best, Searched, Ties, Chosen}
use Rattle.codes.specs.BranchState.{Labels, State, numbering, Represents}
use Rattle.std.specs.declared.cmp.Ordering.{Ordering}
use Rattle.std.specs.declared.cmp.Ordering.TheVariants.{Less, Equal, Greater}
use Rattle.branches.specs.declared.extension.Extension.{Extension}
use Rattle.branches.specs.declared.extension.Extension.TheVariants.{Edge}
use Rattle.branches.specs.Extensions.{ExtensionFound}
use Rattle.branches.specs.NextRecords.{found_record}
use Rattle.branches.specs.Ways.{Way, followed}

-- AN ACCEPTED DRAWING, the table of its labels, and the number of its cables
pub record Given (bs table : List ℕ) (m : ℕ) : Type 0 where
  pub accepted : drawing_refusal bs ≡ 0
  pub pattern : Pattern (drawing_in bs)
  pub labels : Labels (drawing_in bs) table
  pub cables : length (drawing_in bs).cables ≡ m

-- A SEARCH BELOW A BRANCH of the rows γ, with the best code so far
pub record SearchFrom (bs table : List ℕ) (m : ℕ) (γ : List Rec) (b : State) (best : List Rec) : Type 0 where
  pub given : Given bs table m
  pub few : length γ ≤ m
  pub represents : Represents (drawing_in bs) γ b
  pub tight : Tight (drawing_in bs) (read_rows fresh γ) (numbering b)
  pub so_far : Best kinds_before kinds_order (drawing_in bs) γ best

-- what it leaves
abbrev pub SearchDone : (bs : List ℕ) (γ : List Rec) (b : State) (best after : List Rec) → Type 0
SearchDone bs γ b = Searched kinds_before kinds_order (drawing_in bs) γ (numbering b)

-- HOW THE NEXT RECORD e STANDS AGAINST THE BEST behind the rows γ: there is nothing behind them, or some record first
pub data Against (γ best : List Rec) (e : Rec) : Ordering → Type 0 where
  nothing_there : best ≡ γ → Against γ best e Less
  comes_before : (c : Rec) (rest : List Rec) → best ≡ γ ++ c ∷ rest → rec_before e c ≡ true → Against γ best e Less
  is_there : (rest : List Rec) → best ≡ γ ++ e ∷ rest → Against γ best e Equal
  comes_after : (c : Rec) (rest : List Rec) → best ≡ γ ++ c ∷ rest → rec_before c e ≡ true → Against γ best e Greater

-- what the best is then: one that comes after is cut, and e is its last record
abbrev pub chosen_rows : Ordering → (γ : List Rec) (e : Rec) (best : List Rec) → List Rec
chosen_rows Less γ e best = snoc γ e
chosen_rows Equal γ e best = best
chosen_rows Greater γ e best = best

-- THE SEARCH GOES ON ANEW from the rows γ: no record of the best is behind them, or what is found comes before it
pub record AnewFrom (bs table : List ℕ) (m : ℕ) (γ : List Rec) (b : State) (best : List Rec) : Type 0 where
  pub from : SearchFrom bs table m γ b best
  pub more : length γ < m
  pub before : (e : Option Extension) → ExtensionFound table b e → Against γ best (found_record (drawing_in bs) b e) Less

-- whatever the best was
abbrev pub SomeAnewFrom : (bs table : List ℕ) (m : ℕ) (γ : List Rec) (b : State) → Type 0
SomeAnewFrom bs table m γ b = (best : List Rec) × AnewFrom bs table m γ b best

abbrev pub AnewDone : (bs table : List ℕ) (m : ℕ) (γ : List Rec) (b : State) (after : List Rec) → Type 0
AnewDone bs table m γ b after = (best : List Rec) → AnewFrom bs table m γ b best → SearchDone bs γ b best after

-- TIES: the numberings that the ways below n lead to
pub record LedBelow (table : List ℕ) (b : State) (e : Option Extension) (n : ℕ) (g : List ℕ) : Type 0 where
  pub w : ℕ
  pub below : w < n
  pub way : Way table b e w
  pub is : g ≡ numbering (followed b e w)

-- THE NEXT RECORD IS CHOSEN: it is record t of the best, which is now the first `held` records of `first`
pub record NextChosen (bs table : List ℕ) (m t : ℕ) (b : State) (best : List Rec) (e : Option Extension) (first : List ℕ) (held : ℕ) : Type 0 where
  pub from : SearchFrom bs table m (recs_in t first) b best
  pub more : t < m
  pub found : ExtensionFound table b e
  pub chosen :
      Chosen kinds_before kinds_order (drawing_in bs) (recs_in t first) (found_record (drawing_in bs) b e) best (recs_in held first)

-- a forward one, whatever the best was before
abbrev pub EdgesFrom : (bs table : List ℕ) (m t : ℕ) (b : State) (q l : ℕ) (first : List ℕ) (held : ℕ) → Type 0
EdgesFrom bs table m t b q l first held = (best : List Rec) × NextChosen bs table m t b best (Some (Edge q l)) first held

-- its ways below n are searched, and the best is now the first `kept` records of `now`
abbrev pub WaysDone : (bs table : List ℕ) (t : ℕ) (b : State) (e : Option Extension) (first : List ℕ) (held : ℕ) (now : List ℕ) (kept n : ℕ) → Type 0
WaysDone bs table t b e first held now kept n =
    Ties kinds_before kinds_order (drawing_in bs) (recs_in (t + 1) first) (recs_in held first) (recs_in kept now) (LedBelow table b e n)
