-- Walking the next records of a code: what each gives. Rests on ListedBy. Assumes nothing.
use Rattle.std.specs.Prelude.{◌≡◌, Bool, true, List, [], ◌∷◌, ◌++◌, ℕ, ◌≤◌, length}
use Rattle.std.proofs.Common.{sym, subst, append-nil}
use Rattle.laws.specs.Lists.{Mem, snoc}
use Rattle.graphs.specs.Drawing.{Drawing}
use Rattle.codes.specs.Code.{Rec, rec_before_by}
use Rattle.codes.specs.CodeOrder.{LabelOrder}
use Rattle.growth.specs.Growth.{Listed, ListedBy}
use Rattle.growth.specs.Family.{Listable, Closed}
use Rattle.growth.specs.FamilyLaws.{listable_prefix}
use Rattle.growth.specs.ListedBy.{listed_skip_last, listed_take_last}

module _ (labels : Rec → Rec → Bool) (o : LabelOrder labels) (Wanted : Drawing → Type 0) (l : ℕ) where
  -- WHAT A CODE GIVES: nothing, or itself and all that goes on from it
  pub data Gives (γ : List Rec) : List (List Rec) → Type 0 where
    passed : (Listable labels Wanted γ → ⊥) → Gives γ []
    taken : {cs : List (List Rec)} → Listable labels Wanted γ → length γ ≤ l → Listed labels o (Listable labels Wanted) l γ cs → Gives γ (γ ∷ cs)

  -- ONE RECORD MORE was walked
  pub listed_next :
      Closed Wanted → (γ es : List Rec) (e : Rec) (cs new : List (List Rec)) → ((x : Rec) → Mem x es → rec_before_by labels x e ≡ true)
      → ListedBy labels o (Listable labels Wanted) l γ es cs → Gives (snoc γ e) new
      → ListedBy labels o (Listable labels Wanted) l γ (snoc es e) (cs ++ new)
  listed_next closed γ es e cs new later t (passed bad) =
      subst (ListedBy labels o (Listable labels Wanted) l γ (snoc es e)) (sym (append-nil cs))
      (listed_skip_last labels o (Listable labels Wanted) l (listable_prefix labels o Wanted closed) γ es e cs later t bad)
  listed_next closed γ es e cs new later t (taken {cs = below} f n u) =
      listed_take_last labels o (Listable labels Wanted) l (listable_prefix labels o Wanted closed) γ es e cs later t below f n u
