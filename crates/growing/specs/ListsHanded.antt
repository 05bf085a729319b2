-- Lists of embeddings handed from a pattern to its extensions: what growing and walking ask of them, and that they stay. Rests on
-- EmbeddingListLaws. Assumes nothing.
use Rattle.std.specs.Prelude.{◌≡◌, Bool, true, List, [], ◌∷◌, ℕ, ◌+◌, ◌-◌, ◌≤◌, ◌<◌, length, take}
use Rattle.std.proofs.Common.{sym, ap, ◌∙◌, subst, arith}
use Rattle.std.proofs.Math.Seq.{take-append_seam}
use Rattle.laws.specs.Lists.{snoc}
use Rattle.graphs.specs.Drawing.{Drawing}
use Rattle.codes.specs.Code.{Rec, recs_in}
use Rattle.growing.specs.declared.grow.Settings.{Settings}
use Rattle.walks.specs.LabelMarks.{drawings_of}
use Rattle.walks.specs.PreparedLaws.{drawings_counted, prepared_few}
use Rattle.walks.specs.EmbeddingLists.{level_top, ListsSized, LevelListed, ListsKept}
use Rattle.walks.specs.EmbeddingRows.{LevelMade}
use Rattle.walks.specs.EmbeddingListLaws.{level_listed_kept, lists_kept_then, lists_kept_again}
use Rattle.growing.specs.GrowthOutcomes.{SetUp}

-- BEFORE A CODE OF m RECORDS GROWS: where `listed` says so, the level of the code without its last record is whole
pub record ListsBelow (ds : List Drawing) (γ : List Rec) (m : ℕ) (listed : Bool) (kept ends : List ℕ) : Type 0 where
  pub sized : ListsSized kept ends
  pub below : listed ≡ true → 1 < m → LevelListed ds (take (m - 1) γ) (m - 1) kept ends

-- BEFORE ITS CANDIDATES ARE WALKED: where `listed` says so, its own level is
pub record ListsAt (ds : List Drawing) (γ : List Rec) (m : ℕ) (listed : Bool) (kept ends : List ℕ) : Type 0 where
  pub sized : ListsSized kept ends
  pub at : listed ≡ true → 0 < m → LevelListed ds γ m kept ends

-- what a level made leaves to its candidates
pub lists_made :
    {survey code kept ends kept_now ends_now : List ℕ} {m : ℕ} {r : Bool} → LevelMade survey code m kept ends kept_now ends_now r
    → ListsAt (drawings_of survey) (recs_in m code) m r kept_now ends_now
lists_made l = record { sized = l.stays.sized; at = λ e h. l.listed e }

-- and what is left of the levels below it after their walk
pub lists_walked :
    {survey code kept ends kept₁ ends₁ kept₂ ends₂ : List ℕ} {m : ℕ} {r : Bool} → 0 < m
    → LevelMade survey code m kept ends kept₁ ends₁ r → ListsKept (m + 1) kept₁ ends₁ kept₂ ends₂ → ListsKept m kept ends kept₂ ends₂
lists_walked {ends = ends} {ends₁ = ends₁} {m = m} some l w =
    let e : m ≡ m + 1 - 1 = omega arith in
    lists_kept_then some (omega arith) (subst (λ (k : ℕ). level_top ends (m - 1) ≤ level_top ends₁ k) e l.rises) l.stays w

-- the front of a list with one more
front : (xs : List Rec) (x : Rec) (m : ℕ) → length xs ≡ m → take m (snoc xs x) ≡ xs
front xs x m e = ap (λ (k : ℕ). take k (snoc xs x)) (sym e) ∙ take-append_seam xs (x ∷ [])

-- A CANDIDATE GROWS: its code is the one held with a record more
module _ {survey labels rank alphabet : List ℕ} {g : Settings} (u : SetUp survey labels rank alphabet g) {γ δ : List Rec} (e : Rec)
    (t : δ ≡ snoc γ e) {m : ℕ} (size : length γ ≡ m) {listed : Bool} {kept ends kept₁ ends₁ : List ℕ}
    (a : ListsAt (drawings_of survey) γ m listed kept ends) (k : ListsKept (m + 1) kept ends kept₁ ends₁) where
  pub lists_grow : ListsBelow (drawings_of survey) δ (m + 1) listed kept₁ ends₁
  lists_grow =
      record {
        sized = k.sized;
        below = λ l some.
            let less : m ≡ m + 1 - 1 = omega arith in
            subst (λ (i : ℕ). LevelListed (drawings_of survey) (take i δ) i kept₁ ends₁) less
            (subst (λ (β : List Rec). LevelListed (drawings_of survey) β m kept₁ ends₁) (sym shorter)
            (level_listed_kept a.sized k m (omega arith) (omega (arith, drawings_counted survey, prepared_few u.prepared)) under
            (a.at l (omega arith))));
      }
    where
      shorter : take m δ ≡ γ
      shorter = ap (take m) t ∙ front γ e m size

      under : level_top ends m ≤ level_top ends (m + 1 - 1)
      under =
          let z : m ≡ m + 1 - 1 = omega arith in
          subst (λ (i : ℕ). level_top ends m ≤ level_top ends i) z (omega arith)

  -- after it
  pub lists_after : {kept₂ ends₂ : List ℕ} → ListsKept (m + 1) kept₁ ends₁ kept₂ ends₂ → ListsKept (m + 1) kept ends kept₂ ends₂
  lists_after n = lists_kept_again (omega arith) k n
