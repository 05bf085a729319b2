-- The starts of the search for the least code as the program makes them: what each is handed and what it leaves. Assumes nothing:
-- these are definitions.
use Rattle.std.specs.Prelude.{◌≡◌, true, List, [], ◌∷◌, ℕ, ◌<◌}
use Rattle.laws.specs.Lists.{snoc}
use Rattle.graphs.specs.Drawing.{Cable, Drawing, drawing_in}
use Rattle.graphs.specs.Cables.{Has}
use Rattle.codes.specs.Code.{Rec, kinds_before, rec_before}
use Rattle.codes.specs.CodeOrder.{kinds_order}
use Rattle.codes.specs.FirstRecord.{first_record}
use Rattle.codes.specs.Searched.{Best, Searched, Chosen}
use Rattle.codes.specs.Started.{Started}
use Rattle.records.specs.DrawingCables.{cable_at, cables_before}
use Rattle.least_below.specs.Searches.{Given}

-- A START: a cable one way round
pub record StartFrom (bs table : List ℕ) (m u w k : ℕ) (best : List Rec) : Type 0 where
  pub given : Given bs table m
  pub has : Has u w k (drawing_in bs).cables
  pub so_far : Best kinds_before kinds_order (drawing_in bs) [] best

-- it is passed over where the best begins with an earlier record; else all that begins so is searched
pub data StartDone (d : Drawing) (u w k : ℕ) (best after : List Rec) : Type 0 where
  passed :
      (c : Rec) (rest : List Rec) → best ≡ c ∷ rest → rec_before c (first_record d u w k) ≡ true → after ≡ best
      → StartDone d u w k best after
  searched :
      (first : List Rec) → Chosen kinds_before kinds_order d [] (first_record d u w k) best first
      → Searched kinds_before kinds_order d (first_record d u w k ∷ []) (u ∷ w ∷ []) first after → StartDone d u w k best after

-- SEVERAL STARTS: none yet, or what the starts so far establish of the best
pub data Starts (d : Drawing) (best : List Rec) (Seen : (u w k : ℕ) → Type 0) : Type 0 where
  no_start : best ≡ [] → ((u w k : ℕ) → Seen u w k → ⊥) → Starts d best Seen
  some_start : Started kinds_before kinds_order d best Seen → Starts d best Seen

-- a cable from either end
pub record CableFrom (bs table : List ℕ) (m c : ℕ) (best : List Rec) : Type 0 where
  pub given : Given bs table m
  pub below : c < m
  pub so_far : Best kinds_before kinds_order (drawing_in bs) [] best

-- some cables are seen, both ways round
abbrev pub SeenIn : (seen : List Cable) (u w k : ℕ) → Type 0
SeenIn seen u w k = Has u w k seen

-- and cable c too, whichever they are
abbrev pub OneCableMore : (bs : List ℕ) (c : ℕ) (best after : List Rec) → Type 0
OneCableMore bs c best after =
    (seen : List Cable) → Starts (drawing_in bs) best (SeenIn seen) → Starts (drawing_in bs) after (SeenIn (snoc seen (cable_at bs c)))

-- a first cable and those before c
abbrev pub FirstAndBefore : (bs : List ℕ) (first c : ℕ) → List Cable
FirstAndBefore bs first c = cable_at bs first ∷ cables_before c bs
