-- Looking for the next candidate of a code that is worth growing: what it asks, and what it finds. Assumes nothing: these are definitions.
use Rattle.std.specs.Prelude.{◌≡◌, true, List, [], ℕ, ◌/◌, ◌%◌, ◌^◌, ◌≤◌, ◌<◌, length, get_or, Option, Some, None}
use Rattle.laws.specs.Lists.{snoc}
use Rattle.graphs.specs.Drawing.{is_pattern}
use Rattle.codes.specs.Code.{Rec, fresh, recs_in, rows_refusal, decoded, kinds_before, Least}
use Rattle.codes.specs.Greedy.{Greedy}
use Rattle.codes.specs.OwnNumbering.{WellGrown}
use Rattle.growth.specs.Places.{record_at}
use Rattle.growth.specs.Sizes.{candidates_size}
use Rattle.extending.specs.HeldCode.{basis, CanRead, CodeHeld, Appended}
use Rattle.looking.specs.declared.ahead.Hopeful.{Hopeful}

-- THE CODE UNDER WORK, in place, which takes the least record at each step
pub record CodeAtWork (code kinds : List ℕ) (m devices : ℕ) : Type 0 where
  pub room : m < 20
  pub held : CodeHeld code kinds m devices
  pub greedy : Greedy kinds_before (decoded (recs_in m code)) [] (recs_in m code)

-- the record at a place may come next: the code with it is accepted, and describes a pattern
pub record MayCome (γ : List Rec) (kind : ℕ) (rank alphabet : List ℕ) (n place : ℕ) : Type 0 where
  pub can_read : CanRead γ kind rank alphabet n place
  pub accepted : rows_refusal fresh (snoc γ (record_at (basis kind γ) alphabet n place)) ≡ 0
  pub drawn : is_pattern (decoded (snoc γ (record_at (basis kind γ) alphabet n place))) ≡ true

pub record CanLengthen (code kinds : List ℕ) (m devices kind : ℕ) (alphabet : List ℕ) (n place : ℕ) : Type 0 where
  pub work : CodeAtWork code kinds m devices
  pub rank : List ℕ
  pub next : MayCome (recs_in m code) kind rank alphabet n place

-- a code is not the least
abbrev pub Hopeless : List Rec → Type 0
Hopeless γ = Least (decoded γ) γ → ⊥

-- THE CODE GROWN by a record overlooks none that would have come before
pub record GrownBy (code kinds : List ℕ) (m devices : ℕ) (e : Rec) (code_now kinds_now : List ℕ) (wider : ℕ) : Type 0 where
  pub appended : Appended code kinds m devices e code_now kinds_now wider
  pub well : WellGrown (snoc (recs_in m code) e)

-- by the record at a place, unless the code with it is not the least
pub record Lengthened (code kinds : List ℕ) (m devices kind : ℕ) (alphabet : List ℕ) (n place : ℕ) (code_now kinds_now : List ℕ)
    (grown : Option ℕ) : Type 0 where
  pub none : grown ≡ None → Hopeless (snoc (recs_in m code) (record_at (basis kind (recs_in m code)) alphabet n place))
      × (code_now ≡ code) × (kinds_now ≡ kinds)
  pub some : (wider : ℕ) → grown ≡ Some wider
      → GrownBy code kinds m devices (record_at (basis kind (recs_in m code)) alphabet n place) code_now kinds_now wider

-- a part of the list of candidates, each of which may come next
pub record CanLookOn (code kinds : List ℕ) (m devices kind : ℕ) (alphabet : List ℕ) (n : ℕ) (list : List ℕ) (from top : ℕ) : Type 0 where
  pub work : CodeAtWork code kinds m devices
  pub list_size : length list ≡ candidates_size
  pub low : from ≤ top
  pub high : top ≤ candidates_size
  pub rank : List ℕ
  pub next : (k : ℕ) → from ≤ k → k < top → MayCome (recs_in m code) kind rank alphabet n (get_or list k 0 / (2 ^ 40))

-- WHILE ONE IS LOOKED FOR: those below k were passed over, and the code is as it was
pub record PassedOver (code kinds : List ℕ) (m kind : ℕ) (alphabet : List ℕ) (n : ℕ) (list : List ℕ) (from top : ℕ)
    (code_now kinds_now : List ℕ) (k : ℕ) : Type 0 where
  pub low : from ≤ k
  pub high : k ≤ top
  pub passed : (i : ℕ) → from ≤ i → i < k
      → Hopeless (snoc (recs_in m code) (record_at (basis kind (recs_in m code)) alphabet n (get_or list i 0 / (2 ^ 40))))
  pub same_code : code_now ≡ code
  pub same_kinds : kinds_now ≡ kinds

-- THE CANDIDATE FOUND: those before it do not give least codes, and the code is grown by it
pub record FoundAhead (code kinds : List ℕ) (m devices kind : ℕ) (alphabet : List ℕ) (n : ℕ) (list : List ℕ) (from top : ℕ)
    (code_now kinds_now : List ℕ) (at cell wider : ℕ) : Type 0 where
  pub low : from ≤ at
  pub high : at < top
  pub passed : (k : ℕ) → from ≤ k → k < at
      → Hopeless (snoc (recs_in m code) (record_at (basis kind (recs_in m code)) alphabet n (get_or list k 0 / (2 ^ 40))))
  pub grown : GrownBy code kinds m devices (record_at (basis kind (recs_in m code)) alphabet n (get_or list at 0 / (2 ^ 40)))
      code_now kinds_now wider
  pub cell_is : cell ≡ get_or list at 0 % (2 ^ 40)

-- or none is left: all were passed over
pub record LookedOn (code kinds : List ℕ) (m devices kind : ℕ) (alphabet : List ℕ) (n : ℕ) (list : List ℕ) (from top : ℕ)
    (code_now kinds_now : List ℕ) (found : Option Hopeful) : Type 0 where
  pub none : found ≡ None → PassedOver code kinds m kind alphabet n list from top code_now kinds_now top
  pub some : (h : Hopeful) → found ≡ Some h
      → FoundAhead code kinds m devices kind alphabet n list from top code_now kinds_now h.at h.cell h.wider
