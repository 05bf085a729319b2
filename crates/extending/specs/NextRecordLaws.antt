-- The record at a place, read off what the program holds. Rests on PlaceLaws and the rows of codes. Assumes nothing.
use Rattle.std.specs.Prelude.{◌≡◌, List, [], ◌∷◌, ℕ, ◌-◌, ◌/◌, ◌%◌, ◌≤◌, ◌<◌, length, get_or}
use Rattle.std.proofs.Common.{sym, ap, ◌∙◌, mod-lt, arith, length-take, get_or-take}
use Rattle.laws.specs.Lists.{get_d_default}
use Rattle.codes.specs.Code.{Rec, Reading, end, fresh, read_rows}
use Rattle.codes.specs.CodeOrder.{rec_eq}
use Rattle.codes.specs.BranchState.{label_of}
use Rattle.codes.specs.Reading.{Invariant}
use Rattle.codes.specs.ReadRows.{rows_invariant}
use Rattle.growth.specs.Places.{row_of, place_of, record_at}
use Rattle.growth.specs.PlaceLaws.{
  Position,
  backward_at,
  forward_at,
  Placed,
  rank_of,
  place_row,
  place_rank,
  row_backward,
  row_forward,
  row_below,
}
use Rattle.growth.specs.PlacedRecords.{alone}
use Rattle.growth.specs.Sizes.{alphabet_size}
use Rattle.extending.specs.HeldCode.{KindsHeld, basis, labelled, CanRead, CanReadOff, ReadOff}

-- devices that are held are at most ten
pub held_most : {γ : List Rec} {kinds : List ℕ} {n : ℕ} → length kinds ≡ 10 → KindsHeld γ kinds n → n ≤ 10
held_most {kinds = kinds} {n = n} wide h = omega (arith, h.count, ap length h.are, length-take n kinds)

none_held : {kinds : List ℕ} {n : ℕ} → KindsHeld [] kinds n → n ≡ 0
unfolding read_rows fresh
none_held h = h.count

-- A PLACED RECORD'S PLACE gives its row and its label
module _ {x : Reading} {rank labels : List ℕ} {n p : ℕ} {e : Rec} (w : Placed x rank labels n e) (at : place_of rank n e ≡ p) where
  place_row_is : p / n ≡ row_of e
  place_row_is = ap (λ (k : ℕ). k / n) (sym at) ∙ place_row n (row_of e) (rank_of rank e) w.ranked

  place_label_is : get_or labels (p % n) 0 ≡ label_of e.c e.kj
  place_label_is =
      ap (λ (k : ℕ). get_or labels k 0) (ap (λ (k : ℕ). k % n) (sym at) ∙ place_rank n (row_of e) (rank_of rank e) w.ranked) ∙ w.label_is

-- after no record it is (0, 1)
alone_ends : {k : ℕ} {e : Rec} → Position (alone k) e → (e.i ≡ 0) × (e.j ≡ 1)
unfolding end
alone_ends (backward_at i d h) = absurd (omega arith)
alone_ends (forward_at d j h) = (omega arith, j)

module _ {γ : List Rec} {kind : ℕ} {rank alphabet : List ℕ} {n place : ℕ} (p : CanRead γ kind rank alphabet n place) where
  abbrev next : Rec
  next = record_at (basis kind γ) alphabet n place

  abbrev label : ℕ
  label = get_or alphabet (place % n) 0

  row_is : place / n ≡ row_of next
  row_is = place_row_is p.placed p.place_is

  label_is : label ≡ label_of next.c next.kj
  label_is = place_label_is p.placed p.place_is

  -- ITS ROW AND ITS LABEL are in range
  pub row_most : place / n ≤ 15
  row_most = omega (arith, row_is, row_below p.placed.position)

  pub rank_below : place % n < alphabet_size
  rank_below = omega (arith, mod-lt place p.some, p.labels)

  pub label_some : 0 < get_or alphabet (place % n) 0
  label_some = omega (arith, label_is)

  pub label_most : get_or alphabet (place % n) 0 ≤ 65536
  label_most = omega (arith, label_is, p.placed.byte, p.byte)

  -- THE RECORD with such ends and such a kind
  labelled_next : (i j ki : ℕ) → i ≡ next.i → j ≡ next.j → ki ≡ next.ki → labelled i j ki label ≡ next
  labelled_next i j ki a b k =
      rec_eq (labelled i j ki label) next a b k (omega (arith, label_is, p.placed.byte)) (omega (arith, label_is, p.placed.byte))

-- the first
first_read :
    {kind : ℕ} {rank alphabet : List ℕ} {n place : ℕ} → CanRead [] kind rank alphabet n place
    → labelled 0 1 kind (get_or alphabet (place % n) 0) ≡ record_at (alone kind) alphabet n place
first_read {kind} p =
    let z = alone_ends p.placed.position in
    labelled_next p 0 1 kind (sym z.0) (sym z.1) (ap (λ (v : ℕ). get_or (alone kind).kinds v 256) (sym z.0) ∙ p.placed.kind_is)

-- one after it
module _ {r : Rec} {rs : List Rec} {kinds : List ℕ} {devices kind : ℕ} {rank alphabet : List ℕ} {n place : ℕ} (wide : length kinds ≡ 10)
    (held : KindsHeld (r ∷ rs) kinds devices) (p : CanRead (r ∷ rs) kind rank alphabet n place) where
  abbrev x : Reading
  x = read_rows fresh (r ∷ rs)

  abbrev after : Rec
  after = record_at x alphabet n place

  begun : Invariant (read_rows fresh (r ∷ rs))
  begun = rows_invariant r rs p.accepted

  kind_held : (v : ℕ) → v < devices → v ≡ after.i → get_or kinds v 0 ≡ after.ki
  kind_held v l is =
      get_d_default kinds v 0 256 (omega (arith, held_most wide held)) ∙ sym (get_or-take devices kinds v 256 l)
      ∙ ap (λ (ks : List ℕ). get_or ks v 256) held.are ∙ ap (λ (k : ℕ). get_or x.kinds k 256) is ∙ p.placed.kind_is

  -- backward, from the newest device
  backward_read :
      place / n < 8
      → labelled (devices - 1) (place / n) (get_or kinds (devices - 1) 0) (get_or alphabet (place % n) 0)
      ≡ record_at (read_rows fresh (r ∷ rs)) alphabet n place
  backward_read low = go p.placed.position
    where
      go : Position x after → labelled (devices - 1) (place / n) (get_or kinds (devices - 1) 0) (get_or alphabet (place % n) 0) ≡ after
      go (backward_at i d l) =
          let from : devices - 1 ≡ after.i = omega (arith, begun.top, held.count, i) in
          labelled_next p _ _ _ from (row_is p ∙ row_backward after d) (kind_held (devices - 1) (omega (arith, held.count, begun.two)) from)
      go (forward_at d j l) = absurd (omega (arith, row_is p, row_forward after d))

  -- forward, to a new device
  forward_read :
      8 ≤ place / n
      → labelled (15 - place / n) devices (get_or kinds (15 - place / n) 0) (get_or alphabet (place % n) 0)
      ≡ record_at (read_rows fresh (r ∷ rs)) alphabet n place
  forward_read high = go p.placed.position
    where
      go : Position x after → labelled (15 - place / n) devices (get_or kinds (15 - place / n) 0) (get_or alphabet (place % n) 0) ≡ after
      go (backward_at i d l) = absurd (omega (arith, row_is p, row_backward after d))
      go (forward_at d j l) =
          let from : 15 - place / n ≡ after.i = omega (arith, row_is p, row_forward after d) in
          labelled_next p _ _ _ from (held.count ∙ sym j) (kind_held (15 - place / n) (omega (arith, from, d, j, held.count)) from)

-- READ OFF the kinds and the number of devices that are lent
module _ {kinds : List ℕ} {devices kind : ℕ} {alphabet : List ℕ} {n place : ℕ} (wide : length kinds ≡ 10) (e : Rec) where
  pub off_first : devices ≡ 0 → e ≡ labelled 0 1 kind (get_or alphabet (place % n) 0) → ReadOff kinds devices kind alphabet n place e
  off_first none is = record { told = λ γ h rank p. is ∙ go γ h rank p }
    where
      go : (γ : List Rec) → KindsHeld γ kinds devices → (rank : List ℕ) → CanRead γ kind rank alphabet n place
          → labelled 0 1 kind (get_or alphabet (place % n) 0) ≡ record_at (basis kind γ) alphabet n place
      go [] h rank p = first_read p
      go (r ∷ rs) h rank p = absurd (omega (arith, none, h.count, (rows_invariant r rs p.accepted).two))

  module _ (some : devices ≡ 0 → ⊥) where
    pub off_backward :
        place / n < 8 → e ≡ labelled (devices - 1) (place / n) (get_or kinds (devices - 1) 0) (get_or alphabet (place % n) 0)
        → ReadOff kinds devices kind alphabet n place e
    off_backward low is = record { told = λ γ h rank p. is ∙ go γ h rank p }
      where
        go : (γ : List Rec) → KindsHeld γ kinds devices → (rank : List ℕ) → CanRead γ kind rank alphabet n place
            → labelled (devices - 1) (place / n) (get_or kinds (devices - 1) 0) (get_or alphabet (place % n) 0)
            ≡ record_at (basis kind γ) alphabet n place
        go [] h rank p = absurd (some (none_held h))
        go (r ∷ rs) h rank p = backward_read wide h p low

    pub off_forward :
        8 ≤ place / n → e ≡ labelled (15 - place / n) devices (get_or kinds (15 - place / n) 0) (get_or alphabet (place % n) 0)
        → ReadOff kinds devices kind alphabet n place e
    off_forward high is = record { told = λ γ h rank p. is ∙ go γ h rank p }
      where
        go : (γ : List Rec) → KindsHeld γ kinds devices → (rank : List ℕ) → CanRead γ kind rank alphabet n place
            → labelled (15 - place / n) devices (get_or kinds (15 - place / n) 0) (get_or alphabet (place % n) 0)
            ≡ record_at (basis kind γ) alphabet n place
        go [] h rank p = absurd (some (none_held h))
        go (r ∷ rs) h rank p = forward_read wide h p high

pub off_most : {kinds : List ℕ} {devices kind : ℕ} {alphabet : List ℕ} {n place : ℕ} → CanReadOff kinds devices kind alphabet n place → devices ≤ 10
off_most p = held_most p.wide p.held
