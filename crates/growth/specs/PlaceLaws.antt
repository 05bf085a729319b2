-- Places rise as records do: a record that may come next after at most 7 others has a place below 16 times the number of
-- labels, is read off its place again, and comes before those with higher places. Rests on Places and RecordOrder.
-- Assumes nothing.
use Rattle.std.specs.Prelude.{◌≡◌, refl, true, List, ◌⊎◌, ℕ, suc, ◌+◌, ◌*◌, ◌-◌, ◌/◌, ◌%◌, ◌≤◌, ◌<◌, length, get_or}
use Rattle.std.proofs.Common.{sym, ap, ◌∙◌, inl, inr, suc-mul, mul-le-mul_right, mod-eq_of_lt, arith, lt-ltb, le-ltb}
use Rattle.std.proofs.Math.Nat.{mul-add-div_right, mul-add-mod_self_right, div-eq_of_lt}
use Rattle.std.proofs.Math.Decide.{dec_lt}
use Rattle.codes.specs.Code.{Rec, Reading, forward, end, kinds_before, rec_before_by}
use Rattle.codes.specs.CodeOrder.{rec_eq, backward_before_forward}
use Rattle.codes.specs.BranchState.{label_of}
use Rattle.growth.specs.Places.{row_of, place_of, record_in_row, record_at}
use Rattle.growth.specs.RecordOrder.{
  lower_backward_first,
  deeper_forward_first,
  same_backward_first,
  same_forward_first,
  smaller_label_first,
}

-- NUMBERS a * n + r with r below n
module _ (n a r : ℕ) (low : r < n) where
  pub place_row : (a * n + r) / n ≡ a
  place_row = mul-add-div_right {m = n} (omega arith) a r ∙ ap (λ (z : ℕ). a + z) (div-eq_of_lt low) ∙ omega arith

  pub place_rank : (a * n + r) % n ≡ r
  place_rank = mul-add-mod_self_right a n r ∙ mod-eq_of_lt low

  pub place_split : (b s : ℕ) → s < n → a * n + r < b * n + s → (a < b) ⊎ ((a ≡ b) × (r < s))
  place_split b s h l = go (dec_lt a b) (dec_lt b a)
    where
      go : Dec (a < b) → Dec (b < a) → (a < b) ⊎ ((a ≡ b) × (r < s))
      go (yes p) q = inl p
      go (no p) (yes q) = absurd (omega (arith, mul-le-mul_right {m = suc b} {n = a} n q, suc-mul b n))
      go (no p) (no q) = let z : a ≡ b = omega arith in inr (z, less z)
        where
          less : a ≡ b → r < s
          less z = omega (arith, ap (λ (k : ℕ). k * n) z)

-- the number of a record's label
abbrev pub rank_of : (rank : List ℕ) → Rec → ℕ
rank_of rank e = get_or rank (label_of e.c e.kj) 0

-- WHAT A PLACE RESTS ON: a record after the reading x, to or from one of at most 8 devices, with a numbered label
pub data Position (x : Reading) (e : Rec) : Type 0 where
  backward_at : e.i ≡ end x.path → e.j < e.i → e.i ≤ 7 → Position x e
  forward_at : e.i < e.j → e.j ≡ length x.kinds → e.i ≤ 7 → Position x e

pub record Placed (x : Reading) (rank labels : List ℕ) (n : ℕ) (e : Rec) : Type 0 where
  pub position : Position x e
  pub kind_is : get_or x.kinds e.i 256 ≡ e.ki
  pub byte : e.kj < 256
  pub ranked : rank_of rank e < n
  pub label_is : get_or labels (rank_of rank e) 0 ≡ label_of e.c e.kj

pub row_backward : (e : Rec) → e.j < e.i → row_of e ≡ e.j
unfolding forward
row_backward e h = rw (le-ltb e.i e.j (omega arith))

pub row_forward : (e : Rec) → e.i < e.j → row_of e ≡ 15 - e.i
unfolding forward
row_forward e h = rw (lt-ltb e.i e.j h)

pub row_below : {x : Reading} {e : Rec} → Position x e → row_of e ≤ 15
row_below {x} {e} (backward_at i d h) = rw (row_backward e d) (omega arith)
row_below {x} {e} (forward_at d j h) = rw (row_forward e d) (omega arith)

module _ {x : Reading} {rank labels : List ℕ} {n : ℕ} where
  -- IT IS BELOW 16 rows
  pub place_below : {e : Rec} → Placed x rank labels n e → place_of rank n e < 16 * n
  place_below {e} p = omega (arith, p.ranked, mul-le-mul_right {m = row_of e} {n = 15} n (row_below p.position))

  -- THE RECORD IS READ OFF
  row_record : {e : Rec} → Placed x rank labels n e → record_in_row x (row_of e) (label_of e.c e.kj) ≡ e
  row_record {e} p = go p.position
    where
      go : Position x e → record_in_row x (row_of e) (label_of e.c e.kj) ≡ e
      go (backward_at i d h) =
          rw (row_backward e d, lt-ltb e.j 8 (omega arith))
          (rec_eq _ e (sym i) refl (ap (λ (k : ℕ). get_or x.kinds k 256) (sym i) ∙ p.kind_is) (omega (arith, p.byte)) (omega (arith, p.byte)))
      go (forward_at d j h) =
          let z : 15 - (15 - e.i) ≡ e.i = omega arith in
          rw (row_forward e d, le-ltb (15 - e.i) 8 (omega arith), z)
          (rec_eq _ e refl (sym j) p.kind_is (omega (arith, p.byte)) (omega (arith, p.byte)))

  pub place_record : {e : Rec} → Placed x rank labels n e → record_at x labels n (place_of rank n e) ≡ e
  place_record {e} p =
      rw (place_row n (row_of e) (rank_of rank e) p.ranked, place_rank n (row_of e) (rank_of rank e) p.ranked, p.label_is) (row_record p)

  -- SO DIFFERENT RECORDS have different places
  pub place_same : {e g : Rec} → Placed x rank labels n e → Placed x rank labels n g → place_of rank n e ≡ place_of rank n g → e ≡ g
  place_same p q h = sym (place_record p) ∙ ap (record_at x labels n) h ∙ place_record q

  -- AND PLACES RISE AS RECORDS DO, if labels rise with their numbers
  module _ (rising : (a b : ℕ) → a < b → b < n → get_or labels a 0 < get_or labels b 0) where
    pub rank_first :
        {e g : Rec} → Placed x rank labels n e → Placed x rank labels n g → e.ki ≡ g.ki → rank_of rank e < rank_of rank g
        → kinds_before e g ≡ true
    rank_first {e} {g} p q k h = smaller_label_first e g k p.byte q.byte (rw (p.label_is, q.label_is) at (rising _ _ h q.ranked))

    pub place_order :
        {e g : Rec} → Placed x rank labels n e → Placed x rank labels n g → place_of rank n e < place_of rank n g
        → rec_before_by kinds_before e g ≡ true
    place_order {e} {g} p q h =
        go p.position q.position (place_split n (row_of e) (rank_of rank e) p.ranked (row_of g) (rank_of rank g) q.ranked h)
      where
        labels_first : e.i ≡ g.i → rank_of rank e < rank_of rank g → kinds_before e g ≡ true
        labels_first i l = rank_first p q (sym p.kind_is ∙ ap (λ (k : ℕ). get_or x.kinds k 256) i ∙ q.kind_is) l

        go :
            Position x e → Position x g → (row_of e < row_of g) ⊎ ((row_of e ≡ row_of g) × (rank_of rank e < rank_of rank g))
            → rec_before_by kinds_before e g ≡ true
        go (backward_at i d a) (backward_at j f b) (inl l) =
            lower_backward_first kinds_before e g d f (omega (arith, row_backward e d, row_backward g f))
        go (backward_at i d a) (backward_at j f b) (inr (z, l)) =
            same_backward_first kinds_before e g d (i ∙ sym j) (omega (arith, row_backward e d, row_backward g f)) (labels_first (i ∙ sym j) l)
        go (backward_at i d a) (forward_at f j b) l = backward_before_forward kinds_before e g d f
        go (forward_at d i a) (backward_at j f b) (inl l) = absurd (omega (arith, row_forward e d, row_backward g f))
        go (forward_at d i a) (backward_at j f b) (inr (z, l)) = absurd (omega (arith, row_forward e d, row_backward g f))
        go (forward_at d i a) (forward_at f j b) (inl l) =
            deeper_forward_first kinds_before e g d f (omega (arith, row_forward e d, row_forward g f))
        go (forward_at d i a) (forward_at f j b) (inr (z, l)) =
            let y : e.i ≡ g.i = omega (arith, row_forward e d, row_forward g f) in
            same_forward_first kinds_before e g d y (i ∙ sym j) (labels_first y l)
