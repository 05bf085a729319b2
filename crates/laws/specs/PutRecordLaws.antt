-- A record of any size put in its place: it is read back, the others are as they were, and behind whole records it is one
-- more. The catalogue's entries and the tables of 100 labels are instances. Assumes nothing.
use Rattle.std.specs.Prelude.{◌≡◌}
use Rattle.std.proofs.Math.Path.{sym, ap, ap₂}
use Rattle.std.proofs.Common.{◌∙◌, mul-suc, mul-le-mul_left, length-take-le}
use mathlib.Core.List.{List, [], ◌∷◌, ◌++◌, append_assoc, append-nil}
use Prim.Native.Nat.{ℕ, suc, ◌+◌, ◌*◌, ◌-◌, ◌≤◌, ◌<◌}
use native.Mathlib.Omega.{arith}
use Rattle.std.proofs.Math.Decide.{dec_lt}
use Rattle.std.proofs.Math.ListN.{length, take, drop, length-append, length-drop, take-append-drop}
use Rattle.std.proofs.Math.Seq.{take-append-le, drop-append-le, drop-drop, take_at, drop_at}
use Rattle.laws.specs.Lists.{snoc, concat}
use Rattle.laws.specs.Rows.{row, Sized, concat_length}
use Rattle.laws.specs.PutRecords.{put_record}

module _ {A : Type 0} where
  concat_snoc : (rs : List (List A)) (r : List A) → concat (snoc rs r) ≡ concat rs ++ r
  unfolding concat
  concat_snoc [] r = append-nil r
  concat_snoc (s ∷ rs) r = ap (λ (l : List A). s ++ l) (concat_snoc rs r) ∙ sym (append_assoc s (concat rs) r)

  -- BEHIND WHOLE RECORDS it is one more
  pub put_behind : (w : ℕ) (rs : List (List A)) (r rest : List A) → Sized w rs
      → put_record w (length rs) r (concat rs ++ rest) ≡ concat (snoc rs r) ++ drop w rest
  unfolding put_record
  put_behind w rs r rest s =
      let size = concat_length w rs s in
      ap₂ (λ (p q : List A). p ++ r ++ q) (take_at (concat rs) rest (w * length rs) size)
      (sym (drop-drop w (w * length rs) (concat rs ++ rest)) ∙ ap (drop w) (drop_at (concat rs) rest (w * length rs) size))
      ∙ ap (λ (l : List A). l ++ drop w rest) (sym (concat_snoc rs r))

  -- AS A PART that was lent and is back
  pub put_part : (w k : ℕ) (r xs : List A) → take (w * k) xs ++ (r ++ drop (w * k + w - w * k) (drop (w * k) xs)) ≡ put_record w k r xs
  unfolding put_record
  put_part w k r xs =
      let e : w * k + w - w * k ≡ w = omega arith in
      ap (λ (n : ℕ). take (w * k) xs ++ (r ++ drop n (drop (w * k) xs))) e
      ∙ ap (λ (l : List A). take (w * k) xs ++ (r ++ l)) (drop-drop w (w * k) xs)
      ∙ sym (append_assoc (take (w * k) xs) r (drop (w * k + w) xs))

  module _ (w k : ℕ) (r xs : List A) (size : length r ≡ w) (room : w * k + w ≤ length xs) where
    front_size : length (take (w * k) xs) ≡ w * k
    front_size = length-take-le (w * k) xs (omega arith)

    pub put_length : length (put_record w k r xs) ≡ length xs
    unfolding put_record
    put_length =
        omega (
          arith,
          front_size,
          length-append (take (w * k) xs ++ r) (drop (w * k + w) xs),
          length-append (take (w * k) xs) r,
          length-drop (w * k + w) xs,
        )

    -- READ BACK
    pub put_same : row w k (put_record w k r xs) ≡ r
    unfolding put_record row
    put_same =
        ap (take w)
        (ap (drop (w * k)) (append_assoc (take (w * k) xs) r (drop (w * k + w) xs))
        ∙ drop_at (take (w * k) xs) (r ++ drop (w * k + w) xs) (w * k) front_size)
        ∙ take_at r (drop (w * k + w) xs) w size

    -- THE OTHERS are as they were
    before : (j : ℕ) → w * j + w ≤ w * k → row w j (put_record w k r xs) ≡ row w j xs
    unfolding put_record row
    before j h =
        ap (take w)
        (ap (drop (w * j)) (append_assoc (take (w * k) xs) r (drop (w * k + w) xs))
        ∙ drop-append-le (w * j) (take (w * k) xs) (r ++ drop (w * k + w) xs) (omega (arith, front_size)))
        ∙ take-append-le w (drop (w * j) (take (w * k) xs)) (r ++ drop (w * k + w) xs) (rw length-drop (omega (arith, front_size)))
        ∙ sym
        (ap (λ (l : List A). take w (drop (w * j) l)) (sym (take-append-drop (w * k) xs))
        ∙ ap (take w) (drop-append-le (w * j) (take (w * k) xs) (drop (w * k) xs) (omega (arith, front_size)))
        ∙ take-append-le w (drop (w * j) (take (w * k) xs)) (drop (w * k) xs) (rw length-drop (omega (arith, front_size))))

    after : (j : ℕ) → w * k + w ≤ w * j → row w j (put_record w k r xs) ≡ row w j xs
    unfolding put_record row
    after j h =
        let n : ℕ = w * k + w in
        let head : length (take (w * k) xs ++ r) ≡ w * k + w = omega (arith, front_size, length-append (take (w * k) xs) r) in
        let e : w * k + w + (w * j - (w * k + w)) ≡ w * j = omega arith in
        ap (take w)
        (ap (λ (m : ℕ). drop m (take (w * k) xs ++ r ++ drop (w * k + w) xs)) (sym e)
        ∙ sym (drop-drop (w * j - (w * k + w)) (w * k + w) (take (w * k) xs ++ r ++ drop (w * k + w) xs))
        ∙ ap (drop (w * j - (w * k + w))) (drop_at (take (w * k) xs ++ r) (drop (w * k + w) xs) (w * k + w) head)
        ∙ drop-drop (w * j - (w * k + w)) (w * k + w) xs
        ∙ ap (λ (m : ℕ). drop m xs) e)

    pub put_other : (j : ℕ) → (j ≡ k → ⊥) → row w j (put_record w k r xs) ≡ row w j xs
    put_other j n = go (dec_lt j k)
      where
        go : Dec (j < k) → row w j (put_record w k r xs) ≡ row w j xs
        go (yes p) = before j (omega (arith, mul-suc w j, mul-le-mul_left {m = suc j} {n = k} w p))
        go (no p) = after j (omega (arith, mul-suc w k, mul-le-mul_left {m = suc k} {n = j} w (omega arith)))

    -- A RECORD THAT IS THERE ALREADY changes nothing
    pub put_there : row w k xs ≡ r → put_record w k r xs ≡ xs
    unfolding put_record row
    put_there e =
        append_assoc (take (w * k) xs) r (drop (w * k + w) xs)
        ∙ ap (λ (l : List A). take (w * k) xs ++ l)
        (ap₂ (λ (a b : List A). a ++ b) (sym e) (sym (drop-drop w (w * k) xs)) ∙ take-append-drop w (drop (w * k) xs))
        ∙ take-append-drop (w * k) xs

    -- and one that changes nothing is there
    pub there_put : put_record w k r xs ≡ xs → row w k xs ≡ r
    there_put e = ap (row w k) (sym e) ∙ put_same
