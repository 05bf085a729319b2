-- Records of any size: a list cut into records of w elements, read back, put together. The drawing's 73 bytes, the
-- entry's 43, the code record's 5 and the cable's 3 are instances. Assumes nothing.
use Rattle.std.specs.Prelude.{◌≡◌, length, get_or}
use Rattle.std.proofs.Math.Path.{refl, sym, ap, ap₂}
use Rattle.std.proofs.Common.{◌∙◌, not-suc-le-zero, le_of_suc-le-suc, div-add-mod', mul_comm, mul-suc, zero-add, suc-add, add_comm, add-one, length-take, drop-drop, take-add, length-take-le}
use mathlib.Core.List.{List, [], ◌∷◌, ◌++◌, append_assoc}
use Prim.Native.Nat.{ℕ, zero, suc, ◌+◌, ◌*◌, ◌-◌, ◌/◌, ◌%◌, ◌≤◌, ◌<◌}
use Rattle.std.proofs.Math.Nat.{mul-zero, eq_of_mul-eq-mul_left, sub-zero}
use native.Mathlib.Omega.{arith}
use Rattle.std.proofs.Math.ListN.{take, drop, length-append, length-drop}
use Rattle.std.proofs.lemmas.List.{take-append-le, drop-append-le}
use Rattle.std.proofs.Math.Seq.{get_or-take, get_or-drop, take_at, drop_at}
use Rattle.laws.specs.Lists.{snoc, concat}

module _ {A : Type 0} where
  -- the k-th record of w elements
  unfoldable pub row : (w k : ℕ) → List A → List A
  row w k xs = take w (drop (w * k) xs)

  -- the first n records of w elements
  unfoldable pub rows : (w n : ℕ) → List A → List (List A)
  rows w zero xs = []
  rows w (suc n) xs = take w xs ∷ rows w n (drop w xs)

  -- every record of a list has w elements
  unfoldable pub Sized : ℕ → List (List A) → Type 0
  Sized w [] = Unit {0}
  Sized w (r ∷ rs) = (length r ≡ w) × Sized w rs

  -- LENGTHS
  pub rows_length : (w n : ℕ) (xs : List A) → length (rows w n xs) ≡ n
  unfolding rows
  rows_length w zero xs = refl
  rows_length w (suc n) xs = ap suc (rows_length w n (drop w xs))

  pub row_length : (w k : ℕ) (xs : List A) → w * k + w ≤ length xs → length (row w k xs) ≡ w
  unfolding row
  row_length w k xs h = simp (length-take, length-drop) (omega arith)

  pub rows_sized : (w n : ℕ) (xs : List A) → w * n ≤ length xs → Sized w (rows w n xs)
  unfolding rows Sized
  rows_sized w zero xs h = tt
  rows_sized w (suc n) xs h = (length-take-le w xs (omega arith), rows_sized w n (drop w xs) (rw length-drop (omega arith)))

  pub concat_length : (w : ℕ) (rs : List (List A)) → Sized w rs → length (concat rs) ≡ w * length rs
  unfolding concat Sized
  concat_length w [] s = sym (mul-zero w)
  concat_length w (r ∷ rs) s = omega (arith, length-append r (concat rs), s.0, concat_length w rs s.1)

  -- ONE RECORD of several
  drop_row : (w k : ℕ) (xs : List A) → drop (w * k) (drop w xs) ≡ drop (w * suc k) xs
  drop_row w k xs = drop-drop (w * k) w xs ∙ ap (λ (n : ℕ). drop n xs) (add_comm w (w * k) ∙ sym (mul-suc w k))

  pub row_zero : (w : ℕ) (xs : List A) → row w 0 xs ≡ take w xs
  unfolding row
  row_zero w xs = rw mul-zero

  pub row_tail : (w k : ℕ) (xs : List A) → row w k (drop w xs) ≡ row w (suc k) xs
  unfolding row
  row_tail w k xs = ap (take w) (drop_row w k xs)

  pub rows_at : (w n k : ℕ) (xs : List A) → k < n → get_or (rows w n xs) k [] ≡ row w k xs
  unfolding rows
  rows_at w zero k xs h = absurd (not-suc-le-zero h)
  rows_at w (suc n) zero xs h = sym (row_zero w xs)
  rows_at w (suc n) (suc k) xs h = rows_at w n k (drop w xs) (le_of_suc-le-suc h) ∙ row_tail w k xs

  -- element i of record k
  pub row_at : (w k : ℕ) (xs : List A) (i : ℕ) (d : A) → i < w → get_or (row w k xs) i d ≡ get_or xs (w * k + i) d
  unfolding row
  row_at w k xs i d h = get_or-take w (drop (w * k) xs) i d h ∙ get_or-drop (w * k) xs i d

  -- the records from k on begin with record k
  pub rows_from : (w n k : ℕ) (xs : List A) → rows w (suc n) (drop (w * k) xs) ≡ row w k xs ∷ rows w n (drop (w * suc k) xs)
  unfolding rows row
  rows_from w n k xs = ap (λ (ys : List A). take w (drop (w * k) xs) ∷ rows w n ys)
      (drop-drop w (w * k) xs ∙ ap (λ (m : ℕ). drop m xs) (sym (mul-suc w k)))

  -- one record more
  pub rows_snoc : (w n : ℕ) (xs : List A) → rows w (suc n) xs ≡ snoc (rows w n xs) (row w n xs)
  unfolding rows
  rows_snoc w zero xs = ap (λ (r : List A). r ∷ []) (sym (row_zero w xs))
  rows_snoc w (suc n) xs = ap (λ (rs : List (List A)). take w xs ∷ rs)
      (rows_snoc w n (drop w xs) ∙ ap (snoc (rows w n (drop w xs))) (row_tail w n xs))

  -- n records and m more
  pub rows_take : (w k n : ℕ) (xs : List A) → k ≤ n → take k (rows w n xs) ≡ rows w k xs
  unfolding rows
  rows_take w zero n xs h = refl
  rows_take w (suc k) zero xs h = absurd (not-suc-le-zero h)
  rows_take w (suc k) (suc n) xs h = ap {B = List (List A)} (λ l. take w xs ∷ l) (rows_take w k n (drop w xs) (le_of_suc-le-suc h))

  pub rows_split : (w n m : ℕ) (xs : List A) → rows w (n + m) xs ≡ rows w n xs ++ rows w m (drop (w * n) xs)
  unfolding rows
  rows_split w zero m xs = rw (mul-zero, zero-add)
  rows_split w (suc n) m xs =
      ap (λ (k : ℕ). rows w k xs) (suc-add n m)
      ∙ ap (λ (rs : List (List A)). take w xs ∷ rs) (rows_split w n m (drop w xs) ∙ ap
      (λ (ys : List A). rows w n (drop w xs) ++ rows w m ys) (drop_row w n xs))

  -- only the first w * n elements count
  pub rows_front : (w n : ℕ) (xs ys : List A) → w * n ≤ length xs → rows w n (xs ++ ys) ≡ rows w n xs
  unfolding rows
  rows_front w zero xs ys h = refl
  rows_front w (suc n) xs ys h =
      ap₂ {C = List (List A)} (λ r rs. r ∷ rs) (take-append-le w xs ys (omega arith))
      (ap (rows w n) (drop-append-le w xs ys (omega arith)) ∙ rows_front w n (drop w xs) ys (rw length-drop (omega arith)))

  -- CUTTING APART AND PUTTING TOGETHER are inverse
  pub rows_concat : (w : ℕ) (rs : List (List A)) (ys : List A) → Sized w rs → rows w (length rs) (concat rs ++ ys) ≡ rs
  unfolding rows concat Sized
  rows_concat w [] ys s = refl
  rows_concat w (r ∷ rs) ys s =
      ap₂ {C = List (List A)} (λ t ts. t ∷ ts) (ap (take w) (append_assoc r (concat rs) ys) ∙ take_at r (concat rs ++ ys) w s.0)
      (ap (rows w (length rs)) (ap (drop w) (append_assoc r (concat rs) ys) ∙ drop_at r (concat rs ++ ys) w s.0) ∙ rows_concat w rs ys s.1)

  pub concat_rows : (w n : ℕ) (xs : List A) → concat (rows w n xs) ≡ take (w * n) xs
  unfolding rows concat
  concat_rows w zero xs = rw mul-zero
  concat_rows w (suc n) xs =
      ap (λ (ys : List A). take w xs ++ ys) (concat_rows w n (drop w xs)) ∙ sym (take-add w (w * n) xs) ∙ ap (λ (k : ℕ). take k xs)
      (add_comm w (w * n) ∙ sym (mul-suc w n))

  -- the k-th of the records put together is the k-th of them
  pub row_concat : (w : ℕ) (rs : List (List A)) (ys : List A) (k : ℕ) → Sized w rs → k < length rs → row w k (concat rs ++ ys) ≡ get_or rs k []
  row_concat w rs ys k s h = sym (rows_at w (length rs) k (concat rs ++ ys) h) ∙ ap (λ (ts : List (List A)). get_or ts k []) (rows_concat w rs ys s)

  -- records of one size, put together, are told apart
  pub concat_injective : (w : ℕ) (rs ss : List (List A)) → 0 < w → Sized w rs → Sized w ss → concat rs ≡ concat ss → rs ≡ ss
  concat_injective w rs ss h p q e =
      sym (rows_concat w rs [] p) ∙ ap₂ (λ n xs. rows w n (xs ++ [])) same e ∙ rows_concat w ss [] q
    where
      counts : w * length rs ≡ w * length ss
      counts = sym (concat_length w rs p) ∙ ap length e ∙ concat_length w ss q

      same : length rs ≡ length ss
      same = eq_of_mul-eq-mul_left w h (length rs) (length ss) counts

  -- A LIST OF WHOLE RECORDS
  pub whole_records : (w : ℕ) (xs : List A) → length xs % w ≡ 0 → w * (length xs / w) ≡ length xs
  whole_records w xs e = omega (arith, div-add-mod' (length xs) w, mul_comm w (length xs / w))

-- A WALK over n records of w elements: those that are left from record k on
module _ {A : Type 0} (w n : ℕ) (xs : List A) where
  unfoldable pub rows_left : (k : ℕ) → List (List A)
  rows_left k = rows w (n - k) (drop (w * k) xs)

  pub left_start : rows w n xs ≡ rows_left 0
  unfolding rows_left
  left_start = rw (mul-zero, sub-zero)

  pub left_next : (k : ℕ) → k < n → rows_left k ≡ row w k xs ∷ rows_left (k + 1)
  unfolding rows_left
  left_next k h = let e : n - k ≡ suc (n - (k + 1)) = omega arith in rw (e, rows_from w (n - (k + 1)) k xs, add-one)

  pub left_end : (k : ℕ) → n ≤ k → rows_left k ≡ []
  unfolding rows_left rows
  left_end k h = let e : n - k ≡ 0 = omega arith in rw e
