-- The crane's byte plays no part in what is read or refused: records alike in the 72 bytes before it are refused alike, and if one is
-- accepted both give the same drawing. Rests on Patterns, and on Rows of laws for the cables. Assumes nothing.
use Rattle.std.specs.Prelude.{◌≡◌, refl, Bool, true, false, ◌&&◌, not, cond, List, map, eqb, take, drop}
use Rattle.std.proofs.Math.Path.{sym, ap}
use Rattle.std.proofs.Common.{ap₂, ◌∙◌, arith, length-take, length-drop, take-append-drop, length-take-le, get_or-take}
use Prim.Native.Nat.{ℕ, ◌+◌, ◌*◌, ◌-◌, ◌≤◌, ◌<◌}
use Rattle.std.proofs.Math.Dec.{leb}
use borrow.Author.Tests.{eqb-true, leb-true}
use Rattle.std.proofs.Math.ListN.{length, get_or}
use Rattle.std.proofs.lemmas.List.{take-append-le, drop-append-le}
use Rattle.laws.specs.Tests.{and_split}
use Rattle.laws.specs.Rows.{rows, rows_front}
use Rattle.graphs.specs.Drawing.{Drawing, cable_in, cables_in, drawing_in, all_zero, unused_zero, cables_fit, drawing_refusal}
use Rattle.graphs.specs.Sections.{fit_from_test, fit_most}
use Rattle.graphs.specs.Patterns.{accepted_parts}

-- WHAT LIES BEFORE BYTE 72 of a record
module _ (bs : List ℕ) (size : length bs ≡ 73) where
  part_front : (k n : ℕ) → k + n ≤ 72 → take n (drop k bs) ≡ take n (drop k (take 72 bs))
  part_front k n h =
      let long : length (take 72 bs) ≡ 72 = length-take-le 72 bs (omega arith) in
      let inside : k ≤ length (take 72 bs) = omega arith in
      let room : n ≤ length (drop k (take 72 bs)) = rw length-drop (omega arith) in
      ap (λ (l : List ℕ). take n (drop k l)) (sym (take-append-drop 72 bs))
      ∙ ap (take n) (drop-append-le k (take 72 bs) (drop 72 bs) inside)
      ∙ take-append-le n (drop k (take 72 bs)) (drop 72 bs) room

  cables_front : (m : ℕ) → m ≤ 20 → cables_in m (drop 12 bs) ≡ cables_in m (take 60 (drop 12 bs))
  unfolding cables_in
  cables_front m h =
      let room : 3 * m ≤ length (take 60 (drop 12 bs)) = simp (length-take, length-drop) (omega arith) in
      ap (map cable_in)
      (ap (rows 3 m) (sym (take-append-drop 60 (drop 12 bs))) ∙ rows_front 3 m (take 60 (drop 12 bs)) (drop 60 (drop 12 bs)) room)

-- after three tests what follows counts only if all three pass
turned_alike : (a b c : Bool) (x y : ℕ) → (a ≡ true → b ≡ true → c ≡ true → x ≡ y)
    → cond (not a) 1 (cond (not b) 2 (cond (not c) 3 x)) ≡ cond (not a) 1 (cond (not b) 2 (cond (not c) 3 y))
turned_alike true true true x y h = h refl refl refl
turned_alike true true false x y h = refl
turned_alike true false c x y h = refl
turned_alike false b c x y h = refl

-- TWO RECORDS alike before byte 72
module _ (xs ys : List ℕ) (same_length : length xs ≡ length ys) (front : take 72 xs ≡ take 72 ys) where
  byte_same : (i : ℕ) → i < 72 → get_or xs i 0 ≡ get_or ys i 0
  byte_same i h = sym (get_or-take 72 xs i 0 h) ∙ ap (λ (l : List ℕ). get_or l i 0) front ∙ get_or-take 72 ys i 0 h

  devices_same : get_or xs 0 0 ≡ get_or ys 0 0
  devices_same = byte_same 0 (omega arith)

  cables_same : get_or xs 1 0 ≡ get_or ys 1 0
  cables_same = byte_same 1 (omega arith)

  -- with counts within the limits all that is read lies there: counts that are refused may reach further
  module _ (size : length xs ≡ 73) (few : get_or xs 0 0 ≤ 10) (thin : get_or xs 1 0 ≤ 20) where
    part_same : (k n : ℕ) → k + n ≤ 72 → take n (drop k xs) ≡ take n (drop k ys)
    part_same k n h =
        part_front xs size k n h ∙ ap (λ (l : List ℕ). take n (drop k l)) front ∙ sym (part_front ys (sym same_length ∙ size) k n h)

    read_same : drawing_in xs ≡ drawing_in ys
    unfolding drawing_in
    read_same =
        rw (← devices_same, ← cables_same)
        (ap₂ {C = Drawing} (λ ks cs. record { kinds = ks; cables = cs }) (part_same 2 (get_or xs 0 0) (omega arith)) cables)
      where
        cables : cables_in (get_or xs 1 0) (drop 12 xs) ≡ cables_in (get_or xs 1 0) (drop 12 ys)
        cables =
            cables_front xs size (get_or xs 1 0) thin ∙ ap (cables_in (get_or xs 1 0)) (part_same 12 60 (omega arith))
            ∙ sym (cables_front ys (sym same_length ∙ size) (get_or xs 1 0) thin)

    unused_same : unused_zero xs ≡ unused_zero ys
    unfolding unused_zero
    unused_same =
        rw (← devices_same, ← cables_same)
        (ap₂ {C = Bool} (λ ks cs. all_zero ks && all_zero cs)
        (part_same (2 + get_or xs 0 0) (10 - get_or xs 0 0) (omega arith))
        (part_same (12 + 3 * get_or xs 1 0) (60 - 3 * get_or xs 1 0) (omega arith)))

  -- REFUSED ALIKE, by the same number
  pub crane_refusal_same : drawing_refusal xs ≡ drawing_refusal ys
  unfolding drawing_refusal
  crane_refusal_same =
      rw (← same_length, ← devices_same, ← cables_same)
      (turned_alike (eqb (length xs) 73) (leb 1 n && leb n 10) (cables_fit n m) _ _
      (λ a b c.
      let size = eqb-true (length xs) 73 a in
      let few = leb-true n 10 (and_split (leb 1 n) (leb n 10) b).1 in
      let thin = fit_most (fit_from_test n m c) in
      rw (read_same size few thin, unused_same size few thin)))
    where
      n : ℕ
      n = get_or xs 0 0

      m : ℕ
      m = get_or xs 1 0

  -- READ ALIKE
  pub crane_drawing_same : drawing_refusal xs ≡ 0 → drawing_in xs ≡ drawing_in ys
  crane_drawing_same e = let a = accepted_parts xs e in read_same a.size a.devices_high a.cables_high
