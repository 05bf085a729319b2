-- A survey cut into drawings: the piece that comes off the front of what is left is the next drawing's record. Assumes nothing.
use Rattle.std.proofs.Common.{◌≡◌, ap, sym, ◌∙◌, List, ◌++◌, ℕ, ◌+◌, ◌*◌, ◌<◌, ◌≤◌, length, take, drop, length-append, length-drop, drop-drop, take_all, drop_of_length-le, arith}
use Rattle.std.proofs.lemmas.List.{take-append-le, drop-append-le}
use Rattle.laws.specs.Rows.{row}
use Rattle.graphs.specs.Survey.{drawing_count}

module _ (bs piece left : List ℕ) (d : ℕ) (cut : drop (73 * d) bs ≡ piece ++ left) (whole : length piece ≡ 73) where
  left_over : length bs ≡ 73 * d + 73 + length left
  left_over = omega (arith, sym (length-drop (73 * d) bs) ∙ ap length cut ∙ length-append piece left)

  pub piece_below : d < drawing_count bs
  piece_below = omega (arith, left_over)

  pub piece_row : piece ≡ row 73 d bs
  unfolding row
  piece_row = sym (ap (take 73) cut ∙ take-append-le 73 piece left (omega arith) ∙ take_all 73 piece (omega arith))

  pub piece_left : left ≡ drop (73 * (d + 1)) bs
  piece_left =
      let e : 73 * d + 73 ≡ 73 * (d + 1) = omega arith in
      sym (ap (λ (n : ℕ). drop n bs) (sym e)
      ∙ sym (drop-drop 73 (73 * d) bs)
      ∙ ap (drop 73) cut
      ∙ drop-append-le 73 piece left (omega arith)
      ∙ ap (λ (p : List ℕ). p ++ left) (drop_of_length-le piece {i = 73} (omega arith)))

-- no whole drawing is left
pub none_left : (bs left : List ℕ) (d : ℕ) → left ≡ drop (73 * d) bs → length left < 73 → drawing_count bs ≤ d
none_left bs left d is short = omega (arith, ap length is ∙ length-drop (73 * d) bs, short)
