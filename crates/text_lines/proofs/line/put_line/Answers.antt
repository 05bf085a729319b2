-- `line::put_line` meets its contract: the support, the example, the records and the line's end. Assumes nothing.
use Rattle.std.proofs.Common.{◌≡◌, ◌/◌, ℕ, List, refl, ap, ◌∙◌, map, take, drop, min, length, get_or, arith, take_all, length-drop}
use Rattle.std.specs.Simd.{first_chunks}
use Rattle.laws.specs.Rows.{rows}
use Rattle.codes.specs.Code.{rec_in, recs_in}
use Rattle.text_lines.specs.Texts.{entry_text, entry_shown}
use Rattle.text_lines.specs.TextLaws.{rows_cut}
use Rattle.text_lines.specs.WritingLaws.{wrote_then, wrote_cut}
use Rattle.text_lines.proofs.line.put_line.Goals as goal

-- the records that are put are the first of the entry's
module _ (bs : List ℕ) {cut : List (List ℕ)} {k : ℕ} (sized : length bs ≡ 43) (count : k ≡ min (get_or bs 0 0) 8)
    (is : cut ≡ first_chunks 5 (length (take 41 (drop 2 bs)) / 5) (take 41 (drop 2 bs))) where
  shown : map rec_in (take k cut) ≡ recs_in (min (get_or bs 0 0) 8) (drop 2 bs)
  unfolding recs_in
  shown =
      let whole : take 41 (drop 2 bs) ≡ drop 2 bs = take_all 41 (drop 2 bs) (omega (arith, length-drop 2 bs)) in
      ap (map rec_in) (rows_cut 5 k whole is (omega (arith, ap length whole, length-drop 2 bs)))
      ∙ ap (λ (n : ℕ). map rec_in (rows 5 n (drop 2 bs))) count

pub returns-in_err-next : goal.returns-in_err-next
unfolding entry_text entry_shown
returns-in_err-next c =
    let none = c.from_residual.ensures in
    rw (← c.from-2.ensures) (wrote_cut _ none (wrote_cut _ refl (wrote_cut _ refl c.in_err-next.ensures)))

pub returns-in_err-next-2 : goal.returns-in_err-next-2
unfolding entry_text entry_shown
returns-in_err-next-2 c =
    let none = c.from_residual-in_err-next-2.ensures in
    let figures = wrote_then c.in_ok-next.ensures (wrote_cut _ refl c.in_err-next-2.ensures) in
    rw (← c.from-2.ensures) (wrote_cut _ none (wrote_cut _ refl figures))

pub returns-in_err-next-3 : goal.returns-in_err-next-3
unfolding entry_text entry_shown
returns-in_err-next-3 c =
    let none = c.from_residual-in_err-next-3.ensures in
    let figures = wrote_then c.in_ok-next.ensures (wrote_then c.in_ok-next-2.ensures c.in_err-next-3.ensures) in
    rw (← c.from-2.ensures) (wrote_cut _ none (wrote_cut _ refl figures))

pub returns-in_err-next-4 : goal.returns-in_err-next-4
unfolding entry_text entry_shown
returns-in_err-next-4 c =
    let none = c.from_residual-in_err-next-4.ensures in
    let figures = wrote_then c.in_ok-next.ensures (wrote_then c.in_ok-next-2.ensures c.in_ok-next-3.ensures) in
    let same = shown c.args.entry.now c.told-entry (rw (← c.from.ensures) c.min-cables.ensures) c.as_chunks.ensures.front in
    rw (← c.from-2.ensures, ← same) (wrote_cut _ none (wrote_then figures c.in_err-next-4.ensures))

pub returns : goal.returns
unfolding entry_text entry_shown
returns c =
    let figures = wrote_then c.in_ok-next.ensures (wrote_then c.in_ok-next-2.ensures c.in_ok-next-3.ensures) in
    let same = shown c.args.entry.now c.told-entry (rw (← c.from.ensures) c.min-cables.ensures) c.as_chunks.ensures.front in
    rw (← c.from-2.ensures, ← same) (wrote_then (wrote_then figures c.in_ok-next-4.ensures) c.put_byte-2.ensures)
