-- `text::put_catalogue` meets its contract: the lines, the number of entries and the word. Assumes nothing.
use Rattle.std.proofs.Common.{◌≡◌, ◌/◌, ℕ, List, ◌++◌, refl, sym, ap, ◌∙◌, map, take, min, length, arith}
use Rattle.std.specs.Simd.{first_chunks}
use Rattle.text_lines.specs.Texts.{line_end, patterns_word, decimal, entry_shown, entries_shown, first_entries, catalogue_text}
use Rattle.text_lines.specs.TextLaws.{entries_count, rows_cut}
use Rattle.text_lines.specs.WritingLaws.{wrote_then, wrote_cut, wrote_as}
use Rattle.printing.proofs.text.put_catalogue.Goals as goal

-- the entries that are put are those that are shown, and counted
module _ (n : ℕ) (bs : List ℕ) {cut : List (List ℕ)} {k : ℕ} (count : k ≡ min n (length cut)) (is : cut ≡ first_chunks 43 (length bs / 43) bs)
    (long : length cut ≡ length bs / 43) where
  shown : map entry_shown (take k cut) ≡ entries_shown n bs
  shown = ap (map entry_shown) (rows_cut 43 k refl is (omega arith)) ∙ ap (λ (m : ℕ). first_entries m bs) (rw (← long) count)

  counted : decimal k ≡ decimal (length (entries_shown n bs))
  counted = ap decimal (rw (← long, ← count) (sym (entries_count k bs)))

pub returns-in_err-next : goal.returns-in_err-next
unfolding catalogue_text
returns-in_err-next c =
    let cut = c.as_chunks.ensures in
    let same = shown c.args.n c.args.entries.now c.min-n.ensures cut.front cut.front_len in
    wrote_cut (patterns_word ++ line_end) c.from_residual.ensures (wrote_cut _ refl (rw same at c.in_err-next.ensures))

pub returns-in_err-next-2 : goal.returns-in_err-next-2
unfolding catalogue_text
returns-in_err-next-2 c =
    let cut = c.as_chunks.ensures in
    let same = shown c.args.n c.args.entries.now c.min-n.ensures cut.front cut.front_len in
    let count = counted c.args.n c.args.entries.now c.min-n.ensures cut.front cut.front_len in
    wrote_cut (patterns_word ++ line_end) c.from_residual-in_err-next-2.ensures
    (wrote_then (rw same at c.in_ok-next.ensures) (wrote_as count c.in_err-next-2.ensures))

pub returns : goal.returns
unfolding catalogue_text
returns c =
    let cut = c.as_chunks.ensures in
    let same = shown c.args.n c.args.entries.now c.min-n.ensures cut.front cut.front_len in
    let count = counted c.args.n c.args.entries.now c.min-n.ensures cut.front cut.front_len in
    wrote_then (wrote_then (rw same at c.in_ok-next.ensures) (wrote_as count c.in_ok-next-2.ensures)) c.put_word.ensures
