-- `place::put_word` meets its contract. The invariant: the word's bytes in front of the next one are put. Assumes nothing.
use Rattle.std.proofs.Common.{◌+◌, sym, arith, take-append-drop}
use Rattle.std.proofs.lemmas.List.{take_more}
use Rattle.text_lines.specs.WritingLaws.{wrote_none, wrote_then, wrote_cut, wrote_as}
use Rattle.text_lines.proofs.place.put_word.Goals as goal

pub returns-in_err-next : goal.returns-in_err-next
returns-in_err-next c = rw c.in_err-next.was (wrote_cut _ c.from_residual.ensures (wrote_none _ _))

pub loop-byte-init : goal.loop-byte-init
loop-byte-init c = wrote_none _ _

pub returns-in_err-next-2 : goal.returns-in_err-next-2
returns-in_err-next-2 c =
    let l = c.loop-byte in
    let word = c.args.word.now in
    let put = wrote_as (sym (take_more word l.byte-index 0 (omega arith))) (wrote_then l.invariant c.in_err-next-2.ensures) in
    rw c.in_ok-next.was
    (wrote_as (take-append-drop (l.byte-index + 1) word) (wrote_cut _ c.from_residual-in_err-next-2.ensures put))

pub loop-byte-preserved : goal.loop-byte-preserved
loop-byte-preserved c =
    let l = c.loop-byte in
    wrote_as (sym (take_more c.args.word.now l.byte-index 0 (omega arith))) (wrote_then l.invariant c.in_ok-next-2.ensures)
