-- `line::put_records` meets its contract. The invariant: the records in front of the next one are put. Assumes nothing.
use Rattle.std.proofs.Common.{◌≡◌, ◌∷◌, ◌++◌, ◌+◌, ◌<◌, ℕ, List, [], map, take, length, get_or, arith}
use Rattle.laws.specs.Lists.{concat}
use Rattle.codes.specs.Code.{rec_in}
use Rattle.text_lines.specs.Texts.{record_text, records_text}
use Rattle.text_lines.specs.TextLaws.{texts_more, texts_rest}
use Rattle.text_lines.specs.WritingLaws.{wrote_none, wrote_then, wrote_cut, wrote_as}
use Rattle.text_lines.proofs.line.put_records.Goals as goal

more : (xs : List (List ℕ)) (i : ℕ) → i < length xs → records_text (map rec_in (take i xs)) ++ (32 ∷ record_text (rec_in (get_or xs i []))) ≡ records_text (map rec_in (take (i + 1) xs))
more xs i h = texts_more rec_in (λ r. 32 ∷ record_text r) xs i [] h

pub loop-record-init : goal.loop-record-init
unfolding concat
loop-record-init c = wrote_none _ _

pub returns-in_err-next : goal.returns-in_err-next
returns-in_err-next c =
    let l = c.loop-record in
    let put = wrote_as (more c.args.records.now l.record-index (omega arith)) (wrote_then l.invariant c.in_err-next.ensures) in
    wrote_as (texts_rest rec_in _ c.args.records.now (l.record-index + 1)) (wrote_cut _ c.from_residual.ensures put)

pub loop-record-preserved : goal.loop-record-preserved
loop-record-preserved c =
    let l = c.loop-record in
    wrote_as (more c.args.records.now l.record-index (omega arith)) (wrote_then l.invariant c.in_ok-next.ensures)
