-- `line::put_record` meets its contract: five numbers, each behind its mark. Assumes nothing.
use Rattle.std.proofs.Common.{refl}
use Rattle.codes.specs.Code.{rec_in}
use Rattle.text_lines.specs.Texts.{record_text}
use Rattle.text_lines.specs.WritingLaws.{wrote_then, wrote_cut}
use Rattle.text_lines.proofs.line.put_record.Goals as goal

pub returns-in_err-i : goal.returns-in_err-i
unfolding record_text rec_in
returns-in_err-i c =
    let none = c.from_residual.ensures in
    wrote_cut _ none (wrote_cut _ refl (wrote_cut _ refl (wrote_cut _ refl c.in_err-i.ensures)))

pub returns-in_err-j : goal.returns-in_err-j
unfolding record_text rec_in
returns-in_err-j c =
    let none = c.from_residual-in_err-j.ensures in
    wrote_cut _ none (wrote_cut _ refl (wrote_cut _ refl (wrote_then c.in_ok-i.ensures c.in_err-j.ensures)))

pub returns-in_err-kind_i : goal.returns-in_err-kind_i
unfolding record_text rec_in
returns-in_err-kind_i c =
    let none = c.from_residual-in_err-kind_i.ensures in
    let ends = wrote_then c.in_ok-i.ensures c.in_ok-j.ensures in
    wrote_cut _ none (wrote_cut _ refl (wrote_then ends c.in_err-kind_i.ensures))

pub returns-in_err-cable : goal.returns-in_err-cable
unfolding record_text rec_in
returns-in_err-cable c =
    let none = c.from_residual-in_err-cable.ensures in
    let ends = wrote_then c.in_ok-i.ensures c.in_ok-j.ensures in
    wrote_cut _ none (wrote_then (wrote_then ends c.in_ok-kind_i.ensures) c.in_err-cable.ensures)

pub returns : goal.returns
unfolding record_text rec_in
returns c =
    let ends = wrote_then c.in_ok-i.ensures c.in_ok-j.ensures in
    wrote_then (wrote_then (wrote_then ends c.in_ok-kind_i.ensures) c.in_ok-cable.ensures) c.put_field-5.ensures
