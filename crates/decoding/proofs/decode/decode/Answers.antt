-- `decode::decode` meets its contract, place by place: the code, the length of the output, and the drawing's record.
-- Assumes nothing.
use Prim.Native.Nat.{ℕ}
use Rattle.std.proofs.Common.{rules, ◌≡◌, Err}
use mathlib.Core.Path.{refl, sym, ◌∙◌, ap}
use mathlib.Core.List.{List, ◌++◌}
use lib.ListN.{drop}
use lib.Seq.{length-take-le}
use Rattle.code_checks.specs.SectionCheckLaws.{section_checked_accepted}
use Rattle.decoding.specs.DecodingLaws.{decode_refused, decode_short, decode_written}
use Rattle.decoding.proofs.decode.decode.Goals as goal

pub returns-in_err-check_code : goal.returns-in_err-check_code
returns-in_err-check_code c =
    let a = c.args in
    let r = c.in_err-check_code.field-0.0 in
    let same : c.from_residual.result ≡ Err r = search rules in
    rw same (decode_refused a.code.now a.output.now r _ (sym c.check_code.ensures ∙ c.in_err-check_code.was) refl)

pub returns-then-output-lt-BYTES : goal.returns-then-output-lt-BYTES
returns-then-output-lt-BYTES c =
    let a = c.args in
    decode_short a.code.now a.output.now _ (sym c.check_code.ensures ∙ c.in_ok-check_code.was) c.if-output-lt-BYTES.true refl

pub slice_bounds-write_drawing-end-2 : goal.slice_bounds-write_drawing-end-2
slice_bounds-write_drawing-end-2 c =
    let a = c.args in
    sym (length-take-le 73 a.output.now c.if-output-lt-BYTES.false)

pub write_drawing-requires : goal.write_drawing-requires
write_drawing-requires c =
    let a = c.args in
    record {
      accepted = section_checked_accepted a.code.now (sym c.check_code.ensures ∙ c.in_ok-check_code.was);
      room = length-take-le 73 a.output.now c.if-output-lt-BYTES.false;
    }

pub returns : goal.returns
returns c =
    let a = c.args in
    let o = a.output.now in
    decode_written a.code.now o _ (sym c.check_code.ensures ∙ c.in_ok-check_code.was) c.if-output-lt-BYTES.false
    (ap (λ (l : List ℕ). l ++ drop 73 o) c.write_drawing.ensures)
