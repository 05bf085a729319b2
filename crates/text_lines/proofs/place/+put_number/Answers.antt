-- `place::put_number` meets its contract. The measure is the number itself. Assumes nothing.
use mathlib.Core.Path.{sym}
use native.Mathlib.Omega.{arith}
use Rattle.text_lines.specs.Numbers.{decimal_last, decimal_more}
use Rattle.text_lines.specs.WritingLaws.{wrote_then, wrote_cut, wrote_as}
use Rattle.text_lines.proofs.place.+put_number.Goals as goal

pub returns-then-n-lt10 : goal.returns-then-n-lt10
returns-then-n-lt10 t c = wrote_as (sym (decimal_last c.args.n (omega arith))) c.put_byte.ensures

pub returns-in_err-front : goal.returns-in_err-front
returns-in_err-front t c = wrote_as (sym (decimal_more c.args.n (omega arith))) (wrote_cut _ c.from_residual.ensures c.in_err-front.ensures)

pub returns : goal.returns
returns t c = wrote_as (sym (decimal_more c.args.n (omega arith))) (wrote_then c.in_ok-front.ensures c.put_byte-2.ensures)
