-- `settings::read_digits` meets its contract: one digit more is read, or a byte is none. Assumes nothing.
use Rattle.std.proofs.Common.{rules, arith, sym, ◌∙◌, ◌≡◌, ◌<◌, ◌-◌, length, get_or, add-one}
use Rattle.book.specs.RequestLaws.{digit_tested, read_to_end, read_on, stop, value_fits, value_grows}
use Rattle.book.proofs.settings.read_digits.Goals as goal
use Rattle.book.proofs.settings.read_digits.Goals.{Else-not-is_ascii_digit}

pub returns-then-not-is_ascii_digit : goal.returns-then-not-is_ascii_digit
returns-then-not-is_ascii_digit c =
    let l = c.loop-byte in
    let w = c.args.word.now in
    sym (stop l.value w l.byte-index c.loop-byte-test.true
    (sym (digit_tested (get_or w l.byte-index 0)) ∙ sym c.is_ascii_digit.ensures.value ∙ c.if-not-is_ascii_digit.true))
    ∙ l.invariant.2

-- eight digits and the next are below 2 ^ 32
fits : (c : Else-not-is_ascii_digit) → c.loop-byte.value < 100000000
fits c = let l = c.loop-byte in value_fits l.value l.byte-index l.invariant.1 (omega arith)

pub overflow_mul-value : goal.overflow_mul-value
overflow_mul-value c = let h = fits c in search rules

pub overflow_add-value : goal.overflow_add-value
overflow_add-value c = let h = fits (goal.at.overflow_add-value c).Else-not-is_ascii_digit in search rules

pub loop-byte-preserved : goal.loop-byte-preserved
loop-byte-preserved c =
    let l = c.loop-byte in
    let w = c.args.word.now in
    let d = c.if-not-is_ascii_digit.ensures.cases in (
      search rules,
      rw (add-one, c.from.ensures) (value_grows l.value l.byte-index (get_or w l.byte-index 0 - 48) l.invariant.1 (omega arith)),
      rw (add-one, c.from.ensures) (sym (read_on l.value w l.byte-index c.loop-byte-test.true d.0 d.1) ∙ l.invariant.2),
    )

pub returns : goal.returns
returns c =
    let l = c.loop-byte in
    let w = c.args.word.now in
    let e : l.byte-index ≡ length w = omega arith in
    sym (read_to_end l.value w) ∙ rw e at l.invariant.2
