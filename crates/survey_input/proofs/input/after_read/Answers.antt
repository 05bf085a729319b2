-- `input::after_read` meets its contract, case by case. Assumes nothing.
use Rattle.std.proofs.Common.{◌≡◌, ℕ, false, pos, refl, arith}
use Rattle.std.specs.Int.Signed.{lt_z}
use borrow.Author.Tests.{le-ltb}
use Rattle.survey_input.specs.ReadAnswerLaws.{after_failure, after_end, after_some, after_last}
use Rattle.survey_input.proofs.input.after_read.Goals as goal

-- a number of bytes is no failure
no_failure : (k : ℕ) → lt_z (pos k) (pos 0) ≡ false
no_failure k = le-ltb k 0 (omega arith)

pub returns-in_default-clause-failure : goal.returns-in_default-clause-failure
returns-in_default-clause-failure c = rw c.in_default.is (after_failure _ _ refl)

pub returns-then-more-eq0-clause-bytes : goal.returns-then-more-eq0-clause-bytes
returns-then-more-eq0-clause-bytes c = rw c.in-Ok.is (after_end _ _ (no_failure _) c.if-more-eq0.true)

pub returns-then-n-more-lt-INPUT_BYTES-clause-bytes : goal.returns-then-n-more-lt-INPUT_BYTES-clause-bytes
returns-then-n-more-lt-INPUT_BYTES-clause-bytes c =
    rw c.in-Ok.is (after_some _ _ (no_failure _) c.if-more-eq0.false c.if-n-more-lt-INPUT_BYTES.true)

pub returns-clause-bytes : goal.returns-clause-bytes
returns-clause-bytes c = rw c.in-Ok.is (after_last _ _ (no_failure _) c.if-more-eq0.false c.if-n-more-lt-INPUT_BYTES.false)
