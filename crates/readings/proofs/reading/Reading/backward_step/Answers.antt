-- `reading::Reading::backward_step` meets its contract: the backward record before is above this one's j. Assumes nothing.
use Rattle.std.proofs.Common.{◌≡◌, ◌≤◌, ℕ, refl, arith, false, Option, Some, None}
use Rattle.codes.specs.Code.{step_good}
use Rattle.code_records.specs.Records.{as_rec}
use Rattle.readings.specs.Readings.{as_reading, StepSays}
use Rattle.readings.specs.ReadingLaws.{back_refused}
use Rattle.readings.proofs.reading.Reading.backward_step.Goals as goal

pub returns-then-is_some_and : goal.returns-then-is_some_and
unfolding StepSays
returns-then-is_some_and c = told c.args.self.back refl
  where
    told : (k : Option ℕ) → c.args.self.back ≡ k → step_good (as_reading c.args.self) (as_rec c.args.next) ≡ false
    told None e = grind arith
    told (Some j) e =
        let low : c.args.next.j ≤ j = grind arith in
        back_refused c.args.self c.requires.0 (as_rec c.args.next) c.requires.1 j e low
