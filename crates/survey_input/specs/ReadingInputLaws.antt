-- What is read stands within the lent bytes. Assumes nothing.
use Rattle.std.specs.Prelude.{◌≡◌, List, Result, Ok, ℕ, ◌≤◌, length}
use Rattle.survey_input.specs.declared.input.ReadFailed.{ReadFailed}
use Rattle.survey_input.specs.ReadingInput.{ReadWithin}

pub bytes_within : (r : Result ℕ ReadFailed) (n : ℕ) (lent : List ℕ) → r ≡ Ok n → ReadWithin r lent → n ≤ length lent
bytes_within r n lent e h = rw e at h
