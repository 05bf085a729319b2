-- What is read of an input, and how much. Assumes nothing: these are definitions.
use Rattle.std.specs.Prelude.{List, Option, Result, ℕ, ◌≤◌, ◌<◌, length, take, IfOk}
use Rattle.std.specs.Io.KnownBytes.{Consumes, IsAtEnd}
use Rattle.survey_input.specs.declared.input.ReadFailed.{ReadFailed}

-- WHAT IS READ stands at the front of the lent bytes
abbrev pub ReadWithin : Result ℕ ReadFailed → (lent : List ℕ) → Type 0
ReadWithin r bs = IfOk r (λ n. n ≤ length bs)

-- HOW MUCH: all that the input still had, or its first 2,409 bytes. A failure never passes for the end
abbrev pub ReadToEnd : (left left_now : Option (List ℕ)) → Result ℕ ReadFailed → (lent : List ℕ) → Type 0
ReadToEnd left left_now r bs = IfOk r (λ n. Consumes left left_now (take n bs) × (n < 2409 → IsAtEnd left_now))
