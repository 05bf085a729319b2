-- What the answer of one read means where it is a number, as the system's own call gives it: how a reading to the end goes by it, turn by turn.
-- Assumes nothing: these are definitions.
use Rattle.std.specs.Prelude.{◌≡◌, cond, ℕ, zero, suc, ◌+◌, ◌≤◌, ltb, ℤ, pos, negsuc}
use Rattle.survey_input.specs.declared.input.Turn.{Turn}
use Rattle.survey_input.specs.declared.input.Turn.TheVariants.{More, All, Failed}

-- AFTER A READ, with n bytes read before it: -1 is a failure and never the end of the input, which is 0; else so many bytes
-- came, and more is to be read until there are 2,409
unfoldable pub after_read : (n : ℕ) → (answer : ℤ) → Turn
after_read n (negsuc k) = Failed
after_read n (pos zero) = All n
after_read n (pos (suc k)) = cond (ltb (n + suc k) 2409) (More (n + suc k)) (All (n + suc k))

-- an answer of a read into n bytes: as many at most, or a failure, which is -1
abbrev pub Moved : ℕ → ℤ → Type 0
Moved n (pos k) = k ≤ n
Moved n (negsuc k) = k ≡ 0
