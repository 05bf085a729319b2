-- An answer as one number. Assumes nothing: these are definitions.
use Rattle.std.specs.Prelude.{ℕ, ◌+◌, ◌*◌}
use Rattle.code_checks.specs.Answers.{Numbers}

-- a refusal is 0 for an answer; the drawing is counted from 0, and is 0 where no drawing is at fault
abbrev pub packed : (refusal count drawing : ℕ) → ℕ
packed refusal count drawing = (drawing * 256 + refusal) * 4294967296 + count

-- an answer that names no drawing
abbrev pub packed_numbers : Numbers → ℕ
packed_numbers n = packed n.refusal n.count 0
