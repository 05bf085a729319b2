-- What an answer of a catalogue says in the paper's numbers. Assumes nothing: these are definitions.
use Rattle.std.specs.Prelude.{ℕ, Result, Ok, Err}
use Rattle.graphs.specs.Survey as surveys
use Rattle.records.specs.declared.refusal.Fault.{Fault}
use Rattle.records.specs.Refusals.{number_of}

-- THE NUMBERS of an answer: its refusal, 0 for none, the drawing at fault, and the count of entries, 0 where it refuses
abbrev pub catalogued_refusal : Result ℕ Fault → surveys.Refusal
catalogued_refusal (Ok n) = surveys.refusal 0 0
catalogued_refusal (Err f) = surveys.refusal (number_of f.refusal) f.drawing

abbrev pub catalogued_count : Result ℕ Fault → ℕ
catalogued_count (Ok n) = n
catalogued_count (Err f) = 0
