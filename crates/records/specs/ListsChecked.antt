-- What an answer of a list's check says in the paper's numbers. Assumes nothing: these are definitions.
use Rattle.std.specs.Prelude.{ℕ, Bool, true, false, Result, Ok, Err}
use Rattle.graphs.specs.Survey as surveys
use Rattle.records.specs.declared.refusal.Fault.{Fault}
use Rattle.records.specs.Refusals.{number_of}

-- THE NUMBERS of an answer: its refusal, 0 for none, the drawing at fault, and 1 for yes, 0 for no and where it refuses
abbrev pub list_refusal : Result Bool Fault → surveys.Refusal
list_refusal (Ok b) = surveys.refusal 0 0
list_refusal (Err f) = surveys.refusal (number_of f.refusal) f.drawing

abbrev pub list_value : Result Bool Fault → ℕ
list_value (Ok true) = 1
list_value (Ok false) = 0
list_value (Err f) = 0
