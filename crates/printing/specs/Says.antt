-- What making a text answers, and what it leaves in the lent bytes. Assumes nothing: these are definitions.
use Rattle.std.specs.Prelude.{◌≡◌, Bool, true, false, List, ℕ, Option, Some, None, Result, ltb, length}
use Rattle.laws.specs.Lent.{in_front}
use Rattle.records.specs.declared.refusal.Fault.{Fault}
use Rattle.text_lines.specs.Texts.{text_of}

-- a text that does not fit writes nothing
abbrev pub Made : (too_long : Bool) → (text : List ℕ) → Option ℕ → (out out_now : List ℕ) → Type 0
Made true bs r o z = (r ≡ None) × (z ≡ o)
Made false bs r o z = (r ≡ Some (length bs)) × (z ≡ in_front bs o)

-- THE OUTCOME: the text of the answer, whose entries are those in the bytes
abbrev pub TextSays : Result ℕ Fault → (entries : List ℕ) → Option ℕ → (out out_now : List ℕ) → Type 0
TextSays a es r o z = Made (ltb (length o) (length (text_of a es))) (text_of a es) r o z
