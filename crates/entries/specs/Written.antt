-- A list of patterns in the lent bytes: its entries, or 15; and one that is given. Assumes nothing: these are definitions.
use Rattle.std.specs.Prelude.{◌≡◌, Bool, true, false, List, ℕ, zero, suc, ◌*◌, ltb, length, replicate, Result, Ok, Err}
use Rattle.laws.specs.Lent.{in_front}
use Rattle.laws.specs.Decides.{Decides}
use Rattle.graphs.specs.Drawing.{Drawing}
use Rattle.graphs.specs.Survey as surveys
use Rattle.codes.specs.Code.{kinds_before}
use Rattle.growth.specs.Sizes.{entry_size}
use Rattle.growth.specs.Catalogue.{Entry, ListOf, all_bytes, Figures}
use Rattle.records.specs.declared.refusal.Refusal.TheVariants.{OutputLength}
use Rattle.records.specs.declared.refusal.Fault.{Fault}
use Rattle.records.specs.Refusals.{lone_fault}
use Rattle.records.specs.Catalogued.{catalogued_refusal}

-- the entries stand at the front of the lent bytes, if they fit; else 15, and every lent byte is zero
abbrev pub EntriesWritten : (too_long : Bool) → (es : List Entry) → Result ℕ Fault → (out out_now : List ℕ) → Type 0
EntriesWritten true es r o z = (r ≡ Err (lone_fault OutputLength)) × (z ≡ replicate (length o) 0)
EntriesWritten false es r o z = (r ≡ Ok (length es)) × (z ≡ in_front (all_bytes es) o)

-- THE LIST OF A FAMILY is written, or 15
abbrev pub ListWritten : (Wanted : Drawing → Type 0) (figure : Drawing → Figures) (l : ℕ) (out : List ℕ) → Result ℕ Fault → (out_now : List ℕ) → Type 0
ListWritten Wanted figure l o r z =
    (es : List Entry) × ListOf kinds_before Wanted figure l es × EntriesWritten (ltb (length o) (entry_size * length es)) es r o z

-- THE OUTCOME of a call that lists a family: the first refusal of what it is given, which writes nothing; then the list, or 15
abbrev pub ListAs :
    (number : ℕ) → surveys.Refusal → (Wanted : Drawing → Type 0) (figure : Drawing → Figures) (l : ℕ) → Result ℕ Fault → (out out_now : List ℕ) → Type 0
ListAs zero f Wanted figure l r o z = ListWritten Wanted figure l o r z
ListAs (suc n) f Wanted figure l r o z = (catalogued_refusal r ≡ f) × (z ≡ o)

abbrev pub ListSays :
    surveys.Refusal → (Wanted : Drawing → Type 0) (figure : Drawing → Figures) (l : ℕ) → Result ℕ Fault → (out out_now : List ℕ) → Type 0
ListSays f = ListAs f.number f

-- A LIST THAT IS GIVEN is that of the family, byte for byte, or it is not
abbrev pub ListHeld : (Wanted : Drawing → Type 0) (figure : Drawing → Figures) (l : ℕ) (given : List ℕ) → Bool → Type 0
ListHeld Wanted figure l given r = (es : List Entry) × ListOf kinds_before Wanted figure l es × Decides r (given ≡ all_bytes es)
