-- What the check of a list answers: whether it is the catalogue of a survey, byte for byte. Assumes nothing: these are definitions.
use Rattle.std.specs.Prelude.{◌≡◌, cond, Bool, true, false, List, ℕ, zero, suc, ◌/◌, ◌%◌, eqb, length, Result, Ok, Err}
use Rattle.graphs.specs.Survey as surveys
use Rattle.graphs.specs.Survey.{survey, cranes, survey_refusal}
use Rattle.growth.specs.Sizes.{entry_size}
use Rattle.growth.specs.Catalogue.{Entry, Catalogue, all_bytes}
use Rattle.records.specs.declared.refusal.Refusal.TheVariants.{ListLength}
use Rattle.records.specs.declared.refusal.Fault.{Fault}
use Rattle.records.specs.Refusals.{lone_fault}
use Rattle.records.specs.ListsChecked.{list_refusal}

-- a yes or a no tells whether A holds
abbrev pub ToldBy : Result Bool Fault → Type 0 → Type 0
ToldBy (Ok true) A = A
ToldBy (Ok false) A = A → ⊥
ToldBy (Err f) A = ⊥

-- the length of a list: whole entries, or 18
abbrev pub entries_checked : (list : List ℕ) → Result ℕ Fault
entries_checked list = cond (eqb (length list % entry_size) 0) (Ok (length list / entry_size)) (Err (lone_fault ListLength))

-- the first of two answers that refuses, or the second
abbrev pub first_checked : Result ℕ Fault → Result ℕ Fault → Result ℕ Fault
first_checked (Ok n) c = c
first_checked (Err f) c = Err f

-- THE REFUSAL: that of a catalogue, but 15; then 18, the list's length is no multiple of an entry's
unfoldable pub check_refusal : (bytes : List ℕ) (s l : ℕ) (list : List ℕ) → surveys.Refusal
check_refusal bs s l list =
    cond (eqb (survey_refusal bs s l).number 0) (surveys.refusal (cond (eqb (length list % entry_size) 0) 0 18) 0) (survey_refusal bs s l)

-- YES exactly if the list is the bytes of the survey's one catalogue
abbrev pub IsListChecked : (bytes : List ℕ) (s l : ℕ) (list : List ℕ) → Result Bool Fault → Type 0
IsListChecked bs s l list r =
    (es : List Entry) × Catalogue (cranes bs) (survey bs) s l es × ToldBy r (list ≡ all_bytes es)

-- THE OUTCOME: the first refusal, or yes or no
abbrev pub CheckAs : (number : ℕ) → surveys.Refusal → (bytes : List ℕ) (s l : ℕ) (list : List ℕ) → Result Bool Fault → Type 0
CheckAs zero f bs s l list r = IsListChecked bs s l list r
CheckAs (suc n) f bs s l list r = list_refusal r ≡ f

abbrev pub CheckSays : (bytes : List ℕ) (s l : ℕ) (list : List ℕ) → Result Bool Fault → Type 0
CheckSays bs s l list = CheckAs (check_refusal bs s l list).number (check_refusal bs s l list) bs s l list
