-- The first reason to refuse a code, with the record's number: that of a lone device's one record, or that of a DFS code. Assumes
-- nothing: these are definitions.
use Rattle.std.specs.Prelude.{not, cond, List, [], ◌∷◌, ℕ, eqb, Result, Ok, Err, ⊤}
use Rattle.codes.specs.Code.{Rec, code_records}
use Rattle.codes.specs.SectionCode.{lone_bytes}
use Rattle.records.specs.declared.refusal.Refusal.TheVariants as refusal
use Rattle.records.specs.declared.refusal.Refusal.{Refusal}
use Rattle.readings.specs.Readings.{code_checked}

-- 10 a cable kind other than 0; 11 unequal kinds
unfoldable pub lone_checked : List Rec → Result ⊤ Refusal
lone_checked [] = Err (refusal.Step 0)
lone_checked (r ∷ rs) =
    cond (not (eqb r.c 0)) (Err (refusal.Step 0)) (cond (not (eqb r.ki r.kj)) (Err (refusal.Kind 0)) (Ok tt))

-- THE REFUSAL of a code
unfoldable pub section_code_checked : List ℕ → Result ⊤ Refusal
section_code_checked bs = cond (lone_bytes bs) (lone_checked (code_records bs)) (code_checked bs)
