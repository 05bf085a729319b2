-- What comparing two codes answers. Assumes nothing: these are definitions.
use Rattle.std.specs.Prelude.{◌≡◌, cond, List, ℕ, ◌+◌, ◌*◌, Result, Ok, Err, ⊤}
use Rattle.codes.specs.Code.{Rec, before, code_records}
use Rattle.codes.specs.Agreement.{agreement}
use Rattle.std.specs.declared.cmp.Ordering.{Ordering}
use Rattle.std.specs.declared.cmp.Ordering.TheVariants.{Less, Equal, Greater}
use Rattle.records.specs.declared.refusal.Refusal.{Refusal}
use Rattle.code_checks.specs.declared.answer.Comparison.{Comparison}
use Rattle.records.specs.Refusals.{or_else}
use Rattle.code_checks.specs.SectionChecks.{section_code_checked}

-- ORDER of two codes
unfoldable pub codes_order : (first second : List Rec) → Ordering
codes_order rs ss = cond (before rs ss) Less (cond (before ss rs) Greater Equal)

-- in the paper's numbers: 0 equal, 1 the first before, 2 after, and 256 times how far they agree
unfoldable pub compared_count : (first second : List Rec) → ℕ
compared_count rs ss = 256 * agreement rs ss + cond (before rs ss) 1 (cond (before ss rs) 2 0)

-- as the answer
abbrev pub order_answer : Ordering → (agreement : ℕ) → Comparison
order_answer o k = record { order = o; agreement = k }

-- of two accepted codes
abbrev pub codes_answer : (first second : List Rec) → Comparison
codes_answer rs ss = order_answer (codes_order rs ss) (agreement rs ss)

abbrev pub compare_answer : Result ⊤ Refusal → Ordering → (agreement : ℕ) → Result Comparison Refusal
compare_answer (Ok _) o k = Ok (order_answer o k)
compare_answer (Err r) o k = Err r

-- THE OUTCOME: the first code's refusal, or the second's, or their order and agreement
unfoldable pub CompareSays : (first second : List ℕ) → Result Comparison Refusal → Type 0
CompareSays xs ys r =
    r
    ≡ compare_answer (or_else (section_code_checked xs) (section_code_checked ys)) (codes_order (code_records xs) (code_records ys))
    (agreement (code_records xs) (code_records ys))
