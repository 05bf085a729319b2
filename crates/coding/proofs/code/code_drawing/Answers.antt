-- `code::code_drawing` meets its contract, refusal by refusal. Assumes nothing.
use mathlib.Core.Path.{◌≡◌, ap}
use Prim.Native.Nat.{◌≤◌}
use native.Mathlib.Omega.{arith}
use borrow.Author.Rules.{rules}
use lib.ListN.{length, get_or}
use Rattle.graphs.specs.Drawing.{drawing_refusal}
use Rattle.graphs.specs.Patterns.{accepted_parts}
use Rattle.records.specs.declared.drawing.Drawing.{Drawing}
use Rattle.records.specs.RefusalLaws.{refused_number, accepted_zero}
use Rattle.coding.specs.CodeDrawingLaws.{records_few, drawing_turned_back, output_turned_back, code_fits, code_written}
use Rattle.coding.proofs.code.code_drawing.Goals as goal
use Rattle.coding.proofs.code.code_drawing.Goals.{After-records_of-bytes, After-section_code}

pub returns-in_err-check_drawing : goal.returns-in_err-check_drawing
returns-in_err-check_drawing c =
    let told = drawing_turned_back c.args.drawing.now c.args.output.now _ (refused_number c.check_drawing.ensures c.in_err-check_drawing.was) in
    search (rules, told)

-- no refusal applies, m is the number of cables, and n that of the records
accepted_at : (c : After-records_of-bytes) → drawing_refusal c.args.drawing.now ≡ 0
accepted_at c = accepted_zero c.check_drawing.ensures c.in_ok-check_drawing.was

cables_at : (c : After-records_of-bytes) → c.counted-m.result.cables ≡ get_or c.args.drawing.now 1 0
cables_at c = ap (λ (x : Drawing). x.cables) c.counted-m.ensures

few : (c : After-records_of-bytes) → c.records_of-bytes.result ≤ 20
few c =
    records_few c.counted-m.result.cables c.records_of-bytes.result c.records_of-bytes.ensures
    (omega (arith, cables_at c, (accepted_parts _ (accepted_at c)).cables_high))

pub overflow_mul-bytes : goal.overflow_mul-bytes
overflow_mul-bytes c = omega (arith, few c)

pub returns-then-output-bytes : goal.returns-then-output-bytes
returns-then-output-bytes c =
    let k = (goal.at.returns-then-output-bytes c).After-records_of-bytes in
    output_turned_back _ _ (accepted_at k) _ _ (cables_at k) c.records_of-bytes.ensures c.if-output-bytes.true

pub section_code-requires : goal.section_code-requires
section_code-requires c =
    let k = (goal.at.section_code-requires c).After-records_of-bytes in
    (accepted_at k, cables_at k)

long : (c : After-section_code) → length c.section_code.result.records ≡ 100
long c = search rules

pub write_code-requires : goal.write_code-requires
write_code-requires c =
    let k = (goal.at.write_code-requires c).After-records_of-bytes in
    code_fits _ c.args.output.now (accepted_at k) _ _ (cables_at k) c.records_of-bytes.ensures c.if-output-bytes.false
    c.section_code.result (long (goal.at.write_code-requires c).After-section_code) c.section_code.ensures

pub returns : goal.returns
returns c =
    let k = (goal.at.returns c).After-records_of-bytes in
    code_written _ _ (accepted_at k) _ _ (cables_at k) c.records_of-bytes.ensures c.if-output-bytes.false c.section_code.result
    (long (goal.at.returns c).After-section_code) c.section_code.ensures _ c.write_code.ensures
