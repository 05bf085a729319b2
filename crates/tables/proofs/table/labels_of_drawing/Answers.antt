-- `table::labels_of_drawing` meets its contract. The invariant: the table is that of the first c cables. Assumes
-- nothing.
use Rattle.std.proofs.Common.{◌≡◌, List, ℕ, ◌<◌, get_or, Fits, w8, ap, arith}
use Rattle.graphs.specs.Drawing.{Cable, drawing_refusal}
use Rattle.records.specs.declared.drawing.Drawing.{Drawing}
use Rattle.records.specs.DrawingCables.{cable_at}
use Rattle.tables.specs.TableLaws.{table_start}
use Rattle.tables.specs.TableOfDrawing.{ByteRecord, record_size, record_section, cable_low, drawing_turn, drawing_done}
use Rattle.tables.proofs.table.labels_of_drawing.Goals as goal

-- what is known of the record
known : (bs : List ℕ) → ((i : ℕ) → Fits w8 (get_or bs i 0)) → drawing_refusal bs ≡ 0 → ByteRecord bs
known bs b a = record { bytes = λ i. omega (arith, b i); accepted = a }

-- the cable read in a turn
low :
    {bs : List ℕ} → ByteRecord bs → {m : Drawing} {n k : ℕ} → m ≡ record { devices = n; cables = get_or bs 1 0 } → k < m.cables
    → {x : Cable} → x ≡ cable_at bs k → (x.a < 10) × (x.b < 10) × (x.kind < 256)
low A {m} {n} {k} e h is = cable_low A k (omega (arith, ap (λ (d : Drawing). d.cables) e)) is

pub loop-c-init : goal.loop-c-init
loop-c-init c = table_start _ (record_section (known _ c.type_inv.drawing c.requires))

pub overflow_add-a : goal.overflow_add-a
overflow_add-a c =
    omega (arith, low (known _ c.type_inv.drawing c.requires) c.counted-m.ensures c.loop-c-test.true c.at-cable.ensures)

pub bounds-drawing-a : goal.bounds-drawing-a
bounds-drawing-a c =
    let k = known _ c.type_inv.drawing c.requires in
    omega (arith, low k c.counted-m.ensures c.loop-c-test.true c.at-cable.ensures, record_size k)

pub overflow_add-b : goal.overflow_add-b
overflow_add-b c =
    omega (arith, low (known _ c.type_inv.drawing c.requires) c.counted-m.ensures c.loop-c-test.true c.at-cable.ensures)

pub bounds-drawing-b : goal.bounds-drawing-b
bounds-drawing-b c =
    let k = known _ c.type_inv.drawing c.requires in
    omega (arith, low k c.counted-m.ensures c.loop-c-test.true c.at-cable.ensures, record_size k)

pub put_cable-requires : goal.put_cable-requires
put_cable-requires c =
    low (known _ c.type_inv.drawing c.requires) c.counted-m.ensures c.loop-c-test.true c.at-cable.ensures

pub loop-c-preserved : goal.loop-c-preserved
loop-c-preserved c =
    rw c.put_cable.ensures
    (drawing_turn (known _ c.type_inv.drawing c.requires) c.loop-c.c
    (omega (arith, ap (λ (d : Drawing). d.cables) c.counted-m.ensures)) c.at-cable.ensures c.loop-c.invariant)

pub returns : goal.returns
returns c =
    drawing_done (known _ c.type_inv.drawing c.requires) c.loop-c.c
    (omega (arith, ap (λ (d : Drawing). d.cables) c.counted-m.ensures)) c.loop-c.invariant
