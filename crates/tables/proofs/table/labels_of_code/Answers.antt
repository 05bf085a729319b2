-- `table::labels_of_code` meets its contract. The invariant: the table is that of the first k records' cables.
-- Assumes nothing.
use Rattle.std.proofs.Common.{◌≡◌, List, ℕ, get_or, Fits, w8, arith}
use Rattle.codes.specs.Code.{cable_of, code_refusal}
use Rattle.tables.specs.TableLaws.{table_start}
use Rattle.tables.specs.TableOfCode.{ByteCode, code_section, record_low, code_turn, code_done}
use Rattle.tables.proofs.table.labels_of_code.Goals as goal

-- what is known of the code
known : (bs : List ℕ) → ((i : ℕ) → Fits w8 (get_or bs i 0)) → code_refusal bs ≡ 0 → ByteCode bs
known bs b a = record { bytes = λ i. omega (arith, b i); accepted = a }

pub loop-k-init : goal.loop-k-init
loop-k-init c = table_start _ (code_section (known _ c.type_inv.code c.requires))

pub put_cable-requires : goal.put_cable-requires
put_cable-requires c =
    rw (c.from.ensures, c.from-in-loop-k.ensures, c.from-in-loop-k-2.ensures)
    (record_low (known _ c.type_inv.code c.requires) c.loop-k.k (omega arith) c.at-r.ensures)

pub loop-k-preserved : goal.loop-k-preserved
unfolding cable_of
loop-k-preserved c =
    rw (c.put_cable.ensures, c.from.ensures, c.from-in-loop-k.ensures, c.from-in-loop-k-2.ensures)
    (code_turn (known _ c.type_inv.code c.requires) c.loop-k.k (omega arith) c.at-r.ensures c.loop-k.invariant)

pub returns : goal.returns
returns c = code_done (known _ c.type_inv.code c.requires) c.loop-k.k (omega arith) c.loop-k.invariant
