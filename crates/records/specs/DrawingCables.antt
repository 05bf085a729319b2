-- The cables of a drawing's record, one by one. Assumes nothing: these are definitions.
use Rattle.std.specs.Prelude.{◌||◌, cond, List, map, ℕ, leb, eqb, drop}
use Rattle.laws.specs.Rows.{row, rows_left}
use Rattle.graphs.specs.Drawing.{Cable, cable_in, cables_in, joined_by}
use Rattle.records.specs.declared.cable.Cable as held

-- a cable that the program holds
abbrev pub as_cable : held.Cable → Cable
as_cable c = record { a = c.a; b = c.b; kind = c.kind }

-- cable c of a record
unfoldable pub cable_at : List ℕ → (c : ℕ) → Cable
cable_at bs c = cable_in (row 3 c (drop 12 bs))

-- the first c cables of a record
abbrev pub cables_before : (c : ℕ) → List ℕ → List Cable
cables_before c bs = cables_in c (drop 12 bs)

-- of m cables those from c on
unfoldable pub cables_from : (m c : ℕ) → List ℕ → List Cable
cables_from m c bs = map cable_in (rows_left 3 m (drop 12 bs) c)

-- one cable: 4 an end not below n; 5 both ends equal; 6 pair joined by an earlier cable
unfoldable pub cable_fault : (n : ℕ) → (earlier : List Cable) → Cable → ℕ
cable_fault n es c =
    cond (leb n c.a || leb n c.b) 4 (cond (eqb c.a c.b) 5 (cond (joined_by c.a c.b es) 6 0))

-- cable c of a record after those before it
abbrev pub fault_at : (n c : ℕ) → List ℕ → ℕ
fault_at n c bs = cable_fault n (cables_before c bs) (cable_at bs c)
