-- `met::meet_row` meets its contract: a forward row goes to `meet_forward`, and of a backward one the chords tell. Assumes nothing.
use mathlib.Core.Path.{◌≡◌, subst}
use Prim.Native.Nat.{ℕ}
use native.Mathlib.Omega.{arith}
use Rattle.std.specs.declared.cmp.Ordering.{Ordering}
use Rattle.std.specs.declared.cmp.Ordering.TheVariants.{Less, Equal, Greater}
use Rattle.code_records.specs.Records.{as_rec}
use Rattle.least_seen.specs.Accepting.{ChordTold}
use Rattle.least_seen.specs.Meetings.{RowTold}
use Rattle.least_seen.specs.MeetingLaws.{chord_met, row_places, row_counts, row_back_told_place, row_back_told}
use Rattle.least_seen.proofs.met.meet_row.Goals as goal
use Rattle.least_seen.proofs.met.meet_row.Goals.{After-chord_order}

pub place_of-q-requires : goal.place_of-q-requires
place_of-q-requires c =
    let n = c.requires.3 in
    ((row_counts n).1, row_back_told_place n (λ h. omega (arith, c.if-row.false)))

pub chord_order-requires : goal.chord_order-requires
chord_order-requires c =
    (row_places c.requires.3, c.place_of-q.ensures.0)

-- what the chords tell
met_at :
    (c : After-chord_order) (o : Ordering) → c.chord_order.result ≡ o
    → let a = c.args in
    RowTold a.table.now a.numbers.now a.used.now a.path.now a.count a.low (as_rec a.row) (chord_met o)
met_at c o e d γ given n =
    let a = c.args in
    let Told : ℕ → Ordering → Type 0 = λ w r.
    ChordTold a.table.now a.numbers.now a.path.now a.count a.low c.place_of-q.result w r
    in
    row_back_told n (λ h. omega (arith, c.if-row.false)) _ c.place_of-q.ensures.0 c.place_of-q.ensures.1 c.label_of-wanted.ensures.1 o
    (subst (λ (w : ℕ). Told w o) c.label_of-wanted.ensures.0 (subst (λ (r : Ordering). Told c.label_of-wanted.result r) e c.chord_order.ensures))

pub returns-in-Less : goal.returns-in-Less
returns-in-Less c = met_at (goal.at.returns-in-Less c).After-chord_order Less c.in-Less.is

pub returns-in-Equal : goal.returns-in-Equal
returns-in-Equal c = met_at (goal.at.returns-in-Equal c).After-chord_order Equal c.in-Equal.is

pub returns-in-Greater : goal.returns-in-Greater
returns-in-Greater c = met_at (goal.at.returns-in-Greater c).After-chord_order Greater c.in-Greater.is
