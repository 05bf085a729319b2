-- One record of a code that the program holds, and the order of two as an answer. Assumes nothing: these are definitions.
use Rattle.std.specs.Prelude.{cond, ℕ}
use Rattle.std.specs.declared.cmp.Ordering.{Ordering}
use Rattle.std.specs.declared.cmp.Ordering.TheVariants.{Less, Equal, Greater}
use Rattle.std.specs.Ordering.{nat_cmp, ordering_then}
use Rattle.codes.specs.Code.{Rec, rec_same, rec_before}
use Rattle.code_records.specs.declared.«record».Record as held

-- a record that the program holds
abbrev pub as_rec : held.Record → Rec
as_rec r = record { i = r.i; j = r.j; ki = r.ki; c = r.c; kj = r.kj }

-- ORDER of two records: equal, or which comes first
unfoldable pub order_of : Rec → Rec → Ordering
order_of a b = cond (rec_same a b) Equal (cond (rec_before a b) Less Greater)

-- AS THE PROGRAM FINDS IT: two numbers, smaller first
abbrev pub numbers_order : (a b : ℕ) → Ordering
numbers_order = nat_cmp

-- the first comparison decides, and where it finds no difference the next
abbrev pub then : Ordering → Ordering → Ordering
then = ordering_then

-- the labels alone: kind of i, then cable kind, then kind of j
unfoldable pub labels_order : Rec → Rec → Ordering
labels_order a b =
    then (numbers_order a.ki b.ki) (then (numbers_order a.c b.c) (numbers_order a.kj b.kj))
