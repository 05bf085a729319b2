-- `count::by_cranes` meets its contract. The invariant: what is repeated below d is taken off, and of the drawings of the set that have a
-- later sheet those from d on are left. Assumes nothing.
use mathlib.Core.Path.{◌≡◌, sym, ap, ap₂, ◌∙◌}
use mathlib.Core.List.{List}
use Prim.Native.Nat.{ℕ, ◌+◌, ◌*◌, ◌-◌, ◌/◌, ◌%◌, ◌^◌, ◌<◌}
use native.Mathlib.Nat.{div-le_self}
use native.Mathlib.Omega.{arith}
use lib.Bits.{bit_and, and_le_l}
use lib.Count.{count_trailing_zeros}
use Rattle.laws.specs.Masks.{Bit, bit_and_both, bits_left_next, bit_below, left_none}
use Rattle.laws.specs.LowestBits.{LowestBit, lowest_bit, left_more, lowest_set, lowest_zeros}
use Rattle.growth.specs.Places.{cell_set}
use Rattle.growth.specs.Sheets.{RepeatsTold, later_in, repeated_in, repeated_before, by_cranes}
use Rattle.growth.specs.SheetLaws.{repeated_in_cell, repeated_next, is_repeated_one, is_repeated_none, is_repeated_unless, repeated_skip}
use Rattle.walks.specs.SheetTables.{sheets_of}
use Rattle.sheets.proofs.count.by_cranes.Goals as goal
use Rattle.sheets.proofs.count.by_cranes.Goals.{then-set-later_in-ne0, else-set-later_in-ne0}

pub overflow_cast-set : goal.overflow_cast-set
overflow_cast-set c = omega arith

pub loop-left-init : goal.loop-left-init
unfolding repeated_before
loop-left-init c =
    let set = c.args.cell % (2 ^ 32) in
    (omega arith, omega (arith, ap (bit_and set) c.repeated_in.ensures), omega arith)

-- of the drawings of the set that have a later sheet those from d on are left: the next of them, and what is repeated below it and with it
module _
    (table : List ℕ) (cell d left : ℕ) (is : left ≡ bit_and (cell_set cell) (repeated_in table) / 2 ^ d) (some : left ≡ 0 → ⊥)
  where
    abbrev set : ℕ
    set = cell_set cell

    abbrev in_question : ℕ
    in_question = bit_and set (repeated_in table)

    abbrev next : ℕ
    next = d + count_trailing_zeros 32 left

    in_question_low : in_question < 2 ^ 32
    in_question_low = omega (arith, and_le_l set (repeated_in table))

    lowest : LowestBit 32 left (count_trailing_zeros 32 left)
    lowest = lowest_bit 32 left (omega (arith, is, div-le_self in_question (2 ^ d), in_question_low)) some

    next_there : Bit in_question next
    next_there = lowest_set in_question d is lowest

    next_low : next < 32
    next_low = bit_below in_question 32 next in_question_low next_there

    -- up to it nothing is repeated
    up_to_next : RepeatsTold table → repeated_before table set next ≡ repeated_before table set d
    up_to_next told =
        repeated_skip table set d next (omega arith)
        (λ i from to. is_repeated_unless table set told i (omega (arith, next_low)) (lowest_zeros in_question d is lowest i from to))

    -- the next is repeated
    is_one :
        RepeatsTold table → (bit_and set (later_in table next) ≡ 0 → ⊥)
        → repeated_before table set (next + 1) ≡ repeated_before table set d + 1
    is_one told later =
        repeated_next table set next
        ∙ ap₂ (λ (m n : ℕ). m + n) (up_to_next told)
        (is_repeated_one table set next (bit_and_both set (repeated_in table) next next_there).0 later)

    -- or not
    is_none :
        RepeatsTold table → bit_and set (later_in table next) ≡ 0
        → repeated_before table set (next + 1) ≡ repeated_before table set d + 0
    is_none told e =
        repeated_next table set next ∙ ap₂ (λ (m n : ℕ). m + n) (up_to_next told) (is_repeated_none table set next e)

pub overflow_cast-d : goal.overflow_cast-d
overflow_cast-d c =
    let low = next_low (sheets_of c.args.labels.now) c.args.cell c.loop-left.d c.loop-left.left c.loop-left.invariant.1 c.loop-left-test.true in
    omega (arith, low)

pub overflow_add-d : goal.overflow_add-d
overflow_add-d c =
    let low = next_low (sheets_of c.args.labels.now) c.args.cell c.loop-left.d c.loop-left.left c.loop-left.invariant.1 c.loop-left-test.true in
    omega (arith, low)

pub later_in-requires : goal.later_in-requires
later_in-requires c = next_low (sheets_of c.args.labels.now) c.args.cell _ _ c.loop-left.invariant.1 c.loop-left-test.true

pub overflow_sub-counted : goal.overflow_sub-counted
overflow_sub-counted c =
    let table = sheets_of c.args.labels.now in
    let l = c.loop-left in
    let later = λ (e : bit_and (cell_set c.args.cell) (later_in table (l.d + count_trailing_zeros 32 l.left)) ≡ 0).
    c.if-set-later_in-ne0.true (ap (bit_and (cell_set c.args.cell)) c.later_in.ensures ∙ e) in
    let one = is_one table c.args.cell l.d l.left l.invariant.1 c.loop-left-test.true c.requires.0 later in
    let p = c.requires.1 in
    omega (arith, l.invariant.2, one, repeated_in_cell table p.0 c.args.cell (l.d + count_trailing_zeros 32 l.left + 1) p.1 p.2)

pub overflow_shr-left : goal.overflow_shr-left
overflow_shr-left c =
    (lowest (sheets_of c.args.labels.now) c.args.cell _ _ c.loop-left.invariant.1 c.loop-left-test.true).few

pub overflow_add-d-in-loop-left : goal.overflow_add-d-in-loop-left
overflow_add-d-in-loop-left c =
    let low = next_low (sheets_of c.args.labels.now) c.args.cell c.loop-left.d c.loop-left.left c.loop-left.invariant.1 c.loop-left-test.true in
    omega (arith, low)

pub loop-left-smaller : goal.loop-left-smaller
loop-left-smaller c =
    omega (arith, c.loop-left-test.true, div-le_self c.loop-left.left (2 ^ count_trailing_zeros 32 c.loop-left.left))

pub loop-left-preserved : goal.loop-left-preserved
loop-left-preserved c =
    let table = sheets_of c.args.labels.now in
    let cell = c.args.cell in
    let l = c.loop-left in
    let some = c.loop-left-test.true in
    let x = bit_and (cell_set cell) (repeated_in table) in
    let t = count_trailing_zeros 32 l.left in
    let low = next_low table cell l.d l.left l.invariant.1 some in
    let p = c.requires.1 in
    let counted = repeated_in_cell table p.0 cell (l.d + t + 1) p.1 p.2 in
    let later = ap (bit_and (cell_set cell)) c.later_in.ensures in (
      omega (arith, low),
      ap (λ (n : ℕ). n / 2 ^ t / 2) l.invariant.1 ∙ ap (λ (n : ℕ). n / 2) (left_more x l.d t) ∙ bits_left_next x (l.d + t),
      elim c.if-set-later_in-ne0.branch [
        | then-set-later_in-ne0 w ↦
            let one = is_one table cell l.d l.left l.invariant.1 some c.requires.0 (λ e. w.if-set-later_in-ne0.true (later ∙ e)) in
            omega (arith, w.counted-is, l.invariant.2, one, counted)
        | else-set-later_in-ne0 w ↦
            let none = is_none table cell l.d l.left l.invariant.1 some c.requires.0 (sym later ∙ w.if-set-later_in-ne0.false) in
            omega (arith, w.counted-is, l.invariant.2, none)
      ],
    )

-- no drawing is left
pub returns : goal.returns
unfolding by_cranes
returns c =
    let l = c.loop-left in
    let table = sheets_of c.args.labels.now in
    let set = cell_set c.args.cell in
    l.invariant.2
    ∙ ap (λ (n : ℕ). c.args.cell - (2 ^ 32) * n)
    (sym
    (repeated_skip table set l.d 32 l.invariant.0
    (λ i from to.
    is_repeated_unless table set c.requires.0 i to
    (left_none (bit_and set (repeated_in table)) l.d (sym l.invariant.1 ∙ c.loop-left-test.false) i from))))
