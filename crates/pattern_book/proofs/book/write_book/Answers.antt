-- `book::write_book` meets its contract: each return has the tests that lead to it. Assumes nothing.
use Rattle.std.proofs.Common.{refl, sym, ◌∙◌, arith}
use Rattle.books.specs.BookSettings.{setting_within}
use Rattle.pattern_book.specs.BookWritten.{says_first, says_second, says_book_limit, says_book}
use Rattle.pattern_book.proofs.book.write_book.Goals as goal
use Rattle.pattern_book.proofs.book.write_book.Goals.{
  then-not-one_to_three-via-then-not-one_to_three,
  then-not-one_to_three-via-else-not-one_to_three+then-not-one_to_three-2,
}

-- at least one cable; it stands first, so that a book of no cables that is let in fails here
pub invariant_of-write_small : goal.invariant_of-write_small
invariant_of-write_small c =
    let a = c.args in
    record { limit_some = (setting_within a.limit (sym c.one_to_three-2.ensures ∙ c.if-not-one_to_three-3.false)).0 }

pub returns-then-not-one_to_three : goal.returns-then-not-one_to_three
returns-then-not-one_to_three c =
    let a = c.args in
    rw c.into.ensures
    (elim c.then-not-one_to_three.branch [
      | then-not-one_to_three-via-then-not-one_to_three w ↦ says_first a.a a.b a.limit a.output.now _
          (sym c.one_to_three.ensures ∙ w.if-not-one_to_three.true) refl
      | then-not-one_to_three-via-else-not-one_to_three+then-not-one_to_three-2 w ↦ says_second a.a a.b a.limit a.output.now _
          (sym c.one_to_three.ensures ∙ w.if-not-one_to_three.false)
          (sym w.one_to_three-else-not-one_to_three.ensures ∙ w.if-not-one_to_three-2.true) refl
    ])

pub returns-then-not-one_to_three-3 : goal.returns-then-not-one_to_three-3
returns-then-not-one_to_three-3 c =
    let a = c.args in
    let first = sym c.one_to_three.ensures ∙ c.if-not-one_to_three.false in
    let second = sym c.one_to_three-else-not-one_to_three.ensures ∙ c.if-not-one_to_three-2.false in
    rw c.into-then-not-one_to_three-3.ensures
    (says_book_limit a.a a.b a.limit a.output.now _ first second (sym c.one_to_three-2.ensures ∙ c.if-not-one_to_three-3.true) refl)

-- both bounds stand by for each number of kinds, so that numbers exchanged fail at what is answered, and not here
pub invariant_of-bounds : goal.invariant_of-bounds
invariant_of-bounds c =
    let a = c.args in
    let x = setting_within a.a (sym c.one_to_three.ensures ∙ c.if-not-one_to_three.false) in
    let y = setting_within a.b (sym c.one_to_three-else-not-one_to_three.ensures ∙ c.if-not-one_to_three-2.false) in
    let l = setting_within a.limit (sym c.one_to_three-2.ensures ∙ c.if-not-one_to_three-3.false) in
    record { devices_few = omega (arith, x.1, y.1); cables_few = omega (arith, x.1, y.1); limit_few = l.1 }

pub returns : goal.returns
returns c =
    let a = c.args in
    let first = sym c.one_to_three.ensures ∙ c.if-not-one_to_three.false in
    let second = sym c.one_to_three-else-not-one_to_three.ensures ∙ c.if-not-one_to_three-2.false in
    let third = sym c.one_to_three-2.ensures ∙ c.if-not-one_to_three-3.false in
    says_book a.a a.b a.limit a.output.now _ first second c.write_small.result third c.write_small.ensures
