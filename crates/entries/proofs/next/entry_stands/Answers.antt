-- `next::entry_stands` meets its contract: the list is too short, or the entry is held against its own part of it. Assumes nothing.
use Rattle.std.proofs.Common.{◌≡◌, List, ℕ, Bool, sym, ◌∙◌, rules, refl, arith, true≢false}
use Rattle.std.proofs.lemmas.Bool.Decides.{Decides-eqb}
use lib.Dec.{eqb}
use Rattle.std.specs.Cmp.Lexicographic.{pointwise}
use Rattle.std.proofs.lemmas.Slice.Eq.{slice_eq-Decides}
use Rattle.laws.specs.Decides.{Decides}
use Rattle.growth.specs.EntryLaws.{told_size}
use Rattle.growth.specs.PageLaws.{entry_short, entry_held}
use Rattle.entries.specs.Heads.{head_figures}
use Rattle.entries.proofs.next.entry_stands.Goals as goal

-- two rows of bytes that were compared
compared : (xs ys : List ℕ) (r : Bool) → r ≡ pointwise eqb xs ys → Decides r (xs ≡ ys)
compared xs ys r e =
    let d = slice_eq-Decides Decides-eqb xs ys r e in
    record { holds = d.0; fails = λ f p. absurd (true≢false (sym (d.1 p) ∙ f)) }

pub returns-then-list-at-lt-BYTES : goal.returns-then-list-at-lt-BYTES
returns-then-list-at-lt-BYTES c =
    let a = c.args in (
      entry_short _ a.k _ (told_size a.code.now a.head.cables (head_figures a.head) c.requires.0.0 c.requires.0.1) c.requires.1
          (omega arith),
      refl,
    )

pub returns : goal.returns
returns c =
    let a = c.args in
    entry_held _ a.k _ (told_size a.code.now a.head.cables (head_figures a.head) c.requires.0.0 c.requires.0.1)
    (omega arith) (search rules) _
    (compared _ _ _ (rw c.write_entry.ensures at c.eq.ensures))
