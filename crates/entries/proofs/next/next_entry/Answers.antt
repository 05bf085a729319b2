-- `next::next_entry` meets its contract: the page is the list that is given, or the output. Assumes nothing.
use Rattle.entries.proofs.next.next_entry.Goals as goal

pub entry_stands-requires : goal.entry_stands-requires
entry_stands-requires c =
    let p = c.requires in
    (p.0, rw c.if-checking.true at p.1)

pub returns-then-checking : goal.returns-then-checking
returns-then-checking c = rw c.if-checking.true c.entry_stands.ensures

pub write_next-requires : goal.write_next-requires
write_next-requires c =
    let p = c.requires in
    (p.0, rw c.if-checking.false at p.1)

pub returns : goal.returns
returns c = rw c.if-checking.false c.write_next.ensures
