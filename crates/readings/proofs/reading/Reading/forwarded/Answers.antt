-- `reading::Reading::forwarded` meets its contract: a record, a kind and the end of the path more. Assumes nothing.
use Rattle.std.proofs.Common.{arith, rules}
use Rattle.code_records.specs.Records.{as_rec}
use Rattle.readings.specs.StepLaws.{in_range, steps_forward}
use Rattle.readings.proofs.reading.Reading.forwarded.Goals as goal

pub bounds-kinds-i : goal.bounds-kinds-i
bounds-kinds-i c =
    let r = in_range c.args.self (search rules) (search rules) (as_rec c.args.next) c.args.place c.requires.0 c.requires.1 c.requires.2 in
    omega (arith, r.first, c.from-i.ensures)

pub bounds-kinds-j : goal.bounds-kinds-j
bounds-kinds-j c =
    let r = in_range c.args.self (search rules) (search rules) (as_rec c.args.next) c.args.place c.requires.0 c.requires.1 c.requires.2 in
    omega (arith, r.second, c.from-j.ensures)

pub bounds-longer-place : goal.bounds-longer-place
bounds-longer-place c =
    let r = in_range c.args.self (search rules) (search rules) (as_rec c.args.next) c.args.place c.requires.0 c.requires.1 c.requires.2 in
    omega (arith, r.place)

pub bounds-longer-place-2 : goal.bounds-longer-place-2
bounds-longer-place-2 c =
    let r = in_range c.args.self (search rules) (search rules) (as_rec c.args.next) c.args.place c.requires.0 c.requires.1 c.requires.2 in
    r.place

pub overflow_add-longer-2 : goal.overflow_add-longer-2
overflow_add-longer-2 c =
    let r = in_range c.args.self (search rules) (search rules) (as_rec c.args.next) c.args.place c.requires.0 c.requires.1 c.requires.2 in
    omega (arith, r.place)

pub returns : goal.returns
returns c =
    rw (c.from-i.ensures, c.from-j.ensures)
    (steps_forward c.args.self (search rules) (search rules) (as_rec c.args.next) c.args.place c.requires.0 c.requires.1 c.requires.2
    c.with_record-longer.result c.with_record-longer.ensures)
