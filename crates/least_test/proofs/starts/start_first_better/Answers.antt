-- `starts::start_first_better` meets its contract: the first record decides, or the branch that it begins. Assumes nothing.
use Rattle.std.proofs.Common.{◌≡◌}
use Rattle.std.proofs.lemmas.Cmp.{ranked}
use Rattle.laws.specs.Rows.{row}
use Rattle.codes.specs.Code.{rec_in}
use Rattle.code_records.specs.Records.{as_rec}
use Rattle.least_test.specs.LeastStarts.{begins, seen_low, same_start, start_follows}
use Rattle.least_test.specs.FirstStartLaws.{start_behind, start_ahead, start_followed, start_settled}
use Rattle.least_test.proofs.starts.start_first_better.Goals as goal
use Rattle.least_test.proofs.starts.start_first_better.Goals.{In-Equal}

pub returns-in-Less : goal.returns-in-Less
returns-in-Less c =
    let p = c.requires in
    start_ahead c.args.code.now p.0.tabled.accepted p.2 _ p.1 p.0.records c.labels_number.ensures p.3
    (ranked _ _ _ c.in-Less.ensures)

-- the labels are those of the first record
same :
    (c : In-Equal)
    → let a = c.args in
    begins (as_rec a.cable) ≡ rec_in (row 5 0 a.code.now)
same c =
    let p = c.requires in
    same_start c.args.code.now p.0.tabled.accepted p.2 c.labels_number.ensures p.3 (ranked _ _ _ c.in-Equal.ensures)

pub branch_first_better-requires : goal.branch_first_better-requires
branch_first_better-requires c =
    let p = c.requires in
    let bs = c.args.code.now in
    let low = seen_low bs p.0.tabled.accepted p.2 in
    rw (c.from.ensures, c.from-in-Equal.ensures) (
      low.0,
      low.1,
      record {
        counted = p.0;
        low = p.1;
        follows = start_follows bs p.0.tabled.accepted p.2 (same (goal.at.branch_first_better-requires c).In-Equal) p.0.tabled.labels;
      },
      p.5,
    )

pub returns-in-Equal : goal.returns-in-Equal
returns-in-Equal c =
    let p = c.requires in
    start_followed c.args.code.now p.0.tabled.accepted p.2 _ p.1 p.0.records (same (goal.at.returns-in-Equal c).In-Equal)
    (rw (c.from.ensures, c.from-in-Equal.ensures) at c.branch_first_better.ensures)

pub returns-in-Equal-2 : goal.returns-in-Equal-2
returns-in-Equal-2 c =
    let p = c.requires in
    start_settled c.args.code.now p.0.tabled.accepted p.2 _ p.1 p.0.records (same (goal.at.returns-in-Equal-2 c).In-Equal)
    (p.4 c.if-follow.false)

pub returns-in-Greater : goal.returns-in-Greater
returns-in-Greater c =
    let p = c.requires in
    start_behind c.args.code.now p.0.tabled.accepted p.2 _ p.1 p.0.records c.labels_number.ensures p.3
    (ranked _ _ _ c.in-Greater.ensures)
