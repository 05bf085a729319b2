-- `search::start` meets its contract: its first record comes after the best's, or all that begins with it is searched.
-- Assumes nothing.
use mathlib.Core.Path.{◌≡◌, ◌∙◌}
use native.Mathlib.Omega.{arith}
use Rattle.graphs.specs.Drawing.{drawing_in}
use Rattle.codes.specs.FirstRecord.{first_record}
use Rattle.code_records.specs.Records.{as_rec}
use Rattle.least_code.specs.SearchStarts.{start_low, makes_first, first_is}
use Rattle.least_code.specs.SearchStartCalls.{start_count, start_left, start_call, start_return}
use Rattle.least_code.proofs.search.start.Goals as goal
use Rattle.least_code.proofs.search.start.Goals.{After-first_record-next}

pub first_record-next-requires : goal.first_record-next-requires
first_record-next-requires c = makes_first c.requires.0

pub order_at-order-requires : goal.order_at-order-requires
order_at-order-requires c =
    (omega arith, start_count c.args.best.now c.args.held c.requires.0, c.requires.2)

-- the record is the cable's
next_is :
    (c : After-first_record-next)
    → let a = c.args in
    as_rec c.first_record-next.result ≡ first_record (drawing_in a.drawing.now) a.cable.a a.cable.b a.cable.kind
next_is c = c.first_record-next.ensures ∙ first_is c.requires.0

pub returns-in-Greater : goal.returns-in-Greater
returns-in-Greater c =
    (start_left c.args.best.now c.args.held c.requires.0 _ (next_is (goal.at.returns-in-Greater c).After-first_record-next) _ c.order_at-order.ensures c.in-Greater.is, c.requires.2)

pub search_first-requires : goal.search_first-requires
search_first-requires c =
    let low = start_low c.requires.0 in (
      low.0,
      low.1,
      start_call c.args.best.now c.args.held c.requires.0 _ (next_is (goal.at.search_first-requires c).After-first_record-next) _ c.order_at-order.ensures c.in_default.not-Greater c.choose_at-kept.new.best
          c.choose_at-kept.result c.choose_at-kept.ensures.0,
      c.requires.1,
      c.choose_at-kept.ensures.1,
    )

pub returns : goal.returns
returns c = (
  start_return c.args.best.now c.args.held c.requires.0 _ (next_is (goal.at.returns c).After-first_record-next) _ c.order_at-order.ensures c.in_default.not-Greater c.choose_at-kept.new.best
      c.choose_at-kept.result c.choose_at-kept.ensures.0 _ c.search_first.ensures.0,
  c.search_first.ensures.1,
)
