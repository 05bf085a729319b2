-- `search::least_code` meets its contract. The invariant: the busiest cable and those before c are seen, both ways round.
-- Assumes nothing.
use mathlib.Core.Path.{refl, sym, ◌∙◌}
use native.Mathlib.Omega.{arith}
use borrow.Author.Rules.{rules}
use Rattle.graphs.specs.Patterns.{accepted_parts}
use Rattle.graphs.specs.Sections.{section_pattern}
use Rattle.tables.specs.TableOfDrawing.{record_section}
use Rattle.least_below.specs.Searches.{Given}
use Rattle.least_code.specs.SearchStartCalls.{no_rows, none_best, first_seen, seen_best, next_seen, skip_seen, all_seen}
use Rattle.least_code.proofs.search.least_code.Goals as goal
use Rattle.least_code.proofs.search.least_code.Goals.{After-labels_of_drawing-table, then-c-busy, else-c-busy}

pub labels_of_drawing-table-requires : goal.labels_of_drawing-table-requires
labels_of_drawing-table-requires c = c.requires.0

-- the drawing, its table and its number of cables
given_at :
    (c : After-labels_of_drawing-table)
    → Given c.args.drawing.now c.labels_of_drawing-table.result c.args.m
given_at c =
    let count = (accepted_parts c.args.drawing.now c.requires.0).cable_count ∙ sym c.requires.1 in
    record {
      accepted = c.requires.0;
      pattern =
          section_pattern (record_section (record { bytes = λ i. omega (arith, c.type_inv.drawing i); accepted = c.requires.0 }))
          (omega (arith, count, c.requires.2));
      labels = c.labels_of_drawing-table.ensures;
      cables = count;
    }

pub start_either-held-requires : goal.start_either-held-requires
start_either-held-requires c = (
  record { given = given_at (goal.at.start_either-held-requires c).After-labels_of_drawing-table; below = c.busiest-busy.ensures; so_far = none_best _ _ (no_rows _) },
  c.twins_of-twins.ensures,
  refl,
)

pub loop-c-init : goal.loop-c-init
loop-c-init c =
    let e = c.start_either-held.ensures in
    (search rules, e.1, first_seen _ _ _ _ (no_rows _) e.0)

pub start_either-held-requires-then-c-busy : goal.start_either-held-requires-then-c-busy
start_either-held-requires-then-c-busy c = (
  record {
    given = given_at (goal.at.start_either-held-requires-then-c-busy c).After-labels_of_drawing-table;
    below = c.loop-c-test.true;
    so_far = seen_best _ c.busiest-busy.result c.loop-c.c _ c.loop-c.invariant.2;
  },
  c.twins_of-twins.ensures,
  c.loop-c.invariant.1,
)

pub overflow_step-c : goal.overflow_step-c
overflow_step-c c =
    omega (arith, c.loop-c-test.true, c.ranges.m)

pub loop-c-preserved : goal.loop-c-preserved
loop-c-preserved c =
    let busy = c.busiest-busy.result in (
      search rules,
      elim c.if-c-busy.branch [
        | then-c-busy w ↦ rw w.records-is w.start_either-held-then-c-busy.ensures.1
        | else-c-busy w ↦ rw w.records-is c.loop-c.invariant.1
      ],
      elim c.if-c-busy.branch [
        | then-c-busy w ↦
            rw (w.records-is, w.held-is) (next_seen _ busy c.loop-c.c _ c.loop-c.invariant.2 _ w.start_either-held-then-c-busy.ensures.0)
        | else-c-busy w ↦
            rw (w.records-is, w.held-is) (skip_seen _ busy c.loop-c.c _ c.loop-c.invariant.2 (omega (arith, w.if-c-busy.false)))
      ],
    )

pub returns : goal.returns
returns c =
    all_seen _ c.busiest-busy.result c.loop-c.c _ c.loop-c.invariant.2 (given_at (goal.at.returns c).After-labels_of_drawing-table)
    (omega (arith, c.loop-c.invariant.0, c.loop-c-test.false))
