-- `met::meet_forward` meets its contract: each test leaves a smaller question. Assumes nothing.
use mathlib.Core.Path.{sym, ◌∙◌}
use Rattle.least_seen.specs.MeetingLaws.{row_places, row_counts, row_marked, row_front_place, row_on_path, row_front_before, row_front_lower, row_front_same, row_front_later}
use Rattle.least_seen.proofs.met.meet_forward.Goals as goal

pub place_of-q-requires : goal.place_of-q-requires
place_of-q-requires c =
    let n = c.requires.0.3 in
    ((row_counts n).1, row_front_place n c.requires.1)

pub some_before-requires : goal.some_before-requires
some_before-requires c =
    let n = c.requires.0.3 in
    ((row_counts n).0, c.place_of-q.ensures.0, row_places n, row_marked n)

pub returns-then-some_before : goal.returns-then-some_before
returns-then-some_before c d γ given n =
    row_front_before n c.requires.1 _ c.place_of-q.ensures.0 c.place_of-q.ensures.1 (c.some_before.ensures.holds c.if-some_before.true)

pub least_edge-least-requires : goal.least_edge-least-requires
least_edge-least-requires c =
    let n = c.requires.0.3 in
    (row_on_path n c.requires.1 _ c.place_of-q.ensures.0 c.place_of-q.ensures.1, (row_marked n).size)

pub returns-then-is_lower : goal.returns-then-is_lower
returns-then-is_lower c d γ given n =
    let a = c.args in
    row_front_lower n c.requires.1 _ c.place_of-q.ensures.0 c.place_of-q.ensures.1 c.label_of-wanted.ensures.1
    (c.some_before.ensures.fails c.if-some_before.false) _ (c.least_edge-least.ensures a.count given a.low)
    (rw (← c.label_of-wanted.ensures.0) (c.is_lower.ensures.holds c.if-is_lower.true))

pub returns-then-least-wanted : goal.returns-then-least-wanted
returns-then-least-wanted c d γ given n =
    let a = c.args in
    row_front_same n c.requires.1 _ c.place_of-q.ensures.0 c.place_of-q.ensures.1 c.label_of-wanted.ensures.1
    (c.some_before.ensures.fails c.if-some_before.false) _ (c.least_edge-least.ensures a.count given a.low)
    (c.if-least-wanted.true ∙ c.label_of-wanted.ensures.0)

pub returns : goal.returns
returns c d γ given n =
    let a = c.args in
    row_front_later n c.requires.1 _ c.place_of-q.ensures.0 c.place_of-q.ensures.1 c.label_of-wanted.ensures.1
    (c.some_before.ensures.fails c.if-some_before.false) _ (c.least_edge-least.ensures a.count given a.low)
    (λ x. c.is_lower.ensures.fails c.if-is_lower.false (rw c.label_of-wanted.ensures.0 x)) (λ x. c.if-least-wanted.false (x ∙ sym c.label_of-wanted.ensures.0))
