-- `best::order_at` meets its contract: record t of the best is read, where it has one. Assumes nothing.
use mathlib.Core.Path.{sym, ap, ◌∙◌, subst}
use Rattle.codes.specs.Code.{recs_in}
use Rattle.code_records.specs.Records.{as_rec, order_of}
use Rattle.least_below.specs.Searches.{Against}
use Rattle.least_below.specs.SearchBest.{against_nothing, against_record}
use Rattle.least_code.proofs.best.order_at.Goals as goal

pub returns-then-held-t : goal.returns-then-held-t
returns-then-held-t c =
    let a = c.args in
    against_nothing a.best.now a.held a.t (as_rec a.next) c.requires.0 c.if-held-t.true

pub returns : goal.returns
returns c =
    let a = c.args in
    subst (Against (recs_in a.t a.best.now) (recs_in a.held a.best.now) (as_rec a.next))
    (sym (c.order.ensures ∙ ap (order_of (as_rec a.next)) c.at.ensures))
    (against_record a.best.now a.held a.t (as_rec a.next) c.if-held-t.false)
