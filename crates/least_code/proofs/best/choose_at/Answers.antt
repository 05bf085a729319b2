-- `best::choose_at` meets its contract: the best is cut to t records and goes on, or stays. Assumes nothing.
use mathlib.Core.Path.{sym, ap, ◌∙◌}
use Rattle.codes.specs.Code.{recs_in}
use Rattle.std.specs.declared.cmp.Ordering.{Ordering}
use Rattle.code_records.specs.Records.{as_rec}
use Rattle.least_below.specs.Searches.{chosen_rows}
use Rattle.least_below.specs.SearchBest.{chosen_kept}
use Rattle.least_code.proofs.best.choose_at.Goals as goal

pub returns-in_default : goal.returns-in_default
returns-in_default c =
    let a = c.args in (
      chosen_kept a.order (recs_in a.t a.best.now) (as_rec a.next) (recs_in a.held a.best.now)
          c.in_default.not-Less,
      c.requires.1,
    )

pub returns : goal.returns
returns c =
    let a = c.args in (
      c.put_record.ensures.records
          ∙ ap (λ (o : Ordering). chosen_rows o (recs_in a.t a.best.now) (as_rec a.next) (recs_in a.held a.best.now))
          (sym c.in-Less.is),
      c.put_record.ensures.long ∙ c.requires.1,
    )
