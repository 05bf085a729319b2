-- `mine::mine` meets its contract. The invariant: what begins with a kind below `kind` is listed.
use mathlib.Core.Path.{◌≡◌}
use lib.ListN.{length}
use Rattle.growth.specs.Page.{page}
use Rattle.walks.specs.Kinds.{Occurs}
use Rattle.walks.specs.EmbeddingLists.{ListsSized}
use Rattle.survey_patterns.specs.SurveyMined.{KindsDone}
use Rattle.survey_patterns.proofs.mine.mine.Given as goal

abbrev pub invariant-loop-kind : goal.invariant-loop-kind
invariant-loop-kind l =
    Occurs l.survey l.occurs
    × KindsDone l.survey l.settings (page l.settings.checking l.given l.initial.output) l.kind l.cells l.seen l.list
    (page l.settings.checking l.given l.output) l.written
    × ListsSized l.kept l.ends × (length l.output ≡ length l.initial.output)
