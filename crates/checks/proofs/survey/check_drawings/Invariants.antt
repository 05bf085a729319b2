-- `survey::check_drawings` meets its contract. The invariant: what the drawings that are left give is what all give. Assumes nothing.
use Rattle.std.proofs.Common.{◌≡◌, ◌*◌, drop}
use Rattle.std.specs.Iterator.Adapters.{enumerate_source, enumerate_count}
use Rattle.std.specs.Slice.Iter.{chunks_exact_size, chunks_exact_rest}
use Rattle.graphs.specs.Survey.{records_in, drawings_refusal}
use Rattle.checks.specs.SurveyLaws.{drawings_from}
use Rattle.checks.proofs.survey.check_drawings.Given as goal

abbrev pub invariant-loop-drawing : goal.invariant-loop-drawing
invariant-loop-drawing l =
    (goal.iterator-loop-drawing).can_next l.drawing-iterator × (goal.iterator-loop-drawing).is_finite l.drawing-iterator
    × (chunks_exact_size (enumerate_source l.drawing-iterator) ≡ 73)
    × (chunks_exact_rest (enumerate_source l.drawing-iterator) ≡ drop (73 * enumerate_count l.drawing-iterator) l.survey)
    × (drawings_refusal 0 (records_in l.survey) ≡ drawings_from l.survey (enumerate_count l.drawing-iterator))
