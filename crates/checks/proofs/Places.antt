-- What tells a check's answer place by place: lemmas that the checks of src/ name. Assumes nothing.
use Rattle.records.specs.DrawingLaws.{size_refused, counts_known, counts_refused, cables_refused, rest_refused, unused_kinds, unused_cables}
use Rattle.records.specs.RefusalLaws.{refused_number, refused_positive, accepted_zero}
use Rattle.checks.specs.SurveyLaws.{length_passed, length_turned_back, answer_refused}

pub ruleset unused_places = (unused_kinds, unused_cables)

pub ruleset drawing_places = (size_refused, counts_known, counts_refused, cables_refused, rest_refused)

pub ruleset survey_places = (length_passed, length_turned_back, answer_refused, refused_number, refused_positive, accepted_zero)
