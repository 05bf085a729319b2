-- `part::drawing_part` meets its contract: the part begins 73 bytes further on for each drawing before it. Assumes nothing.
use Rattle.std.proofs.Common.{ℕ, ◌*◌, ◌<◌, ap, add_comm, arith}
use Rattle.graphs.specs.Survey.{drawing_count}
use Rattle.graphs.specs.AcceptedSurvey.{drawing_part}
use Rattle.reader.proofs.part.drawing_part.Goals as goal

pub returns : goal.returns
returns c =
    let below : c.args.d < drawing_count c.args.survey.now = omega arith in
    record {
      bytes = λ h. drawing_part c.args.survey.now c.args.d;
      place = λ h. ap (λ (o : ℕ). (c.args.survey.ref_ptr.0, o)) (add_comm (73 * c.args.d) c.args.survey.ref_ptr.1);
      none = λ h. absurd (omega arith);
    }
