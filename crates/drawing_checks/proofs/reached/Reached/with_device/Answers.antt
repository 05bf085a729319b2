-- `reached::Reached::with_device` meets its contract: one mark is set. Assumes nothing.
use native.Mathlib.Omega.{arith}
use Rattle.drawing_checks.specs.ReachedLaws.{marks_more}
use Rattle.drawing_checks.proofs.reached.Reached.with_device.Goals as goal

pub returns : goal.returns
returns c = record { step = λ vs m. marks_more c.args.self vs c.args.v c.requires.0 m; most = omega arith }
