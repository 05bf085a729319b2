-- `refusal::number` meets its contract: each case has its number. Assumes nothing.
use mathlib.Core.Path.{sym, ap}
use Rattle.records.specs.Refusals.{number_of}
use Rattle.records.proofs.refusal.Refusal.number.Goals as goal

pub returns-in-DrawingLength : goal.returns-in-DrawingLength
returns-in-DrawingLength c = sym (ap number_of c.in-DrawingLength.is)

pub returns-in-DeviceCount : goal.returns-in-DeviceCount
returns-in-DeviceCount c = sym (ap number_of c.in-DeviceCount.is)

pub returns-in-CableCount : goal.returns-in-CableCount
returns-in-CableCount c = sym (ap number_of c.in-CableCount.is)

pub returns-in-CableEnd : goal.returns-in-CableEnd
returns-in-CableEnd c = sym (ap number_of c.in-CableEnd.is)

pub returns-in-CableLoop : goal.returns-in-CableLoop
returns-in-CableLoop c = sym (ap number_of c.in-CableLoop.is)

pub returns-in-CablePair : goal.returns-in-CablePair
returns-in-CablePair c = sym (ap number_of c.in-CablePair.is)

pub returns-in-UnusedByte : goal.returns-in-UnusedByte
returns-in-UnusedByte c = sym (ap number_of c.in-UnusedByte.is)

pub returns-in-NotConnected : goal.returns-in-NotConnected
returns-in-NotConnected c = sym (ap number_of c.in-NotConnected.is)

pub returns-in-CodeLength : goal.returns-in-CodeLength
returns-in-CodeLength c = sym (ap number_of c.in-CodeLength.is)

pub returns-in-Step : goal.returns-in-Step
returns-in-Step c = sym (ap number_of c.in-Step.is)

pub returns-in-Kind : goal.returns-in-Kind
returns-in-Kind c = sym (ap number_of c.in-Kind.is)

pub returns-in-Threshold : goal.returns-in-Threshold
returns-in-Threshold c = sym (ap number_of c.in-Threshold.is)

pub returns-in-SizeLimit : goal.returns-in-SizeLimit
returns-in-SizeLimit c = sym (ap number_of c.in-SizeLimit.is)

pub returns-in-SurveyLength : goal.returns-in-SurveyLength
returns-in-SurveyLength c = sym (ap number_of c.in-SurveyLength.is)

pub returns-in-OutputLength : goal.returns-in-OutputLength
returns-in-OutputLength c = sym (ap number_of c.in-OutputLength.is)

pub returns-in-KindCount : goal.returns-in-KindCount
returns-in-KindCount c = sym (ap number_of c.in-KindCount.is)

pub returns-in-BookLimit : goal.returns-in-BookLimit
returns-in-BookLimit c = sym (ap number_of c.in-BookLimit.is)

pub returns-in-ListLength : goal.returns-in-ListLength
returns-in-ListLength c = sym (ap number_of c.in-ListLength.is)
