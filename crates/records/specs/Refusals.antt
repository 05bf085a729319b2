-- The paper's number of each refusal, and of a check's answer: Ok, or the first reason to refuse. Assumes nothing.
use Rattle.std.specs.Prelude.{cond, ℕ, ◌≤◌, ◌<◌, eqb, Result, Ok, Err, ⊤}
use Rattle.std.proofs.Common.{lit<, lit≤}
use Rattle.records.specs.declared.refusal.Refusal.{Refusal}
use Rattle.records.specs.declared.refusal.Refusal.TheVariants.{
  DrawingLength,
  DeviceCount,
  CableCount,
  CableEnd,
  CableLoop,
  CablePair,
  UnusedByte,
  NotConnected,
  CodeLength,
  Step,
  Kind,
  Threshold,
  SizeLimit,
  SurveyLength,
  OutputLength,
  KindCount,
  BookLimit,
  ListLength,
}
use Rattle.records.specs.declared.refusal.Fault.{Fault}

abbrev pub number_of : Refusal → ℕ
number_of DrawingLength = 1
number_of DeviceCount = 2
number_of CableCount = 3
number_of CableEnd = 4
number_of CableLoop = 5
number_of CablePair = 6
number_of UnusedByte = 7
number_of NotConnected = 8
number_of CodeLength = 9
number_of (Step k) = 10
number_of (Kind k) = 11
number_of Threshold = 12
number_of SizeLimit = 13
number_of SurveyLength = 14
number_of OutputLength = 15
number_of KindCount = 16
number_of BookLimit = 17
number_of ListLength = 18

-- 0 where there is nothing to refuse
abbrev pub checked_number : Result ⊤ Refusal → ℕ
checked_number (Ok _) = 0
checked_number (Err r) = number_of r

-- the first that applies of two checks
abbrev pub or_else : Result ⊤ Refusal → Result ⊤ Refusal → Result ⊤ Refusal
or_else (Ok _) c = c
or_else (Err r) c = Err r

-- a reason with no drawing at fault
abbrev pub lone_fault : Refusal → Fault
lone_fault r = record { refusal = r; drawing = 0 }

-- THE FIRST THAT APPLIES of two numbers, where 0 is none
unfoldable pub first_of : ℕ → ℕ → ℕ
first_of a b = cond (eqb a 0) b a

-- THE NUMBERS of the paper are 1 to 18
pub number_range : (r : Refusal) → (0 < number_of r) × (number_of r ≤ 18)
number_range DrawingLength = (lit< tt, lit≤ tt)
number_range DeviceCount = (lit< tt, lit≤ tt)
number_range CableCount = (lit< tt, lit≤ tt)
number_range CableEnd = (lit< tt, lit≤ tt)
number_range CableLoop = (lit< tt, lit≤ tt)
number_range CablePair = (lit< tt, lit≤ tt)
number_range UnusedByte = (lit< tt, lit≤ tt)
number_range NotConnected = (lit< tt, lit≤ tt)
number_range CodeLength = (lit< tt, lit≤ tt)
number_range (Step k) = (lit< tt, lit≤ tt)
number_range (Kind k) = (lit< tt, lit≤ tt)
number_range Threshold = (lit< tt, lit≤ tt)
number_range SizeLimit = (lit< tt, lit≤ tt)
number_range SurveyLength = (lit< tt, lit≤ tt)
number_range OutputLength = (lit< tt, lit≤ tt)
number_range KindCount = (lit< tt, lit≤ tt)
number_range BookLimit = (lit< tt, lit≤ tt)
number_range ListLength = (lit< tt, lit≤ tt)

-- a refusal is told from an acceptance by its number
pub number_positive : (r : Refusal) → 0 < number_of r
number_positive r = (number_range r).0

pub number_small : (r : Refusal) → number_of r ≤ 18
number_small r = (number_range r).1
