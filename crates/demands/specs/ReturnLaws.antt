-- The number that a call returns tells its refusal and its count: no count reaches 2^32. Rests on what each call says.
-- Assumes nothing.
use Rattle.std.specs.Prelude.{◌≡◌, refl, cond, true, ◌&&◌, List, ℕ, zero, suc, ◌≤◌, leb, eqb, length, Bool, false, Option, Some, None, ⊤, Result, Ok, Err}
use Rattle.std.proofs.Common.{arith, lit≤, leb-true}
use Rattle.laws.specs.Tests.{and_split}
use Rattle.graphs.specs.Drawing.{Drawing, drawing_in}
use Rattle.codes.specs.Code.{Rec}
use Rattle.codes.specs.SectionCode.{records_refusal, records_good}
use Rattle.codes.specs.CodeBytes.{rec_bytes_length}
use Rattle.code_checks.specs.Answers.{
  order_number,
  Numbers,
  written_numbers,
  verdict_agreement,
  verdict_numbers,
  compared_agreement,
  compared_numbers,
  put_answer,
}
use Rattle.records.specs.Refusals.{or_else, number_small}
use Rattle.code_checks.specs.SectionChecks.{section_code_checked}
use Rattle.coding.specs.CodeDrawing.{coding_refusal, CodeAs, CodeSays}
use Rattle.coding.specs.LeastSaysLaws.{least_agreement_most}
use Rattle.comparing.specs.ComparingLaws.{compare_agreement_most}
use Rattle.decoding.specs.Decoding.{decode_checked, decoded_bytes}
use Rattle.decoding.specs.DecodingLaws.{decoded_length}
use Rattle.matching.specs.MatchAnswers.{match_refusal, match_count, same_refusal, same_value, MatchSays}
use Rattle.graphs.specs.AcceptedDrawing.{accepted_most}
use Rattle.matching.specs.Outcomes.{match_answers, written_map}
use Rattle.answer_numbers.specs.PackedLaws.{Tells, packed_tells}
use Rattle.answer_numbers.specs.Packed.{packed}
use Rattle.holvreiz.specs.Returns.{
  CodeReturns,
  DecodeReturns,
  LeastReturns,
  CompareReturns,
  MatchReturns,
  SameReturns,
}
use Rattle.records.specs.declared.refusal.Refusal.{Refusal}
use Rattle.code_checks.specs.declared.answer.Verdict.{Verdict}
use Rattle.code_checks.specs.declared.answer.Comparison.{Comparison}
use Rattle.std.specs.declared.cmp.Ordering.{Ordering}
use Rattle.std.specs.declared.cmp.Ordering.TheVariants.{Less, Equal, Greater}

-- A NUMBER that is packed tells its parts, if its refusal is one of the paper's and its count is small
abbrev TellsNumbers : (x : ℕ) → Numbers → Type 0
TellsNumbers x n = Tells x n.refusal n.count 0

returned : {x : ℕ} (n c : ℕ) → x ≡ packed n c 0 → n ≤ 18 → c ≤ 5122 → Tells x n c 0
returned n c e h g = rw e (packed_tells n c 0 (omega arith) (omega arith))

-- CODING: at most 20 records
written_refusal : (r : Result ℕ Refusal) → (written_numbers r).refusal ≤ 18
written_refusal (Ok n) = lit≤ tt
written_refusal (Err x) = number_small x

code_few : (rs : List Rec) → records_good rs ≡ true → length rs ≤ 20
unfolding records_good
code_few rs g =
    let size = (and_split (leb 1 (length rs) && leb (length rs) 20) (eqb (records_refusal rs) 0) g).0 in
    leb-true (length rs) 20 (and_split (leb 1 (length rs)) (leb (length rs) 20) size).1

code_as_count : (n : ℕ) (d : Drawing) (r : Result ℕ Refusal) (o z : List ℕ) → CodeAs n d r o z → (written_numbers r).count ≤ 5122
unfolding CodeAs
code_as_count zero d r o z s =
    rw s.answer (omega (arith, rec_bytes_length s.code, code_few s.code s.least.code.good))
code_as_count (suc n) d r o z s = rw s.answer (lit≤ tt)

pub code_tells : {xs : List ℕ} {x : ℕ} {o z : List ℕ} (c : CodeReturns xs x o z) → TellsNumbers x (written_numbers c.answer)
unfolding CodeSays
code_tells {xs} {x} {o} {z} c =
    returned _ _ c.number (written_refusal c.answer) (code_as_count (coding_refusal xs o) (drawing_in xs) c.answer o z c.says)

-- DECODING: 73 bytes
first_accepted : (a b : Result ⊤ Refusal) → or_else a b ≡ Ok tt → a ≡ Ok tt
first_accepted (Ok _) b e = refl
first_accepted (Err r) b e = e

decode_count : (bs o : List ℕ) (c : Result ⊤ Refusal) → decode_checked bs o ≡ c → (written_numbers (put_answer c (decoded_bytes bs))).count ≤ 5122
unfolding decode_checked
decode_count bs o (Ok _) e =
    omega (arith, decoded_length bs o (first_accepted (section_code_checked bs) _ e))
decode_count bs o (Err r) e = lit≤ tt

pub decode_tells : {bs : List ℕ} {x : ℕ} {o z : List ℕ} (c : DecodeReturns bs x o z) → TellsNumbers x (written_numbers c.answer)
decode_tells {bs} {x} {o} {z} c =
    returned _ _ c.number (written_refusal c.answer) (rw c.says.answer (decode_count bs o (decode_checked bs o) refl))

-- THE LEAST TEST AND COMPARING: codes agree in at most 20 records
verdict_small : (v : Result Verdict Refusal) → verdict_agreement v ≤ 20 → ((verdict_numbers v).refusal ≤ 18) × ((verdict_numbers v).count ≤ 5122)
verdict_small (Ok v) h = (lit≤ tt, omega (arith, cond_small v.least))
  where
    cond_small : (b : Bool) → cond b 1 0 ≤ 1
    cond_small true = omega arith
    cond_small false = omega arith
verdict_small (Err r) h = (number_small r, lit≤ tt)

pub least_tells : {bs : List ℕ} {x : ℕ} (c : LeastReturns bs x) → TellsNumbers x (verdict_numbers c.answer)
least_tells {bs} c =
    let s = verdict_small c.answer (least_agreement_most bs c.answer c.says) in returned _ _ c.number s.0 s.1

compared_small : (r : Result Comparison Refusal) → compared_agreement r ≤ 20 → ((compared_numbers r).refusal ≤ 18) × ((compared_numbers r).count ≤ 5122)
compared_small (Ok c) h = (lit≤ tt, omega (arith, order_small c.order))
  where
    order_small : (o : Ordering) → order_number o ≤ 2
    order_small Equal = omega arith
    order_small Less = omega arith
    order_small Greater = omega arith
compared_small (Err r) h = (number_small r, lit≤ tt)

pub compare_tells : {xs ys : List ℕ} {x : ℕ} (c : CompareReturns xs ys x) → TellsNumbers x (compared_numbers c.answer)
compare_tells {xs} {ys} c =
    let s = compared_small c.answer (compare_agreement_most xs ys c.answer c.says) in returned _ _ c.number s.0 s.1

-- MATCHING: at most 10 devices
match_small : (xs ys : List ℕ) (r : Result (Option ℕ) Refusal) (o z : List ℕ) → MatchSays xs ys r o z → (match_refusal r ≤ 18) × (match_count r ≤ 5122)
match_small xs ys (Ok (Some n)) o z s =
    let a = match_answers s refl in
    let w = written_map a n refl in
    (lit≤ tt, omega (arith, w.3, accepted_most xs a.pattern))
match_small xs ys (Ok None) o z s = (lit≤ tt, lit≤ tt)
match_small xs ys (Err r) o z s = (number_small r, lit≤ tt)

pub match_tells :
    {xs ys : List ℕ} {x : ℕ} {o z : List ℕ} (c : MatchReturns xs ys x o z) → Tells x (match_refusal c.answer) (match_count c.answer) 0
match_tells {xs} {ys} {x} {o} {z} c = let s = match_small xs ys c.answer o z c.says in returned _ _ c.number s.0 s.1

same_small : (r : Result Bool Refusal) → (same_refusal r ≤ 18) × (same_value r ≤ 5122)
same_small (Ok true) = (lit≤ tt, lit≤ tt)
same_small (Ok false) = (lit≤ tt, lit≤ tt)
same_small (Err r) = (number_small r, lit≤ tt)

pub sameness_tells : {xs ys : List ℕ} {x : ℕ} (c : SameReturns xs ys x) → Tells x (same_refusal c.answer) (same_value c.answer) 0
sameness_tells c = let s = same_small c.answer in returned _ _ c.number s.0 s.1
