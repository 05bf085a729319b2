-- What each call of the C interface returns: the number of an answer that the library's own definition allows. Assumes nothing:
-- these are definitions.
use Rattle.std.specs.Prelude.{◌≡◌, Bool, List, Option, Result, ℕ}
use Rattle.code_checks.specs.declared.answer.Verdict.{Verdict}
use Rattle.code_checks.specs.declared.answer.Comparison.{Comparison}
use Rattle.code_checks.specs.Answers.{written_numbers, verdict_numbers, compared_numbers}
use Rattle.coding.specs.CodeDrawing.{CodeSays}
use Rattle.decoding.specs.Decoding.{DecodeSays}
use Rattle.coding.specs.LeastSays.{LeastSays}
use Rattle.comparing.specs.Comparing.{CompareSays}
use Rattle.matching.specs.MatchAnswers.{match_refusal, match_count, same_refusal, same_value, MatchSays, SameSays}
use Rattle.records.specs.declared.refusal.Refusal.{Refusal}
use Rattle.records.specs.declared.refusal.Fault.{Fault}
use Rattle.records.specs.Catalogued.{catalogued_refusal, catalogued_count}
use Rattle.records.specs.ListsChecked.{list_refusal, list_value}
use Rattle.mining.specs.CatalogueSays.{CatalogueSays}
use Rattle.mining.specs.CheckSays.{CheckSays}
use Rattle.pattern_book.specs.BookSays.{BookSays}
use Rattle.answer_numbers.specs.Packed.{packed, packed_numbers}

pub record CodeReturns (drawing : List ℕ) (x : ℕ) (out out_now : List ℕ) : Type 0 where
  pub answer : Result ℕ Refusal
  pub says : CodeSays drawing answer out out_now
  pub number : x ≡ packed_numbers (written_numbers answer)

pub record DecodeReturns (code : List ℕ) (x : ℕ) (out out_now : List ℕ) : Type 0 where
  pub answer : Result ℕ Refusal
  pub says : DecodeSays code answer out out_now
  pub number : x ≡ packed_numbers (written_numbers answer)

pub record LeastReturns (code : List ℕ) (x : ℕ) : Type 0 where
  pub answer : Result Verdict Refusal
  pub says : LeastSays code answer
  pub number : x ≡ packed_numbers (verdict_numbers answer)

pub record CompareReturns (first second : List ℕ) (x : ℕ) : Type 0 where
  pub answer : Result Comparison Refusal
  pub says : CompareSays first second answer
  pub number : x ≡ packed_numbers (compared_numbers answer)

pub record MatchReturns (pattern drawing : List ℕ) (x : ℕ) (out out_now : List ℕ) : Type 0 where
  pub answer : Result (Option ℕ) Refusal
  pub says : MatchSays pattern drawing answer out out_now
  pub number : x ≡ packed (match_refusal answer) (match_count answer) 0

pub record SameReturns (first second : List ℕ) (x : ℕ) : Type 0 where
  pub answer : Result Bool Refusal
  pub says : SameSays first second answer
  pub number : x ≡ packed (same_refusal answer) (same_value answer) 0

pub record CatalogueReturns (survey : List ℕ) (s l x : ℕ) (out out_now : List ℕ) : Type 0 where
  pub answer : Result ℕ Fault
  pub says : CatalogueSays survey s l answer out out_now
  pub number : x ≡ packed (catalogued_refusal answer).number (catalogued_count answer) (catalogued_refusal answer).drawing

pub record BookReturns (a b l x : ℕ) (out out_now : List ℕ) : Type 0 where
  pub answer : Result ℕ Fault
  pub says : BookSays a b l answer out out_now
  pub number : x ≡ packed (catalogued_refusal answer).number (catalogued_count answer) (catalogued_refusal answer).drawing

pub record CheckReturns (survey : List ℕ) (s l : ℕ) (list : List ℕ) (x : ℕ) : Type 0 where
  pub answer : Result Bool Fault
  pub says : CheckSays survey s l list answer
  pub number : x ≡ packed (list_refusal answer).number (list_value answer) (list_refusal answer).drawing
