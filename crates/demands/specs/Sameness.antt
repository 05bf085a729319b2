-- Two accepted drawings are told to be the same exactly if coding gives them equal bytes. Assumes nothing.
use Rattle.std.specs.Prelude.{◌≡◌, true, List, ℕ, ◌*◌, ◌≤◌, length, Bool, Result, Ok}
use Rattle.graphs.specs.Drawing.{drawing_in, accepted}
use Rattle.codes.specs.SectionCode.{section_records}
use Rattle.coding.specs.CodeDrawing.{CodeSays}
use Rattle.matching.specs.MatchAnswers.{SameSays}
use Rattle.matching.specs.Outcomes.{same_if_yes, yes_if_same}
use Rattle.demands.specs.Terms.{written_bytes}
use Rattle.demands.specs.Coding.{accepted_refusal, equal_bytes_exactly_same}
use Rattle.records.specs.declared.refusal.Refusal.{Refusal}

module _ (xs ys : List ℕ) (a : accepted xs ≡ true) (b : accepted ys ≡ true)
    (o p : List ℕ) (room : 5 * section_records (drawing_in xs) ≤ length o) (space : 5 * section_records (drawing_in ys) ≤ length p)
    (z w : List ℕ) (r s : Result ℕ Refusal) (first : CodeSays xs r o z) (second : CodeSays ys s p w) where
  pub yes_exactly_equal_bytes :
      (t : Result Bool Refusal) → SameSays xs ys t
      → (t ≡ Ok true → written_bytes r z ≡ written_bytes s w) × (written_bytes r z ≡ written_bytes s w → t ≡ Ok true)
  yes_exactly_equal_bytes t says =
      let e = equal_bytes_exactly_same xs ys a b o p room space z w r s first second in
      let f = accepted_refusal xs a in
      let g = accepted_refusal ys b in
      (λ y. e.1 (same_if_yes xs ys t f g says y), λ q. yes_if_same xs ys t f g says (e.0 q))
