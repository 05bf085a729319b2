-- A code that grows in place: what does not reach its records leaves them and its kinds as they were, and five stores behind them are
-- one record more. Assumes nothing.
use Rattle.std.specs.Prelude.{◌≡◌, refl, List, ℕ, ◌+◌, ◌≤◌}
use Rattle.std.proofs.Common.{sym, ◌∙◌, subst, mul-le-mul_left, arith}
use Rattle.laws.specs.Rows.{rows}
use Rattle.codes.specs.Code.{Rec, fresh, recs_in, read_rows}
use Rattle.codes.specs.CodeFronts.{front_shorter, front_then, front_records_kept}
use Rattle.extending.specs.HeldCode.{KindsHeld, CodeSized, CodeHeld, CodeKept, Appended}

-- BOTH ARRAYS, one change after the other
pub code_same : {m n : ℕ} {code kinds : List ℕ} → CodeSized code kinds → CodeKept m n code kinds code kinds
code_same s = record { sized = s; front = record { is = refl }; met = record { is = refl } }

code_then : {m n k l : ℕ} {code kinds code₁ kinds₁ code₂ kinds₂ : List ℕ} → m ≤ k → n ≤ l
    → CodeKept m n code kinds code₁ kinds₁ → CodeKept k l code₁ kinds₁ code₂ kinds₂ → CodeKept m n code kinds code₂ kinds₂
code_then h g a b =
    record {
      sized = b.sized;
      front = front_then a.front (front_shorter (mul-le-mul_left 5 h) b.front);
      met = front_then a.met (front_shorter g b.met);
    }

-- a record more, and what grew from the code with it
pub code_grown : {m n more : ℕ} {e : Rec} {code kinds code₁ kinds₁ code₂ kinds₂ code₃ kinds₃ : List ℕ} → CodeKept m n code kinds code₁ kinds₁
    → Appended code₁ kinds₁ m n e code₂ kinds₂ more → CodeKept (m + 1) more code₂ kinds₂ code₃ kinds₃ → CodeKept m n code kinds code₃ kinds₃
code_grown a p b = code_then (omega arith) (omega arith) a (code_then (omega arith) p.no_fewer p.kept b)

-- THE CODE THAT STAYS, with its kinds
module _ {m n : ℕ} {code kinds code₁ kinds₁ : List ℕ} (most : m ≤ 20) (s : CodeSized code kinds) (k : CodeKept m n code kinds code₁ kinds₁) where
  pub records_kept : recs_in m code₁ ≡ recs_in m code
  records_kept = front_records_kept m (omega (arith, s.long)) (omega (arith, k.sized.long)) k.front

  pub kinds_held_on : KindsHeld (recs_in m code) kinds n → KindsHeld (recs_in m code) kinds₁ n
  kinds_held_on h = record { count = h.count; are = k.met.is ∙ h.are }

  pub held_kept : KindsHeld (recs_in m code) kinds n → CodeHeld code₁ kinds₁ m n
  held_kept h =
      record { sized = k.sized; met = subst (λ (γ : List Rec). KindsHeld γ kinds₁ n) (sym records_kept) (kinds_held_on h) }

-- NO RECORD YET
pub nothing_held : {code kinds : List ℕ} → CodeSized code kinds → CodeHeld code kinds 0 0
unfolding read_rows fresh recs_in rows
nothing_held s = record { sized = s; met = record { count = refl; are = refl } }
