-- A test that decides a statement. Assumes nothing.
use Rattle.std.specs.Prelude.{◌≡◌, Bool, true, false, ℕ, eqb}
use Rattle.std.proofs.Common.{true≢false, eqb-true}
use Rattle.std.proofs.lemmas.Bool.{false≢true, eqb-false}

pub record Decides (r : Bool) (A : Type 0) : Type 0 where
  pub holds : r ≡ true → A
  pub fails : r ≡ false → A → ⊥

pub decides_true : {A : Type 0} → A → Decides true A
decides_true a = record { holds = λ e. a; fails = λ e. absurd (true≢false e) }

pub decides_false : {A : Type 0} → (A → ⊥) → Decides false A
decides_false n = record { holds = λ e. absurd (false≢true e); fails = λ e. n }

pub decides_equal : (a b : ℕ) → Decides (eqb a b) (a ≡ b)
decides_equal a b = record { holds = eqb-true a b; fails = eqb-false a b }
