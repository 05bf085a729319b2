-- Settings and survey that no refusal meets: what their tests say. Assumes nothing.
use Rattle.std.specs.Prelude.{◌≡◌, refl, Bool, true, false, ◌&&◌, not, cond, List, ℕ, ◌≤◌, leb}
use Rattle.std.proofs.Common.{arith, leb-true}
use Rattle.laws.specs.Tests.{and_split}
use Rattle.graphs.specs.Survey.{refusal, bytes_refusal, survey_refusal}

pub record AcceptedSettings (bs : List ℕ) (s l : ℕ) : Type 0 where
  pub threshold_low : 1 ≤ s
  pub threshold_high : s ≤ 32
  pub limit_low : 1 ≤ l
  pub limit_high : l ≤ 8
  pub drawings : (bytes_refusal bs).number ≡ 0

pub accepted_settings : (bs : List ℕ) (s l : ℕ) → (survey_refusal bs s l).number ≡ 0 → AcceptedSettings bs s l
unfolding survey_refusal refusal
accepted_settings bs s l h = go (leb 1 s && leb s 32) (leb 1 l && leb l 8) refl refl h
  where
    go :
        (a b : Bool) → (leb 1 s && leb s 32) ≡ a → (leb 1 l && leb l 8) ≡ b
        → (cond (not a) (refusal 12 0) (cond (not b) (refusal 13 0) (bytes_refusal bs))).number ≡ 0 → AcceptedSettings bs s l
    go true true p q e =
        let t = and_split (leb 1 s) (leb s 32) p in
        let u = and_split (leb 1 l) (leb l 8) q in
        record {
          threshold_low = leb-true 1 s t.0;
          threshold_high = leb-true s 32 t.1;
          limit_low = leb-true 1 l u.0;
          limit_high = leb-true l 8 u.1;
          drawings = e;
        }
    go true false p q e = absurd (omega arith)
    go false b p q e = absurd (omega arith)
