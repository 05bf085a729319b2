-- The devices that tie: what a search for the next one of them finds. Assumes nothing.
use Rattle.std.specs.Prelude.{◌≡◌, true, false, List, ℕ, ◌+◌, ◌≤◌, ◌<◌, Option, Some, None}
use Rattle.std.proofs.Common.{arith}
use Rattle.std.proofs.Math.Decide.{dec_lt}
use Rattle.std.specs.Option.{MatchOption}
use Rattle.codes.specs.BranchState.{State, Free, device_at, edge_label}
use Rattle.codes.specs.Twins.{FreeTwin}
use Rattle.branches.specs.declared.extension.Extension.TheVariants.{Edge}
use Rattle.branches.specs.Ways.{TiesWay, TieTold, NextWay}

-- each device from n on below w that ties is passed over
abbrev pub TiesPassed : List ℕ → State → (q l n w : ℕ) → Type 0
TiesPassed t b q l n w = (v : ℕ) → n ≤ v → v < w → TiesWay t b q l v → FreeTwin t b.used v

pub ties_start : (t : List ℕ) (b : State) (q l n : ℕ) → TiesPassed t b q l n n
ties_start t b q l n v h g = absurd (omega arith)

pub ties_next :
    (t : List ℕ) (b : State) (q l n w : ℕ) → TiesPassed t b q l n w → (TiesWay t b q l w → FreeTwin t b.used w) → TiesPassed t b q l n (w + 1)
ties_next t b q l n w so here v h g s = go (dec_lt v w)
  where
    go : Dec (v < w) → FreeTwin t b.used v
    go (yes k) = so v h k s
    go (no k) = let z : v ≡ w = omega arith in rw z (here (rw z at s))

module _ {t : List ℕ} {b : State} {q l n : ℕ} where
  pub tie_here : {w : ℕ} → n ≤ w → w < 10 → TiesPassed t b q l n w → Free b w → edge_label t b q w ≡ l → NextWay t b (Some (Edge q l)) n (Some w)
  tie_here h g none f e = record { low = g; rises = h; way = record { free = f; label = e }; first = none }

  pub ties_end : (w : ℕ) → 10 ≤ w → TiesPassed t b q l n w → NextWay t b (Some (Edge q l)) n None
  ties_end w h none = λ v low high tie. none v low (omega arith) tie

-- what the search finds
pub next_way :
    (t : List ℕ) (b : State) (q l n u : ℕ) → u ≡ device_at b q → (r : Option ℕ)
    → MatchOption r ((w : ℕ) → n ≤ w → w < 10 → TieTold t b.used u l w false)
    (λ w. (n ≤ w) × (w < 10) × TieTold t b.used u l w true × ((v : ℕ) → n ≤ v → v < w → TieTold t b.used u l v false))
    → NextWay t b (Some (Edge q l)) n r
next_way t b q l n u e None h = λ v low high tie. h v low high tie.free.unused (rw e tie.label)
next_way t b q l n u e (Some w) h =
    record {
      low = h.1;
      rises = h.0;
      way = record { free = record { below = h.1; unused = h.2.0 }; label = rw e at h.2.1 };
      first = λ v low high tie. h.3 v low high tie.free.unused (rw e tie.label);
    }
