-- A candidate that was taken up: whether it goes on. Assumes nothing.
use Rattle.std.specs.Prelude.{◌≡◌, refl, Bool, true, false, cond, List, ℕ, ◌+◌, eqb, length}
use Rattle.std.proofs.Common.{sym, ap, ◌∙◌, subst}
use Rattle.std.proofs.lemmas.Bool.{eqb-false}
use Rattle.codes.specs.Code.{Rec, decoded, Least}
use Rattle.growth.specs.Catalogue.{entry, entry_bytes}
use Rattle.growth.specs.Places.{cell_figures}
use Rattle.growth.specs.Page.{EntryHanded}
use Rattle.taking.specs.declared.take.Taken.{Taken}
use Rattle.taking.specs.declared.take.Taken.TheVariants.{Passed, Stopped, Listed}
use Rattle.taking.specs.declared.take.TakenOn.{TakenOn}
use Rattle.taking.specs.declared.take.TakenOn.TheVariants as answers
use Rattle.taking.specs.Taking.{EntryPut, NoEntry, CandidateTaken, taken_on, IsTakenOn, EntryGoesOn}

-- BY THE ANSWER
pub taken_as :
    (checking : Bool) {γ : List Rec} {cell limit count m : ℕ} {out z : List ℕ} {v : Taken} (w : Taken) → v ≡ w → length γ ≡ m
    → CandidateTaken checking γ cell count out v z → IsTakenOn checking γ cell limit count out (taken_on m limit count w) z
taken_as checking {γ} {cell} {limit} {count} {m} {out} {z} {v} w e size t =
    record {
      taken = w;
      told = subst (λ (u : Taken). CandidateTaken checking γ cell count out u z) e t;
      is = ap (λ (k : ℕ). taken_on k limit count w) (sym size);
    }

-- IT GOES ON: its entry is listed, and it is smaller than the limit
pub taken_goes_on :
    {checking : Bool} {γ : List Rec} {cell limit count : ℕ} {out : List ℕ} {r : TakenOn} {z : List ℕ}
    → IsTakenOn checking γ cell limit count out r z → {more : ℕ} → r ≡ answers.On more → EntryGoesOn γ cell limit count out more z
taken_goes_on {checking} {γ} {cell} {limit} {count} {out} {r} {z} t {more} o = go t.taken t.told (sym o ∙ t.is)
  where
    smaller : (b : Bool) → eqb (length γ) limit ≡ b → EntryPut γ cell count out z
        → answers.On more ≡ cond b (answers.Over (count + 1)) (answers.On (count + 1)) → EntryGoesOn γ cell limit count out more z
    smaller true k w e = absurd (cc)
    smaller false k w e = record { put = w; smaller = eqb-false (length γ) limit k; one_more = cc }

    go : (v : Taken) → CandidateTaken checking γ cell count out v z → answers.On more ≡ taken_on (length γ) limit count v
        → EntryGoesOn γ cell limit count out more z
    go Passed w e = absurd (cc)
    go Stopped w e = absurd (cc)
    go Listed w e = smaller (eqb (length γ) limit) refl w e

-- ITS ENTRY IS HANDED OVER
pub entry_listed :
    (checking : Bool) {γ : List Rec} {cell count : ℕ} {out z : List ℕ} (r : Bool) → Least (decoded γ) γ → r ≡ true
    → EntryHanded checking (entry_bytes (entry (cell_figures cell) γ)) count out r z → EntryPut γ cell count out z
entry_listed checking {γ} {cell} {count} {out} {z} r l e h =
    let t = subst (λ (b : Bool). EntryHanded checking (entry_bytes (entry (cell_figures cell) γ)) count out b z) e h in
    record { least = l; room = t.0; low = t.2; is = t.1 }

pub entry_stopped :
    (checking : Bool) {γ : List Rec} {cell count : ℕ} {out z : List ℕ} (r : Bool) → Least (decoded γ) γ → r ≡ false
    → EntryHanded checking (entry_bytes (entry (cell_figures cell) γ)) count out r z → NoEntry checking γ cell count out z
entry_stopped checking {γ} {cell} {count} {out} {z} r l e h =
    let t = subst (λ (b : Bool). EntryHanded checking (entry_bytes (entry (cell_figures cell) γ)) count out b z) e h in
    record { least = l; back = t.0; same = t.1 }
