-- A code that has grown well, none of whose records but the first and the last could go to another device: its own start sees
-- nothing before it. Rests on OwnNumbering. Assumes nothing.
use Rattle.std.specs.Prelude.{◌≡◌, refl, List, [], ◌∷◌, ◌++◌, ℕ, suc, ◌+◌, ◌/◌, ◌≤◌, ◌<◌, length, get_or, take, drop}
use Rattle.std.proofs.Common.{sym, ap, ◌∙◌, subst, arith, length-append, take_all}
use Rattle.laws.specs.Rows.{row}
use Rattle.laws.specs.Lists.{snoc, snoc_length, get_d_default}
use Rattle.codes.specs.Code.{Rec, fresh, rec_in, rows_refusal, decoded, kinds_before, code_records, code_refusal}
use Rattle.codes.specs.CodeBytes.{recs_in_length, accepted_code}
use Rattle.codes.specs.Better.{Better}
use Rattle.codes.specs.BranchState.{first_state}
use Rattle.codes.specs.OwnNumbering.{WellGrown, Untied, own_start_not_better}
use Rattle.tables.specs.CodeRows.{code_record_at, records_through, records_on, code_good}
use Rattle.least_seen.specs.Betters.{BetterBelow}

at_split : (ps : List Rec) (s : Rec) (ms : List Rec) (z : Rec) → get_or (z ∷ ps ++ s ∷ ms) (suc (length ps)) z ≡ s
at_split [] s ms z = refl
at_split (p ∷ ps) s ms z = at_split ps s ms z

-- every record but the first and the last has but one device to go to
abbrev pub AllUntied : (bs : List ℕ) → Type 0
AllUntied bs = (k : ℕ) → 1 ≤ k → suc k < length bs / 5 → Untied (decoded (code_records bs)) (rec_in (row 5 k bs))

module _ (bs : List ℕ) (ok : code_refusal bs ≡ 0) where
  abbrev first : Rec
  first = rec_in (row 5 0 bs)

  abbrev rest : List Rec
  rest = drop 1 (code_records bs)

  some : 0 < length bs / 5
  some = omega (arith, (accepted_code bs ok).one)

  every : take (length bs / 5) (code_records bs) ≡ code_records bs
  every = take_all (length bs / 5) (code_records bs) (omega (arith, recs_in_length (length bs / 5) bs))

  whole : code_records bs ≡ first ∷ rest
  whole = records_on bs 0 some first refl

  -- such a record, and where it stands
  module _ (ps : List Rec) (s e : Rec) (ms : List Rec) (is : rest ≡ ps ++ s ∷ snoc ms e) where
    counted : length bs / 5 ≡ suc (length ps + suc (suc (length ms)))
    counted =
        sym (recs_in_length (length bs / 5) bs)
        ∙ ap length (whole ∙ ap (λ (z : List Rec). first ∷ z) is)
        ∙ ap suc (length-append ps (s ∷ snoc ms e) ∙ ap (λ (k : ℕ). length ps + suc k) (snoc_length ms e))

    place : s ≡ rec_in (row 5 (suc (length ps)) bs)
    place =
        sym (at_split ps s (snoc ms e) first)
        ∙ ap (λ (z : List Rec). get_or (first ∷ z) (suc (length ps)) first) (sym is)
        ∙ ap (λ (z : List Rec). get_or z (suc (length ps)) first) (sym whole)
        ∙ get_d_default (code_records bs) (suc (length ps)) first (rec_in (row 5 (suc (length ps)) bs))
        (rw (recs_in_length (length bs / 5) bs) (omega (arith, counted)))
        ∙ code_record_at bs (suc (length ps)) (omega (arith, counted)) (rec_in (row 5 (suc (length ps)) bs)) refl

    untied_there : AllUntied bs → Untied (decoded (code_records bs)) s
    untied_there all = subst (Untied (decoded (code_records bs))) (sym place) (all (suc (length ps)) (omega arith) (omega (arith, counted)))

  -- THE OWN START
  pub own_start_settled : AllUntied bs → WellGrown (code_records bs) → BetterBelow bs (length bs / 5) 1 (first_state 0 1) → ⊥
  own_start_settled all well b =
      own_start_not_better first rest (subst (λ (z : List Rec). rows_refusal fresh z ≡ 0) whole (code_good bs ok).accepted)
      (subst WellGrown whole well)
      (λ ps s e ms is. subst (λ (z : List Rec). Untied (decoded z) s) whole (untied_there ps s e ms is all))
      (subst (λ (z : List Rec). Better kinds_before (decoded z) (first ∷ []) rest (0 ∷ 1 ∷ [])) whole
      (subst (λ (γ : List Rec). Better kinds_before (decoded (code_records bs)) γ rest (0 ∷ 1 ∷ [])) (records_through bs 0 some first refl)
      (subst (λ (z : List Rec). Better kinds_before (decoded (code_records bs)) (take 1 (code_records bs)) (drop 1 z) (0 ∷ 1 ∷ [])) every b)))
