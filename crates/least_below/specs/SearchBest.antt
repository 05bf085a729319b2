-- The records of a code under work: the first of them, the one behind those, and how it stands against another. Rests on
-- the records of any size, and on the order of two records. Assumes nothing.
use Rattle.std.specs.Prelude.{◌≡◌, refl, length, take, drop}
use Rattle.std.proofs.Common.{sym, ◌∙◌, length-append, take_at}
use Rattle.std.proofs.Math.Path.{ap}
use mathlib.Core.List.{List, ◌∷◌, ◌++◌, map}
use Prim.Native.Nat.{ℕ, suc, ◌+◌, ◌*◌, ◌-◌, ◌≤◌, ◌<◌}
use native.Mathlib.Omega.{arith}
use Rattle.laws.specs.Lists.{map_append}
use Rattle.laws.specs.Rows.{row, rows, rows_split, rows_from}
use Rattle.graphs.specs.Drawing.{Drawing}
use Rattle.codes.specs.Code.{Rec, rec_in, recs_in, kinds_before}
use Rattle.codes.specs.CodeOrder.{kinds_order}
use Rattle.codes.specs.CodeBytes.{recs_in_length}
use Rattle.codes.specs.Searched.{Best, Chosen, begun, kept, lowered}
use Rattle.std.specs.declared.cmp.Ordering.{Ordering}
use Rattle.std.specs.declared.cmp.Ordering.TheVariants.{Less, Equal, Greater}
use Rattle.code_records.specs.Records.{order_of}
use Rattle.code_records.specs.RecordLaws.{order_before, order_equal, order_after}
use Rattle.least_below.specs.Searches.{
  Against,
  nothing_there,
  comes_before,
  is_there,
  comes_after,
  chosen_rows,
}

module _ (bs : List ℕ) where
  -- THE FIRST n RECORDS, and k more
  recs_split : (n k : ℕ) → recs_in (n + k) bs ≡ recs_in n bs ++ recs_in k (drop (5 * n) bs)
  unfolding recs_in
  recs_split n k = ap (map rec_in) (rows_split 5 n k bs) ∙ map_append rec_in (rows 5 n bs) (rows 5 k (drop (5 * n) bs))

  -- rows that a code begins with are its first records
  pub first_records : (n k : ℕ) (δ rest : List Rec) → recs_in n bs ≡ δ ++ rest → length δ ≡ k → recs_in k bs ≡ δ
  first_records n k δ rest is size =
      sym (take_at (recs_in k bs) (recs_in (n - k) (drop (5 * k) bs)) k (recs_in_length k bs))
      ∙ ap (take k) (sym (recs_split k (n - k)) ∙ ap (λ (i : ℕ). recs_in i bs) whole ∙ is) ∙ take_at δ rest k size
    where
      whole : k + (n - k) ≡ n
      whole = omega (arith, ap length is, recs_in_length n bs, length-append δ rest)

  -- THE RECORD BEHIND THEM
  module _ (n t : ℕ) (e : Rec) where
    pub against_nothing : t ≤ n → n ≤ t → Against (recs_in t bs) (recs_in n bs) e Less
    against_nothing p q = let z : n ≡ t = omega arith in nothing_there (ap (λ (i : ℕ). recs_in i bs) z)

    pub record_behind : t < n → (rest : List Rec) × (recs_in n bs ≡ recs_in t bs ++ rec_in (row 5 t bs) ∷ rest)
    unfolding recs_in
    record_behind h =
        let z : n ≡ t + suc (n - (t + 1)) = omega arith in (
          map rec_in (rows 5 (n - (t + 1)) (drop (5 * suc t) bs)),
          ap (λ (i : ℕ). recs_in i bs) z ∙ recs_split t (suc (n - (t + 1)))
              ∙ ap (λ (rs : List (List ℕ)). recs_in t bs ++ map rec_in rs) (rows_from 5 (n - (t + 1)) t bs),
        )

    pub against_record : t < n → Against (recs_in t bs) (recs_in n bs) e (order_of e (rec_in (row 5 t bs)))
    against_record h = go (order_of e c) refl (record_behind h)
      where
        c : Rec
        c = rec_in (row 5 t bs)

        go :
            (o : Ordering) → order_of e c ≡ o → (rest : List Rec) × (recs_in n bs ≡ recs_in t bs ++ rec_in (row 5 t bs) ∷ rest)
            → Against (recs_in t bs) (recs_in n bs) e o
        go Less q z = comes_before c z.0 z.1 (order_before e c q)
        go Equal q z = is_there z.0 (z.1 ∙ ap (λ (r : Rec). recs_in t bs ++ r ∷ z.0) (sym (order_equal e c q)))
        go Greater q z = comes_after c z.0 z.1 (order_after e c q)

-- the rows that the best begins with are its first records
pub best_begins :
    (d : Drawing) (δ : List Rec) (bs : List ℕ) (n k : ℕ) → Best kinds_before kinds_order d δ (recs_in n bs) → length δ ≡ k → recs_in k bs ≡ δ
best_begins d δ bs n k b size = first_records bs n k δ b.rest b.is size

-- what does not come before the best leaves it
pub chosen_kept : (o : Ordering) (γ : List Rec) (e : Rec) (best : List Rec) → (o ≡ Less → ⊥) → best ≡ chosen_rows o γ e best
chosen_kept Less γ e best n = absurd (n refl)
chosen_kept Equal γ e best n = refl
chosen_kept Greater γ e best n = refl

-- what comes before the best, or nothing to go on with, is chosen; what is there already is kept
pub against_chosen :
    (d : Drawing) (γ best : List Rec) (e : Rec) (o : Ordering) → Against γ best e o → (o ≡ Greater → ⊥)
    → Chosen kinds_before kinds_order d γ e best (chosen_rows o γ e best)
against_chosen d γ best e Less (nothing_there z) n = begun z
against_chosen d γ best e Less (comes_before c rest is z) n = lowered c rest is z
against_chosen d γ best e Equal (is_there rest is) n = kept rest is
against_chosen d γ best e Greater a n = absurd (n refl)

-- neither comes after
pub before_goes_on : Less ≡ Greater → ⊥
before_goes_on e = let z : ◌≡◌ {A = ℕ} 0 1 = cc in omega arith

pub equal_goes_on : Equal ≡ Greater → ⊥
equal_goes_on e = let z : ◌≡◌ {A = ℕ} 0 1 = cc in omega arith
