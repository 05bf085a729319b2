-- Codes as bytes: reading and writing records are inverse, so code bytes are equal exactly when the codes are. The facts
-- on 5-byte records are those of records of any size. Assumes nothing.
use Rattle.std.specs.Prelude.{◌≡◌, refl, Bool, true, false, ◌||◌, not, cond, List, [], ◌∷◌, ◌++◌, map, ℕ, ◌*◌, ◌/◌, ◌%◌, ◌≤◌, ltb, eqb, length, take}
use Rattle.std.proofs.Common.{sym, ap, ap₂, ◌∙◌, arith, take_all, eqb-true, ltb-false}
use Rattle.std.proofs.lemmas.List.{length-map}
use Rattle.std.proofs.lemmas.Bool.{eqb-false, not-false}
use Rattle.laws.specs.Tests.{or_none}
use Rattle.laws.specs.Lists.{concat, map_take}
use Rattle.laws.specs.Rows.{
  rows,
  Sized,
  rows_length,
  rows_sized,
  rows_take,
  rows_concat,
  concat_rows,
  concat_length,
  whole_records,
}
use Rattle.codes.specs.Code.{Rec, fresh, rec_in, recs_in, rec_bytes, rows_refusal, rows_good, code_refusal}
use Rattle.codes.specs.CodeOrder.{rec_eq}
use Rattle.codes.specs.ReadRows.{good_to_test}

-- the five bytes of a record
abbrev pub five : Rec → List ℕ
five r = r.i ∷ r.j ∷ r.ki ∷ r.c ∷ r.kj ∷ []

five_in : (r : Rec) → rec_in (five r) ≡ r
unfolding rec_in
five_in r = rec_eq _ r refl refl refl refl refl

fives_sized : (rs : List Rec) → Sized 5 (map five rs)
unfolding Sized
fives_sized [] = tt
fives_sized (r ∷ rs) = (refl, fives_sized rs)

fives_in : (rs : List Rec) → map rec_in (map five rs) ≡ rs
fives_in [] = refl
fives_in (r ∷ rs) = ap₂ {C = List Rec} (λ a b. a ∷ b) (five_in r) (fives_in rs)

pub rec_bytes_concat : (rs : List Rec) → rec_bytes rs ≡ concat (map five rs)
unfolding rec_bytes concat
rec_bytes_concat [] = refl
rec_bytes_concat (r ∷ rs) = ap (λ (l : List ℕ). five r ++ l) (rec_bytes_concat rs)

pub rec_bytes_length : (rs : List Rec) → length (rec_bytes rs) ≡ 5 * length rs
rec_bytes_length rs = rw (rec_bytes_concat rs) (concat_length 5 (map five rs) (fives_sized rs) ∙ ap (λ (n : ℕ). 5 * n) (length-map rs five))

-- WRITING, THEN READING, whatever follows
pub recs_in_bytes : (rs : List Rec) (ys : List ℕ) → recs_in (length rs) (rec_bytes rs ++ ys) ≡ rs
unfolding recs_in
recs_in_bytes rs ys =
    ap (λ (n : ℕ). map rec_in (rows 5 n (rec_bytes rs ++ ys))) (sym (length-map rs five))
    ∙ ap (λ (l : List ℕ). map rec_in (rows 5 (length (map five rs)) (l ++ ys))) (rec_bytes_concat rs)
    ∙ ap (map rec_in) (rows_concat 5 (map five rs) ys (fives_sized rs)) ∙ fives_in rs

-- code bytes are equal exactly when the codes are
pub rec_bytes_injective : (rs ss : List Rec) → rec_bytes rs ≡ rec_bytes ss → rs ≡ ss
rec_bytes_injective rs ss e =
    sym (recs_in_bytes rs []) ∙ ap₂ {C = List Rec} (λ n l. recs_in n (l ++ [])) counts e ∙ recs_in_bytes ss []
  where
    counts : length rs ≡ length ss
    counts = omega (arith, rec_bytes_length rs, rec_bytes_length ss, ap length e)

pub recs_in_length : (n : ℕ) (bs : List ℕ) → length (recs_in n bs) ≡ n
unfolding recs_in
recs_in_length n bs = length-map (rows 5 n bs) rec_in ∙ rows_length 5 n bs

-- the first k of the records of an array are its first k records
pub recs_take : (k n : ℕ) (bs : List ℕ) → k ≤ n → take k (recs_in n bs) ≡ recs_in k bs
unfolding recs_in
recs_take k n bs h = map_take rec_in k (rows 5 n bs) ∙ ap (map rec_in) (rows_take 5 k n bs h)

-- READING, THEN WRITING
in_five : (bs : List ℕ) → length bs ≡ 5 → five (rec_in bs) ≡ bs
unfolding rec_in
in_five (a ∷ b ∷ c ∷ d ∷ e ∷ []) h = refl
in_five (a ∷ b ∷ c ∷ d ∷ e ∷ f ∷ bs) h = absurd (omega arith)
in_five (a ∷ b ∷ c ∷ d ∷ []) h = absurd (omega arith)
in_five (a ∷ b ∷ c ∷ []) h = absurd (omega arith)
in_five (a ∷ b ∷ []) h = absurd (omega arith)
in_five (a ∷ []) h = absurd (omega arith)
in_five [] h = absurd (omega arith)

in_fives : (rs : List (List ℕ)) → Sized 5 rs → map five (map rec_in rs) ≡ rs
unfolding Sized
in_fives [] s = refl
in_fives (r ∷ rs) s = ap₂ {C = List (List ℕ)} (λ a b. a ∷ b) (in_five r s.0) (in_fives rs s.1)

pub rec_bytes_in : (n : ℕ) (bs : List ℕ) → 5 * n ≤ length bs → rec_bytes (recs_in n bs) ≡ take (5 * n) bs
unfolding recs_in
rec_bytes_in n bs h =
    rec_bytes_concat (map rec_in (rows 5 n bs)) ∙ ap concat (in_fives (rows 5 n bs) (rows_sized 5 n bs h)) ∙ concat_rows 5 n bs

-- AN ACCEPTED CODE, part by part
pub record AcceptedCode (bs : List ℕ) : Type 0 where
  pub records : 5 * (length bs / 5) ≡ length bs
  pub one : 1 ≤ length bs / 5
  pub most : length bs / 5 ≤ 20
  pub good : rows_good (recs_in (length bs / 5) bs) ≡ true
  pub bytes : rec_bytes (recs_in (length bs / 5) bs) ≡ bs

pub accepted_code : (bs : List ℕ) → code_refusal bs ≡ 0 → AcceptedCode bs
unfolding code_refusal
accepted_code bs e = go (eqb n 0 || (ltb 100 n || not (eqb (n % 5) 0))) refl e
  where
    n : ℕ
    n = length bs

    rs : List Rec
    rs = recs_in (length bs / 5) bs

    parts : (eqb n 0 || (ltb 100 n || not (eqb (n % 5) 0))) ≡ false → rows_refusal fresh rs ≡ 0 → AcceptedCode bs
    parts t z =
        record {
          records = whole;
          one = one;
          most = most;
          good = good_to_test rs (record { one = rw (recs_in_length (n / 5) bs) one; most = rw (recs_in_length (n / 5) bs) most; accepted = z });
          bytes = rec_bytes_in (n / 5) bs (omega arith) ∙ take_all (5 * (n / 5)) bs (omega (arith, whole));
        }
      where
        s : (eqb (length bs) 0 ≡ false) × ((ltb 100 (length bs) || not (eqb (length bs % 5) 0)) ≡ false)
        s = or_none (eqb n 0) (ltb 100 n || not (eqb (n % 5) 0)) t

        u : (ltb 100 (length bs) ≡ false) × (not (eqb (length bs % 5) 0) ≡ false)
        u = or_none (ltb 100 n) (not (eqb (n % 5) 0)) s.1

        whole : 5 * (length bs / 5) ≡ length bs
        whole = whole_records 5 bs (eqb-true (n % 5) 0 (not-false _ u.1))

        one : 1 ≤ length bs / 5
        one = let z : length bs ≡ 0 → ⊥ = eqb-false n 0 s.0 in omega (arith, whole)

        most : length bs / 5 ≤ 20
        most = omega (arith, whole, ltb-false 100 n u.0)

    go :
        (t : Bool) → (eqb (length bs) 0 || (ltb 100 (length bs) || not (eqb (length bs % 5) 0))) ≡ t
        → cond t 9 (rows_refusal fresh (recs_in (length bs / 5) bs)) ≡ 0 → AcceptedCode bs
    go true t z = absurd (omega arith)
    go false t z = parts t z
