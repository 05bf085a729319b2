-- A code with a record more: five stores behind the bytes of its records. Assumes nothing.
use Rattle.std.specs.Prelude.{◌≡◌, ℕ, suc, ◌+◌, ◌*◌, ◌≤◌, length, take, drop, set}
use Rattle.std.proofs.Math.Path.{refl, ap}
use Rattle.std.proofs.Common.{sym, ap₂, ◌∙◌, arith, length-set, take-append-drop, drop_at, length-take-le}
use mathlib.Core.List.{List, [], ◌∷◌, ◌++◌, map, append_assoc}
use Rattle.std.proofs.lemmas.List.Edits.{sets}
use Rattle.std.proofs.Math.Seq.{sets-eq}
use Rattle.std.proofs.lemmas.List.{take-set-le}
use Rattle.laws.specs.Lists.{snoc, map_append}
use Rattle.laws.specs.Rows.{rows, rows_front, rows_split}
use Rattle.codes.specs.Code.{Rec, rec_in, recs_in}
use Rattle.codes.specs.RecordPut.{FrontKept, RecordPut}
use Rattle.codes.specs.CodeOrder.{rec_eq}
use Rattle.codes.specs.CodeBytes.{five}

-- only the first n records count
records_front : (n : ℕ) (l ys : List ℕ) → 5 * n ≤ length l → rows 5 n (take (5 * n) l ++ ys) ≡ rows 5 n l
records_front n l ys h =
    rows_front 5 n (take (5 * n) l) ys enough
    ∙ sym (rows_front 5 n (take (5 * n) l) (drop (5 * n) l) enough)
    ∙ ap (rows 5 n) (take-append-drop (5 * n) l)
  where
    enough : 5 * n ≤ length (take (5 * n) l)
    enough = rw (length-take-le (5 * n) l h) (omega arith)

-- n records, then five bytes
records_more :
    (n : ℕ) (l rest : List ℕ) (e : Rec) → 5 * n ≤ length l
    → rows 5 (n + 1) (take (5 * n) l ++ (five e ++ rest)) ≡ snoc (rows 5 n l) (five e)
unfolding rows
records_more n l rest e h =
    rows_split 5 n 1 (take (5 * n) l ++ (five e ++ rest))
    ∙ ap₂ {C = List (List ℕ)} (λ rs ys. rs ++ rows 5 1 ys) (records_front n l (five e ++ rest) h)
    (drop_at (take (5 * n) l) (five e ++ rest) (5 * n) (length-take-le (5 * n) l h))

-- the five stores
module _ (l : List ℕ) (n : ℕ) (e : Rec) where
  abbrev pub stored : List ℕ
  stored =
      set (set (set (set (set l (5 * n) e.i) (5 * n + 1) e.j) (5 * n + 2) e.ki) (5 * n + 3) e.c) (5 * n + 4) e.kj

  stores : stored ≡ sets l (5 * n) (five e)
  stores =
      let one : 5 * n + 1 ≡ suc (5 * n) = omega arith in
      let two : 5 * n + 2 ≡ suc (suc (5 * n)) = omega arith in
      let three : 5 * n + 3 ≡ suc (suc (suc (5 * n))) = omega arith in
      let four : 5 * n + 4 ≡ suc (suc (suc (suc (5 * n)))) = omega arith in
      rw (one, two, three, four)

  pub record_appended : 5 * n + 5 ≤ length l → recs_in (n + 1) stored ≡ recs_in n l ++ (e ∷ [])
  unfolding recs_in rec_in
  record_appended h =
      ap (λ (xs : List ℕ). map rec_in (rows 5 (n + 1) xs))
      (stores ∙ sets-eq (five e) l (5 * n) h ∙ append_assoc (take (5 * n) l) (five e) (drop (5 * n + 5) l))
      ∙ ap (map rec_in) (records_more n l (drop (5 * n + 5) l) e (omega arith))
      ∙ map_append rec_in (rows 5 n l) (five e ∷ [])
      ∙ ap (λ (r : Rec). recs_in n l ++ (r ∷ [])) (rec_eq _ e refl refl refl refl refl)

-- the bytes before them stay
front_store : {k : ℕ} {xs ys : List ℕ} (i v : ℕ) → k ≤ i → FrontKept k xs ys → FrontKept k xs (set ys i v)
front_store {k} {xs} {ys} i v h e = record { is = take-set-le k ys i v h ∙ e.is }

-- THE RECORD IS PUT
pub five_stores : (code : List ℕ) (m : ℕ) (e : Rec) → 5 * m + 5 ≤ length code → RecordPut code m e (stored code m e)
five_stores code m e h =
    record {
      records = record_appended code m e h;
      front =
          front_store (5 * m + 4) e.kj (omega arith)
          (front_store (5 * m + 3) e.c (omega arith)
          (front_store (5 * m + 2) e.ki (omega arith)
          (front_store (5 * m + 1) e.j (omega arith) (front_store (5 * m) e.i (omega arith) (record { is = refl })))));
      long = simp length-set;
    }
