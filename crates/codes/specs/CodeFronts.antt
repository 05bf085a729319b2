-- The bytes of m records at the front of an array: the code that they are, and that it stays while the front does. Rests on Code. Assumes
-- nothing.
use Rattle.std.specs.Prelude.{◌≡◌, refl, List, [], map, ℕ, ◌*◌, ◌/◌, ◌%◌, ◌≤◌, ◌<◌, get_or, take, drop}
use Rattle.std.proofs.Common.{sym, ◌∙◌, arith, take-append-drop, length-take-le, get_or-take, take-take}
use Rattle.std.proofs.Math.Path.{ap}
use Rattle.std.proofs.Math.Decide.{dec_lt}
use Rattle.std.proofs.Math.ListN.{length, get_or-eq_default}
use borrow.Author.Tests.{eq-eqb, ne_eqb, le-ltb}
use Rattle.laws.specs.Rows.{rows, rows_front, rows_sized, concat_rows, concat_injective}
use Rattle.codes.specs.Code.{fresh, rec_in, recs_in, code_records, rows_refusal, code_refusal}
use Rattle.codes.specs.RecordPut.{FrontKept}

-- NO RECORD YET
pub no_records : (code : List ℕ) → recs_in 0 code ≡ []
unfolding recs_in rows
no_records code = refl

-- A FRONT THAT STAYS
pub front_shorter : {k n : ℕ} {xs ys : List ℕ} → k ≤ n → FrontKept n xs ys → FrontKept k xs ys
front_shorter {k} {n} {xs} {ys} h e = record { is = sym (take-take k n ys h) ∙ ap (take k) e.is ∙ take-take k n xs h }

pub front_then : {k : ℕ} {xs ys zs : List ℕ} → FrontKept k xs ys → FrontKept k ys zs → FrontKept k xs zs
front_then e f = record { is = f.is ∙ e.is }

-- the code in it stays
pub front_records_kept :
    (m : ℕ) {code code₁ : List ℕ} → 5 * m ≤ length code → 5 * m ≤ length code₁ → FrontKept (5 * m) code code₁ → recs_in m code₁ ≡ recs_in m code
unfolding recs_in
front_records_kept m {code} {code₁} room room₁ k =
    ap (map rec_in)
    (concat_injective 5 (rows 5 m code₁) (rows 5 m code) (omega arith) (rows_sized 5 m code₁ room₁)
    (rows_sized 5 m code room) (concat_rows 5 m code₁ ∙ k.is ∙ sym (concat_rows 5 m code)))

-- THE BYTES OF m RECORDS at the front of an array
module _ (bs : List ℕ) (m : ℕ) (room : 5 * m ≤ length bs) where
  pub front_length : length (take (5 * m) bs) ≡ 5 * m
  front_length = length-take-le (5 * m) bs room

  pub front_count : length (take (5 * m) bs) / 5 ≡ m
  front_count = omega (arith, front_length)

  pub front_records : code_records (take (5 * m) bs) ≡ recs_in m bs
  unfolding recs_in
  front_records =
      ap (λ (k : ℕ). recs_in k (take (5 * m) bs)) front_count
      ∙ ap (map rec_in)
      (sym (rows_front 5 m (take (5 * m) bs) (drop (5 * m) bs) (omega (arith, front_length))) ∙ ap (rows 5 m) (take-append-drop (5 * m) bs))

  pub front_accepted : 1 ≤ m → m ≤ 20 → rows_refusal fresh (recs_in m bs) ≡ 0 → code_refusal (take (5 * m) bs) ≡ 0
  unfolding code_refusal
  front_accepted one most ok =
      let n = length (take (5 * m) bs) in
      rw (
        ne_eqb n 0 (λ z. omega (arith, front_length)),
        le-ltb 100 n (omega (arith, front_length)),
        eq-eqb (n % 5) 0
            (omega (arith, front_length)),
        front_records,
      )
      ok

  pub front_byte : ((i : ℕ) → get_or bs i 0 < 256) → (i : ℕ) → get_or (take (5 * m) bs) i 0 < 256
  front_byte low i = go (dec_lt i (5 * m))
    where
      go : Dec (i < 5 * m) → get_or (take (5 * m) bs) i 0 < 256
      go (yes h) = omega (arith, get_or-take (5 * m) bs i 0 h, low i)
      go (no h) = omega (arith, get_or-eq_default (take (5 * m) bs) 0 {n = i} (omega (arith, front_length)))
