-- The agreement of two codes: its laws, what it has to do with their order and with their bytes. Rests on CommonFronts, CodeOrder and
-- CodeBytes. Assumes nothing.
use Rattle.std.specs.Prelude.{◌≡◌, Bool, ℕ, suc, ◌*◌, ◌/◌, ◌≤◌, ◌<◌, get_or, take}
use Rattle.std.proofs.Math.Path.{refl}
use Rattle.std.proofs.Common.{sym, ap, ◌∙◌, arith, not-suc-le-zero}
use Rattle.std.proofs.Math.Bool.{true, false}
use mathlib.Core.List.{List, [], ◌∷◌}
use Rattle.std.proofs.Math.ListN.{length}
use Rattle.laws.specs.CommonFronts as fronts
use Rattle.laws.specs.Tests.{false_unless}
use Rattle.codes.specs.Code.{Rec, recs_in, code_records, rec_bytes, rec_same, rec_before_by, before_by}
use Rattle.codes.specs.Agreement.{agreement}
use Rattle.codes.specs.CodeOrder.{rec_same_test, same_first}
use Rattle.codes.specs.CodeBytes.{rec_bytes_injective, recs_in_length, recs_take, rec_bytes_in}

-- EITHER WAY ROUND it is the same, and at most both lengths
module _ (rs ss : List Rec) where
  pub agreement_symmetric : agreement rs ss ≡ agreement ss rs
  unfolding agreement
  agreement_symmetric = fronts.front_symmetric _ rec_same_test rs ss

  pub agreement_first : agreement rs ss ≤ length rs
  unfolding agreement
  agreement_first = fronts.front_within _ rec_same_test rs ss

  pub agreement_second : agreement rs ss ≤ length ss
  unfolding agreement
  agreement_second = fronts.front_within_other _ rec_same_test rs ss

  -- ALL EARLIER RECORDS ARE EQUAL, and where both go on the next ones are not
  pub agreement_equal : take (agreement rs ss) rs ≡ take (agreement rs ss) ss
  unfolding agreement
  agreement_equal = fronts.front_equal _ rec_same_test rs ss

  pub agreement_parts : (none : Rec) → agreement rs ss < length rs → agreement rs ss < length ss
      → get_or rs (agreement rs ss) none ≡ get_or ss (agreement rs ss) none → ⊥
  unfolding agreement
  agreement_parts none = fronts.front_parts _ rec_same_test none rs ss

  -- NO GREATER NUMBER of records is common to both
  pub agreement_longest : (k : ℕ) → k ≤ length rs → k ≤ length ss → take k rs ≡ take k ss → k ≤ agreement rs ss
  unfolding agreement
  agreement_longest k = fronts.front_longest _ rec_same_test k rs ss

  -- codes of one length agree in all exactly if they are equal
  pub agreement_whole : length rs ≡ length ss → agreement rs ss ≡ length rs → rs ≡ ss
  unfolding agreement
  agreement_whole = fronts.front_whole _ rec_same_test rs ss

pub agreement_itself : (rs : List Rec) → agreement rs rs ≡ length rs
unfolding agreement
agreement_itself rs = fronts.front_itself _ rec_same_test rs

-- RECORD BY RECORD
module _ (rs ss : List Rec) where
  pub agreement_next : (r : Rec) → agreement (r ∷ rs) (r ∷ ss) ≡ suc (agreement rs ss)
  unfolding agreement
  agreement_next r = fronts.front_more _ rec_same_test r rs ss

  pub agreement_apart : (r s : Rec) → (r ≡ s → ⊥) → agreement (r ∷ rs) (s ∷ ss) ≡ 0
  unfolding agreement
  agreement_apart r s = fronts.front_apart _ rec_same_test r s rs ss

pub agreement_ended : (rs : List Rec) → agreement rs [] ≡ 0
unfolding agreement
agreement_ended = fronts.front_ended _ rec_same_test

-- two records are equal or not
abbrev either : (r s : Rec) → Dec (r ≡ s)
either = fronts.either_same rec_same rec_same_test

-- THE ORDER of two codes is decided at that place: by the two records there, or by which code has ended
module _ (labels : Rec → Rec → Bool) where
  -- records that differ decide, whatever follows them
  pub apart_decides : (r s : Rec) (rs ss : List Rec) → (r ≡ s → ⊥) → before_by labels (r ∷ rs) (s ∷ ss) ≡ rec_before_by labels r s
  unfolding before_by
  apart_decides r s rs ss n = rw (false_unless (rec_same r s) (λ z. n (rec_same_test.to r s z)))

  pub agreement_decides :
      (none : Rec) (rs ss : List Rec) → agreement rs ss < length rs → agreement rs ss < length ss
      → before_by labels rs ss ≡ rec_before_by labels (get_or rs (agreement rs ss) none) (get_or ss (agreement rs ss) none)
  agreement_decides none [] ss = λ h g. absurd (not-suc-le-zero h)
  agreement_decides none (r ∷ rs) [] = λ h g. absurd (not-suc-le-zero g)
  agreement_decides none (r ∷ rs) (s ∷ ss) = go (either r s) (agreement_decides none rs ss)
    where
      go :
          Dec (r ≡ s)
          → (agreement rs ss < length rs → agreement rs ss < length ss
          → before_by labels rs ss ≡ rec_before_by labels (get_or rs (agreement rs ss) none) (get_or ss (agreement rs ss) none))
          → agreement (r ∷ rs) (s ∷ ss) < length (r ∷ rs) → agreement (r ∷ rs) (s ∷ ss) < length (s ∷ ss)
          → before_by labels (r ∷ rs) (s ∷ ss)
          ≡ rec_before_by labels (get_or (r ∷ rs) (agreement (r ∷ rs) (s ∷ ss)) none) (get_or (s ∷ ss) (agreement (r ∷ rs) (s ∷ ss)) none)
      go (yes q) rest = rw (q, agreement_next rs ss s) (λ h g. same_first labels s rs ss ∙ rest (omega arith) (omega arith))
      go (no q) rest = rw (agreement_apart rs ss r s q) (λ h g. apart_decides r s rs ss q)

  -- a code that has ended there comes before one that goes on
  pub agreement_ends_first : (rs ss : List Rec) → agreement rs ss ≡ length rs → length rs < length ss → before_by labels rs ss ≡ true
  unfolding before_by
  agreement_ends_first [] [] = λ e h. absurd (not-suc-le-zero h)
  agreement_ends_first [] (s ∷ ss) = λ e h. refl
  agreement_ends_first (r ∷ rs) [] = λ e h. absurd (not-suc-le-zero h)
  agreement_ends_first (r ∷ rs) (s ∷ ss) = go (either r s) (agreement_ends_first rs ss)
    where
      go :
          Dec (r ≡ s) → (agreement rs ss ≡ length rs → length rs < length ss → before_by labels rs ss ≡ true)
          → agreement (r ∷ rs) (s ∷ ss) ≡ length (r ∷ rs) → length (r ∷ rs) < length (s ∷ ss) → before_by labels (r ∷ rs) (s ∷ ss) ≡ true
      go (yes q) rest =
          rw (q, agreement_next rs ss s) (λ e h. same_first labels s rs ss ∙ rest (omega arith) (omega arith))
      go (no q) rest = rw (agreement_apart rs ss r s q) (λ e h. absurd (omega arith))

  -- and none comes before a code that has ended there
  pub agreement_ends_second : (rs ss : List Rec) → agreement rs ss ≡ length ss → before_by labels rs ss ≡ false
  unfolding before_by
  agreement_ends_second rs [] = λ e. refl
  agreement_ends_second [] (s ∷ ss) = λ e. absurd (omega (arith, agreement_first [] (s ∷ ss)))
  agreement_ends_second (r ∷ rs) (s ∷ ss) = go (either r s) (agreement_ends_second rs ss)
    where
      go :
          Dec (r ≡ s) → (agreement rs ss ≡ length ss → before_by labels rs ss ≡ false)
          → agreement (r ∷ rs) (s ∷ ss) ≡ length (s ∷ ss) → before_by labels (r ∷ rs) (s ∷ ss) ≡ false
      go (yes q) rest = rw (q, agreement_next rs ss s) (λ e. same_first labels s rs ss ∙ rest (omega arith))
      go (no q) rest = rw (agreement_apart rs ss r s q) (λ e. absurd (omega arith))

-- IN BYTES: five times it is the longest common beginning in whole records
module _ (xs ys : List ℕ) where
  abbrev a : ℕ
  a = agreement (code_records xs) (code_records ys)

  low_first : a ≤ length xs / 5
  low_first = omega (arith, agreement_first (code_records xs) (code_records ys), recs_in_length (length xs / 5) xs)

  low_second : a ≤ length ys / 5
  low_second = omega (arith, agreement_second (code_records xs) (code_records ys), recs_in_length (length ys / 5) ys)

  pub agreement_bytes : take (5 * a) xs ≡ take (5 * a) ys
  agreement_bytes =
      sym (rec_bytes_in a xs (omega (arith, low_first)))
      ∙ ap rec_bytes
      (sym (recs_take a (length xs / 5) xs low_first) ∙ agreement_equal (code_records xs) (code_records ys)
      ∙ recs_take a (length ys / 5) ys low_second)
      ∙ rec_bytes_in a ys (omega (arith, low_second))

  pub agreement_bytes_longest : (k : ℕ) → 5 * k ≤ length xs → 5 * k ≤ length ys → take (5 * k) xs ≡ take (5 * k) ys → k ≤ a
  agreement_bytes_longest k h g e =
      agreement_longest (code_records xs) (code_records ys) k (rw (recs_in_length (length xs / 5) xs) (omega arith))
      (rw (recs_in_length (length ys / 5) ys) (omega arith))
      (recs_take k (length xs / 5) xs (omega arith)
      ∙ rec_bytes_injective (recs_in k xs) (recs_in k ys) (rec_bytes_in k xs h ∙ e ∙ sym (rec_bytes_in k ys g))
      ∙ sym (recs_take k (length ys / 5) ys (omega arith)))
