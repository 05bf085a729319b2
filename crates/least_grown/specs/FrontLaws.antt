-- What the least test of an accepted code at the front of an array finds of it. Rests on CodeFronts, TableOfCode and LeastAgreements. Assumes
-- nothing.
use Rattle.std.specs.Prelude.{◌≡◌, true, List, ℕ, ◌*◌, ◌/◌, ◌≤◌, ◌<◌, length, get_or, take}
use Rattle.std.proofs.Math.Path.{sym, subst}
use Rattle.std.proofs.Common.{◌∙◌, arith}
use Rattle.graphs.specs.Drawing.{devices}
use Rattle.codes.specs.Code.{Rec, recs_in, code_records, rows_good, decoded, code_refusal, Least}
use Rattle.codes.specs.CodeBytes.{recs_in_length, accepted_code}
use Rattle.codes.specs.CodeFronts.{front_count, front_records, front_accepted, front_byte}
use Rattle.codes.specs.OwnNumbering.{WellGrown}
use Rattle.tables.specs.CodeRows.{code_ten}
use Rattle.tables.specs.TableOfCode.{ByteCode, code_pattern}
use Rattle.least_seen.specs.Betters.{SomeStart}
use Rattle.least_test.specs.LeastAgreements.{some_not_least, none_least}
use Rattle.least_seen.specs.Accepting.{AcceptedFront}
use Rattle.least_grown.specs.GrownCode.{GrownCode}

-- AN ACCEPTED CODE there
module _ {bs : List ℕ} {m n : ℕ} (A : AcceptedFront bs m n) where
  pub front_bytes_room : 5 * m ≤ length bs
  front_bytes_room = omega (arith, A.size, A.most)

  pub front_refusal : code_refusal (take (5 * m) bs) ≡ 0
  front_refusal = front_accepted bs m front_bytes_room A.one A.most A.accepted

  pub front_grown : WellGrown (recs_in m bs) → GrownCode (take (5 * m) bs) m n
  unfolding decoded
  front_grown well =
      let exactly : n ≡ devices (decoded (code_records (take (5 * m) bs))) = rw (front_records bs m front_bytes_room) A.count in
      record {
        accepted = front_refusal;
        records = sym (front_count bs m front_bytes_room);
        within = omega (arith, exactly);
        most = omega (arith, exactly, code_ten (take (5 * m) bs) front_refusal);
        well = subst WellGrown (sym (front_records bs m front_bytes_room)) well;
      }

  -- WHAT THE STARTS TELL of it
  module _ (bytes : (i : ℕ) → get_or bs i 0 < 256) where
    known : ByteCode (take (5 * m) bs)
    known = record { bytes = front_byte bs m front_bytes_room bytes; accepted = front_refusal }

    good : rows_good (code_records (take (5 * m) bs)) ≡ true
    good = (accepted_code _ front_refusal).good

    count : length (code_records (take (5 * m) bs)) ≡ m
    count = recs_in_length (length (take (5 * m) bs) / 5) (take (5 * m) bs) ∙ front_count bs m front_bytes_room

    pub front_not_least : SomeStart (code_records (take (5 * m) bs)) m → Least (decoded (recs_in m bs)) (recs_in m bs) → ⊥
    front_not_least s =
        subst (λ (rs : List Rec). Least (decoded rs) rs → ⊥) (front_records bs m front_bytes_room)
        (some_not_least (code_records (take (5 * m) bs)) good (code_pattern known)
        (subst (SomeStart (code_records (take (5 * m) bs))) (sym count) s))

    pub front_least : (SomeStart (code_records (take (5 * m) bs)) m → ⊥) → Least (decoded (recs_in m bs)) (recs_in m bs)
    front_least none =
        subst (λ (rs : List Rec). Least (decoded rs) rs) (front_records bs m front_bytes_room)
        (none_least (code_records (take (5 * m) bs)) good (code_pattern known)
        (λ s. none (subst (SomeStart (code_records (take (5 * m) bs))) count s)))
