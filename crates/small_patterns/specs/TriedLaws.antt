-- What the least test tells of a code with one record more: yes exactly if it is listed. Rests on SectionCodes and SmallFamily. Assumes nothing.
use Rattle.std.specs.Prelude.{◌≡◌, Bool, ◌&&◌, List, [], ◌∷◌, ◌⊎◌, ℕ, ◌+◌, ◌*◌, ◌≤◌, eqb, length, get_or, take, Result, Ok, Err, ⊤}
use Rattle.std.proofs.Math.Path.{refl}
use Rattle.std.proofs.Common.{sym, ap, ◌∙◌, subst, inl, inr, arith, eqb-true}
use Rattle.std.proofs.Math.Bool.{true, false}
use Rattle.laws.specs.Tests.{true_and_false}
use Rattle.laws.specs.Lists.{snoc, mem_at}
use Rattle.graphs.specs.Drawing.{Drawing, byte_list}
use Rattle.graphs.specs.Graph.{Pattern}
use Rattle.graphs.specs.Patterns.{pattern_from_test, pattern_to_test, byte_list_from}
use Rattle.codes.specs.Code.{Rec, recs_in, code_records, rows_good, code_refusal, decoded, kinds_before}
use Rattle.codes.specs.CodeBytes.{accepted_code}
use Rattle.codes.specs.CodeFronts.{front_records, front_accepted}
use Rattle.codes.specs.RecordPut.{RecordPut}
use Rattle.codes.specs.ReadRows.{good_from_test}
use Rattle.codes.specs.Decoded.{decoded_pattern}
use Rattle.codes.specs.SectionCode.{lone_row, lone_bytes, records_good, section_code_refusal, section_of, LeastSection}
use Rattle.codes.specs.SectionCodes.{section_of_rows, least_pattern, pattern_least}
use Rattle.codes.specs.SectionBytes.{accepted_section_code}
use Rattle.records.specs.declared.refusal.Refusal.{Refusal}
use Rattle.code_checks.specs.declared.answer.Verdict.{Verdict}
use Rattle.code_checks.specs.SectionChecks.{section_code_checked}
use Rattle.code_checks.specs.SectionCheckLaws.{section_checked_accepted, section_accepted_checked}
use Rattle.coding.specs.LeastSays.{yes, no, LeastAnswer, LeastSays}
use Rattle.coding.specs.LeastSaysLaws.{told_least}
use Rattle.growth.specs.Family.{Listable}
use Rattle.books.specs.SmallFamily.{SmallLabels, small_more, small_last}
use Rattle.small_patterns.specs.declared.next.BookBounds.{BookBounds}
use Rattle.laws.specs.Decides.{decides_false}
use Rattle.small_patterns.specs.SmallWalk.{is_yes, SaysLeast, JoinsTwo, Asked, RecordTried}

-- a record between two devices is no lone device's
not_lone : (γ : List Rec) (e : Rec) → JoinsTwo e → lone_row (snoc γ e) ≡ false
unfolding lone_row
not_lone [] e two = go (eqb e.i 0) (eqb e.j 0) refl refl
  where
    go : (x y : Bool) → eqb e.i 0 ≡ x → eqb e.j 0 ≡ y → (x && y) ≡ false
    go true true p q = absurd (two (eqb-true e.i 0 p ∙ sym (eqb-true e.j 0 q)))
    go true false p q = refl
    go false y p q = refl
not_lone (r ∷ []) e two = refl
not_lone (r ∷ s ∷ rs) e two = refl

-- small kinds are bytes
small_bytes : (g : BookBounds) → (p : Drawing) → Asked g p → byte_list p.kinds ≡ true
small_bytes g p s =
    byte_list_from p.kinds (λ i h. omega (arith, g.devices_few, s.device_kinds (get_or p.kinds i 256) (mem_at 256 p.kinds i h)))

module _ (g : BookBounds) {code now : List ℕ} {m : ℕ} {e : Rec} (long : length code ≡ 100) (low : m ≤ 7) (two : JoinsTwo e)
    (p : RecordPut code m e now) where
  room : 5 * (m + 1) ≤ length now
  room = omega (arith, p.long)

  records : code_records (take (5 * (m + 1)) now) ≡ snoc (recs_in m code) e
  records = front_records now (m + 1) room ∙ p.records

  cabled : section_code_refusal (take (5 * (m + 1)) now) ≡ code_refusal (take (5 * (m + 1)) now)
  unfolding section_code_refusal lone_bytes
  cabled = rw (records, not_lone (recs_in m code) e two, both_false (eqb (length (take (5 * (m + 1)) now)) 5))
    where
      both_false : (t : Bool) → (t && false) ≡ false
      both_false true = refl
      both_false false = refl

  -- WHAT IS LISTED is accepted, and the least of the codes of its section
  fine : Listable kinds_before (Asked g) (snoc (recs_in m code) e) → section_code_checked (take (5 * (m + 1)) now) ≡ Ok tt
  fine f =
      section_accepted_checked (take (5 * (m + 1)) now)
      (cabled ∙ front_accepted now (m + 1) room (omega arith) (omega arith)
      (rw p.records (good_from_test (snoc (recs_in m code) e) f.least.code.good).accepted))

  least_too : Listable kinds_before (Asked g) (snoc (recs_in m code) e)
      → LeastSection (section_of (code_records (take (5 * (m + 1)) now))) (code_records (take (5 * (m + 1)) now))
  least_too f =
      let rs = snoc (recs_in m code) e in
      rw (records, section_of_rows rs f.least.code.good) (least_pattern kinds_before (pattern_from_test (decoded rs) f.drawn) f.least)

  good_rows : section_code_refusal (take (5 * (m + 1)) now) ≡ 0 → records_good (code_records (take (5 * (m + 1)) now)) ≡ true
  good_rows z = (accepted_section_code (take (5 * (m + 1)) now) z).good

  -- YES: it is listed
  if_yes : Asked g (decoded (recs_in m code)) → SmallLabels g.devices g.cables e → (v : Result Verdict Refusal) → LeastSays (take (5 * (m + 1)) now) v
      → is_yes v ≡ true → Listable kinds_before (Asked g) (snoc (recs_in m code) e)
  if_yes s l v says y = go (section_code_checked (take (5 * (m + 1)) now)) refl says
    where
      rs : List Rec
      rs = snoc (recs_in m code) e

      made : section_code_refusal (take (5 * (m + 1)) now) ≡ 0
          → LeastSection (section_of (code_records (take (5 * (m + 1)) now))) (code_records (take (5 * (m + 1)) now))
          → Listable kinds_before (Asked g) (snoc (recs_in m code) e)
      made z least = record { drawn = pattern_to_test (decoded rs) pattern; least = pattern_least kinds_before pattern smallest; wanted = small }
        where
          good : rows_good (snoc (recs_in m code) e) ≡ true
          good = rw records at (accepted_code (take (5 * (m + 1)) now) (sym cabled ∙ z)).good

          small : Asked g (decoded (snoc (recs_in m code) e))
          small = small_more g.devices g.cables (recs_in m code) e (good_from_test (snoc (recs_in m code) e) good).accepted s l

          pattern : Pattern (decoded (snoc (recs_in m code) e))
          pattern = decoded_pattern (snoc (recs_in m code) e) good (small_bytes g (decoded (snoc (recs_in m code) e)) small)

          smallest : LeastSection (decoded (snoc (recs_in m code) e)) (snoc (recs_in m code) e)
          smallest = rw (records, section_of_rows (snoc (recs_in m code) e) good) at least

      go : (c : Result ⊤ Refusal) → section_code_checked (take (5 * (m + 1)) now) ≡ c → LeastAnswer c (code_records (take (5 * (m + 1)) now)) v
          → Listable kinds_before (Asked g) (snoc (recs_in m code) e)
      go (Err x) q w = absurd (true_and_false y (ap is_yes w))
      go (Ok u) q w = told (told_least w (good_rows fine_code))
        where
          fine_code : section_code_refusal (take (5 * (m + 1)) now) ≡ 0
          fine_code = section_checked_accepted (take (5 * (m + 1)) now) q

          told : {n k : ℕ}
              → ((v ≡ Ok (yes n)) × LeastSection (section_of (code_records (take (5 * (m + 1)) now))) (code_records (take (5 * (m + 1)) now)))
              ⊎ ((v ≡ Ok (no k))
              × (LeastSection (section_of (code_records (take (5 * (m + 1)) now))) (code_records (take (5 * (m + 1)) now)) → ⊥))
              → Listable kinds_before (Asked g) (snoc (recs_in m code) e)
          told (inl x) = made fine_code x.1
          told (inr x) = absurd (true_and_false y (ap is_yes x.0))

  -- what is listed is answered yes
  yes_if : Listable kinds_before (Asked g) (snoc (recs_in m code) e) → (v : Result Verdict Refusal) → LeastSays (take (5 * (m + 1)) now) v → is_yes v ≡ true
  yes_if f v says =
      go (told_least (subst (λ (c : Result ⊤ Refusal). LeastAnswer c (code_records (take (5 * (m + 1)) now)) v) (fine f) says)
      (good_rows (section_checked_accepted (take (5 * (m + 1)) now) (fine f))))
    where
      go : {n k : ℕ}
          → ((v ≡ Ok (yes n)) × LeastSection (section_of (code_records (take (5 * (m + 1)) now))) (code_records (take (5 * (m + 1)) now)))
          ⊎ ((v ≡ Ok (no k))
          × (LeastSection (section_of (code_records (take (5 * (m + 1)) now))) (code_records (take (5 * (m + 1)) now)) → ⊥))
          → is_yes v ≡ true
      go (inl x) = ap is_yes x.0
      go (inr x) = absurd (x.1 (least_too f))

  -- WITH OTHER LABELS it is not
  labels_listed : (SmallLabels g.devices g.cables e → ⊥) → Listable kinds_before (Asked g) (snoc (recs_in m code) e) → ⊥
  labels_listed bad f =
      bad (small_last g.devices g.cables (recs_in m code) e
      (good_from_test (snoc (recs_in m code) e) f.least.code.good).accepted f.wanted)

  -- TRIED with labels within the bounds, and without
  pub tried_within : {r : Bool} → SmallLabels g.devices g.cables e → SaysLeast (take (5 * (m + 1)) now) r → RecordTried g code m e r now
  tried_within {r} l v =
      record {
        put = p;
        decides = λ s.
            record {
              holds = λ e. if_yes s l v.verdict v.says (sym v.is ∙ e);
              fails = λ e f. true_and_false (yes_if f v.verdict v.says) (sym v.is ∙ e);
            };
      }

  pub tried_without : (SmallLabels g.devices g.cables e → ⊥) → RecordTried g code m e false now
  tried_without bad = record { put = p; decides = λ s. decides_false (labels_listed bad) }
