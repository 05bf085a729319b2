-- Coding a drawing, step by step: the bytes of a code copied one by one, and the answer by the tests made. Assumes nothing.
use Rattle.std.specs.Prelude.{◌≡◌, Bool, true, false, cond, ◌⊎◌, ltb, eqb, get_or, set, take, drop, Result, Ok, Err}
use Rattle.std.proofs.Math.Path.{refl, sym, ap}
use Rattle.std.proofs.Common.{◌∙◌, inl, inr, add-one, arith, length-take-le, take-suc, drop-cons}
use mathlib.Core.List.{List, [], ◌∷◌, ◌++◌}
use Prim.Native.Nat.{ℕ, zero, suc, ◌+◌, ◌*◌, ◌≤◌, ◌<◌}
use Rattle.std.proofs.Math.ListN.{length}
use Rattle.std.proofs.Math.Seq.{append_snoc}
use Rattle.std.proofs.lemmas.List.{set_at}
use borrow.Author.Tests.{lt-ltb, le-ltb}
use Rattle.laws.specs.Rows.{rows}
use Rattle.graphs.specs.Drawing.{Drawing, devices, kind, drawing_in, drawing_refusal}
use Rattle.graphs.specs.Graph.{Simple, Pattern, lone_drawing}
use Rattle.graphs.specs.Sections.{lone_or_pattern, section_pattern}
use Rattle.graphs.specs.Simple.{simple_from_test}
use Rattle.graphs.specs.Patterns.{accepted_parts, kind_byte}
use Rattle.codes.specs.Code.{Rec, recs_in, rec_bytes, kinds_before, Least}
use Rattle.codes.specs.SectionCode.{lone_record, lone_code, section_records, LeastSection}
use Rattle.codes.specs.SectionCodes.{lone_least, least_pattern}
use Rattle.codes.specs.SectionBytes.{section_code_length}
use Rattle.codes.specs.CodeBytes.{rec_bytes_in, rec_bytes_length, recs_in_length}
use Rattle.records.specs.declared.code.Code.{Code}
use Rattle.records.specs.declared.refusal.Refusal.{Refusal}
use Rattle.records.specs.declared.refusal.Refusal.TheVariants.{OutputLength}
use Rattle.records.specs.Refusals.{number_of, number_positive}
use Rattle.records.specs.RefusalLaws.{first_some, first_none}
use Rattle.records.specs.Codes.{code_bytes}
use Rattle.code_checks.specs.Answers.{numbers, written_numbers}
use Rattle.laws.specs.Lent.{in_front}
use Rattle.readings.specs.Readings.{held_records, RecordHeld}
use Rattle.tables.specs.TableOfDrawing.{ByteRecord, record_section}
use Rattle.coding.specs.CodeDrawing.{coding_refusal, CodeAs, CodeSays}

-- ONE BYTE MORE in front
pub byte_copied :
    (src dst : List ℕ) (i : ℕ) → i < length src → i < length dst → set (take i src ++ drop i dst) i (get_or src i 0) ≡ take
    (i + 1) src ++ drop (i + 1) dst
byte_copied src dst i p q =
    rw (add-one, drop-cons dst i 0 q, take-suc src i 0 p)
    (set_at (take i src) (get_or dst i 0) (drop (suc i) dst) (get_or src i 0) i (length-take-le i src (omega arith))
    ∙ sym (append_snoc (take i src) (get_or src i 0) (drop (suc i) dst)))

-- all of them
module _ (c : Code) (long : length c.records ≡ 100) (few : c.count ≤ 20) where
  pub code_copied : (out : List ℕ) → take (5 * c.count) c.records ++ drop (5 * c.count) out ≡ in_front (code_bytes c) out
  unfolding code_bytes
  code_copied out = rw (length-take-le (5 * c.count) c.records (omega arith))

  -- they are those of its records
  pub code_bytes_are : code_bytes c ≡ rec_bytes (held_records c)
  unfolding code_bytes
  code_bytes_are = sym (rec_bytes_in c.count c.records (omega arith))

-- THE ONE RECORD of a lone device
pub only_held : (c r : Code) (e : Rec) (k : ℕ) → c.count ≡ 0 → RecordHeld c e r → e ≡ lone_record k → held_records r ≡ lone_code k
unfolding recs_in rows
only_held c r e k none h is =
    h.records
    ∙ ap (λ (n : ℕ). recs_in n c.records ++ (e ∷ [])) none
    ∙ ap {B = List Rec} (λ x. x ∷ []) is

-- HOW MANY RECORDS a drawing of m cables needs
pub records_few : (m n : ℕ) → n ≡ cond (eqb m 0) 1 m → m ≤ 20 → n ≤ 20
records_few m n e h = go (eqb m 0) e
  where
    go : (t : Bool) → n ≡ cond t 1 m → n ≤ 20
    go true e = omega arith
    go false e = omega arith

-- THE LEAST CODE of a drawing without cables, and of one with
module _ (xs : List ℕ) (A : ByteRecord xs) where
  cable_count : length (drawing_in xs).cables ≡ get_or xs 1 0
  cable_count = (accepted_parts xs A.accepted).cable_count

  pub lone_drawn_least : (rs : List Rec) → get_or xs 1 0 ≡ 0 → rs ≡ lone_code (get_or xs 2 0) → LeastSection (drawing_in xs) rs
  lone_drawn_least rs none e = go (lone_or_pattern (drawing_in xs) (record_section A))
    where
      go : ((k : ℕ) × (drawing_in xs ≡ lone_drawing k)) ⊎ Pattern (drawing_in xs) → LeastSection (drawing_in xs) rs
      go (inl (k, is)) =
          let n : 0 < devices (drawing_in xs) = omega (arith, (record_section A).devices_low) in
          let kind_is : get_or xs 2 0 ≡ k = kind_byte xs A.accepted 0 n ∙ ap (λ (d : Drawing). kind d 0) is in
          rw (is, e, kind_is) (lone_least kinds_before k)
      go (inr p) = absurd (omega (arith, p.cables_low, cable_count))

  pub cabled_drawn_least : (rs : List Rec) → (get_or xs 1 0 ≡ 0 → ⊥) → Least (drawing_in xs) rs → LeastSection (drawing_in xs) rs
  cabled_drawn_least rs some l =
      least_pattern kinds_before (section_pattern (record_section A) (omega (arith, some_cable (get_or xs 1 0) some, cable_count))) l
    where
      some_cable : (m : ℕ) → (m ≡ 0 → ⊥) → 1 ≤ m
      some_cable zero n = absurd (n refl)
      some_cable (suc m) n = omega arith

-- THE ANSWER, refusal by refusal
module _ (xs o : List ℕ) where
  back : (n : ℕ) (r : Result ℕ Refusal) → coding_refusal xs o ≡ n → 0 < n → written_numbers r ≡ numbers n 0 → CodeSays xs r o o
  unfolding CodeSays CodeAs
  back n r e h w = rw e (go n h w)
    where
      go : (n : ℕ) → 0 < n → written_numbers r ≡ numbers n 0 → CodeAs n (drawing_in xs) r o o
      go zero h w = absurd (omega arith)
      go (suc n) h w = unfold CodeAs in record { answer = w; output = refl }

  -- 1 to 8
  pub drawing_turned_back : (f : Refusal) → number_of f ≡ drawing_refusal xs → CodeSays xs (Err f) o o
  unfolding coding_refusal
  drawing_turned_back f e =
      back (number_of f) (Err f) (first_some (drawing_refusal xs) _ (rw (← e) (number_positive f)) ∙ sym e) (number_positive f) refl

  -- n is the number of records
  module _ (accepted : drawing_refusal xs ≡ 0) (m n : ℕ) (is : m ≡ get_or xs 1 0) (records : n ≡ cond (eqb m 0) 1 m) where
    needed : section_records (drawing_in xs) ≡ n
    unfolding section_records
    needed = rw ((accepted_parts xs accepted).cable_count, ← is) (sym records)

    simple : Simple (drawing_in xs)
    simple = let a = accepted_parts xs accepted in simple_from_test (drawing_in xs) (rw a.device_count a.cables_good)

    -- 15
    pub output_turned_back : length o < 5 * n → CodeSays xs (Err OutputLength) o o
    unfolding coding_refusal
    output_turned_back h =
        let short : length o < 5 * section_records (drawing_in xs) = rw needed h in
        back 15 (Err OutputLength) (first_none _ _ accepted ∙ rw (lt-ltb _ _ short)) (omega arith) refl

    -- the whole answer has room
    module _ (room : 5 * n ≤ length o) (c : Code) (long : length c.records ≡ 100)
        (least : LeastSection (drawing_in xs) (held_records c)) where
      pub code_count : c.count ≡ n
      code_count =
          sym (recs_in_length c.count c.records) ∙ section_code_length (drawing_in xs) simple (held_records c) least.code ∙ needed

      pub code_fits : (c.count ≤ 20) × (5 * c.count ≤ length o)
      code_fits = (
        omega (arith, code_count, records_few m n records (omega (arith, is, (accepted_parts xs accepted).cables_high))),
        omega (arith, code_count),
      )

      pub code_written : (z : List ℕ) → z ≡ in_front (code_bytes c) o → CodeSays xs (Ok (5 * n)) o z
      unfolding CodeSays CodeAs coding_refusal
      code_written z e =
          let enough : 5 * section_records (drawing_in xs) ≤ length o = rw needed room in
          let size : length (rec_bytes (held_records c)) ≡ 5 * n =
          rec_bytes_length (held_records c) ∙ ap (λ (k : ℕ). 5 * k) (recs_in_length c.count c.records ∙ code_count) in
          rw (first_none (drawing_refusal xs) (cond (ltb (length o) (5 * section_records (drawing_in xs))) 15 0) accepted, le-ltb _ _ enough)
          (record {
            code = held_records c;
            least = least;
            answer = ap Ok (sym size);
            output = e ∙ ap (λ (bs : List ℕ). in_front bs o) (code_bytes_are c long code_fits.0);
          })
