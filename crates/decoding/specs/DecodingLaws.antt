-- Decoding record by record: each record makes the drawing's record that of one record more. Rests on DrawnLaws and on
-- the rows of codes. Assumes nothing.
use Rattle.std.specs.Prelude.{◌≡◌, Bool, ℕ, ◌+◌, ◌*◌, ◌-◌, ◌/◌, ◌≤◌, ◌<◌, ltb, length, replicate, Ok, Err}
use Rattle.std.proofs.Math.Path.{refl, ap, ap₂}
use Rattle.std.proofs.Common.{sym, ◌∙◌, add-one, arith}
use Rattle.std.proofs.Math.Bool.{true, false, cond}
use mathlib.Core.List.{List, [], ◌∷◌, ◌++◌, map}
use Rattle.std.proofs.Math.ListN.{drop}
use borrow.Author.Tests.{lt-ltb, le-ltb}
use Rattle.laws.specs.Lists.{snoc, snoc_length, map_append}
use Rattle.laws.specs.Rows as rows
use Rattle.graphs.specs.Drawing.{Drawing, devices, drawing_bytes}
use Rattle.graphs.specs.Graph.{lone_drawing}
use Rattle.graphs.specs.DrawingBytes.{drawing_bytes_length}
use Rattle.codes.specs.Code.{Rec, Reading, fresh, rec_in, recs_in, cable_of, stepped, rows_refusal, read_rows, rows_good, code_refusal, drawn, decoded, code_records}
use Rattle.codes.specs.Step.{Step, steps_back, steps_forward, after}
use Rattle.codes.specs.Reading.{Invariant}
use Rattle.codes.specs.ReadRows.{
  step_from_test,
  stepped_is,
  begun_is,
  begun_from_test,
  FirstRow,
  rows_cons,
  rows_divided,
  read_snoc,
  rows_invariant,
  decoded_cables,
  good_from_test,
}
use Rattle.codes.specs.CodeBytes.{accepted_code, recs_in_length}
use Rattle.codes.specs.SectionCode.{records_good, lone_kind, lone_bytes, section_code_refusal, section_of}
use Rattle.codes.specs.SectionCodes.{RowGood, row_good_from_test, lone_code_of, section_of_rows}
use Rattle.codes.specs.SectionBytes.{lone_bytes_parts, accepted_section_code}
use Rattle.records.specs.declared.refusal.Refusal.{Refusal}
use Rattle.records.specs.declared.refusal.Refusal.TheVariants.{OutputLength}
use Rattle.records.specs.Refusals.{checked_number, first_of}
use Rattle.code_checks.specs.SectionChecks.{section_code_checked}
use Rattle.decoding.specs.Decoding.{
  decode_checked,
  decoded_bytes,
  steps_bytes,
  DecodeSays,
  write_device,
  write_cable,
  write_forward,
  write_record,
}
use Rattle.code_checks.specs.AnswerLaws.{or_else_number}
use Rattle.decoding.specs.DrawnLaws.{write_first_some, write_first_none, forward_some, forward_none, nothing_drawn, device_more, device_written, cable_more, cable_written}
use Rattle.code_checks.specs.CheckLaws.{checked_record}
use Rattle.code_checks.specs.SectionCheckLaws.{section_checked_number, section_checked_accepted, one_record, steps_accepted}

-- A CABLE AND A NEW DEVICE
both_written :
    (d : Drawing) (e : Rec) (v : ℕ) → v ≡ devices d → devices d < 10 → length d.cables < 20
    → write_cable (length d.cables) e (write_device v e.kj (drawing_bytes 0 d))
    ≡ drawing_bytes 0 (cable_more (device_more d e.kj) (cable_of e))
both_written d e v is low few =
    ap (write_cable (length d.cables) e)
    (ap (λ (w : ℕ). write_device w e.kj (drawing_bytes 0 d)) is ∙ device_written d e.kj low)
    ∙ cable_written (device_more d e.kj) e (rw snoc_length (omega arith)) few

-- THE FIRST RECORD names devices 0 and 1
module _ (e : Rec) (good : rows_refusal fresh (e ∷ []) ≡ 0) where
  ends : (e.i ≡ 0) × (e.j ≡ 1)
  ends = begun_from_test e (rows_cons fresh e [] good).step

  abbrev device_zero : Drawing
  device_zero = record { kinds = e.ki ∷ []; cables = [] }

  first_written : write_record 0 e (drawing_bytes 0 (drawn fresh)) ≡ drawing_bytes 0 (drawn (stepped fresh e))
  first_written =
      ap (write_cable 0 e)
      (ap (write_forward e) (write_first_some 0 e (drawing_bytes 0 (drawn fresh)) refl ∙ device_zero_written)
      ∙ forward_some 0 e (drawing_bytes 0 device_zero) (omega (arith, ends.0, ends.1)))
      ∙ both_written device_zero e e.j ends.1 (omega arith) (omega arith)
      ∙ ap (λ (x : Reading). drawing_bytes 0 (drawn x)) (sym (begun_is e))
    where
      device_zero_written : write_device 0 e.ki (drawing_bytes 0 (drawn fresh)) ≡ drawing_bytes 0 device_zero
      device_zero_written = unfold fresh in device_written (drawn fresh) e.ki (omega arith)

-- A LATER RECORD names a new device if it is forward
module _ (x : Reading) (v : Invariant x) (e : Rec) (k : ℕ) (later : k ≡ 0 → ⊥) (is : k ≡ length x.cables) (few : k < 20) where
  later_written : (s : Step x e) → write_record k e (drawing_bytes 0 (drawn x)) ≡ drawing_bytes 0 (drawn (after s))
  later_written (steps_back o p q) =
      ap (write_cable k e)
      (ap (write_forward e) (write_first_none k e (drawing_bytes 0 (drawn x)) later)
      ∙ forward_none k e (drawing_bytes 0 (drawn x)) (omega (arith, o.down)))
      ∙ ap (λ (n : ℕ). write_cable n e (drawing_bytes 0 (drawn x))) is ∙ cable_written (drawn x) e v.ten (omega arith)
  later_written (steps_forward m p q r) =
      ap (write_cable k e)
      (ap (write_forward e) (write_first_none k e (drawing_bytes 0 (drawn x)) later)
      ∙ forward_some k e (drawing_bytes 0 (drawn x)) (omega (arith, v.below e.i m)))
      ∙ ap (λ (n : ℕ). write_cable n e (write_device e.j e.kj (drawing_bytes 0 (drawn x)))) is
      ∙ both_written (drawn x) e e.j p (omega arith) (omega arith)

  -- a new device has a number that may be
  later_device : Step x e → e.i < e.j → e.j < 10
  later_device (steps_back o p q) h = absurd (omega (arith, o.down))
  later_device (steps_forward m p q r) h = omega arith

-- ONE RECORD MORE of accepted rows
pub record WrittenMore (rs : List Rec) (e : Rec) : Type 0 where
  pub written : write_record (length rs) e (drawing_bytes 0 (decoded rs)) ≡ drawing_bytes 0 (decoded (snoc rs e))
  pub device : e.i < e.j → e.j < 10

written_more : (rs : List Rec) (e : Rec) → length rs < 20 → rows_refusal fresh (snoc rs e) ≡ 0 → WrittenMore rs e
unfolding decoded
written_more [] e few good =
    record {
      written = unfold read_rows in first_written e good;
      device = λ h. omega (arith, (ends e good).1);
    }
written_more (r ∷ rs) e few good =
    record {
      written =
          later_written x v e (length (r ∷ rs)) (λ z. omega arith) (sym (decoded_cables (r ∷ rs))) few s
          ∙ ap (λ (y : Reading). drawing_bytes 0 (drawn y)) next;
      device = later_device x v e (length (r ∷ rs)) (λ z. omega arith) (sym (decoded_cables (r ∷ rs))) few s;
    }
  where
    halves : (rows_refusal fresh (r ∷ rs) ≡ 0) × (rows_refusal (read_rows fresh (r ∷ rs)) (e ∷ []) ≡ 0)
    halves = rows_divided fresh (r ∷ rs) (e ∷ []) good

    x : Reading
    x = read_rows fresh (r ∷ rs)

    v : Invariant x
    v = rows_invariant r rs halves.0

    row : FirstRow x e []
    row = rows_cons x e [] halves.1

    s : Step x e
    s = step_from_test x v e row.step row.kinds

    next : after s ≡ read_rows fresh (snoc (r ∷ rs) e)
    next = sym (stepped_is x v e s) ∙ sym (read_snoc fresh (r ∷ rs) e)

-- A CODE OF BYTES
module _ (bs : List ℕ) where
  recs_more : (k : ℕ) → recs_in (k + 1) bs ≡ snoc (recs_in k bs) (checked_record bs k)
  unfolding recs_in
  recs_more k = rw (add-one, rows.rows_snoc) (map_append rec_in (rows.rows 5 k bs) (rows.row 5 k bs ∷ []))

  recs_front : (k m : ℕ) → rows_refusal fresh (recs_in (k + m) bs) ≡ 0 → rows_refusal fresh (recs_in k bs) ≡ 0
  unfolding recs_in
  recs_front k m e = (rows_divided fresh (recs_in k bs) rest (ap (rows_refusal fresh) (sym parts) ∙ e)).0
    where
      rest : List Rec
      rest = map rec_in (rows.rows 5 m (drop (5 * k) bs))

      parts : map rec_in (rows.rows 5 (k + m) bs) ≡ map rec_in (rows.rows 5 k bs) ++ rest
      parts = ap (map rec_in) (rows.rows_split 5 k m bs) ∙ map_append rec_in (rows.rows 5 k bs) (rows.rows 5 m (drop (5 * k) bs))

  pub decoded_start : replicate 73 0 ≡ drawing_bytes 0 (decoded (recs_in 0 bs))
  unfolding decoded recs_in rows.rows read_rows fresh
  decoded_start = nothing_drawn

  module _ (accepted : code_refusal bs ≡ 0) (k : ℕ) (some : k < length bs / 5) where
    pub code_few : k < 20
    code_few = omega (arith, (accepted_code bs accepted).most)

    more : WrittenMore (recs_in k bs) (checked_record bs k)
    more =
        written_more (recs_in k bs) (checked_record bs k) (rw (recs_in_length k bs) code_few)
        (rw (recs_more k) at (recs_front (k + 1) (length bs / 5 - (k + 1)) (rw all whole)))
      where
        all : k + 1 + (length bs / 5 - (k + 1)) ≡ length bs / 5
        all = omega arith

        whole : rows_refusal fresh (recs_in (length bs / 5) bs) ≡ 0
        whole = (good_from_test (recs_in (length bs / 5) bs) (accepted_code bs accepted).good).accepted

    pub decoded_next :
        write_record k (checked_record bs k) (drawing_bytes 0 (decoded (recs_in k bs))) ≡ drawing_bytes 0 (decoded (recs_in (k + 1) bs))
    decoded_next =
        ap (λ (n : ℕ). write_record n (checked_record bs k) (drawing_bytes 0 (decoded (recs_in k bs)))) (sym (recs_in_length k bs))
        ∙ more.written ∙ ap (λ (rs : List Rec). drawing_bytes 0 (decoded rs)) (sym (recs_more k))

    pub decoded_device : (checked_record bs k).i < (checked_record bs k).j → (checked_record bs k).j < 10
    decoded_device = more.device

-- good rows describe a drawing of ten devices at the most
decoded_devices : (rs : List Rec) → rows_good rs ≡ true → devices (decoded rs) ≤ 10
unfolding decoded
decoded_devices [] g = absurd (omega (arith, (good_from_test [] g).one))
decoded_devices (r ∷ rs) g = (rows_invariant r rs (good_from_test (r ∷ rs) g).accepted).ten

-- so do all rows that are accepted
pub row_few : (rs : List Rec) → records_good rs ≡ true → (devices (section_of rs) ≤ 10) × (length (section_of rs).cables ≤ 20)
row_few rs g = go (row_good_from_test rs g)
  where
    go : RowGood rs → (devices (section_of rs) ≤ 10) × (length (section_of rs).cables ≤ 20)
    go (RowGood.lone k e) = rw (e, lone_code_of k) (omega arith, omega arith)
    go (RowGood.cabled h) =
        rw (section_of_rows rs h) (decoded_devices rs h, omega (arith, decoded_cables rs, (good_from_test rs h).most))

section_length : (rs : List Rec) → records_good rs ≡ true → length (drawing_bytes 0 (section_of rs)) ≡ 73
section_length rs g = let few = row_few rs g in drawing_bytes_length 0 (section_of rs) few.0 few.1

-- A LONE DEVICE
pub lone_written : (k : ℕ) → write_device 0 k (replicate 73 0) ≡ drawing_bytes 0 (lone_drawing k)
lone_written k = ap (write_device 0 k) nothing_drawn ∙ device_written (record { kinds = []; cables = [] }) k (omega arith)

-- THE TWO WAYS: a lone device's record, and a DFS code's
module _ (bs : List ℕ) (fine : section_code_refusal bs ≡ 0) where
  pub decoded_lone : (r : Rec) → lone_bytes bs ≡ true → r ≡ rec_in (rows.row 5 0 bs) → drawing_bytes 0 (lone_drawing r.ki) ≡ decoded_bytes bs
  unfolding section_of lone_kind
  decoded_lone r t is =
      let p = lone_bytes_parts bs t in
      let rs : code_records bs ≡ r ∷ [] = one_record bs p.0 ∙ ap (λ (s : Rec). s ∷ []) (sym is) in
      rw (p.1, rs)

  pub decoded_steps : lone_bytes bs ≡ false → steps_bytes bs ≡ decoded_bytes bs
  decoded_steps t = ap (drawing_bytes 0) (sym (section_of_rows (code_records bs) (accepted_code bs (steps_accepted bs fine t)).good))

-- THE OUTCOME, place by place
module _ (bs o : List ℕ) where
  -- its number is the paper's: 9, 10, 11, then 15
  pub decode_checked_number : checked_number (decode_checked bs o) ≡ first_of (section_code_refusal bs) (cond (ltb (length o) 73) 15 0)
  unfolding decode_checked
  decode_checked_number =
      or_else_number (section_code_checked bs) _ ∙ ap₂ first_of (section_checked_number bs) (short (ltb (length o) 73))
    where
      short : (t : Bool) → checked_number (cond t (Err OutputLength) (Ok tt)) ≡ cond t 15 0
      short true = refl
      short false = refl

  pub decode_refused : (r : Refusal) (z : List ℕ) → section_code_checked bs ≡ Err r → z ≡ o → DecodeSays bs (Err r) o z
  unfolding decode_checked
  decode_refused r z e same = record { answer = rw e; output = rw e same }

  pub decode_short : (z : List ℕ) → section_code_checked bs ≡ Ok tt → length o < 73 → z ≡ o → DecodeSays bs (Err OutputLength) o z
  unfolding decode_checked
  decode_short z e h same = record { answer = rw (e, lt-ltb (length o) 73 h); output = rw (e, lt-ltb (length o) 73 h) same }

  -- a code that is accepted describes a drawing of 73 bytes
  pub decoded_length : section_code_checked bs ≡ Ok tt → length (decoded_bytes bs) ≡ 73
  decoded_length e = section_length (code_records bs) (accepted_section_code bs (section_checked_accepted bs e)).good

  pub decode_written :
      (z : List ℕ) → section_code_checked bs ≡ Ok tt → 73 ≤ length o → z ≡ decoded_bytes bs ++ drop 73 o → DecodeSays bs (Ok 73) o z
  unfolding decode_checked
  decode_written z e h is =
      let n = decoded_length e in
      record {
        answer = rw (e, le-ltb (length o) 73 h) (ap Ok (sym n));
        output = rw (e, le-ltb (length o) 73 h) (is ∙ ap (λ (k : ℕ). decoded_bytes bs ++ drop k o) (sym n));
      }

-- which of the two ways a code is drawn
pub ruleset two_ways = (lone_bytes_parts, steps_accepted, decoded_steps)
