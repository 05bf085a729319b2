-- A reader's drawings, and what a fetch from an opened survey gives. Assumes nothing.
use Rattle.std.specs.Prelude.{◌≡◌, refl, List, [], ℕ, ◌*◌, ◌<◌, ◌≤◌, length, get_or, Option, None, Some, Ok, Err}
use Rattle.std.specs.Option.{IsSomeAnd, ok_or}
use Rattle.std.specs.Result.{IsOkAnd, result_ok}
use Rattle.std.proofs.Common.{sym, ap, ◌∙◌, arith, lt-ltb, le-ltb}
use Rattle.std.specs.Borrow.{Bor}
use Rattle.laws.specs.Rows.{row, row_length, rows_at}
use Rattle.graphs.specs.Survey.{length_refusal, records_in, drawing_count}
use Rattle.reader.specs.declared.reader.Opened.{Opened}
use Rattle.records.specs.declared.refusal.Refusal.TheVariants.{SurveyLength}
use Rattle.reader.specs.declared.reader.Reader.{Reader}
use Rattle.reader.specs.Readers.{further, fetch_refusal, reader_drawings, DrawingAt, Opens, Fetched, fetch_bytes, Fetches, FetchGives}

-- THE REFUSAL of a fetch
pub fetch_accepted : (n d : ℕ) → d < n → fetch_refusal n d ≡ 0
unfolding fetch_refusal
fetch_accepted n d h = simp (lt-ltb _ _ h)

pub fetch_refused : (n d : ℕ) → n ≤ d → fetch_refusal n d ≡ 14
unfolding fetch_refusal
fetch_refused n d h = simp (le-ltb _ _ h)

-- A FETCH: the drawing that there is, or 14
pub fetch_of_part : (reader : Reader) (d : ℕ) (part : Option (Bor (List ℕ))) → DrawingAt reader.bytes d part
    → Fetches reader d (ok_or part SurveyLength)
fetch_of_part reader d None at =
    let there = at.bytes in
    let past : reader_drawings reader ≤ d = omega arith in
    record { refusal = sym (fetch_refused _ d past); part = at }
fetch_of_part reader d (Some p) at =
    let there : reader_drawings reader ≤ d → ⊥ = λ h. let none = at.none h in absurd cc in
    let below : d < reader_drawings reader = omega arith in
    record { refusal = sym (fetch_accepted _ d below); part = at }

-- A DRAWING's bytes: 73, a record of the survey
pub drawing_length : (bs : List ℕ) (d : ℕ) → d < drawing_count bs → length (row 73 d bs) ≡ 73
drawing_length bs d h = row_length 73 d bs (omega arith)

pub drawing_record : (bs : List ℕ) (d : ℕ) → d < drawing_count bs → row 73 d bs ≡ get_or (records_in bs) d []
unfolding records_in
drawing_record bs d h = sym (rows_at 73 (drawing_count bs) d bs h)

-- THE BYTES of an answer, and where they lie
no_bytes : (r : Fetched) → result_ok r ≡ None → fetch_bytes r ≡ []
no_bytes (Err e) h = refl
no_bytes (Ok p) h = absurd cc

bytes_there : {bs : List ℕ} (r : Fetched) → IsSomeAnd (result_ok r) (λ p. p.now ≡ bs) → fetch_bytes r ≡ bs
bytes_there (Ok p) h = h
bytes_there (Err e) h = absurd h

place_there : {at to : ℕ × ℕ} (r : Fetched) → IsSomeAnd (result_ok r) (λ p. p.ref_ptr ≡ at) → at ≡ to → IsOkAnd r (λ p. p.ref_ptr ≡ to)
place_there (Ok p) h e = h ∙ e
place_there (Err r) h e = absurd h

module _ {survey : Bor (List ℕ)} {o : Opened} (opens : Opens survey o) where
  -- THE DRAWINGS of the reader
  pub accepted_drawings : length_refusal survey.now ≡ 0 → reader_drawings o.reader ≡ drawing_count survey.now
  accepted_drawings a = ap (λ (x : Bor (List ℕ)). drawing_count x.now) (opens.reader.accepted a)

  pub refused_drawings : 0 < length_refusal survey.now → reader_drawings o.reader ≡ 0
  refused_drawings h = ap drawing_count (opens.reader.refused h)

  -- A FETCH from it
  module _ {d : ℕ} {r : Fetched} (fetches : Fetches o.reader d r) where
    none : reader_drawings o.reader ≤ d → FetchGives r 14 []
    none h = record {
      refusal = fetches.refusal ∙ fetch_refused _ d h;
      part = no_bytes r (fetches.part.none h);
    }

    pub refused_fetch : 0 < length_refusal survey.now → FetchGives r 14 []
    refused_fetch h = none (omega (arith, refused_drawings h))

    module _ (a : length_refusal survey.now ≡ 0) where
      pub fetch_past : drawing_count survey.now ≤ d → FetchGives r 14 []
      fetch_past h = none (omega (arith, accepted_drawings a))

      module _ (h : d < drawing_count survey.now) where
        below : d < reader_drawings o.reader
        below = omega (arith, accepted_drawings a)

        pub fetched_drawing : FetchGives r 0 (row 73 d survey.now)
        fetched_drawing = record {
          refusal = fetches.refusal ∙ fetch_accepted _ d below;
          part = bytes_there r (fetches.part.bytes below) ∙ ap (λ (x : Bor (List ℕ)). row 73 d x.now) (opens.reader.accepted a);
        }

        -- those very bytes
        pub fetched_place : IsOkAnd r (λ p. p.ref_ptr ≡ further (73 * d) survey.ref_ptr)
        fetched_place =
            place_there r (fetches.part.place below) (ap (λ (x : Bor (List ℕ)). further (73 * d) x.ref_ptr) (opens.reader.accepted a))
