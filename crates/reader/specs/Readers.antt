-- What opening a survey and fetching from it give: the very bytes of the survey, known by the place where they lie.
-- Assumes nothing: these are definitions.
use Rattle.std.specs.Prelude.{◌≡◌, cond, List, [], ℕ, ◌+◌, ◌*◌, ◌<◌, ◌≤◌, ltb, Option, None, Result, Ok, Err, ⊤}
use Rattle.std.specs.Option.{IsSomeAnd}
use Rattle.std.specs.Result.{result_ok}
use Rattle.std.specs.Borrow.{Bor}
use Rattle.laws.specs.Rows.{row}
use Rattle.graphs.specs.Survey.{length_refusal, drawing_count}
use Rattle.records.specs.declared.refusal.Refusal.{Refusal}
use Rattle.records.specs.Refusals.{checked_number}
use Rattle.reader.specs.declared.reader.Reader.{Reader}
use Rattle.reader.specs.declared.reader.Opened.{Opened}

-- the place k bytes further on
abbrev pub further : (k : ℕ) → ℕ × ℕ → ℕ × ℕ
further k p = (p.0, p.1 + k)

-- the part of a survey that may be read: the survey itself, and where its length is refused an empty part
pub record Readable (survey part : Bor (List ℕ)) : Type 0 where
  pub accepted : length_refusal survey.now ≡ 0 → part ≡ survey
  pub refused : 0 < length_refusal survey.now → part.now ≡ []

-- drawing d as those very 73 bytes of the survey, and none where d is not below the number of drawings
pub record DrawingAt (survey : Bor (List ℕ)) (d : ℕ) (part : Option (Bor (List ℕ))) : Type 0 where
  pub bytes : d < drawing_count survey.now → IsSomeAnd part (λ p. p.now ≡ row 73 d survey.now)
  pub place : d < drawing_count survey.now → IsSomeAnd part (λ p. p.ref_ptr ≡ further (73 * d) survey.ref_ptr)
  pub none : drawing_count survey.now ≤ d → part ≡ None

-- 14 a fetch with d not below the number of drawings
unfoldable pub fetch_refusal : (drawings d : ℕ) → ℕ
fetch_refusal n d = cond (ltb d n) 0 14

-- the number of drawings that a reader has
abbrev pub reader_drawings : Reader → ℕ
reader_drawings r = drawing_count r.bytes.now

-- OPENING checks the length place only; where that refuses, the reader has no drawings
pub record Opens (survey : Bor (List ℕ)) (r : Opened) : Type 0 where
  pub refusal : checked_number r.checked ≡ length_refusal survey.now
  pub reader : Readable survey r.reader.bytes

-- FETCHING drawing d: its bytes where they lie in the survey, or a refusal
abbrev pub Fetched : Type 0
Fetched = Result (Bor (List ℕ)) Refusal

-- what a fetch says by its two answers: whether it is refused, and the bytes, none where it is
abbrev pub fetch_checked : Fetched → Result ⊤ Refusal
fetch_checked (Ok p) = Ok tt
fetch_checked (Err r) = Err r

abbrev pub fetch_bytes : Fetched → List ℕ
fetch_bytes (Ok p) = p.now
fetch_bytes (Err r) = []

pub record Fetches (reader : Reader) (d : ℕ) (r : Fetched) : Type 0 where
  pub refusal : checked_number (fetch_checked r) ≡ fetch_refusal (reader_drawings reader) d
  pub part : DrawingAt reader.bytes d (result_ok r)

-- the same by the number, 0 where it is accepted, and the bytes
pub record FetchGives (r : Fetched) (number : ℕ) (bytes : List ℕ) : Type 0 where
  pub refusal : checked_number (fetch_checked r) ≡ number
  pub part : fetch_bytes r ≡ bytes
