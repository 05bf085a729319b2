-- What decoding answers and leaves, and how its record of 73 bytes is filled. Assumes nothing: these are definitions.
use Rattle.std.specs.Prelude.{◌≡◌, cond, List, ℕ, ◌+◌, ◌*◌, ◌<◌, ltb, eqb, length, set, replicate, Result, Ok, Err, ⊤}
use Rattle.graphs.specs.Drawing.{drawing_bytes}
use Rattle.codes.specs.Code.{Rec, decoded, code_refusal, code_records}
use Rattle.codes.specs.SectionCode.{section_code_refusal, section_of}
use Rattle.records.specs.declared.refusal.Refusal.TheVariants.{OutputLength}
use Rattle.records.specs.declared.refusal.Refusal.{Refusal}
use Rattle.records.specs.Refusals.{or_else}
use Rattle.code_checks.specs.Answers.{PutSays}
use Rattle.code_checks.specs.SectionChecks.{section_code_checked}

-- 9, 10, 11, then 15 where fewer than 73 bytes are lent
unfoldable pub decode_checked : (code out : List ℕ) → Result ⊤ Refusal
decode_checked bs o = or_else (section_code_checked bs) (cond (ltb (length o) 73) (Err OutputLength) (Ok tt))

-- the record of the drawing that a code describes; a code tells no crane, so that byte is 0
abbrev pub decoded_bytes : (code : List ℕ) → List ℕ
decoded_bytes bs = drawing_bytes 0 (section_of (code_records bs))

-- the same of a DFS code, record by record
abbrev pub steps_bytes : (code : List ℕ) → List ℕ
steps_bytes bs = drawing_bytes 0 (decoded (code_records bs))

-- THE OUTCOME: a refusal, and the output is as it was, or the record in front of the lent bytes
abbrev pub DecodeSays : (code : List ℕ) → Result ℕ Refusal → (out out_now : List ℕ) → Type 0
DecodeSays bs r o z = PutSays (decode_checked bs o) (decoded_bytes bs) r o z

-- FILLING A RECORD: device v, of which there are v so far
abbrev pub write_device : (v kind : ℕ) → List ℕ → List ℕ
write_device v k bs = set (set bs 0 (v + 1)) (2 + v) k

-- cable k, of which there are k so far
abbrev pub write_cable : (k : ℕ) → Rec → List ℕ → List ℕ
write_cable k e bs = set (set (set (set bs 1 (k + 1)) (12 + 3 * k) e.i) (12 + 3 * k + 1) e.j) (12 + 3 * k + 2) e.c

-- record k of a code: device 0 with the first of them, device j with a forward one, and its cable
unfoldable pub write_first : (k : ℕ) → Rec → List ℕ → List ℕ
write_first k e bs = cond (eqb k 0) (write_device 0 e.ki bs) bs

unfoldable pub write_forward : Rec → List ℕ → List ℕ
write_forward e bs = cond (ltb e.i e.j) (write_device e.j e.kj bs) bs

abbrev pub write_record : (k : ℕ) → Rec → List ℕ → List ℕ
write_record k e bs = write_cable k e (write_forward e (write_first k e bs))

-- a code that is not refused, and the 73 bytes for its drawing
pub record CanWrite (code drawing : List ℕ) : Type 0 where
  pub accepted : section_code_refusal code ≡ 0
  pub room : length drawing ≡ 73

-- a DFS code that is not refused, and 73 zeros
pub record CanWriteSteps (code drawing : List ℕ) : Type 0 where
  pub accepted : code_refusal code ≡ 0
  pub zeros : drawing ≡ replicate 73 0

-- its record k and the same bytes
pub record CanWriteRecord (k : ℕ) (e : Rec) (drawing : List ℕ) : Type 0 where
  pub few : k < 20
  pub device : e.i < e.j → e.j < 10
  pub room : length drawing ≡ 73
