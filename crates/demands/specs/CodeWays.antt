-- From a drawing to its code and from a code to its drawing, over the bytes that a caller sees. Rests on least codes and on what
-- a code describes. Assumes nothing.
use Rattle.std.specs.Prelude.{◌≡◌, refl, true, List, ℕ, ◌*◌, ◌≤◌, length, drop, ⊤, Result, Ok}
use Rattle.std.proofs.Common.{ap, ◌∙◌, take_at, le-ltb}
use Rattle.graphs.specs.Drawing.{Drawing, drawing_in, crane_in, drawing_bytes, drawing_refusal, byte_list, accepted}
use Rattle.graphs.specs.Map.{Same}
use Rattle.graphs.specs.Embedding.{EndsInRange}
use Rattle.graphs.specs.Isomorphisms.{same_by_means}
use Rattle.graphs.specs.Graph.{Section}
use Rattle.graphs.specs.DrawingBytes.{drawing_in_bytes, crane_in_bytes, drawing_bytes_accepted}
use Rattle.graphs.specs.Patterns.{accepted_section}
use Rattle.codes.specs.Code.{Rec, code_records, rec_bytes}
use Rattle.codes.specs.Decoded.{rows_bytes}
use Rattle.codes.specs.SectionCode.{section_code_refusal, section_records, records_good, section_of, SectionCode}
use Rattle.codes.specs.SectionCodes.{row_good_from_test, row_simple, row_section, row_coded}
use Rattle.codes.specs.SectionBytes.{accepted_section_code, read_again, records_accepted}
use Rattle.records.specs.RefusalLaws.{first_none}
use Rattle.laws.specs.Lent.{in_front}
use Rattle.code_checks.specs.Answers.{put_answer, put_bytes}
use Rattle.code_checks.specs.CheckLaws.{no_number}
use Rattle.coding.specs.CodeDrawing.{CodeSays}
use Rattle.decoding.specs.Decoding.{decode_checked, DecodeSays}
use Rattle.decoding.specs.DecodingLaws.{decode_checked_number, row_few}
use Rattle.demands.specs.Coding.{equal_bytes_exactly_same}
use Rattle.demands.specs.Terms.{written_bytes, Mapped, Drawn}
use Rattle.records.specs.declared.refusal.Refusal.{Refusal}

-- THE MAP OF DEMAND 3, written out
module _ (d e : Drawing) (here : EndsInRange d) (there : EndsInRange e) where
  pub mapped_from_same : Same d e → Mapped d e
  unfolding Same
  mapped_from_same m = (m.0, (same_by_means d e m.0 here there).0 m.1)

  pub same_from_mapped : Mapped d e → Same d e
  unfolding Same
  same_from_mapped m = (m.0, (same_by_means d e m.0 here there).1 m.1)

-- DECODING an accepted code into bytes enough
module _ (bs : List ℕ) (r : Result ℕ Refusal) (o z : List ℕ) (fine : section_code_refusal bs ≡ 0) (room : 73 ≤ length o) (says : DecodeSays bs r o z) where
  abbrev rs : List Rec
  rs = code_records bs

  good : records_good rs ≡ true
  good = (accepted_section_code bs fine).good

  decoding_accepted : decode_checked bs o ≡ Ok tt
  decoding_accepted =
      no_number (decode_checked bs o) (decode_checked_number bs o ∙ first_none (section_code_refusal bs) _ fine ∙ rw (le-ltb _ _ room))

  pub code_drawn : Drawn rs r o z
  code_drawn =
      let few = row_few rs good in
      record {
        bytes = bytes;
        drawing = ap drawing_in bytes ∙ drawing_in_bytes 0 (section_of rs) few.0 few.1;
        crane = ap crane_in bytes ∙ crane_in_bytes 0 (section_of rs) few.0 few.1;
        output = output;
      }
    where
      answer : r ≡ Ok (length (drawing_bytes 0 (section_of rs)))
      answer = says.answer ∙ ap (λ (c : Result ⊤ Refusal). put_answer c (drawing_bytes 0 (section_of rs))) decoding_accepted

      output : z ≡ in_front (drawing_bytes 0 (section_of rs)) o
      output = says.output ∙ ap (λ (c : Result ⊤ Refusal). put_bytes c (drawing_bytes 0 (section_of rs)) o) decoding_accepted

      bytes : written_bytes r z ≡ drawing_bytes 0 (section_of rs)
      bytes = rw (answer, output) (take_at (drawing_bytes 0 (section_of rs)) (drop (length (drawing_bytes 0 (section_of rs))) o)
          (length (drawing_bytes 0 (section_of rs))) refl)

  -- of a code of bytes, it is an accepted drawing that has the code
  module _ (bytes : byte_list bs ≡ true) where
    described : Section (section_of rs)
    unfolding rows_bytes
    described = row_section rs good (rw (accepted_section_code bs fine).bytes bytes)

    pub drawn_accepted : drawing_refusal (written_bytes r z) ≡ 0
    drawn_accepted = ap drawing_refusal code_drawn.bytes ∙ drawing_bytes_accepted 0 (section_of rs) described

    pub drawn_coded : SectionCode (drawing_in (written_bytes r z)) rs
    drawn_coded = rw code_drawn.drawing (row_coded rs good)

-- EVERY CODE of a drawing decodes to that drawing
pub code_decodes : (xs : List ℕ) (rs : List Rec) → accepted xs ≡ true → SectionCode (drawing_in xs) rs → (r : Result ℕ Refusal) (o z : List ℕ)
    → 73 ≤ length o → DecodeSays (rec_bytes rs) r o z → Mapped (drawing_in (written_bytes r z)) (drawing_in xs)
code_decodes xs rs a c r o z room says =
    let simple = (accepted_section xs a).simple in
    let d = code_drawn (rec_bytes rs) r o z (records_accepted rs c.good) room says in
    let is : drawing_in (written_bytes r z) ≡ section_of rs = d.drawing ∙ ap section_of (read_again rs) in
    rw is
    (mapped_from_same (section_of rs) (drawing_in xs) (row_simple rs (row_good_from_test rs c.good)).ends simple.ends
    (unfold Same in (c.numbers, c.describes)))

-- EQUAL BYTES exactly when there is such a map
module _ (xs ys : List ℕ) (a : accepted xs ≡ true) (b : accepted ys ≡ true)
    (o p : List ℕ) (room : 5 * section_records (drawing_in xs) ≤ length o) (space : 5 * section_records (drawing_in ys) ≤ length p)
    (z w : List ℕ) (r s : Result ℕ Refusal) (first : CodeSays xs r o z) (second : CodeSays ys s p w) where
  pub equal_bytes_exactly_mapped :
      (written_bytes r z ≡ written_bytes s w → Mapped (drawing_in xs) (drawing_in ys))
      × (Mapped (drawing_in xs) (drawing_in ys) → written_bytes r z ≡ written_bytes s w)
  equal_bytes_exactly_mapped =
      let t = equal_bytes_exactly_same xs ys a b o p room space z w r s first second in
      let here = (accepted_section xs a).simple.ends in
      let there = (accepted_section ys b).simple.ends in (
        λ e. mapped_from_same (drawing_in xs) (drawing_in ys) here there (t.0 e),
        λ m. t.1 (same_from_mapped (drawing_in xs) (drawing_in ys) here there m),
      )
