-- What the calls say of each other: two drawings get equal bytes exactly when they are the same, coding what a code
-- decodes to gives it back exactly when it is least, and the least test answers yes exactly then and tells how far the two codes agree. Rests on
-- what each call says and on codes. Assumes nothing.
use Rattle.std.specs.Prelude.{◌≡◌, refl, true, cond, List, ◌⊎◌, ℕ, ◌*◌, ◌/◌, ◌≤◌, ltb, eqb, length, drop, ⊤, Result, Ok, Err}
use Rattle.std.proofs.Common.{sym, ◌∙◌, inl, inr, arith, take_at}
use Rattle.std.proofs.Math.Path.{ap, subst}
use borrow.Author.Tests.{le-ltb, eqb-true}
use Rattle.laws.specs.Tests.{and_split}
use Rattle.graphs.specs.Drawing.{Drawing, drawing_in, drawing_bytes, drawing_refusal, byte_list, accepted}
use Rattle.graphs.specs.Map.{Same}
use Rattle.graphs.specs.Graph.{Section}
use Rattle.graphs.specs.DrawingBytes.{drawing_in_bytes, drawing_bytes_accepted}
use Rattle.graphs.specs.Patterns.{accepted_section}
use Rattle.codes.specs.Code.{Rec, code_records, rec_bytes, kinds_before}
use Rattle.codes.specs.Agreement.{agreement}
use Rattle.codes.specs.CodeOrder.{kinds_order}
use Rattle.codes.specs.CodeBytes.{rec_bytes_injective, recs_in_length}
use Rattle.codes.specs.Decoded.{rows_bytes}
use Rattle.codes.specs.SectionCode.{section_code_refusal, section_records, section_of, LeastSection}
use Rattle.codes.specs.SectionCodes.{row_section, row_coded, section_bytes_tell, least_section_unique}
use Rattle.codes.specs.SectionBytes.{
  AcceptedSectionCode,
  accepted_section_code,
  read_again,
  records_accepted,
  section_code_length,
}
use Rattle.records.specs.Refusals.{checked_number}
use Rattle.records.specs.RefusalLaws.{first_none}
use Rattle.laws.specs.Lent.{in_front}
use Rattle.code_checks.specs.Answers.{put_answer, put_bytes, verdict_agreement, verdict_numbers}
use Rattle.code_checks.specs.SectionChecks.{section_code_checked}
use Rattle.code_checks.specs.SectionCheckLaws.{section_checked_number, section_accepted_checked}
use Rattle.coding.specs.CodeDrawing.{coding_refusal, CodeAs, CodeSays, LeastWritten}
use Rattle.decoding.specs.Decoding.{decode_checked, DecodeSays}
use Rattle.coding.specs.LeastSays.{LeastTold, LeastAnswer, LeastSays}
use Rattle.coding.specs.LeastSaysLaws.{told_agreement, told_least}
use Rattle.demands.specs.Terms.{written_bytes, least_digit}
use Rattle.records.specs.declared.refusal.Refusal.{Refusal}
use Rattle.code_checks.specs.declared.answer.Verdict.{Verdict}
use Rattle.coding.specs.LeastSays as verdict

pub bytes_in_front : (bs o z : List ℕ) (r : Result ℕ Refusal) → r ≡ Ok (length bs) → z ≡ in_front bs o → written_bytes r z ≡ bs
bytes_in_front bs o z r e f = rw (e, f) (take_at bs (drop (length bs) o) (length bs) refl)

-- A CALL OF CODING that has room answers with the least code
module _ (xs : List ℕ) (r : Result ℕ Refusal) (o z : List ℕ) (fine : drawing_refusal xs ≡ 0) (room : 5 * section_records (drawing_in xs) ≤ length o)
    (says : CodeSays xs r o z) where
  pub code_is_least : LeastWritten (drawing_in xs) r o z
  unfolding CodeSays CodeAs coding_refusal
  code_is_least = subst (λ (n : ℕ). CodeAs n (drawing_in xs) r o z) none says
    where
      none : coding_refusal xs o ≡ 0
      none =
          first_none (drawing_refusal xs) (cond (ltb (length o) (5 * section_records (drawing_in xs))) 15 0) fine ∙ rw (le-ltb _ _ room)

  coded_bytes : written_bytes r z ≡ rec_bytes code_is_least.code
  coded_bytes = bytes_in_front (rec_bytes code_is_least.code) o z r code_is_least.answer code_is_least.output

pub accepted_refusal : (xs : List ℕ) → accepted xs ≡ true → drawing_refusal xs ≡ 0
unfolding accepted
accepted_refusal xs a = eqb-true (drawing_refusal xs) 0 (and_split (byte_list xs) (eqb (drawing_refusal xs) 0) a).1

-- TWO ACCEPTED DRAWINGS get equal bytes exactly when they are the same
module _ (xs ys : List ℕ) (a : accepted xs ≡ true) (b : accepted ys ≡ true)
    (o p : List ℕ) (room : 5 * section_records (drawing_in xs) ≤ length o) (space : 5 * section_records (drawing_in ys) ≤ length p)
    (z w : List ℕ) (r s : Result ℕ Refusal) (first : CodeSays xs r o z) (second : CodeSays ys s p w) where
  pub equal_bytes_exactly_same :
      (written_bytes r z ≡ written_bytes s w → Same (drawing_in xs) (drawing_in ys))
      × (Same (drawing_in xs) (drawing_in ys) → written_bytes r z ≡ written_bytes s w)
  equal_bytes_exactly_same =
      let f = accepted_refusal xs a in
      let g = accepted_refusal ys b in
      let c = code_is_least xs r o z f room first in
      let d = code_is_least ys s p w g space second in
      let cs = coded_bytes xs r o z f room first in
      let ds = coded_bytes ys s p w g space second in
      let t =
      section_bytes_tell kinds_before kinds_order (drawing_in xs) (drawing_in ys) (accepted_section xs a).simple (accepted_section ys b).simple
      c.code d.code c.least d.least in
      (λ e. t.0 (sym cs ∙ e ∙ ds), λ m. cs ∙ t.1 m ∙ sym ds)

-- THE LEAST TEST refuses with the paper's number, exactly where the code is refused
pub least_refusal : (bs : List ℕ) (v : Result Verdict Refusal) → LeastSays bs v → (verdict_numbers v).refusal ≡ section_code_refusal bs
least_refusal bs v h = go (section_code_checked bs) h ∙ section_checked_number bs
  where
    go : (c : Result ⊤ Refusal) → LeastAnswer c (code_records bs) v → (verdict_numbers v).refusal ≡ checked_number c
    go (Err x) e = ap (λ (w : Result Verdict Refusal). (verdict_numbers w).refusal) e
    go (Ok _) t =
        ap (λ (w : Result Verdict Refusal). (verdict_numbers w).refusal) t.answer

-- A CODE of bytes that is not refused
module _ (bs : List ℕ) (bytes : byte_list bs ≡ true) (fine : section_code_refusal bs ≡ 0) where
  abbrev pub rs : List Rec
  rs = code_records bs

  parts : AcceptedSectionCode bs
  parts = accepted_section_code bs fine

  described : Section (section_of rs)
  unfolding rows_bytes
  described = row_section rs parts.good (rw parts.bytes bytes)

  checked_fine : section_code_checked bs ≡ Ok tt
  checked_fine = section_accepted_checked bs fine

  -- decoded into 73 bytes or more, then coded into as many bytes as the code has, or more
  module _ (o p : List ℕ) (room : 73 ≤ length o) (space : length bs ≤ length p)
      (z w : List ℕ) (r s : Result ℕ Refusal) (decoding : DecodeSays bs r o z) (coding : CodeSays (written_bytes r z) s p w) where
    drawn : written_bytes r z ≡ drawing_bytes 0 (section_of rs)
    unfolding decode_checked
    drawn =
        let c : decode_checked bs o ≡ Ok tt = rw (checked_fine, le-ltb _ _ room) in
        bytes_in_front (drawing_bytes 0 (section_of rs)) o z r
        (decoding.answer ∙ ap (λ (k : Result ⊤ Refusal). put_answer k (drawing_bytes 0 (section_of rs))) c)
        (decoding.output ∙ ap (λ (k : Result ⊤ Refusal). put_bytes k (drawing_bytes 0 (section_of rs)) o) c)

    back : drawing_in (written_bytes r z) ≡ section_of rs
    back = ap drawing_in drawn ∙ drawing_in_bytes 0 (section_of rs) described.devices_high described.cables_high

    acceptable : drawing_refusal (written_bytes r z) ≡ 0
    acceptable = ap drawing_refusal drawn ∙ drawing_bytes_accepted 0 (section_of rs) described

    enough : 5 * section_records (drawing_in (written_bytes r z)) ≤ length p
    enough =
        let n = section_code_length (section_of rs) described.simple rs (row_coded rs parts.good) in
        rw back (omega (arith, n, recs_in_length (length bs / 5) bs, parts.whole))

    again : LeastWritten (section_of rs) s p w
    again = subst (λ (d : Drawing). LeastWritten d s p w) back (code_is_least (written_bytes r z) s p w acceptable enough coding)

    again_bytes : written_bytes s w ≡ rec_bytes again.code
    again_bytes = bytes_in_front (rec_bytes again.code) p w s again.answer again.output

    -- what comes back is accepted as a code
    pub back_accepted : section_code_refusal (written_bytes s w) ≡ 0
    back_accepted = ap section_code_refusal again_bytes ∙ records_accepted again.code again.least.code.good

    -- THE CODE COMES BACK exactly when it is the least of what it describes
    pub back_exactly_least : (written_bytes s w ≡ bs → LeastSection (section_of rs) rs) × (LeastSection (section_of rs) rs → written_bytes s w ≡ bs)
    back_exactly_least = (
      λ e. subst (LeastSection (section_of rs)) (rec_bytes_injective again.code rs (sym again_bytes ∙ e ∙ sym parts.bytes)) again.least,
      λ l.
          again_bytes ∙ ap rec_bytes (least_section_unique kinds_before kinds_order (section_of rs) again.code rs again.least l) ∙ parts.bytes,
    )

    -- THE LEAST TEST answers yes exactly then, and its figure is the agreement with the code that comes back
    module _ (v : Result Verdict Refusal) (h : LeastSays bs v) where
      told : LeastTold rs v
      told = subst (λ (c : Result ⊤ Refusal). LeastAnswer c rs v) checked_fine h

      pub yes_exactly_back : ((k : ℕ) → v ≡ Ok (verdict.yes k) → written_bytes s w ≡ bs) × (written_bytes s w ≡ bs → v ≡ Ok (verdict.yes (length rs)))
      yes_exactly_back = go (told_least told parts.good)
        where
          no_yes : {k n : ℕ} → ◌≡◌ {A = Result Verdict Refusal} (Ok (verdict.no n)) (Ok (verdict.yes k)) → ⊥
          no_yes e = omega (arith, ap least_digit e)

          go :
              {n : ℕ}
              → ((v ≡ Ok (verdict.yes (length rs))) × LeastSection (section_of rs) rs) ⊎ ((v ≡ Ok (verdict.no n)) × (LeastSection (section_of rs) rs → ⊥))
              → ((k : ℕ) → v ≡ Ok (verdict.yes k) → written_bytes s w ≡ bs) × (written_bytes s w ≡ bs → v ≡ Ok (verdict.yes (length rs)))
          go (inl y) = (λ k e. back_exactly_least.1 y.1, λ e. y.0)
          go (inr n) = (λ k e. absurd (no_yes (sym n.0 ∙ e)), λ e. absurd (n.1 (back_exactly_least.0 e)))

      pub agreement_back : verdict_agreement v ≡ agreement rs (code_records (written_bytes s w))
      agreement_back =
          told_agreement told
          ∙ ap (agreement rs)
          (least_section_unique kinds_before kinds_order (section_of rs) told.code again.code told.least again.least
          ∙ sym (ap code_records again_bytes ∙ read_again again.code))
