-- What is printed of whatever a call that lists a family answers and leaves is the text of the list, how many bytes that has at most, and
-- that there is no other. Assumes nothing.
use Rattle.std.specs.Prelude.{◌≡◌, refl, Bool, true, false, List, ℕ, Option, Some, None, Result, Ok, Err, zero, suc, ◌+◌, ◌*◌, ◌/◌, ◌^◌, ◌≤◌, ◌<◌, ltb, length, take, drop}
use Rattle.std.proofs.Common.{sym, ap, subst, ◌∙◌, arith, lit<, length-take, take_at, drop_at, ltb-false}
use Rattle.laws.specs.Lists.{Mem}
use Rattle.graphs.specs.Drawing.{Drawing}
use Rattle.graphs.specs.Survey as surveys
use Rattle.codes.specs.Code.{kinds_before}
use Rattle.codes.specs.CodeOrder.{kinds_order}
use Rattle.growth.specs.Sizes.{entry_size}
use Rattle.growth.specs.Catalogue.{Figures, Entry, all_bytes}
use Rattle.growth.specs.FamilyLists.{list_unique}
use Rattle.records.specs.Catalogued.{catalogued_refusal}
use Rattle.entries.specs.Written.{EntriesWritten, ListAs, ListSays}
use Rattle.records.specs.declared.refusal.Fault.{Fault}
use Rattle.text_lines.specs.Texts.{longest_line, catalogue_text, refusal_text, text_of}
use Rattle.text_lines.specs.TextLaws.{entries_back}
use Rattle.printing.specs.TextSizes.{BytesIn, MachineNumbers, text_size}
use Rattle.printing.specs.Says.{Made, TextSays}
use Rattle.printing.specs.SaysLaws.{made_whole}
use Rattle.printing.specs.ListTexts.{entries_text, ListTextAs, ListText, ListTextSays, ListTextWhole}

-- the entries, or 15
text_written : (es : List Entry) → ((e : Entry) → Mem e es → length e.code ≤ 8) → (t : Bool) (r : Result ℕ Fault) (o z : List ℕ)
    → EntriesWritten t es r o z → text_of r z ≡ entries_text t es
text_written es few true r o z w = rw w.0
text_written es few false r o z w = rw (w.0, w.1) (ap catalogue_text (entries_back es (drop (length (all_bytes es)) o) few))

-- a refusal of what is given
text_refused : (f : surveys.Refusal) (n : ℕ) → f.number ≡ suc n → (r : Result ℕ Fault) (z : List ℕ) → catalogued_refusal r ≡ f
    → text_of r z ≡ refusal_text f.number f.drawing
unfolding surveys.refusal
text_refused f n e (Ok m) z h = absurd (omega (arith, e, ap (λ (x : surveys.Refusal). x.number) h))
text_refused f n e (Err q) z h = ap (λ (x : surveys.Refusal). refusal_text x.number x.drawing) h

-- THE NUMBERS OF AN ANSWER are numbers of the machine's, if the lengths are
written_low :
    (es : List Entry) (r : Result ℕ Fault) (o z : List ℕ) → length o < 10 ^ 20 → (t : Bool) → ltb (length o) (entry_size * length es) ≡ t
    → EntriesWritten t es r o z → MachineNumbers r
written_low es r o z h true e w = subst MachineNumbers (sym w.0) (lit< tt)
written_low es r o z h false e w = subst MachineNumbers (sym w.0) (omega (arith, ltb-false (length o) (entry_size * length es) e))

refused_low :
    (f : surveys.Refusal) (n : ℕ) → f.number ≡ suc n → f.drawing < 10 ^ 20 → (r : Result ℕ Fault)
    → catalogued_refusal r ≡ f → MachineNumbers r
unfolding surveys.refusal
refused_low f n e h (Ok m) c = absurd (omega (arith, e, ap (λ (x : surveys.Refusal). x.number) c))
refused_low f n e h (Err q) c = omega (arith, ap (λ (x : surveys.Refusal). x.drawing) c)

module _ (f : surveys.Refusal) (Wanted : Drawing → Type 0) (figure : Drawing → Figures) (l : ℕ) where
  -- what is not refused has at most 8 cables: so many does an entry show
  list_text :
      (f.number ≡ 0 → l ≤ 8) → (r : Result ℕ Fault) (o z : List ℕ) → ListSays f Wanted figure l r o z
      → ListText f Wanted figure l (length o) (text_of r z)
  list_text low r o z says = go f.number refl says
    where
      go : (n : ℕ) → f.number ≡ n → ListAs n f Wanted figure l r o z → ListTextAs n f Wanted figure l (length o) (text_of r z)
      go zero e (es, list, written) =
          (es, list, text_written es (λ g m. omega (arith, (list.sound g m).size, low e)) (ltb (length o) (entry_size * length es)) r o z written)
      go (suc n) e (same, kept) = text_refused f n e r z same

  answer_low : f.drawing < 10 ^ 20 → (r : Result ℕ Fault) (o z : List ℕ) → length o < 10 ^ 20 → ListSays f Wanted figure l r o z → MachineNumbers r
  answer_low small r o z room says = go f.number refl says
    where
      go : (n : ℕ) → f.number ≡ n → ListAs n f Wanted figure l r o z → MachineNumbers r
      go zero e (es, list, written) = written_low es r o z room (ltb (length o) (entry_size * length es)) refl written
      go (suc n) e (same, kept) = refused_low f n e small r same

  -- MAKING IT: the call, then the text of what it answers and leaves
  pub list_text_made :
      (f.number ≡ 0 → l ≤ 8) → f.drawing < 10 ^ 20 → (a : Result ℕ Fault) (es es_now : List ℕ) → ListSays f Wanted figure l a es es_now
      → length es < 10 ^ 20 → length es_now ≡ length es → BytesIn es_now
      → (r : Option ℕ) (out out_now : List ℕ) → TextSays a es_now r out out_now → ListTextSays f Wanted figure l (length es) r out out_now
  list_text_made low small a es es_now says room same bytes r out out_now t =
      record {
        text = text_of a es_now;
        is = list_text low a es es_now says;
        size = rw (← same) (text_size a es_now (answer_low small a es es_now room says) bytes);
        made = t;
      }

  -- ONE TEXT
  pub list_text_once : (room : ℕ) (t u : List ℕ) → ListText f Wanted figure l room t → ListText f Wanted figure l room u → t ≡ u
  list_text_once room t u = go f.number
    where
      go : (n : ℕ) → ListTextAs n f Wanted figure l room t → ListTextAs n f Wanted figure l room u → t ≡ u
      go zero (es, c, e) (gs, d, h) =
          e
          ∙ ap (λ (hs : List Entry). entries_text (ltb room (entry_size * length hs)) hs)
          (list_unique kinds_before kinds_order Wanted figure l es gs c d)
          ∙ sym h
      go (suc n) e h = e ∙ sym h

  -- so the printed bytes and their number are the same
  pub whole_text_once :
      (room m n : ℕ) (o p y z : List ℕ) → ListTextWhole f Wanted figure l room m o y → ListTextWhole f Wanted figure l room n p z
      → (m ≡ n) × (take m y ≡ take n z)
  whole_text_once room m n o p y z v w =
      let same = list_text_once room v.text w.text v.is w.is in
      (v.count ∙ ap length same ∙ sym w.count, v.first ∙ same ∙ sym w.first)

-- ENOUGH ROOM: the whole text is made
module _
    {f : surveys.Refusal}
    {Wanted : Drawing → Type 0}
    {figure : Drawing → Figures}
    {l room : ℕ}
    {r : Option ℕ}
    {out out_now : List ℕ}
    (says : ListTextSays f Wanted figure l room r out out_now)
    (enough : longest_line * (room / entry_size) + 40 ≤ length out) where
  whole : Made false says.text r out out_now
  whole = made_whole says.text r out out_now (omega (arith, says.size)) says.made

  pub text_never_short : r ≡ None → ⊥
  text_never_short e = let z : ◌≡◌ {A = ℕ} 0 1 = cc whole.0 in omega arith

  pub text_whole : (n : ℕ) → r ≡ Some n → ListTextWhole f Wanted figure l room n out out_now
  text_whole n e =
      let count : n ≡ length says.text = cc whole.0 in
      record {
        text = says.text;
        is = says.is;
        count = count;
        first = rw (whole.1, count) (take_at says.text (drop (length says.text) out) (length says.text) refl);
        rest = rw (whole.1, count) (drop_at says.text (drop (length says.text) out) (length says.text) refl);
      }

-- what is printed lies within the bytes
pub text_within :
    {f : surveys.Refusal} {Wanted : Drawing → Type 0} {figure : Drawing → Figures} {l room n : ℕ} {out out_now : List ℕ}
    → ListTextWhole f Wanted figure l room n out out_now → n ≤ length out_now
text_within {n = n} {out_now = out_now} p = omega (arith, p.count, ap length p.first, length-take n out_now)
