-- The text of the list of a family of patterns, of a catalogue as of the book, and what making it answers and leaves. Assumes nothing:
-- these are definitions.
use Rattle.std.specs.Prelude.{◌≡◌, Bool, true, false, List, ℕ, Option, zero, suc, ◌+◌, ◌*◌, ◌/◌, ◌≤◌, ltb, length, take, drop}
use Rattle.graphs.specs.Drawing.{Drawing}
use Rattle.graphs.specs.Survey as surveys
use Rattle.codes.specs.Code.{kinds_before}
use Rattle.growth.specs.Sizes.{entry_size}
use Rattle.growth.specs.Catalogue.{Figures, Entry, ListOf}
use Rattle.text_lines.specs.Texts.{longest_line, catalogue_text, refusal_text}
use Rattle.printing.specs.Says.{Made}

-- 15 where there is no room for the entries
abbrev pub entries_text : (too_long : Bool) → List Entry → List ℕ
entries_text true es = refusal_text 15 0
entries_text false es = catalogue_text es

abbrev pub ListTextAs :
    (number : ℕ) → surveys.Refusal → (Wanted : Drawing → Type 0) (figure : Drawing → Figures) (l room : ℕ) → (text : List ℕ) → Type 0
ListTextAs zero f Wanted figure l n t =
    (es : List Entry) × ListOf kinds_before Wanted figure l es × (t ≡ entries_text (ltb n (entry_size * length es)) es)
ListTextAs (suc k) f Wanted figure l n t = t ≡ refusal_text f.number f.drawing

-- THE TEXT of a list, with room for so many bytes of entries: the first refusal of what is given, then the entries, or 15
abbrev pub ListText : surveys.Refusal → (Wanted : Drawing → Type 0) (figure : Drawing → Figures) (l room : ℕ) → (text : List ℕ) → Type 0
ListText f = ListTextAs f.number f

-- THE OUTCOME of making it, with room for so many bytes of entries; the size says which room for the text is enough
pub record ListTextSays
    (f : surveys.Refusal)
    (Wanted : Drawing → Type 0)
    (figure : Drawing → Figures)
    (l room : ℕ)
    (r : Option ℕ)
    (out out_now : List ℕ) : Type 0 where
  pub text : List ℕ
  pub is : ListText f Wanted figure l room text
  pub size : length text ≤ longest_line * (room / entry_size) + 40
  pub made : Made (ltb (length out) (length text)) text r out out_now

-- THE WHOLE TEXT in front: as many bytes as are counted are the text, and those behind it keep their content
pub record ListTextWhole
    (f : surveys.Refusal)
    (Wanted : Drawing → Type 0)
    (figure : Drawing → Figures)
    (l room : ℕ)
    (r : ℕ)
    (out out_now : List ℕ) : Type 0 where
  pub text : List ℕ
  pub is : ListText f Wanted figure l room text
  pub count : r ≡ length text
  pub first : take r out_now ≡ text
  pub rest : drop r out_now ≡ drop r out
