-- From the two turns of making a text to what the call says: the first in no bytes at all, to learn whether there is room,
-- the second in the lent ones. Assumes nothing.
use Rattle.std.specs.Prelude.{◌≡◌, refl, false, List, ◌++◌, ℕ, Option, Some, None, Result, ◌≤◌, ltb, length}
use Rattle.std.proofs.Common.{sym, ap, ◌∙◌, lt-ltb, le-ltb}
use Rattle.laws.specs.Lists.{nil_of_length}
use Rattle.records.specs.declared.refusal.Fault.{Fault}
use Rattle.text_lines.specs.declared.place.Place.{Place}
use Rattle.text_lines.specs.Texts.{text_of}
use Rattle.text_lines.specs.Writing.{place_at, Wrote, place_behind, laid}
use Rattle.text_lines.specs.WritingLaws.{past_long, at_short, at_count, laid_in_front}
use Rattle.printing.specs.Says.{Made, TextSays}

module _ (a : Result ℕ Fault) (es out : List ℕ) where
  -- the bytes lent to the first turn, which are none, are back
  lent_back : (none : List ℕ) → length none ≡ 0 → none ++ out ≡ out
  lent_back none e = rw (nil_of_length none e)

  module _ {lent none : List ℕ} {p : Option Place} (first : Wrote lent (place_at 0 (length out)) (text_of a es) p none) (size : length none ≡ 0) where
    pub says_short : p ≡ None → TextSays a es None out (none ++ out)
    says_short e = rw (lt-ltb _ _ (past_long (text_of a es) (length out) (sym first.place ∙ e))) (refl, lent_back none size)

    pub says_bytes : {q : Option Place} {out_now : List ℕ} (k n : ℕ) → p ≡ place_at k n
        → Wrote (none ++ out) (place_at 0 (length out)) (text_of a es) q out_now
        → TextSays a es (Some k) out out_now
    says_bytes {q} {out_now} k n e second =
        let at : place_behind (place_at 0 (length out)) (text_of a es) ≡ place_at k n = sym first.place ∙ e in
        let fits : length (text_of a es) ≤ length out = at_short (text_of a es) (length out) k n at in
        rw (le-ltb (length out) (length (text_of a es)) fits) (
          ap Some (at_count (text_of a es) (length out) k n at),
          second.bytes ∙ ap (λ (l : List ℕ). laid l (place_at 0 (length out)) (text_of a es)) (lent_back none size)
              ∙ laid_in_front (text_of a es) out fits,
        )

-- A TEXT THAT FITS is made
pub made_whole :
    (text : List ℕ) (r : Option ℕ) (out out_now : List ℕ) → length text ≤ length out
    → Made (ltb (length out) (length text)) text r out out_now → Made false text r out out_now
made_whole text r out out_now h m = rw (le-ltb (length out) (length text) h) at m
