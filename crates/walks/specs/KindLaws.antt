-- The kinds that occur in a survey, place by place and drawing by drawing. Rests on Kinds. Assumes nothing.
use Rattle.std.specs.Prelude.{◌≡◌, Bool, true, false, List, [], ℕ, ◌+◌, ◌-◌, ◌<◌, length, get_or, set}
use Rattle.std.proofs.Common.{sym, ap, ◌∙◌, subst, not-suc-le-zero, arith, length-set, get_or-set_same, get_or-set_other}
use Rattle.std.proofs.Math.Decide.{ℕ_discrete, dec_lt}
use Rattle.laws.specs.Tests.{true_and_false}
use Rattle.laws.specs.Lists.{Mem, place}
use Rattle.laws.specs.Rows.{row}
use Rattle.graphs.specs.Drawing.{Drawing, kind, devices, drawing_in}
use Rattle.graphs.specs.Patterns.{kind_byte}
use Rattle.codes.specs.FirstRecord.{first_record, fits_first}
use Rattle.codes.specs.Code.{Rec}
use Rattle.growth.specs.CountingExtensions.{FirstOf}
use Rattle.graphs.specs.Survey.{drawing_count}
use Rattle.walks.specs.LabelMarks.{drawings_of}
use Rattle.walks.specs.Prepared.{Prepared}
use Rattle.walks.specs.PreparedLaws.{drawings_counted, drawing_read, prepared_accepted, prepared_section}
use Rattle.walks.specs.Kinds.{Noted, OccursBefore, Occurs}

-- ONE NOTE MORE: what was noted is
pub note_kept :
    (marks : List Bool) (i : ℕ) → i < length marks → (k : ℕ) → get_or marks k false ≡ true → get_or (set marks i true) k false ≡ true
note_kept marks i low k h = go (ℕ_discrete k i)
  where
    go : Dec (k ≡ i) → get_or (set marks i true) k false ≡ true
    go (yes e) = rw e (get_or-set_same marks i true false low)
    go (no e) = get_or-set_other marks i k true false e ∙ h

-- PLACE BY PLACE
pub noted_none : (bs : List ℕ) (marks : List Bool) → length marks ≡ 256 → Noted bs 0 marks marks
noted_none bs marks e = record { size = e; kept = λ k h. h; noted = λ u h. absurd (not-suc-le-zero h) }

module _ (bs : List ℕ) (n : ℕ) (before marks : List Bool) (w : Noted bs n before marks) (low : get_or bs (2 + n) 0 < 256) where
  stays : (k : ℕ) → get_or marks k false ≡ true → get_or (set marks (get_or bs (2 + n) 0) true) k false ≡ true
  stays = note_kept marks (get_or bs (2 + n) 0) (omega (arith, w.size))

  pub noted_next : Noted bs (n + 1) before (set marks (get_or bs (2 + n) 0) true)
  noted_next =
      record {
        size = length-set marks (get_or bs (2 + n) 0) true ∙ w.size;
        kept = λ k h. stays k (w.kept k h);
        noted = λ u h. go u h (dec_lt u n);
      }
    where
      go : (u : ℕ) → u < n + 1 → Dec (u < n) → get_or (set marks (get_or bs (2 + n) 0) true) (get_or bs (2 + u) 0) false ≡ true
      go u h (yes l) = stays (get_or bs (2 + u) 0) (w.noted u l)
      go u h (no l) =
          let e : u ≡ n = omega arith in
          ap (λ (i : ℕ). get_or (set marks (get_or bs (2 + n) 0) true) (get_or bs (2 + i) 0) false) e
          ∙ get_or-set_same marks (get_or bs (2 + n) 0) true false (omega (arith, w.size))

-- DRAWING BY DRAWING
pub occurs_none : (bs : List ℕ) (marks : List Bool) → length marks ≡ 256 → OccursBefore 0 bs marks
occurs_none bs marks e = record { size = e; noted = λ d u h. absurd (not-suc-le-zero h) }

pub occurs_next :
    (bs : List ℕ) (n : ℕ) (marks after : List Bool) → OccursBefore n bs marks → Noted (row 73 n bs) 10 marks after → OccursBefore (n + 1) bs after
occurs_next bs n marks after o w = record { size = w.size; noted = λ d u h l. go d u h l (dec_lt d n) }
  where
    go : (d u : ℕ) → d < n + 1 → u < 10 → Dec (d < n) → get_or after (get_or (row 73 d bs) (2 + u) 0) false ≡ true
    go d u h l (yes z) = w.kept (get_or (row 73 d bs) (2 + u) 0) (o.noted d u z l)
    go d u h l (no z) =
        let e : d ≡ n = omega arith in
        ap (λ (i : ℕ). get_or after (get_or (row 73 i bs) (2 + u) 0) false) e ∙ w.noted u l

-- A KIND THAT DOES NOT OCCUR begins no record
pub no_first :
    {survey labels rank alphabet : List ℕ} {n : ℕ} {marks : List Bool} → Prepared survey labels rank alphabet n → Occurs survey marks → (k : ℕ)
    → get_or marks k false ≡ false → (d : Drawing) (e : Rec) → Mem d (drawings_of survey) → FirstOf k d e → ⊥
unfolding first_record
no_first {survey} {marks = marks} p o k none d e m f =
    let i = place (record { kinds = []; cables = [] }) m in
    let l : i.i < drawing_count survey = rw (drawings_counted survey) at i.below in
    let is : drawing_in (row 73 i.i survey) ≡ d = sym (drawing_read survey i.i l) ∙ i.is in
    let c = fits_first d e f.0 in
    let u_kind : kind d c.u ≡ k = ap (λ (x : Rec). x.ki) c.record_is ∙ f.1 in
    let w = prepared_section p i.i l in
    let u_low : c.u < devices (drawing_in (row 73 i.i survey)) =
    subst (λ (x : Drawing). c.u < devices x) (sym is) (subst (λ (x : Drawing). Rattle.graphs.specs.Embedding.EndsInRange x) is
    w.simple.ends c.u c.w c.k c.has) in
    let byte : get_or (row 73 i.i survey) (2 + c.u) 0 ≡ k =
    kind_byte (row 73 i.i survey) (prepared_accepted p i.i l) c.u u_low ∙ ap (λ (x : Drawing). kind x c.u) is ∙ u_kind in
    true_and_false (rw byte at (o.noted i.i c.u l (omega (arith, u_low, w.devices_high)))) none
