-- The paper's number of a refusal tells its case. 10 and 11 also carry the number of a code's record. Assumes nothing.
use Rattle.std.specs.Prelude.{◌≡◌, refl, Bool, true, false, ◌&&◌, ◌||◌, not, cond, List, [], ◌∷◌, ◌++◌, ℕ, suc, ◌/◌, ◌%◌, leb, eqb, length, get_or}
use Rattle.std.proofs.Common.{sym, ap, ◌∙◌}
use Rattle.std.proofs.lemmas.Bool.{eqb-false}
use Rattle.graphs.specs.Drawing.{Cable, drawing_in, joined_by, cable_refusal, cables_fit, unused_zero, connected, drawing_refusal}
use Rattle.graphs.specs.Survey as surveys
use Rattle.graphs.specs.Survey.{records_in, length_refusal, drawings_refusal, bytes_refusal, survey_refusal}
use Rattle.growth.specs.Sizes.{entry_size}
use Rattle.books.specs.Book.{one_to_three, book_refusal}
use Rattle.records.specs.declared.refusal.Refusal.{Refusal}
use Rattle.records.specs.declared.refusal.Refusal.TheVariants.{
  DrawingLength,
  DeviceCount,
  CableCount,
  CableEnd,
  CableLoop,
  CablePair,
  UnusedByte,
  NotConnected,
  CodeLength,
  Step,
  Kind,
  Threshold,
  SizeLimit,
  SurveyLength,
  OutputLength,
  KindCount,
  BookLimit,
  ListLength,
}
use Rattle.records.specs.Refusals.{number_of, first_of}
use Rattle.mining.specs.CheckSays.{check_refusal}

-- the case of a number, of which the record of a code is not known
case_of : ℕ → Refusal
case_of n =
    cond (eqb n 1) DrawingLength
    (cond (eqb n 2) DeviceCount
    (cond (eqb n 3) CableCount
    (cond (eqb n 4) CableEnd
    (cond (eqb n 5) CableLoop
    (cond (eqb n 6) CablePair
    (cond (eqb n 7) UnusedByte
    (cond (eqb n 8) NotConnected
    (cond (eqb n 9) CodeLength
    (cond (eqb n 12) Threshold
    (cond (eqb n 13) SizeLimit
    (cond (eqb n 14) SurveyLength
    (cond (eqb n 16) KindCount
    (cond (eqb n 17) BookLimit (cond (eqb n 18) ListLength OutputLength))))))))))))))

-- no record of a code is named
pub record Plain (n : ℕ) : Type 0 where
  pub no_step : n ≡ 10 → ⊥
  pub no_kind : n ≡ 11 → ⊥

case_back : (r : Refusal) → Plain (number_of r) → case_of (number_of r) ≡ r
unfolding case_of
case_back DrawingLength p = refl
case_back DeviceCount p = refl
case_back CableCount p = refl
case_back CableEnd p = refl
case_back CableLoop p = refl
case_back CablePair p = refl
case_back UnusedByte p = refl
case_back NotConnected p = refl
case_back CodeLength p = refl
case_back (Step k) p = absurd (p.no_step refl)
case_back (Kind k) p = absurd (p.no_kind refl)
case_back Threshold p = refl
case_back SizeLimit p = refl
case_back SurveyLength p = refl
case_back OutputLength p = refl
case_back KindCount p = refl
case_back BookLimit p = refl
case_back ListLength p = refl

pub number_tells_case : (r s : Refusal) → Plain (number_of r) → number_of r ≡ number_of s → r ≡ s
number_tells_case r s p e = sym (case_back r p) ∙ ap case_of e ∙ case_back s (rw (sym e) p)

-- WHICH NUMBERS a call can give that is no call on a code: none that names a record
either : (t : Bool) {a b : ℕ} → Plain a → Plain b → Plain (cond t a b)
either true p q = p
either false p q = q

pub plain : (n : ℕ) → (eqb n 10 ≡ false) → (eqb n 11 ≡ false) → Plain n
plain n p q = record { no_step = eqb-false n 10 p; no_kind = eqb-false n 11 q }

cable_plain : (n : ℕ) (bs cs : List Cable) → Plain (cable_refusal n bs cs)
unfolding cable_refusal
cable_plain n bs [] = plain 0 refl refl
cable_plain n bs (c ∷ cs) =
    either (leb n c.a || leb n c.b) (plain 4 refl refl)
    (either (eqb c.a c.b) (plain 5 refl refl)
    (either (joined_by c.a c.b bs) (plain 6 refl refl) (cable_plain n (bs ++ (c ∷ [])) cs)))

pub drawing_plain : (bs : List ℕ) → Plain (drawing_refusal bs)
unfolding drawing_refusal
drawing_plain bs =
    let n = get_or bs 0 0 in
    let m = get_or bs 1 0 in
    let d = drawing_in bs in
    either (not (eqb (length bs) 73)) (plain 1 refl refl)
    (either (not (leb 1 n && leb n 10)) (plain 2 refl refl)
    (either (not (cables_fit n m)) (plain 3 refl refl)
    (either (not (eqb (cable_refusal n [] d.cables) 0)) (cable_plain n [] d.cables)
    (either (not (unused_zero bs)) (plain 7 refl refl) (either (connected d) (plain 0 refl refl) (plain 8 refl refl))))))

pub first_plain : (a b : ℕ) → Plain a → Plain b → Plain (first_of a b)
unfolding first_of
first_plain a b p q = either (eqb a 0) q p

pub short_plain : (t : Bool) → Plain (cond t 15 0)
short_plain t = either t (plain 15 refl refl) (plain 0 refl refl)

pub length_plain : (bs : List ℕ) → Plain (length_refusal bs)
unfolding length_refusal
length_plain bs =
    either (not (eqb (length bs % 73) 0)) (plain 1 refl refl)
    (either (not (leb 1 (length bs / 73) && leb (length bs / 73) 32)) (plain 14 refl refl) (plain 0 refl refl))

-- of a survey
either_refusal : (t : Bool) (a b : surveys.Refusal) → Plain a.number → Plain b.number → Plain (cond t a b).number
either_refusal true a b p q = p
either_refusal false a b p q = q

drawings_plain : (d : ℕ) (rs : List (List ℕ)) → Plain (drawings_refusal d rs).number
unfolding drawings_refusal surveys.refusal
drawings_plain d [] = plain 0 refl refl
drawings_plain d (r ∷ rs) = either_refusal (eqb (drawing_refusal r) 0) _ _ (drawings_plain (suc d) rs) (drawing_plain r)

pub bytes_plain : (bs : List ℕ) → Plain (bytes_refusal bs).number
unfolding bytes_refusal surveys.refusal
bytes_plain bs = either_refusal (eqb (length_refusal bs) 0) _ _ (drawings_plain 0 (records_in bs)) (length_plain bs)

pub survey_plain : (bs : List ℕ) (s l : ℕ) → Plain (survey_refusal bs s l).number
unfolding survey_refusal surveys.refusal
survey_plain bs s l =
    either_refusal (not (leb 1 s && leb s 32)) _ _ (plain 12 refl refl)
    (either_refusal (not (leb 1 l && leb l 8)) _ _ (plain 13 refl refl) (bytes_plain bs))

-- of a list that is checked
pub list_plain : (bs : List ℕ) (s l : ℕ) (list : List ℕ) → Plain (check_refusal bs s l list).number
unfolding check_refusal surveys.refusal
list_plain bs s l list =
    either_refusal (eqb (survey_refusal bs s l).number 0) _ _ (either (eqb (length list % entry_size) 0) (plain 0 refl refl) (plain 18 refl refl))
    (survey_plain bs s l)

-- of the book
pub book_plain : (a b l : ℕ) → Plain (book_refusal a b l)
unfolding book_refusal
book_plain a b l =
    either (not (one_to_three a && one_to_three b)) (plain 16 refl refl) (either (not (one_to_three l)) (plain 17 refl refl) (plain 0 refl refl))
