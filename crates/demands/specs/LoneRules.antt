-- A drawing of one device without cables, call by call: its record, its code, what codes like it are refused for, the order, the map,
-- sameness. Rests on what each call says. Assumes nothing.
use Rattle.std.specs.Prelude.{⊤, ◌≡◌, Bool, true, false, ◌&&◌, not, cond, List, [], ◌∷◌, ◌++◌, ◌⊎◌, ℕ, zero, suc, ◌+◌, ◌*◌, ◌%◌, ◌≤◌, ◌<◌, ltb, eqb, length, Option, Some, None, Result, Ok, Err}
use Rattle.std.proofs.Math.Path.{refl}
use Rattle.std.proofs.Common.{sym, ap, ap₂, subst, ◌∙◌, inl, inr}
use native.Mathlib.Omega.{arith}
use Rattle.std.proofs.Math.ListN.{get_or}
use borrow.Author.Tests.{le-ltb, lt-ltb, le-leb, ltb-true, eq-eqb, ne_eqb}
use Rattle.laws.specs.Tests.{and_both, and_split, or_cases, true_and_false}
use Rattle.laws.specs.Rows.{rows}
use Rattle.graphs.specs.Drawing.{
  Drawing,
  devices,
  kind,
  drawing_in,
  drawing_bytes,
  drawing_refusal,
  accepted,
}
use Rattle.graphs.specs.Map.{Same, image, map_before}
use Rattle.laws.specs.Lent.{in_front}
use Rattle.graphs.specs.Embedding.{EndsInRange, Embedding}
use Rattle.graphs.specs.Isomorphisms.{same_reflexive}
use Rattle.graphs.specs.AcceptedDrawing.{accepted_simple}
use Rattle.graphs.specs.Graph.{lone_drawing}
use Rattle.graphs.specs.Sections.{CablesFit, fit_from_test, fit_one, fit_more, lone_section}
use Rattle.graphs.specs.DrawingBytes.{drawing_bytes_accepted, drawing_bytes_byte_list}
use Rattle.graphs.specs.Patterns.{AcceptedParts, accepted_parts}
use Rattle.codes.specs.Code.{
  Rec,
  Reading,
  end,
  fresh,
  forward,
  backward_good,
  step_good,
  stepped,
  rec_in,
  recs_in,
  rec_bytes,
  rows_refusal,
  rows_good,
  code_records,
  kinds_before,
}
use Rattle.codes.specs.Agreement.{agreement}
use Rattle.codes.specs.AgreementLaws.{agreement_apart}
use Rattle.codes.specs.ReadRows.{begun_from_test, rows_cons, good_from_test}
use Rattle.codes.specs.CodeBytes.{accepted_code, rec_bytes_length}
use Rattle.codes.specs.SectionCode.{
  lone_record,
  lone_code,
  lone_row,
  lone_bytes,
  section_code_refusal,
  section_of,
  SectionCode,
}
use Rattle.codes.specs.SectionCodes.{same_lone, lone_code_of, lone_only, lone_first, lone_by_kind}
use Rattle.codes.specs.SectionBytes.{AcceptedAs, accepted_as, read_again}
use Rattle.records.specs.declared.refusal.Refusal.TheVariants as refusal
use Rattle.readings.specs.Readings.{rows_checked, code_length_checked, code_checked}
use Rattle.code_checks.specs.SectionChecks.{lone_checked, section_code_checked}
use Rattle.code_checks.specs.SectionCheckLaws.{section_checked_accepted, section_accepted_checked}
use Rattle.coding.specs.CodeDrawing.{LeastWritten}
use Rattle.coding.specs.LeastSays.{LeastSays}
use Rattle.coding.specs.LeastSaysLaws.{lone_told}
use Rattle.decoding.specs.Decoding.{DecodeSays}
use Rattle.comparing.specs.Comparing.{CompareSays}
use Rattle.matching.specs.MatchAnswers.{MatchSays}
use Rattle.matching.specs.Outcomes.{match_answers}
use Rattle.demands.specs.Terms.{written_bytes, Mapped, Contained, lone_five, LeastMapWritten, LoneMapped, NoDevice}
use Rattle.demands.specs.Coding.{bytes_in_front}
use Rattle.demands.specs.CodeWays.{code_drawn, mapped_from_same, same_from_mapped}
use Rattle.demands.specs.Determined.{least_determined}
use Rattle.demands.specs.Comparisons.{before_if}
use Rattle.demands.specs.Matches.{map_written, no_map, not_contained}
use Rattle.records.specs.declared.refusal.Refusal.{Refusal}
use Rattle.code_checks.specs.declared.answer.Verdict.{Verdict}
use Rattle.coding.specs.LeastSays as verdict
use Rattle.code_checks.specs.declared.answer.Comparison.{Comparison}
use Rattle.comparing.specs.Comparing.{order_answer}
use Rattle.std.specs.declared.cmp.Ordering.TheVariants.{Less}

-- ONE DEVICE: what is accepted without cables has one
pub one_device : (d : Drawing) → devices d ≡ 1 → d.cables ≡ [] → d ≡ lone_drawing (kind d 0)
one_device d one none = go d.kinds refl
  where
    go : (ks : List ℕ) → d.kinds ≡ ks → d ≡ lone_drawing (kind d 0)
    go [] e = let z : devices d ≡ 0 = rw e in absurd (omega arith)
    go (x ∷ y ∷ ks) e = let z : devices d ≡ length (x ∷ y ∷ ks) = rw e in absurd (omega arith)
    go (x ∷ []) e =
        let k : kind d 0 ≡ x = rw e in
        ap₂ {C = Drawing} (λ ks cs. record { kinds = ks; cables = cs }) (e ∙ ap (λ (v : ℕ). v ∷ []) (sym k)) none

pub lone_in : (xs : List ℕ) → drawing_refusal xs ≡ 0 → (drawing_in xs).cables ≡ [] → drawing_in xs ≡ lone_drawing (kind (drawing_in xs) 0)
lone_in xs fine none = one_device (drawing_in xs) (parts.device_count ∙ one (fit_from_test _ _ parts.fitting)) none
  where
    parts : AcceptedParts xs
    parts = accepted_parts xs fine

    one : CablesFit (get_or xs 0 0) (get_or xs 1 0) → get_or xs 0 0 ≡ 1
    one (CablesFit.lone n m) = n
    one (CablesFit.cabled n m few) = absurd (omega (arith, parts.cable_count, ap length none))

-- THE RECORD of one device
pub accepted_lone : (c k : ℕ) → c < 256 → k < 256 → accepted (drawing_bytes c (lone_drawing k)) ≡ true
unfolding accepted
accepted_lone c k byte low =
    and_both (drawing_bytes_byte_list c (lone_drawing k) (lone_section k low) byte (λ u v x h. elim h [ ]))
    (eq-eqb _ 0 (drawing_bytes_accepted c (lone_drawing k) (lone_section k low)))

module _ (xs : List ℕ) (size : length xs ≡ 73) where
  pub lone_with_cables : get_or xs 0 0 ≡ 1 → 0 < get_or xs 1 0 → drawing_refusal xs ≡ 3
  unfolding drawing_refusal
  lone_with_cables n some =
      let d : get_or xs 1 0 ≡ 0 → ⊥ = λ e. omega arith in
      rw (eq-eqb (length xs) 73 size, n, fit_one 1 (get_or xs 1 0) refl, ne_eqb (get_or xs 1 0) 0 d)

  pub none_refused : 2 ≤ get_or xs 0 0 → get_or xs 0 0 ≤ 10 → get_or xs 1 0 ≡ 0 → drawing_refusal xs ≡ 3
  unfolding drawing_refusal
  none_refused two ten none =
      let d : get_or xs 0 0 ≡ 1 → ⊥ = λ e. omega arith in
      rw (
        eq-eqb (length xs) 73 size,
        le-leb 1 (get_or xs 0 0) (omega arith),
        le-leb (get_or xs 0 0) 10 ten,
        fit_more (get_or xs 0 0) (get_or xs 1 0) d,
        none,
      )

-- THE CODE of one device, and codes like it
pub lone_row_checked :
    (k c l : ℕ)
    → section_code_checked (0 ∷ 0 ∷ k ∷ c ∷ l ∷ [])
    ≡ cond (eqb c 0) (cond (eqb k l) (Ok tt) (Err (refusal.Kind 0))) (Err (refusal.Step 0))
unfolding section_code_checked lone_bytes lone_row lone_checked recs_in rows rec_in
lone_row_checked k c l = go (eqb c 0) (eqb k l)
  where
    go : (s t : Bool)
        → cond {A = Result ⊤ Refusal} (not s) (Err (refusal.Step 0)) (cond (not t) (Err (refusal.Kind 0)) (Ok tt))
        ≡ cond s (cond t (Ok tt) (Err (refusal.Kind 0))) (Err (refusal.Step 0))
    go true true = refl
    go true false = refl
    go false t = refl

five_fine : (k : ℕ) → section_code_refusal (lone_five k) ≡ 0
five_fine k = section_checked_accepted (lone_five k) (lone_row_checked k 0 k ∙ rw (eq-eqb k k refl))

pub five_records : (k : ℕ) → code_records (lone_five k) ≡ lone_code k
unfolding recs_in rows rec_in lone_record
five_records k = refl

pub lone_code_five : (k : ℕ) → rec_bytes (lone_code k) ≡ lone_five k
unfolding rec_bytes lone_record
lone_code_five k = refl

-- no step goes from device 0 to itself
zero_step : (x : Reading) (r : Rec) → r.i ≡ 0 → r.j ≡ 0 → step_good x r ≡ false
unfolding step_good forward backward_good
zero_step x r p q = rw (p, q) (go (eqb (length x.kinds) 0) (eqb 0 (end x.path)) _)
  where
    go : (s t u : Bool) → cond s false ((t && false) && u) ≡ false
    go true t u = refl
    go false true u = refl
    go false false u = refl

rows_zero :
    (k : ℕ) (x : Reading) (rs ss : List Rec) (r : Rec) → r.i ≡ 0 → r.j ≡ 0 → rows_refusal x rs ≡ 0
    → rows_checked k x (rs ++ (r ∷ ss)) ≡ Err (refusal.Step (k + length rs))
unfolding rows_checked
rows_zero k x [] ss r p q e =
    let n : k ≡ k + length {A = Rec} [] = omega arith in
    rw (zero_step x r p q) (ap (λ (m : ℕ). Err (refusal.Step m)) n)
rows_zero k x (s ∷ rs) ss r p q e =
    let c = rows_cons x s rs e in
    let n : suc k + length rs ≡ k + length (s ∷ rs) = omega arith in
    rw (c.step, c.kinds) (rows_zero (suc k) (stepped x s) rs ss r p q c.rest ∙ ap (λ (m : ℕ). Err (refusal.Step m)) n)

pub zero_record_checked :
    (rs ss : List Rec) (r : Rec) → rows_refusal fresh rs ≡ 0 → r.i ≡ 0 → r.j ≡ 0 → 2 ≤ length (rs ++ (r ∷ ss)) → length (rs ++ (r ∷ ss)) ≤ 20
    → section_code_checked (rec_bytes (rs ++ (r ∷ ss))) ≡ Err (refusal.Step (length rs))
unfolding section_code_checked lone_bytes code_checked code_length_checked
zero_record_checked rs ss r fine p q two most =
    let ts = rs ++ (r ∷ ss) in
    let n : length (rec_bytes ts) ≡ 5 * length ts = rec_bytes_length ts in
    let five : length (rec_bytes ts) ≡ 5 → ⊥ = λ e. omega arith in
    let some : length (rec_bytes ts) ≡ 0 → ⊥ = λ e. omega arith in
    let whole : length (rec_bytes ts) % 5 ≡ 0 = omega arith in
    let at : 0 + length rs ≡ length rs = omega arith in
    rw (
      ne_eqb (length (rec_bytes ts)) 5 five,
      ne_eqb (length (rec_bytes ts)) 0 some,
      le-ltb 100 (length (rec_bytes ts)) (omega arith),
      eq-eqb (length (rec_bytes ts) % 5) 0 whole,
    )
    (ap (rows_checked 0 fresh) (read_again ts) ∙ rows_zero 0 fresh rs ss r p q fine ∙ ap (λ (m : ℕ). Err (refusal.Step m)) at)

-- coding gives it
pub code_is :
    (xs : List ℕ) (r : Result ℕ Refusal) (o z : List ℕ) → drawing_refusal xs ≡ 0 → (drawing_in xs).cables ≡ [] → LeastWritten (drawing_in xs) r o z
    → written_bytes r z ≡ lone_five (kind (drawing_in xs) 0)
code_is xs r o z fine none w =
    let k = kind (drawing_in xs) 0 in
    let code : SectionCode (lone_drawing k) w.code = subst (λ (d : Drawing). SectionCode d w.code) (lone_in xs fine none) w.least.code in
    bytes_in_front (rec_bytes w.code) o z r w.answer w.output ∙ ap rec_bytes (lone_only k w.code code) ∙ lone_code_five k

-- and decoding takes it
pub decodes_to :
    (k : ℕ) (r : Result ℕ Refusal) (o z : List ℕ) → 73 ≤ length o → DecodeSays (lone_five k) r o z
    → drawing_in (written_bytes r z) ≡ lone_drawing k
decodes_to k r o z room says =
    (code_drawn (lone_five k) r o z (five_fine k) room says).drawing ∙ ap section_of (five_records k) ∙ lone_code_of k

-- the least test says yes
five_lone : (k : ℕ) → lone_bytes (lone_five k) ≡ true
unfolding lone_bytes lone_row recs_in rows rec_in
five_lone k = refl

pub lone_is_least : (k : ℕ) (v : Result Verdict Refusal) → LeastSays (lone_five k) v → v ≡ Ok (verdict.yes 1)
lone_is_least k v says = least_determined (lone_five k) v (Ok (verdict.yes 1)) says told
  where
    told : LeastSays (lone_five k) (Ok (verdict.yes 1))
    told = rw (section_accepted_checked (lone_five k) (five_fine k)) (lone_told (lone_five k) (five_fine k) (five_lone k))

-- THE ORDER: before every code with cables, and by the kind; with none of them it agrees
lone_apart : (k : ℕ) (rs : List Rec) → rows_good rs ≡ true → agreement (lone_code k) rs ≡ 0
unfolding lone_record
lone_apart k [] g = absurd (omega (arith, (good_from_test [] g).one))
lone_apart k (r ∷ rs) g =
    let j = (begun_from_test r (rows_cons fresh r rs (good_from_test (r ∷ rs) g).accepted).step).1 in
    agreement_apart [] rs (lone_record k) r (λ e. omega (arith, j, ap (λ (z : Rec). z.j) e))

pub lone_kinds_apart : (k l : ℕ) → (k ≡ l → ⊥) → agreement (lone_code k) (lone_code l) ≡ 0
unfolding lone_record
lone_kinds_apart k l n = agreement_apart [] [] (lone_record k) (lone_record l) (λ e. n (ap (λ (z : Rec). z.ki) e))

pub first :
    (k : ℕ) (ys : List ℕ) (r : Result Comparison Refusal) → section_code_refusal ys ≡ 0 → lone_bytes ys ≡ false → CompareSays (lone_five k) ys r
    → r ≡ Ok (order_answer Less 0)
first k ys r fine t says = go (accepted_as ys fine)
  where
    go : AcceptedAs ys → r ≡ Ok (order_answer Less 0)
    go (AcceptedAs.lone l u e) = absurd (true_and_false u t)
    go (AcceptedAs.cabled u z) =
        let good = (accepted_code ys z).good in
        before_if (lone_five k) ys r (five_fine k) fine says (rw (five_records k) (lone_first kinds_before k (code_records ys) good))
        ∙ ap (λ (k : ℕ). Ok (order_answer Less k)) (ap (λ (rs : List Rec). agreement rs (code_records ys)) (five_records k) ∙ lone_apart k (code_records ys) good)

pub by_kind : (k l : ℕ) (r : Result Comparison Refusal) → k < l → CompareSays (lone_five k) (lone_five l) r → r ≡ Ok (order_answer Less 0)
by_kind k l r h says =
    before_if (lone_five k) (lone_five l) r (five_fine k) (five_fine l) says
    (rw (five_records k, five_records l) (lone_by_kind k l ∙ lt-ltb k l h))
    ∙ ap (λ (k : ℕ). Ok (order_answer Less k)) (ap₂ agreement (five_records k) (five_records l) ∙ lone_kinds_apart k l (λ e. omega arith))

-- THE MAP: every device of its kind takes it
not_before : (u v : ℕ) → u < v → map_before (v ∷ []) (u ∷ []) ≡ true → ⊥
unfolding map_before
not_before u v h e = go (or_cases (ltb v u) (eqb v u && false) e)
  where
    go : (ltb v u ≡ true) ⊎ ((eqb v u && false) ≡ true) → ⊥
    go (inl q) = omega (arith, ltb-true v u q)
    go (inr q) = true_and_false (and_split (eqb v u) false q).1 refl

module _ (k : ℕ) (d : Drawing) where
  pub lone_embeds : (v : ℕ) → v < devices d → kind d v ≡ k → Embedding (lone_drawing k) d (v ∷ [])
  lone_embeds v h e =
      record {
        size = refl;
        injective = λ i j p q z. omega arith;
        lands = lands;
        kinds = kinds;
        cables = λ u w c z. elim z [ ];
      }
    where
      lands : (i : ℕ) → i < length (v ∷ []) → image (v ∷ []) i < devices d
      lands zero p = h
      lands (suc i) p = absurd (omega arith)

      kinds : (i : ℕ) → i < length (v ∷ []) → kind d (image (v ∷ []) i) ≡ kind (lone_drawing k) i
      kinds zero p = e
      kinds (suc i) p = absurd (omega arith)

  -- and the least map is the lowest
  pub lowest_device : {n : ℕ} {o z : List ℕ} → LeastMapWritten (lone_drawing k) d n o z → LoneMapped k d o z
  lowest_device {n} {o} {z} w = go w.map refl
    where
      go : (f : List ℕ) → w.map ≡ f → LoneMapped k d o z
      go [] e = absurd (omega (arith, ap length e, w.embeds.size))
      go (u ∷ v ∷ f) e = absurd (omega (arith, ap length e, w.embeds.size))
      go (v ∷ []) e =
          let m : Embedding (lone_drawing k) d (v ∷ []) = subst (Embedding (lone_drawing k) d) e w.embeds in
          record {
            device = v;
            there = m.lands 0 (omega arith);
            kind_is = m.kinds 0 (omega arith);
            lowest = lowest;
            output = w.output ∙ ap (λ (f : List ℕ). in_front f o) e;
          }
        where
          lowest : (u : ℕ) → u < v → kind d u ≡ k → ⊥
          lowest u h q =
              let m : Embedding (lone_drawing k) d (v ∷ []) = subst (Embedding (lone_drawing k) d) e w.embeds in
              let g = lone_embeds u (omega (arith, m.lands 0 (omega arith))) q in
              let other : u ∷ [] ≡ w.map → ⊥ = λ x. omega (arith, ap (λ (f : List ℕ). image f 0) (x ∙ e)) in
              not_before u v h (subst (λ (f : List ℕ). map_before f (u ∷ []) ≡ true) e (w.least (u ∷ []) g other))

pub map :
    (xs ys : List ℕ) (n : ℕ) (o z : List ℕ) → (drawing_in xs).cables ≡ [] → MatchSays xs ys (Ok (Some n)) o z
    → LoneMapped (kind (drawing_in xs) 0) (drawing_in ys) o z
map xs ys n o z none says =
    let is = lone_in xs (match_answers says refl).pattern none in
    lowest_device (kind (drawing_in xs) 0) (drawing_in ys)
    (subst (λ (p : Drawing). LeastMapWritten p (drawing_in ys) n o z) is (map_written xs ys n o z says))

-- with bytes enough, "not contained" says exactly that there is none
module _ (xs ys : List ℕ) (r : Result (Option ℕ) Refusal) (o z : List ℕ) (a : drawing_refusal xs ≡ 0) (b : drawing_refusal ys ≡ 0) (room : 1 ≤ length o)
    (none : (drawing_in xs).cables ≡ []) (says : MatchSays xs ys r o z) where
  is : drawing_in xs ≡ lone_drawing (kind (drawing_in xs) 0)
  is = lone_in xs a none

  one : devices (drawing_in xs) ≤ length o
  one = rw is room

  pub no_device :
      (r ≡ Ok None → NoDevice (kind (drawing_in xs) 0) (drawing_in ys))
      × (NoDevice (kind (drawing_in xs) 0) (drawing_in ys) → r ≡ Ok None)
  no_device = (
    λ e v h k. no_map xs ys r o z a b one says e (v ∷ [], rw is (lone_embeds (kind (drawing_in xs) 0) (drawing_in ys) v h k)),
    λ bare. not_contained xs ys r o z a b one says (absent bare),
  )
    where
      absent : NoDevice (kind (drawing_in xs) 0) (drawing_in ys) → Contained (drawing_in xs) (drawing_in ys) → ⊥
      absent bare (f, m) =
          let w : Embedding (lone_drawing (kind (drawing_in xs) 0)) (drawing_in ys) f =
          subst (λ (p : Drawing). Embedding p (drawing_in ys) f) is m in
          let first : 0 < length f = omega (arith, w.size) in
          bare (image f 0) (w.lands 0 first) (w.kinds 0 first)

-- SAMENESS: by the kind, and never with a drawing that has cables
module _ (xs ys : List ℕ) (a : drawing_refusal xs ≡ 0) (b : drawing_refusal ys ≡ 0) (none : (drawing_in xs).cables ≡ []) where
  ends : EndsInRange (drawing_in xs)
  ends = (accepted_simple xs a).ends

  other_ends : EndsInRange (drawing_in ys)
  other_ends = (accepted_simple ys b).ends

  mapped_is_lone : Mapped (drawing_in xs) (drawing_in ys) → drawing_in ys ≡ lone_drawing (kind (drawing_in xs) 0)
  mapped_is_lone m =
      let same = same_from_mapped (drawing_in xs) (drawing_in ys) ends other_ends m in
      same_lone (kind (drawing_in xs) 0) (drawing_in ys) other_ends (subst (λ (d : Drawing). Same d (drawing_in ys)) (lone_in xs a none) same)

  pub never_mapped : 1 ≤ length (drawing_in ys).cables → Mapped (drawing_in xs) (drawing_in ys) → ⊥
  never_mapped some m = omega (arith, ap (λ (d : Drawing). length d.cables) (mapped_is_lone m))

  pub mapped_by_kind :
      (drawing_in ys).cables ≡ []
      → (Mapped (drawing_in xs) (drawing_in ys) → kind (drawing_in xs) 0 ≡ kind (drawing_in ys) 0)
      × (kind (drawing_in xs) 0 ≡ kind (drawing_in ys) 0 → Mapped (drawing_in xs) (drawing_in ys))
  mapped_by_kind bare = (
    λ m. sym (ap (λ (d : Drawing). kind d 0) (mapped_is_lone m)),
    λ e.
        let is : drawing_in xs ≡ drawing_in ys = lone_in xs a none ∙ ap lone_drawing e ∙ sym (lone_in ys b bare) in
        mapped_from_same (drawing_in xs) (drawing_in ys) ends other_ends
        (subst (Same (drawing_in xs)) is (same_reflexive (drawing_in xs) ends)),
  )
