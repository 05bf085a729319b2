-- A code of a section is that of a lone device or a DFS code: what is known of least DFS codes holds of both. Rests on FullCode,
-- Decoded and LeastCode. Assumes nothing.
use Rattle.std.specs.Prelude.{◌≡◌, Bool, true, false, ◌&&◌, ◌||◌, cond, List, [], ◌∷◌, ◌⊎◌, ℕ, ◌<◌, ltb, leb, eqb, length}
use Rattle.std.proofs.Math.Path.{refl}
use Rattle.std.proofs.Common.{sym, ap, ap₂, subst, ◌∙◌, inl, inr, arith, eqb-true, eq-eqb, ne_eqb, ltb-true, le-ltb}
use Rattle.laws.specs.Tests.{and_split, and_both, passes, true_and_false}
use Rattle.graphs.specs.Drawing.{Cable, Drawing, devices, kind, byte_list}
use Rattle.graphs.specs.Map.{Same, image}
use Rattle.graphs.specs.Cables.{Has, has_flip, has_eq, has_first}
use Rattle.graphs.specs.Embedding.{EndsInRange}
use Rattle.graphs.specs.Isomorphisms.{
  DemandMap,
  demand_map_from_test,
  isomorphism_devices,
  isomorphism_from_test,
  same_reflexive,
  same_symmetric,
  same_transitive,
}
use Rattle.graphs.specs.Graph.{Simple, Section, Pattern, lone_drawing}
use Rattle.graphs.specs.Sections.{lone_simple, lone_section, lone_or_pattern, pattern_section}
use Rattle.codes.specs.Code.{
  Rec,
  rec_bytes,
  forward,
  fresh,
  rows_refusal,
  rows_good,
  decoded,
  CodeOf,
  kinds_before,
  rec_before_by,
  rec_same,
  before_by,
  before,
  LeastBy,
}
use Rattle.codes.specs.CodeOrder.{LabelOrder, rec_eq}
use Rattle.codes.specs.CodeBytes.{rec_bytes_injective}
use Rattle.codes.specs.ReadRows.{begun_from_test, rows_cons, good_from_test}
use Rattle.codes.specs.Decoded.{decoded_pattern, decoded_kinds_bytes, rows_bytes}
use Rattle.codes.specs.FullCode.{decoded_simple, coded_length, coded_from_test, least_same}
use Rattle.codes.specs.LeastCode as LeastCode
use Rattle.codes.specs.SectionCode.{
  lone_record,
  lone_code,
  lone_row,
  lone_refusal,
  lone_kind,
  records_refusal,
  records_good,
  section_of,
  SectionCode,
  LeastSectionBy,
}

-- A ROW is a lone device's or the other, never both
pub rows_not_lone : (rs : List Rec) → rows_refusal fresh rs ≡ 0 → lone_row rs ≡ false
unfolding lone_row
rows_not_lone [] e = refl
rows_not_lone (r ∷ []) e =
    let j : r.j ≡ 1 = (begun_from_test r (rows_cons fresh r [] e).step).1 in
    let n : eqb r.j 0 ≡ false = ne_eqb r.j 0 (λ z. omega arith) in
    let i : eqb r.i 0 ≡ true = eq-eqb r.i 0 (begun_from_test r (rows_cons fresh r [] e).step).0 in
    rw (i, n)
rows_not_lone (r ∷ s ∷ rs) e = refl

pub lone_row_is : (rs : List Rec) → lone_row rs ≡ true → lone_refusal rs ≡ 0 → rs ≡ lone_code (lone_kind rs)
unfolding lone_row lone_refusal lone_kind lone_record
lone_row_is [] p q = absurd (true_and_false p refl)
lone_row_is (r ∷ []) p q =
    let s = and_split (eqb r.i 0) (eqb r.j 0) p in
    let c = passes (eqb r.c 0) 10 _ (λ x y. omega arith) q in
    let k = passes (eqb r.ki r.kj) 11 0 (λ x y. omega arith) c.1 in
    ap {B = List Rec} (λ x. x ∷ []) (rec_eq r (lone_record r.ki) (eqb-true r.i 0 s.0) (eqb-true r.j 0 s.1) refl
    (eqb-true r.c 0 c.0) (sym (eqb-true r.ki r.kj k.0)))
lone_row_is (r ∷ s ∷ rs) p q = absurd (true_and_false p refl)

module _ (k : ℕ) where
  pub lone_code_row : lone_row (lone_code k) ≡ true
  unfolding lone_row lone_record
  lone_code_row = refl

  pub lone_code_fine : lone_refusal (lone_code k) ≡ 0
  unfolding lone_refusal lone_record
  lone_code_fine = rw (eq-eqb k k refl)

  pub lone_code_good : records_good (lone_code k) ≡ true
  unfolding records_good records_refusal lone_row lone_refusal lone_record
  lone_code_good = rw (eq-eqb k k refl)

  pub lone_code_of : section_of (lone_code k) ≡ lone_drawing k
  unfolding section_of lone_row lone_kind lone_record
  lone_code_of = refl

-- what is not refused is good in one of two ways
pub data RowGood (rs : List Rec) : Type 0 where
  lone : (k : ℕ) → rs ≡ lone_code k → RowGood rs
  cabled : rows_good rs ≡ true → RowGood rs

pub row_good_from_test : (rs : List Rec) → records_good rs ≡ true → RowGood rs
unfolding records_good records_refusal
row_good_from_test rs e =
    let s = and_split (leb 1 (length rs) && leb (length rs) 20) (eqb (cond (lone_row rs) (lone_refusal rs) (rows_refusal fresh rs)) 0) e in
    go (lone_row rs) refl s.0 (eqb-true _ 0 s.1)
  where
    go : (t : Bool) → lone_row rs ≡ t → (leb 1 (length rs) && leb (length rs) 20) ≡ true → cond t (lone_refusal rs) (rows_refusal fresh rs) ≡ 0
        → RowGood rs
    go true t size z = lone (lone_kind rs) (lone_row_is rs t z)
    go false t size z = cabled (unfold rows_good in and_both size (eq-eqb _ 0 z))

pub rows_records_good : (rs : List Rec) → rows_good rs ≡ true → records_good rs ≡ true
unfolding records_good records_refusal rows_good
rows_records_good rs g = rw (rows_not_lone rs (good_from_test rs g).accepted) g

pub section_of_rows : (rs : List Rec) → rows_good rs ≡ true → section_of rs ≡ decoded rs
unfolding section_of
section_of_rows rs g = rw (rows_not_lone rs (good_from_test rs g).accepted)

-- THE DRAWING that a good row describes is a section, if its bytes are, and the row is a code of it
good_simple : (rs : List Rec) → rows_good rs ≡ true → Simple (decoded rs)
good_simple [] g = absurd (omega (arith, (good_from_test [] g).one))
good_simple (r ∷ rs) g = decoded_simple r rs (good_from_test (r ∷ rs) g).accepted

pub row_simple : (rs : List Rec) → RowGood rs → Simple (section_of rs)
row_simple rs (lone k e) = rw (e, lone_code_of k) (lone_simple k)
row_simple rs (cabled g) = rw (section_of_rows rs g) (good_simple rs g)

lone_byte : (k : ℕ) → rows_bytes (lone_code k) ≡ true → k < 256
unfolding rows_bytes rec_bytes byte_list lone_record
lone_byte k h = ltb-true k 256 (and_split (ltb k 256) _ h).0

pub row_section : (rs : List Rec) → records_good rs ≡ true → rows_bytes rs ≡ true → Section (section_of rs)
row_section rs g b = go (row_good_from_test rs g)
  where
    go : RowGood rs → Section (section_of rs)
    go (lone k e) = rw (e, lone_code_of k) (lone_section k (lone_byte k (rw e at b)))
    go (cabled h) = rw (section_of_rows rs h) (pattern_section (decoded_pattern rs h (decoded_kinds_bytes rs b)))

pub row_coded : (rs : List Rec) → records_good rs ≡ true → SectionCode (section_of rs) rs
unfolding Same
row_coded rs g =
    let m = same_reflexive (section_of rs) (row_simple rs (row_good_from_test rs g)).ends in
    record { good = g; numbers = m.0; describes = m.1 }

-- A CODE ALONG A MAP: of a drawing, it is one of every drawing that is the same; and one code of two makes them the same
module _ (d e : Drawing) (s : Simple d) (t : Simple e) where
  pub section_code_along : (rs : List Rec) → Same d e → SectionCode d rs → SectionCode e rs
  unfolding Same
  section_code_along rs m c =
      let ends = (row_simple rs (row_good_from_test rs c.good)).ends in
      let x = same_transitive (section_of rs) d e ends s.ends t.ends (c.numbers, c.describes) m in
      record { good = c.good; numbers = x.0; describes = x.1 }

  pub section_code_same : (rs : List Rec) → SectionCode d rs → SectionCode e rs → Same d e
  unfolding Same
  section_code_same rs c g =
      let ends = (row_simple rs (row_good_from_test rs c.good)).ends in
      same_transitive d (section_of rs) e s.ends ends t.ends (same_symmetric (section_of rs) d ends s.ends (c.numbers, c.describes))
      (g.numbers, g.describes)

-- LEAST CODES TELL SECTIONS APART, over any order of the labels
module _ (labels : Rec → Rec → Bool) (o : LabelOrder labels) (d e : Drawing) (s : Simple d) (t : Simple e) where
  pub sections_tell :
      (rs ss : List Rec) → LeastSectionBy labels d rs → LeastSectionBy labels e ss → (rs ≡ ss → Same d e) × (Same d e → rs ≡ ss)
  sections_tell rs ss a b = (
    λ h. section_code_same d e s t rs a.code (rw h b.code),
    λ m. least_same labels o (SectionCode d) (SectionCode e) rs ss a b
        (section_code_along e d t s ss (same_symmetric d e s.ends t.ends m) b.code) (section_code_along d e s t rs m a.code),
  )

  -- the same over code bytes
  pub section_bytes_tell :
      (rs ss : List Rec) → LeastSectionBy labels d rs → LeastSectionBy labels e ss
      → (rec_bytes rs ≡ rec_bytes ss → Same d e) × (Same d e → rec_bytes rs ≡ rec_bytes ss)
  section_bytes_tell rs ss a b =
      let c = sections_tell rs ss a b in
      (λ h. c.0 (rec_bytes_injective rs ss h), λ m. ap rec_bytes (c.1 m))

pub least_section_unique :
    (labels : Rec → Rec → Bool) → LabelOrder labels → (d : Drawing) (rs ss : List Rec) → LeastSectionBy labels d rs
    → LeastSectionBy labels d ss → rs ≡ ss
least_section_unique labels o d rs ss a b = least_same labels o (SectionCode d) (SectionCode d) rs ss a b b.code a.code

-- THE CODES OF A LONE DEVICE: a drawing that is the same as it is it, and its one record is its only code
pub same_lone : (k : ℕ) (d : Drawing) → EndsInRange d → Same (lone_drawing k) d → d ≡ lone_drawing k
unfolding Same
same_lone k d ends m = go d.kinds d.cables refl refl
  where
    f : List ℕ
    f = m.0

    w : DemandMap (lone_drawing k) d f
    w = demand_map_from_test (lone_drawing k) d f (lone_simple k).ends ends m.1

    count : 1 ≡ devices d
    count = isomorphism_devices (isomorphism_from_test (lone_drawing k) d f ends m.1)

    zero_kind : kind d 0 ≡ k
    zero_kind =
        let z : image f 0 ≡ 0 = omega (arith, w.lands 0 (omega arith), count) in
        subst (λ (v : ℕ). kind d v ≡ k) z (w.kinds 0 (omega arith))

    no_cable : (c : Cable) (cs : List Cable) → d.cables ≡ c ∷ cs → ⊥
    no_cable c cs e =
        let here : Has c.a c.b c.kind d.cables = rw e (has_first c cs) in
        let z : image f 0 ≡ 0 = omega (arith, w.lands 0 (omega arith), count) in
        let a : c.a ≡ image f 0 = omega (arith, ends c.a c.b c.kind here, count) in
        let b : c.b ≡ image f 0 = omega (arith, ends c.b c.a c.kind (has_flip here), count) in
        elim (w.cables_back 0 0 c.kind (omega arith) (omega arith) (has_eq a b refl here)) [ ]

    go : (ks : List ℕ) (cs : List Cable) → d.kinds ≡ ks → d.cables ≡ cs → d ≡ lone_drawing k
    go ks (c ∷ cs) p q = absurd (no_cable c cs q)
    go [] [] p q = let z : devices d ≡ 0 = rw p in absurd (omega (arith, count))
    go (x ∷ y ∷ ks) [] p q = let z : devices d ≡ length (x ∷ y ∷ ks) = rw p in absurd (omega (arith, count))
    go (x ∷ []) [] p q =
        let z : kind d 0 ≡ x = rw p in
        ap₂ {C = Drawing} (λ ks cs. record { kinds = ks; cables = cs }) (p ∙ ap (λ (v : ℕ). v ∷ []) (sym z ∙ zero_kind)) q

-- a section with a code of one kind is of that kind
pub lone_coded : (k : ℕ) (d : Drawing) → EndsInRange d → SectionCode d (lone_code k) → d ≡ lone_drawing k
lone_coded k d ends c = same_lone k d ends (unfold Same in (c.numbers, rw (lone_code_of k) at c.describes))

-- A CODE of a section is its one record or a DFS code
pub cabled_code : {d : Drawing} {rs : List Rec} → CodeOf d rs → SectionCode d rs
cabled_code {d} {rs} c =
    record { good = rows_records_good rs c.good; numbers = c.numbers; describes = rw (section_of_rows rs c.good) c.describes }

pub pattern_code : {d : Drawing} {rs : List Rec} → Pattern d → SectionCode d rs → CodeOf d rs
pattern_code {d} {rs} p c = go (row_good_from_test rs c.good)
  where
    go : RowGood rs → CodeOf d rs
    go (lone k e) =
        let is : d ≡ lone_drawing k = lone_coded k d p.simple.ends (subst (SectionCode d) e c) in
        absurd (omega (arith, p.cables_low, ap (λ (x : Drawing). length x.cables) is))
    go (cabled g) = record { good = g; numbers = c.numbers; describes = rw (section_of_rows rs g) at c.describes }

pub lone_only : (k : ℕ) (rs : List Rec) → SectionCode (lone_drawing k) rs → rs ≡ lone_code k
lone_only k rs c = go (row_good_from_test rs c.good)
  where
    go : RowGood rs → rs ≡ lone_code k
    go (lone l e) =
        let is : lone_drawing k ≡ lone_drawing l = lone_coded l (lone_drawing k) (lone_simple k).ends (subst (SectionCode (lone_drawing k)) e c) in
        e ∙ ap lone_code (sym (ap (λ (x : Drawing). kind x 0) is))
    go (cabled g) =
        let code : CodeOf (lone_drawing k) rs =
        record { good = g; numbers = c.numbers; describes = rw (section_of_rows rs g) at c.describes } in
        absurd (omega (
          arith,
          (good_from_test rs g).one,
          coded_length (lone_drawing k) (lone_simple k) rs (coded_from_test (lone_drawing k) (lone_simple k) rs code),
        ))

-- THE LEAST: of a lone device its record, of a pattern its least DFS code; so every section has one
pub lone_least : (labels : Rec → Rec → Bool) (k : ℕ) → LeastSectionBy labels (lone_drawing k) (lone_code k)
lone_least labels k =
    record {
      code = subst (λ (d : Drawing). SectionCode d (lone_code k)) (lone_code_of k) (row_coded (lone_code k) (lone_code_good k));
      least = λ ss c n. absurd (n (lone_only k ss c));
    }

pub least_pattern : (labels : Rec → Rec → Bool) {d : Drawing} {rs : List Rec} → Pattern d → LeastBy labels d rs → LeastSectionBy labels d rs
least_pattern labels p l = record { code = cabled_code l.code; least = λ ss c. l.least ss (pattern_code p c) }

pub pattern_least : (labels : Rec → Rec → Bool) {d : Drawing} {rs : List Rec} → Pattern d → LeastSectionBy labels d rs → LeastBy labels d rs
pattern_least labels p l = record { code = pattern_code p l.code; least = λ ss c. l.least ss (cabled_code c) }

pub least_section_there :
    (labels : Rec → Rec → Bool) → LabelOrder labels → (d : Drawing) → Section d → (rs : List Rec) × LeastSectionBy labels d rs
least_section_there labels o d s = go (lone_or_pattern d s)
  where
    go : ((k : ℕ) × (d ≡ lone_drawing k)) ⊎ Pattern d → (rs : List Rec) × LeastSectionBy labels d rs
    go (inl (k, e)) = (lone_code k, rw e (lone_least labels k))
    go (inr p) = let l = LeastCode.least_code_there labels o d p in (l.0, least_pattern labels p l.1)

-- THE ORDER OF RECORDS puts (0, 0) first: a lone device's code comes before every DFS code, and two of them stand by their kinds
pub lone_first : (labels : Rec → Rec → Bool) (k : ℕ) (rs : List Rec) → rows_good rs ≡ true → before_by labels (lone_code k) rs ≡ true
unfolding before_by rec_before_by rec_same forward lone_record
lone_first labels k [] g = absurd (omega (arith, (good_from_test [] g).one))
lone_first labels k (r ∷ rs) g =
    let first = begun_from_test r (rows_cons fresh r rs (good_from_test (r ∷ rs) g).accepted).step in
    rw (first.0, first.1)

pub lone_by_kind : (k l : ℕ) → before (lone_code k) (lone_code l) ≡ ltb k l
unfolding before_by rec_before_by rec_same forward kinds_before lone_record
lone_by_kind k l = go (eqb k l) refl
  where
    either : (b : Bool) → (b || false) ≡ b
    either true = refl
    either false = refl

    go : (t : Bool) → eqb k l ≡ t → before (lone_code k) (lone_code l) ≡ ltb k l
    go true e = let f : ltb k l ≡ false = le-ltb k l (omega (arith, eqb-true k l e)) in rw (e, f)
    go false e = rw e (either (ltb k l))
