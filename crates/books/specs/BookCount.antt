-- How many entries a book can have: the first record of a code is (0, 1), each of at most two others joins devices below ten, and all labels are
-- below three. Far more than there are, and few enough for a count of 32 bits. Rests on SmallNext. Assumes nothing.
use Rattle.std.specs.Prelude.{◌≡◌, refl, List, [], ◌∷◌, ◌++◌, map, ℕ, ◌+◌, ◌*◌, ◌≤◌, ◌<◌, length}
use Rattle.std.proofs.Common.{sym, ap₂, ◌∙◌, subst, append_assoc, arith}
use Rattle.std.proofs.lemmas.List.{length-map}
use Rattle.laws.specs.Lists.{Mem, snoc}
use Rattle.laws.specs.Selections.{Sent, map_from}
use Rattle.laws.specs.Rising.{rises_different}
use Rattle.codes.specs.Code.{Rec, kinds_before, before}
use Rattle.codes.specs.CodeOrder.{kinds_order, before_strict, rec_eq}
use Rattle.codes.specs.ReadRows.{good_from_test}
use Rattle.growth.specs.Catalogue.{Entry}
use Rattle.growth.specs.EntryCount.{named_most}
use Rattle.growth.specs.Family.{Listable}
use Rattle.growth.specs.FamilyLaws.{listable_prefix}
use Rattle.growth.specs.FamilyLists.{own_listable}
use Rattle.books.specs.Book.{Small, unsupported, Book}
use Rattle.books.specs.SmallFamily.{small_closed, unsupported_kept}
use Rattle.books.specs.SmallNext.{first_joins, next_labels, next_ends}

-- a record within the bounds, and its number
record Bounded (e : Rec) : Type 0 where
  i_low : e.i < 10
  j_low : e.j < 10
  ki_low : e.ki < 3
  c_low : e.c < 3
  kj_low : e.kj < 3

labels_of : Rec → ℕ
labels_of e = 9 * e.ki + 3 * e.c + e.kj

record_number : Rec → ℕ
record_number e = 27 * (10 * e.i + e.j) + labels_of e

labels_same : (e g : Rec) → Bounded e → Bounded g → labels_of e ≡ labels_of g → (e.ki ≡ g.ki) × (e.c ≡ g.c) × (e.kj ≡ g.kj)
unfolding labels_of
labels_same e g a b q =
    let x : e.ki ≡ g.ki = omega (arith, a.c_low, a.kj_low, b.c_low, b.kj_low) in
    let y : e.c ≡ g.c = omega (arith, a.kj_low, b.kj_low) in
    (x, y, omega arith)

labels_low : (e : Rec) → Bounded e → labels_of e < 27
unfolding labels_of
labels_low e a = omega (arith, a.ki_low, a.c_low, a.kj_low)

record_same : (e g : Rec) → Bounded e → Bounded g → record_number e ≡ record_number g → e ≡ g
unfolding record_number
record_same e g a b q =
    let u = labels_low e a in
    let v = labels_low g b in
    let pair : 10 * e.i + e.j ≡ 10 * g.i + g.j = omega arith in
    let l = labels_same e g a b (omega arith) in
    rec_eq e g (omega (arith, a.j_low, b.j_low)) (omega (arith, a.j_low, b.j_low)) l.0 l.1 l.2

record_low : (e : Rec) → Bounded e → record_number e < 2700
unfolding record_number
record_low e a = omega (arith, labels_low e a, a.i_low, a.j_low)

-- A ROW of them, in digits from 1
rest_number : List Rec → ℕ
rest_number [] = 0
rest_number (e ∷ rs) = 1 + record_number e + 2701 * rest_number rs

abbrev AllBounded : List Rec → Type 0
AllBounded rs = (e : Rec) → Mem e rs → Bounded e

rest_same : (rs ss : List Rec) → AllBounded rs → AllBounded ss → rest_number rs ≡ rest_number ss → rs ≡ ss
unfolding rest_number
rest_same [] [] a b q = refl
rest_same [] (g ∷ ss) a b q = absurd (omega arith)
rest_same (e ∷ rs) [] a b q = absurd (omega arith)
rest_same (e ∷ rs) (g ∷ ss) a b q =
    let x = record_low e (a e (Mem.here refl)) in
    let y = record_low g (b g (Mem.here refl)) in
    ap₂ {C = List Rec} (λ r rs. r ∷ rs) (record_same e g (a e (Mem.here refl)) (b g (Mem.here refl)) (omega arith))
    (rest_same rs ss (λ f m. a f (Mem.there m)) (λ f m. b f (Mem.there m)) (omega arith))

rest_low : (rs : List Rec) → AllBounded rs → length rs ≤ 2 → rest_number rs < 7295401
unfolding rest_number
rest_low [] a h = omega arith
rest_low (e ∷ []) a h = omega (arith, record_low e (a e (Mem.here refl)))
rest_low (e ∷ f ∷ []) a h = omega (arith, record_low e (a e (Mem.here refl)), record_low f (a f (Mem.there (Mem.here refl))))
rest_low (e ∷ f ∷ g ∷ rs) a h = absurd (omega arith)

-- THE NUMBER OF A CODE: its first record is told by its labels
record CodeNumbered (c : List Rec) (k : ℕ) : Type 0 where
  first : Rec
  rest : List Rec
  whole : c ≡ first ∷ rest
  starts : (first.i ≡ 0) × (first.j ≡ 1)
  bounded : AllBounded (first ∷ rest)
  is : k ≡ labels_of first + 27 * rest_number rest

code_same : (c d : List Rec) (k : ℕ) → CodeNumbered c k → CodeNumbered d k → c ≡ d
code_same c d k a b =
    let u = labels_low a.first (a.bounded a.first (Mem.here refl)) in
    let v = labels_low b.first (b.bounded b.first (Mem.here refl)) in
    let tail = rest_same a.rest b.rest (λ e m. a.bounded e (Mem.there m)) (λ e m. b.bounded e (Mem.there m)) (omega (arith, a.is, b.is)) in
    let l = labels_same a.first b.first (a.bounded a.first (Mem.here refl)) (b.bounded b.first (Mem.here refl))
    (omega (arith, a.is, b.is)) in
    a.whole
    ∙ ap₂ {C = List Rec} (λ r rs. r ∷ rs)
    (rec_eq a.first b.first (a.starts.0 ∙ sym b.starts.0) (a.starts.1 ∙ sym b.starts.1) l.0 l.1 l.2) tail
    ∙ sym b.whole

-- EVERY CODE OF THE BOOK has one
module _ {a b : ℕ} (few : a ≤ 3) (low : b ≤ 3) where
  prefix : (γ : List Rec) (e : Rec) (rest : List Rec) → Listable kinds_before (Small a b) (γ ++ e ∷ rest) → Bounded e
  prefix γ e rest f =
      let g = listable_prefix kinds_before kinds_order (Small a b) (small_closed a b) γ e rest f in
      let z = next_ends γ e g in
      let l = next_labels γ e g in
      record {
        i_low = z.0;
        j_low = z.1;
        ki_low = omega (arith, l.from);
        c_low = omega (arith, l.along);
        kj_low = omega (arith, l.to);
      }

  all_bounded : (γ rs : List Rec) → Listable kinds_before (Small a b) (γ ++ rs) → AllBounded rs
  all_bounded γ [] f g x'' = elim x'' [ ]
  all_bounded γ (e ∷ rs) f g (Mem.here q) = subst Bounded q (prefix γ e rs f)
  all_bounded γ (e ∷ rs) f g (Mem.there m) = all_bounded (snoc γ e) rs (rw append_assoc f) g m

  code_numbered : (c : List Rec) → Listable kinds_before (Small a b) c → length c ≤ 3 → (k : ℕ) × (k < 196975827) × CodeNumbered c k
  code_numbered [] f h = absurd (omega (arith, (good_from_test [] f.least.code.good).one))
  code_numbered (r ∷ rs) f h =
      let all = all_bounded [] (r ∷ rs) f in
      let one = listable_prefix kinds_before kinds_order (Small a b) (small_closed a b) [] r rs f in
      let u = labels_low r (all r (Mem.here refl)) in
      let v = rest_low rs (λ e m. all e (Mem.there m)) (omega arith) in (
        labels_of r + 27 * rest_number rs,
        omega arith,
        record {
          first = r;
          rest = rs;
          whole = refl;
          starts = first_joins r (good_from_test (r ∷ []) one.least.code.good).accepted;
          bounded = all;
          is = refl;
        },
      )

-- THE BOUND: 27 times 2,701 times 2,701
pub book_most : (a b l : ℕ) → a ≤ 3 → b ≤ 3 → l ≤ 3 → (es : List Entry) → Book a b l es → length es ≤ 196975827
book_most a b l few low short es t =
    omega (
      arith,
      length-map es code_at,
      named_most 196975827 CodeNumbered codes code_same (rises_different before (before_strict kinds_before kinds_order) codes t.rise)
          (λ c m. numbered (map_from code_at es m)),
    )
  where
    code_at : Entry → List Rec
    code_at e = e.code

    codes : List (List Rec)
    codes = map code_at es

    numbered : {c : List Rec} → Sent code_at es c → (k : ℕ) × (k < 196975827) × CodeNumbered c k
    numbered {c} s =
        let e = t.sound s.a s.member in
        subst (λ (d : List Rec). (k : ℕ) × (k < 196975827) × CodeNumbered d k) s.is
        (code_numbered few low s.a.code
        (own_listable kinds_before kinds_order (Small a b) unsupported l (small_closed a b) unsupported_kept e.pattern s.a.code e.is_one
        e.wanted
        e.least) (omega (arith, e.size)))
