-- How many entries a catalogue can have. An entry's pattern has an embedding in some drawing, and which drawing it is and which of its
-- cables it lands on tell the entry: so there are no more than 32 times the ways to choose 1 to 8 of 20 cables. Assumes nothing.
use Rattle.std.specs.Prelude.{◌≡◌, refl, Bool, true, length, get_or}
use Rattle.std.proofs.Common.{sym, subst, ◌∙◌, arith}
use Rattle.std.proofs.Math.Path.{ap}
use mathlib.Core.List.{List, [], ◌∷◌, map}
use Prim.Native.Nat.{ℕ, suc, ◌+◌, ◌*◌, ◌-◌, ◌≤◌, ◌<◌}
use Rattle.std.proofs.Math.ListN.{length-map}
use Rattle.laws.specs.Lists.{Mem, mem_eq, place}
use Rattle.laws.specs.Counting.{Different, different_below}
use Rattle.laws.specs.Rising.{rises_different}
use Rattle.laws.specs.Selections.{Sent, map_from}
use Rattle.graphs.specs.Drawing.{Drawing}
use Rattle.graphs.specs.Map.{Same, contains}
use Rattle.graphs.specs.Survey.{count_true, support}
use Rattle.graphs.specs.Embedding.{Embedding}
use Rattle.graphs.specs.Graph.{Simple, Pattern}
use Rattle.graphs.specs.Patterns.{pattern_from_test}
use Rattle.graphs.specs.LeastMap.{embedding_from_contains}
use Rattle.codes.specs.Code.{Rec, Least, before, kinds_before}
use Rattle.codes.specs.CodeOrder.{kinds_order, before_strict}
use Rattle.codes.specs.FullCode.{coded_from_test, coded_length}
use Rattle.codes.specs.CodesTell.{least_codes_tell}
use Rattle.growth.specs.Catalogue.{Entry, FrequentEntry, Catalogue}
use Rattle.growth.specs.Frequent.{some_containing}
use Rattle.graphs.specs.MarkCounts.{
  marks_number,
  few_upto,
  few_most,
  marks_number_below,
  marks_number_some,
  marks_number_tells,
}
use Rattle.graphs.specs.ImageMarks.{image_marks, marks_most, marks_some, marks_tell}

-- DIFFERENT THINGS WITH DIFFERENT NUMBERS below n are at most n
module _ {A : Type 0} (n : ℕ) (R : A → ℕ → Type 0) (xs : List A) (tells : (x y : A) (k : ℕ) → R x k → R y k → x ≡ y) where
  record Named (zs : List A) : Type 0 where
    ks : List ℕ
    size : length ks ≡ length zs
    different : Different ks
    low : (k : ℕ) → Mem k ks → k < n
    owner : (k : ℕ) → Mem k ks → (x : A) × Mem x zs × R x k

  named : (zs : List A) → Different zs → ((x : A) → Mem x zs → (k : ℕ) × (k < n) × R x k) → Named zs
  unfolding Different
  named [] d have = record { ks = []; size = refl; different = tt; low = λ k m. elim m [ ]; owner = λ k m. elim m [ ] }
  named (z ∷ zs) d have = go (have z (Mem.here refl)) (named zs d.1 (λ x m. have x (Mem.there m)))
    where
      go : (k : ℕ) × (k < n) × R z k → Named zs → Named (z ∷ zs)
      go (k, l, r) s =
          record {
            ks = k ∷ s.ks;
            size = ap suc s.size;
            different = (λ m. new (s.owner k m), s.different);
            low = low;
            owner = owner;
          }
        where
          new : (x : A) × Mem x zs × R x k → ⊥
          new (x, m, q) = d.0 (mem_eq (tells x z k q r) m)

          low : (j : ℕ) → Mem j (k ∷ s.ks) → j < n
          low j (Mem.here e) = rw (← e) l
          low j (Mem.there m) = s.low j m

          later : (j : ℕ) → (x : A) × Mem x zs × R x j → (x : A) × Mem x (z ∷ zs) × R x j
          later j (x, m, q) = (x, Mem.there m, q)

          owner : (j : ℕ) → Mem j (k ∷ s.ks) → (x : A) × Mem x (z ∷ zs) × R x j
          owner j (Mem.here e) = (z, Mem.here refl, rw (← e) r)
          owner j (Mem.there m) = later j (s.owner j m)

  pub named_most : Different xs → ((x : A) → Mem x xs → (k : ℕ) × (k < n) × R x k) → length xs ≤ n
  named_most d have =
      let s = named xs d have in
      omega (arith, s.size, different_below n s.ks s.different s.low)

-- where a pattern with support is contained
some_contains :
    (p none : Drawing) (cr : List ℕ) (ds : List Drawing) → 1 ≤ support p cr ds → (j : ℕ) × (j < length ds) × (contains p (get_or ds j none) ≡ true)
some_contains p none cr ds h = found (some_containing p cr ds h)
  where
    found : (d : Drawing) × Mem d ds × (contains p d ≡ true) → (j : ℕ) × (j < length ds) × (contains p (get_or ds j none) ≡ true)
    found (d, m, e) = let t = place none m in (t.i, t.below, rw t.is e)

-- A SURVEY: at most 32 simple drawings of at most 20 cables
pub record SizedSurvey (none : Drawing) (ds : List Drawing) : Type 0 where
  pub most : length ds ≤ 32
  pub simple : (j : ℕ) → j < length ds → Simple (get_or ds j none)
  pub cables : (j : ℕ) → j < length ds → length (get_or ds j none).cables ≤ 20

module _ (none : Drawing) (ds : List Drawing) (sized : SizedSurvey none ds) where
  -- THE NUMBER of a code: a drawing and the cables there that its pattern lands on
  record CodeNumber (rs : List Rec) (k : ℕ) : Type 0 where
    p : Drawing
    pattern : Pattern p
    least : Least p rs
    few : length p.cables ≤ 8
    j : ℕ
    below : j < length ds
    f : List ℕ
    embeds : Embedding p (get_or ds j none) f
    is : suc k ≡ j * 263949 + marks_number 8 (image_marks p (get_or ds j none) f)

  -- the marks' part of it
  module _ {p : Drawing} {f : List ℕ} {j : ℕ} (pattern : Pattern p) (few : length p.cables ≤ 8) (below : j < length ds)
      (embeds : Embedding p (get_or ds j none) f) where
    abbrev bs : List Bool
    bs = image_marks p (get_or ds j none) f

    most : count_true bs ≤ 8
    most = omega (arith, marks_most p (get_or ds j none) f (sized.simple j below) embeds)

    some : 1 ≤ marks_number 8 bs
    some = marks_number_some 8 bs (marks_some p (get_or ds j none) f (sized.simple j below) embeds pattern.cables_low) most

    size : length bs ≡ length (get_or ds j none).cables
    unfolding image_marks
    size = length-map (get_or ds j none).cables _

    high : marks_number 8 bs ≤ 263949
    high =
        omega (
          arith,
          marks_number_below 8 bs most,
          few_upto 20 (length bs) 8 (rw size (sized.cables j below)),
          few_most,
        )

  number_tells : (rs ss : List Rec) (k : ℕ) → CodeNumber rs k → CodeNumber ss k → rs ≡ ss
  number_tells rs ss k a b =
      (least_codes_tell kinds_before kinds_order a.p b.p a.pattern.simple b.pattern.simple rs ss a.least b.least).1
      same_pattern
    where
      same_drawing : a.j ≡ b.j
      same_drawing =
          omega (
            arith,
            a.is,
            b.is,
            some a.pattern a.few a.below a.embeds,
            some b.pattern b.few b.below b.embeds,
            high a.pattern a.few a.below a.embeds,
            high b.pattern b.few b.below b.embeds,
          )

      moved : Embedding a.p (get_or ds b.j none) a.f
      moved = subst (λ (i : ℕ). Embedding a.p (get_or ds i none) a.f) same_drawing a.embeds

      same_number :
          marks_number 8 (image_marks a.p (get_or ds b.j none) a.f) ≡ marks_number 8 (image_marks b.p (get_or ds b.j none) b.f)
      same_number =
          ap (λ (i : ℕ). marks_number 8 (image_marks a.p (get_or ds i none) a.f)) (sym same_drawing)
          ∙ omega (arith, a.is, b.is, same_drawing)

      same_pattern : Same a.p b.p
      same_pattern =
          marks_tell a.p b.p (get_or ds b.j none) a.f b.f (sized.simple b.j b.below) a.pattern b.pattern moved b.embeds
          (marks_number_tells 8 _ _
          (size a.pattern a.few b.below moved ∙ sym (size b.pattern b.few b.below b.embeds))
          (most a.pattern a.few b.below moved) (most b.pattern b.few b.below b.embeds) same_number)

  -- EVERY FREQUENT ENTRY has one
  has_number :
      (cr : List ℕ) (s l : ℕ) → 1 ≤ s → l ≤ 8 → (e : Entry) → FrequentEntry kinds_before cr ds s l e
      → (k : ℕ) × (k < 8446368) × CodeNumber e.code k
  has_number cr s l one small e t = go (some_contains p none cr ds (omega (arith, t.wanted)))
    where
      p : Drawing
      p = t.pattern

      pattern : Pattern p
      pattern = pattern_from_test p t.is_one

      few : length p.cables ≤ 8
      few = omega (arith, t.size, coded_length p pattern.simple e.code (coded_from_test p pattern.simple e.code t.least.code))

      go : (j : ℕ) × (j < length ds) × (contains p (get_or ds j none) ≡ true) → (k : ℕ) × (k < 8446368) × CodeNumber e.code k
      go (j, below, c) =
          let (f, embeds) = embedding_from_contains p (get_or ds j none) pattern.simple.ends c in
          let r = marks_number 8 (image_marks p (get_or ds j none) f) in
          let low : 1 ≤ r = some pattern few below embeds in
          let up : r ≤ 263949 = high pattern few below embeds in (
            j * 263949 + (r - 1),
            omega (arith, sized.most),
            record {
              p = p;
              pattern = pattern;
              least = t.least;
              few = few;
              j = j;
              below = below;
              f = f;
              embeds = embeds;
              is = omega (arith, low);
            },
          )

-- THE BOUND: 32 times 263,949
pub entries_most :
    (none : Drawing) (ds : List Drawing) → SizedSurvey none ds → (cr : List ℕ) (s l : ℕ) → 1 ≤ s → l ≤ 8 → (es : List Entry) → Catalogue cr ds s l es
    → length es ≤ 8446368
entries_most none ds sized cr s l one small es c =
    omega (
      arith,
      length-map es code_at,
      named_most 8446368 (CodeNumber none ds sized) codes (number_tells none ds sized)
          (rises_different before (before_strict kinds_before kinds_order) codes c.rise)
          (λ rs m. numbered rs (map_from code_at es m)),
    )
  where
    code_at : Entry → List Rec
    code_at e = e.code

    codes : List (List Rec)
    codes = map code_at es

    numbered : (rs : List Rec) → Sent code_at es rs → (k : ℕ) × (k < 8446368) × CodeNumber none ds sized rs k
    numbered rs t =
        subst (λ (qs : List Rec). (k : ℕ) × (k < 8446368) × CodeNumber none ds sized qs k) t.is
        (has_number none ds sized cr s l one small t.a (c.sound t.a t.member))
