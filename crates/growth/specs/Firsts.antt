-- First records, kind by kind of device 0: the candidates of each kind, one after another, rise and hold the first record of
-- all that is frequent. Rests on ListedBy. Assumes nothing.
use Rattle.std.specs.Prelude.{◌≡◌, refl, Bool, true, ◌&&◌, ◌⊎◌, ℕ, suc, ◌≤◌, ◌<◌, eqb}
use Rattle.std.proofs.Common.{sym, ◌∙◌, inl, inr, not-suc-le-zero, arith}
use Rattle.std.proofs.Math.Path.{ap, subst}
use mathlib.Core.List.{List, [], ◌∷◌, ◌++◌}
use Rattle.std.proofs.Math.Decide.{dec_lt}
use Rattle.std.proofs.Math.Dec.{leb}
use borrow.Author.Tests.{eqb-true, eq-eqb, leb-true, le-leb}
use Rattle.laws.specs.Tests.{and_split, and_both}
use Rattle.laws.specs.Lists.{Mem, mem_front, mem_back, mem_cases}
use Rattle.laws.specs.Selections.{each, each_has, each_from, only_if, only_if_has, only_if_from, mem_one, Sent, map_from}
use Rattle.laws.specs.Rising.{Rises, rises_nil, rises_append, sorted, sorted_rises, sorted_has, sorted_from}
use Rattle.graphs.specs.Drawing.{Drawing, kind}
use Rattle.graphs.specs.Patterns.{byte_list_at}
use Rattle.codes.specs.Code.{Rec, kinds_before, rec_before_by}
use Rattle.codes.specs.CodeOrder.{kinds_order, rec_before_strict}
use Rattle.codes.specs.Greedy.{Fits, fits_one}
use Rattle.codes.specs.FirstRecord.{first_record, fits_first}
use Rattle.growth.specs.Growth.{Listed, ListedBy, listed_all}
use Rattle.growth.specs.Catalogue.{Often}
use Rattle.growth.specs.FamilyLists.{rest_there}
use Rattle.growth.specs.Frequent.{Frequent, frequent_prefix, survey_candidates, frequent_candidate, often_family}
use Rattle.growth.specs.Places.{Ranks, record_at}
use Rattle.growth.specs.RecordOrder.{same_forward_first, smaller_kind_first}
use Rattle.growth.specs.PlacedRecords.{alone}
use Rattle.growth.specs.CountingExtensions.{AllSections, FirstOf}
use Rattle.growth.specs.Counted.{CountedFirsts, first_extending, frequent_fits}
use Rattle.growth.specs.ListedBy.{
  ChosenPlaces,
  records_at,
  chosen_candidate,
  chosen_rise,
  chosen_all,
  listed_join,
}

-- ALL FIRST RECORDS THAT MATTER, with device 0 of a kind below k
pub record Firsts (cr : List ℕ) (ds : List Drawing) (s k : ℕ) (es : List Rec) : Type 0 where
  pub ends : (e : Rec) → Mem e es → (e.i ≡ 0) × (e.j ≡ 1)
  pub below : (e : Rec) → Mem e es → e.ki < k
  pub rise : Rises (rec_before_by kinds_before) es
  pub all : (e : Rec) (more : List Rec) → e.ki < k → Frequent kinds_before cr ds s (e ∷ more) → Mem e es

-- of two first records the one with the smaller kind of device 0 comes first
pub first_before : (e g : Rec) → (e.i ≡ 0) × (e.j ≡ 1) → (g.i ≡ 0) × (g.j ≡ 1) → e.ki < g.ki → rec_before_by kinds_before e g ≡ true
first_before e g p q h =
    same_forward_first kinds_before e g (omega (arith, p.0, p.1)) (p.0 ∙ sym q.0) (p.1 ∙ sym q.1) (smaller_kind_first e g h)

pub firsts_none : (cr : List ℕ) (ds : List Drawing) (s : ℕ) → Firsts cr ds s 0 []
firsts_none cr ds s =
    record {
      ends = λ e m. elim m [ ];
      below = λ e m. elim m [ ];
      rise = rises_nil (rec_before_by kinds_before);
      all = λ e more h. absurd (not-suc-le-zero h);
    }

module _ {cr : List ℕ} {ds : List Drawing} {s k : ℕ} {es : List Rec} (one : 1 ≤ s) (t : Firsts cr ds s k es) where
  first_fits : (e : Rec) (more : List Rec) → Frequent kinds_before cr ds s (e ∷ more) → (d : Drawing) × Mem d ds × Fits d (e ∷ [])
  first_fits e more f = frequent_fits kinds_before cr ds s one [] e (frequent_prefix kinds_before kinds_order cr ds s [] e more f)

  -- a kind that no first record has is passed over
  pub firsts_skip : ((d : Drawing) (e : Rec) → Mem d ds → FirstOf k d e → ⊥) → Firsts cr ds s (suc k) es
  firsts_skip none = record { ends = t.ends; below = λ e m. omega (arith, t.below e m); rise = t.rise; all = all }
    where
      all : (e : Rec) (more : List Rec) → e.ki < suc k → Frequent kinds_before cr ds s (e ∷ more) → Mem e es
      all e more h f = go (dec_lt e.ki k)
        where
          go : Dec (e.ki < k) → Mem e es
          go (yes l) = t.all e more l f
          go (no l) = let q = first_fits e more f in absurd (none q.0 e q.1 (q.2, omega arith))

  -- THE CANDIDATES OF ONE KIND MORE
  module _ {rank labels : List ℕ} {n : ℕ} {sets : ℕ → List Bool} {ps : List ℕ} (sections : AllSections ds) (o : Ranks ds rank labels n)
      (c : CountedFirsts ds k rank n sets) (h : ChosenPlaces cr sets s n ps) where
    -- each fits some drawing
    chosen_first : (e : Rec) → Mem e (records_at (alone k) labels n ps) → (e.i ≡ 0) × (e.j ≡ 1) × (e.ki ≡ k)
    chosen_first e m = go (map_from (record_at (alone k) labels n) ps m)
      where
        go : Sent (record_at (alone k) labels n) ps e → (e.i ≡ 0) × (e.j ≡ 1) × (e.ki ≡ k)
        go w =
            let q = chosen_candidate o (first_extending sections o k) c one h w.a w.member in
            let f : FirstOf k q.drawing e = subst (FirstOf k q.drawing) w.is q.fits in
            let z = fits_one q.drawing e f.0 in
            (z.0, z.1, f.1)

    -- they come after those of smaller kinds
    pub firsts_apart : (e g : Rec) → Mem e es → Mem g (records_at (alone k) labels n ps) → rec_before_by kinds_before e g ≡ true
    firsts_apart e g m w =
        let z = chosen_first g w in
        first_before e g (t.ends e m) (z.0, z.1) (omega (arith, t.below e m, z.2))

    pub firsts_next : Firsts cr ds s (suc k) (es ++ records_at (alone k) labels n ps)
    firsts_next = record { ends = λ e m. ends e (mem_cases es m); below = λ e m. below e (mem_cases es m); rise = rise; all = all }
      where
        ends : (e : Rec) → Mem e es ⊎ Mem e (records_at (alone k) labels n ps) → (e.i ≡ 0) × (e.j ≡ 1)
        ends e (inl m) = t.ends e m
        ends e (inr m) = let z = chosen_first e m in (z.0, z.1)

        below : (e : Rec) → Mem e es ⊎ Mem e (records_at (alone k) labels n ps) → e.ki < suc k
        below e (inl m) = omega (arith, t.below e m)
        below e (inr m) = omega (arith, (chosen_first e m).2)

        rise : Rises (rec_before_by kinds_before) (es ++ records_at (alone k) labels n ps)
        rise =
            rises_append (rec_before_by kinds_before) es (records_at (alone k) labels n ps) t.rise
            (chosen_rise o (first_extending sections o k) c one h) firsts_apart

        all : (e : Rec) (more : List Rec) → e.ki < suc k → Frequent kinds_before cr ds s (e ∷ more) → Mem e (es ++ records_at (alone k) labels n ps)
        all e more l f = go (dec_lt e.ki k)
          where
            go : Dec (e.ki < k) → Mem e (es ++ records_at (alone k) labels n ps)
            go (yes z) = mem_front (records_at (alone k) labels n ps) (t.all e more z f)
            go (no z) =
                let q : e.ki ≡ k = omega arith in
                mem_back es (chosen_all o (first_extending sections o k) c one h e more (λ d w. (w, q)) f)

  -- ALL THOSE OF LATER KINDS, whether or not they are walked
  unfoldable of_later : Rec → Bool
  of_later e = eqb e.i 0 && (eqb e.j 1 && leb k e.ki)

  later_records : List Rec
  later_records =
      sorted (rec_before_by kinds_before) (each (survey_candidates kinds_before kinds_order cr ds s) λ e. only_if (of_later e) (e ∷ []))

  later_rise : Rises (rec_before_by kinds_before) later_records
  unfolding later_records
  later_rise = sorted_rises (rec_before_by kinds_before) (rec_before_strict kinds_before kinds_order) _

  later_from : (e : Rec) → Mem e later_records → (e.i ≡ 0) × (e.j ≡ 1) × (k ≤ e.ki)
  unfolding of_later later_records
  later_from e m =
      let g =
      each_from (survey_candidates kinds_before kinds_order cr ds s) (λ e. only_if (of_later e) (e ∷ []))
      (sorted_from (rec_before_by kinds_before) (rec_before_strict kinds_before kinds_order) e _ m) in
      let t = only_if_from (of_later g.a) (g.a ∷ []) g.gives in
      let p = and_split (eqb g.a.i 0) (eqb g.a.j 1 && leb k g.a.ki) t.0 in
      let q = and_split (eqb g.a.j 1) (leb k g.a.ki) p.1 in
      subst (λ (x : Rec). (x.i ≡ 0) × (x.j ≡ 1) × (k ≤ x.ki)) (mem_one t.1)
      (eqb-true g.a.i 0 p.0, eqb-true g.a.j 1 q.0, leb-true k g.a.ki q.1)

  later_has : (e : Rec) (more : List Rec) → k ≤ e.ki → Frequent kinds_before cr ds s (e ∷ more) → Mem e later_records
  unfolding of_later later_records
  later_has e more h f =
      let z = let q = first_fits e more f in fits_one q.0 e q.2 in
      sorted_has (rec_before_by kinds_before) (rec_before_strict kinds_before kinds_order) e _
      (each_has (survey_candidates kinds_before kinds_order cr ds s) (λ e. only_if (of_later e) (e ∷ []))
      (frequent_candidate kinds_before kinds_order cr ds s one [] e more f)
      (only_if_has (and_both (eq-eqb e.i 0 z.0) (and_both (eq-eqb e.j 1 z.1) (le-leb k e.ki h))) (Mem.here refl)))

  -- what goes on by es, and behind it what goes on by them, is all that is frequent
  pub firsts_rest :
      (l : ℕ) → 0 < l → (cs : List (List Rec)) → ListedBy kinds_before kinds_order (Frequent kinds_before cr ds s) l [] es cs
      → (rest : List (List Rec)) × Listed kinds_before kinds_order (Frequent kinds_before cr ds s) l [] (cs ++ rest)
  firsts_rest l some cs u =
      let r =
      rest_there kinds_before kinds_order (Often cr ds s) l (often_family kinds_before kinds_order cr ds s one) [] some later_records later_rise in (
        r.0,
        listed_all kinds_before kinds_order (Frequent kinds_before cr ds s) l [] (es ++ later_records) (cs ++ r.0) all
            (listed_join kinds_before kinds_order (Frequent kinds_before cr ds s) l [] es later_records cs r.0 apart u r.1),
      )
    where
      apart : (e g : Rec) → Mem e es → Mem g later_records → rec_before_by kinds_before e g ≡ true
      apart e g m w =
          let z = later_from g w in
          first_before e g (t.ends e m) (z.0, z.1) (omega (arith, t.below e m, z.2))

      all : (e : Rec) (more : List Rec) → Frequent kinds_before cr ds s (e ∷ more) → Mem e (es ++ later_records)
      all e more f = go (dec_lt e.ki k)
        where
          go : Dec (e.ki < k) → Mem e (es ++ later_records)
          go (yes h) = mem_front later_records (t.all e more h f)
          go (no h) = mem_back es (later_has e more (omega arith) f)

  -- WITH ALL KINDS, what goes on by them is all that is frequent
  pub firsts_listed :
      AllSections ds → 256 ≤ k → (l : ℕ) (cs : List (List Rec))
      → ListedBy kinds_before kinds_order (Frequent kinds_before cr ds s) l [] es cs
      → Listed kinds_before kinds_order (Frequent kinds_before cr ds s) l [] cs
  unfolding first_record
  firsts_listed sections high l cs =
      listed_all kinds_before kinds_order (Frequent kinds_before cr ds s) l [] es cs (λ e more f. t.all e more (byte e (first_fits e more f)) f)
    where
      byte : (e : Rec) → (d : Drawing) × Mem d ds × Fits d (e ∷ []) → e.ki < k
      byte e (d, m, w) =
          let q = fits_first d e w in
          let p = sections d m in
          let z : kind d q.u ≡ e.ki = ap (λ (g : Rec). g.ki) q.record_is in
          omega (arith, z, byte_list_at d.kinds q.u 256 p.bytes (p.simple.ends q.u q.w q.k q.has))
