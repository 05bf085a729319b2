-- Candidates in the order of a walk: the records at the places with s cranes, rising by place, rise as records and hold
-- every next record of what is frequent; lists of what goes on by them join. Rests on Counted and Growth. Assumes nothing.
use Rattle.std.specs.Prelude.{◌≡◌, refl, Bool, true, List, [], ◌∷◌, ◌++◌, map, ◌⊎◌, ℕ, ◌*◌, ◌/◌, ◌^◌, ◌≤◌, ◌<◌, ltb, length}
use Rattle.std.proofs.Common.{sym, ap, ◌∙◌, subst, append-nil, inl, inr, arith, ltb-true, lt-ltb}
use Rattle.std.proofs.Math.Decide.{dec_lt}
use Rattle.laws.specs.Lists.{Mem, snoc, mem_eq, mem_map, mem_front, mem_back, mem_cases}
use Rattle.laws.specs.Selections.{Sent, map_from, mem_one}
use Rattle.laws.specs.Rising.{Rises, rises_nil, rises_cons, rises_append, rises_tail, rises_head}
use Rattle.graphs.specs.Drawing.{Drawing}
use Rattle.graphs.specs.Survey.{crane_count}
use Rattle.codes.specs.Code.{Rec, Reading, fresh, read_rows, kinds_before, rec_before_by, before_by}
use Rattle.codes.specs.CodeOrder.{LabelOrder, kinds_order, difference_decides}
use Rattle.codes.specs.Greedy.{Fits}
use Rattle.growth.specs.Growth.{
  GoesOnFrom,
  Listed,
  ListedBy,
  listed_none,
  listed_all,
  listed_skip,
  listed_take,
}
use Rattle.growth.specs.Frequent.{Frequent, frequent_prefix}
use Rattle.growth.specs.Places.{Ranks, place_of, record_at, crane_cell, candidate_of}
use Rattle.growth.specs.CellLaws.{crane_cell_below, candidate_place, candidate_rises}
use Rattle.growth.specs.PlaceLaws.{place_below, place_record, place_order}
use Rattle.growth.specs.CountingExtensions.{AllSections, Counting}
use Rattle.growth.specs.Floors.{Above, GrownAbove}
use Rattle.growth.specs.Counted.{
  Extending,
  rows_extending,
  frequent_fits,
  counted_candidate,
  Candidate,
  candidate_at,
}

-- a rising list stays so under a map that keeps the order of its members
pub rises_map :
    {A B : Type 0} (f : A → B) (lt : A → A → Bool) (before : B → B → Bool) (xs : List A)
    → ((a b : A) → Mem a xs → Mem b xs → lt a b ≡ true → before (f a) (f b) ≡ true) → Rises lt xs → Rises before (map f xs)
rises_map f lt before [] h r = rises_nil before
rises_map {A} {B} f lt before (x ∷ xs) h r =
    rises_cons before (f x) (map f xs) (λ y m. first y (map_from f xs m))
    (rises_map f lt before xs (λ a b p q. h a b (Mem.there p) (Mem.there q)) (rises_tail lt x xs r))
  where
    first : (y : B) → Sent f xs y → before (f x) y ≡ true
    first y s =
        subst (λ (z : B). before (f x) z ≡ true) s.is
        (h x s.a (Mem.here refl) (Mem.there s.member) (rises_head lt x xs r s.a s.member))

-- THE PLACES WITH s CRANES, rising
pub record ChosenPlaces (cr : List ℕ) (sets : ℕ → List Bool) (s n : ℕ) (ps : List ℕ) : Type 0 where
  pub rise : Rises ltb ps
  pub often : (p : ℕ) → Mem p ps → s ≤ crane_count cr (sets p)
  pub all : (p : ℕ) → p < 16 * n → s ≤ crane_count cr (sets p) → Mem p ps

-- the same as candidates: each place with its cell below it
pub record ChosenCells (cr : List ℕ) (sets : ℕ → List Bool) (s n : ℕ) (qs : List ℕ) : Type 0 where
  pub rise : Rises ltb qs
  pub often : (q : ℕ) → Mem q qs → (p : ℕ) × (candidate_of p (crane_cell cr (sets p)) ≡ q) × (s ≤ crane_count cr (sets p))
  pub all : (p : ℕ) → p < 16 * n → s ≤ crane_count cr (sets p) → Mem (candidate_of p (crane_cell cr (sets p))) qs

abbrev pub place_in : ℕ → ℕ
place_in q = q / (2 ^ 40)

pub chosen_places :
    (cr : List ℕ) (sets : ℕ → List Bool) (s n : ℕ) (qs : List ℕ) → ((p : ℕ) → length (sets p) ≤ 32) → ChosenCells cr sets s n qs
    → ChosenPlaces cr sets s n (map place_in qs)
chosen_places cr sets s n qs few c = record { rise = rises_map place_in ltb ltb qs order c.rise; often = often; all = all }
  where
    is : (p : ℕ) → place_in (candidate_of p (crane_cell cr (sets p))) ≡ p
    is p = candidate_place p (crane_cell cr (sets p)) (crane_cell_below cr (sets p) (few p))

    order : (a b : ℕ) → Mem a qs → Mem b qs → ltb a b ≡ true → ltb (place_in a) (place_in b) ≡ true
    order a b m k h = go (c.often a m) (c.often b k)
      where
        go :
            (p : ℕ) × (candidate_of p (crane_cell cr (sets p)) ≡ a) × (s ≤ crane_count cr (sets p))
            → (p : ℕ) × (candidate_of p (crane_cell cr (sets p)) ≡ b) × (s ≤ crane_count cr (sets p)) → ltb (place_in a) (place_in b) ≡ true
        go (p, x, u) (q, y, v) = lt-ltb (place_in a) (place_in b) (rw (← x, ← y, is p, is q) (less (dec_lt p q) (dec_lt q p)))
          where
            less : Dec (p < q) → Dec (q < p) → p < q
            less (yes l) z = l
            less (no l) (yes z) =
                let w = candidate_rises q p (crane_cell cr (sets q)) (crane_cell cr (sets p)) (crane_cell_below cr (sets q) (few q)) z in
                absurd (omega (arith, ltb-true a b h, w))
            less (no l) (no z) =
                let w : p ≡ q = omega arith in
                absurd (omega (arith, ltb-true a b h, sym x ∙ ap (λ (k : ℕ). candidate_of k (crane_cell cr (sets k))) w ∙ y))

    often : (p : ℕ) → Mem p (map place_in qs) → s ≤ crane_count cr (sets p)
    often p m = go (map_from place_in qs m)
      where
        go : Sent place_in qs p → s ≤ crane_count cr (sets p)
        go t =
            let w = c.often t.a t.member in
            subst (λ (k : ℕ). s ≤ crane_count cr (sets k)) (sym (is w.0) ∙ ap place_in w.1 ∙ t.is) w.2

    all : (p : ℕ) → p < 16 * n → s ≤ crane_count cr (sets p) → Mem p (map place_in qs)
    all p h k = mem_eq (is p) (mem_map place_in (c.all p h k))

-- THE RECORDS AT CHOSEN PLACES
abbrev pub records_at : Reading → (labels : List ℕ) (n : ℕ) → (places : List ℕ) → List Rec
records_at x labels n ps = map (record_at x labels n) ps

module _ {ds : List Drawing} {rank labels : List ℕ} {n : ℕ} {γ : List Rec} {x : Reading} {Fit : Drawing → Rec → Type 0} {sets : ℕ → List Bool}
    {cr : List ℕ} {s : ℕ} {ps : List ℕ} (o : Ranks ds rank labels n) (t : Extending ds rank labels n γ x Fit)
    (c : Counting (place_of rank n) Fit ds (length ds) sets) (one : 1 ≤ s) (h : ChosenPlaces cr sets s n ps) where
  pub chosen_candidate : (p : ℕ) → Mem p ps → Candidate t c p
  chosen_candidate p m = candidate_at t c cr p (omega (arith, h.often p m))

  -- rise as records
  pub chosen_rise : Rises (rec_before_by kinds_before) (records_at x labels n ps)
  chosen_rise = rises_map (record_at x labels n) ltb (rec_before_by kinds_before) ps order h.rise
    where
      order :
          (a b : ℕ) → Mem a ps → Mem b ps → ltb a b ≡ true
          → rec_before_by kinds_before (record_at x labels n a) (record_at x labels n b) ≡ true
      order a b m k l =
          let p = chosen_candidate a m in
          let q = chosen_candidate b k in
          place_order o.rising p.placed q.placed
          (rw (p.place_is, q.place_is) (ltb-true a b l))

  -- and hold every next record of what is frequent
  pub chosen_all :
      (e : Rec) (more : List Rec) → ((d : Drawing) → Fits d (snoc γ e) → Fit d e) → Frequent kinds_before cr ds s (γ ++ e ∷ more)
      → Mem e (records_at x labels n ps)
  chosen_all e more into f =
      let g = frequent_prefix kinds_before kinds_order cr ds s γ e more f in
      let q = frequent_fits kinds_before cr ds s one γ e g in
      let w = t.placed q.0 q.1 e (into q.0 q.2) in
      mem_eq (place_record w)
      (mem_map (record_at x labels n)
      (h.all (place_of rank n e) (place_below w) (counted_candidate t c cr s one kinds_before e into g)))

-- AFTER ROWS: what goes on by the records at chosen places is all that goes on, if what is frequent is above the floors
module _ {ds : List Drawing} {rank labels : List ℕ} {n : ℕ} {sets : ℕ → List Bool} {cr : List ℕ} {s : ℕ} {ps : List ℕ} (sections : AllSections ds)
    (o : Ranks ds rank labels n) (r : Rec) (rs : List Rec) (few : length (r ∷ rs) ≤ 7) (floors : List ℕ)
    (c : Counting (place_of rank n) (GrownAbove (r ∷ rs) floors) ds (length ds) sets)
    (above : (e : Rec) → Frequent kinds_before cr ds s (snoc (r ∷ rs) e) → Above floors e) (one : 1 ≤ s) (h : ChosenPlaces cr sets s n ps) where
  pub chosen_listed :
      (l : ℕ) (cs : List (List Rec))
      → ListedBy kinds_before kinds_order (Frequent kinds_before cr ds s) l (r ∷ rs) (records_at (read_rows fresh (r ∷ rs)) labels n ps) cs
      → Listed kinds_before kinds_order (Frequent kinds_before cr ds s) l (r ∷ rs) cs
  chosen_listed l cs =
      listed_all kinds_before kinds_order (Frequent kinds_before cr ds s) l (r ∷ rs) (records_at (read_rows fresh (r ∷ rs)) labels n ps) cs
      (λ e more f.
      chosen_all o (rows_extending sections o r rs few floors) c one h e more
      (λ d t. (t, above e (frequent_prefix kinds_before kinds_order cr ds s (r ∷ rs) e more f))) f)

-- LISTS JOIN: what goes on by earlier next records, then by later ones
module _ (labels : Rec → Rec → Bool) (o : LabelOrder labels) (good : List Rec → Type 0) (l : ℕ) where
  pub listed_join :
      (γ es gs : List Rec) (cs ds : List (List Rec)) → ((e g : Rec) → Mem e es → Mem g gs → rec_before_by labels e g ≡ true)
      → ListedBy labels o good l γ es cs → ListedBy labels o good l γ gs ds → ListedBy labels o good l γ (es ++ gs) (cs ++ ds)
  listed_join γ es gs cs ds apart t u = record { rise = rise; sound = sound; whole = whole }
    where
      rise : Rises (before_by labels) (cs ++ ds)
      rise =
          rises_append (before_by labels) cs ds t.rise u.rise
          (λ a b m k.
          let p = (t.sound a m).2 in
          let q = (u.sound b k).2 in
          rw (p.0.is, q.0.is)
          (difference_decides labels o γ p.0.e q.0.e p.0.more q.0.more (apart p.0.e q.0.e p.1 q.1)))

      sound : (c : List Rec) → Mem c (cs ++ ds) → good c × (length c ≤ l) × ((h : GoesOnFrom labels o good l γ c) × Mem h.e (es ++ gs))
      sound c m = go (mem_cases cs m)
        where
          go : Mem c cs ⊎ Mem c ds → good c × (length c ≤ l) × ((h : GoesOnFrom labels o good l γ c) × Mem h.e (es ++ gs))
          go (inl k) = let w = t.sound c k in (w.0, w.1, (w.2.0, mem_front gs w.2.1))
          go (inr k) = let w = u.sound c k in (w.0, w.1, (w.2.0, mem_back es w.2.1))

      whole : (e : Rec) (more : List Rec) → Mem e (es ++ gs) → good (γ ++ e ∷ more) → length (γ ++ e ∷ more) ≤ l → Mem (γ ++ e ∷ more) (cs ++ ds)
      whole e more m g n = go (mem_cases es m)
        where
          go : Mem e es ⊎ Mem e gs → Mem (γ ++ e ∷ more) (cs ++ ds)
          go (inl k) = mem_front ds (t.whole e more k g n)
          go (inr k) = mem_back cs (u.whole e more k g n)

  -- one next record more, at the end: passed over, or listed with what goes on from it
  module _ (prefix : (γ : List Rec) (e : Rec) (more : List Rec) → good (γ ++ e ∷ more) → good (snoc γ e)) (γ es : List Rec) (e : Rec)
      (cs : List (List Rec)) (later : (x : Rec) → Mem x es → rec_before_by labels x e ≡ true) (t : ListedBy labels o good l γ es cs) where
    last : (x y : Rec) → Mem x es → Mem y (e ∷ []) → rec_before_by labels x y ≡ true
    last x y m k = subst (λ (z : Rec). rec_before_by labels x z ≡ true) (mem_one k) (later x m)

    pub listed_skip_last : (good (snoc γ e) → ⊥) → ListedBy labels o good l γ (snoc es e) cs
    listed_skip_last bad =
        subst (ListedBy labels o good l γ (snoc es e)) (append-nil cs)
        (listed_join γ es (e ∷ []) cs [] last t (listed_skip labels o good l prefix γ e [] [] bad (listed_none labels o good l γ)))

    pub listed_take_last :
        (ds : List (List Rec)) → good (snoc γ e) → length (snoc γ e) ≤ l → Listed labels o good l (snoc γ e) ds
        → ListedBy labels o good l γ (snoc es e) (cs ++ snoc γ e ∷ ds)
    listed_take_last ds g n u =
        subst (λ (xs : List (List Rec)). ListedBy labels o good l γ (snoc es e) (cs ++ xs)) (append-nil (snoc γ e ∷ ds))
        (listed_join γ es (e ∷ []) cs ((snoc γ e ∷ ds) ++ []) last t
        (listed_take labels o good l prefix γ e [] ds [] g n (λ x m. elim m [ ]) u (listed_none labels o good l γ)))
