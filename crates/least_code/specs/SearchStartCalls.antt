-- The starts of a search, call by call: one start, and the walk over the cables of a record. Rests on SearchStarts, and on the
-- cables of records. Assumes nothing.
use Rattle.std.specs.Prelude.{◌≡◌, refl, List, [], ◌∷◌, ◌⊎◌, ℕ, ◌+◌, ◌≤◌, length, get_or}
use Rattle.std.proofs.Common.{sym, ◌∙◌, subst, inl, inr, arith}
use Rattle.std.proofs.Math.Path.{ap}
use Rattle.laws.specs.Lists.{snoc}
use Rattle.laws.specs.Rows.{rows}
use Rattle.graphs.specs.Drawing.{Cable, cable_in, cables_in, drawing_in}
use Rattle.graphs.specs.Cables.{Joins, along, against, Has, Last, has_flip, last_cases, has_at}
use Rattle.graphs.specs.Patterns.{accepted_parts}
use Rattle.codes.specs.Code.{Rec, recs_in, kinds_before, Least}
use Rattle.codes.specs.CodeOrder.{kinds_order}
use Rattle.codes.specs.CodeBytes.{recs_in_length}
use Rattle.codes.specs.FirstRecord.{first_record}
use Rattle.codes.specs.Greedy.{Fits}
use Rattle.codes.specs.Searched.{Best, Full, Chosen, chosen_best}
use Rattle.codes.specs.BranchState.{first_state}
use Rattle.records.specs.DrawingCables.{cable_at, cables_before}
use Rattle.records.specs.CableLaws.{before_length, before_at, before_next}
use Rattle.std.specs.declared.cmp.Ordering.{Ordering}
use Rattle.std.specs.declared.cmp.Ordering.TheVariants.{Greater}
use Rattle.least_below.specs.Searches.{Given, SearchFrom, SearchDone, Against, chosen_rows}
use Rattle.least_code.specs.Starting.{StartFrom, StartDone, Starts, no_start, CableFrom, SeenIn, OneCableMore, FirstAndBefore}
use Rattle.least_below.specs.SearchBest.{best_begins, against_chosen}
use Rattle.least_code.specs.SearchStarts.{
  start_passed,
  start_search,
  start_searched,
  start_leaves,
  starts_best,
  starts_fewer,
  starts_more,
  starts_least,
}

-- no records
pub no_rows : (bs : List ℕ) → recs_in 0 bs ≡ []
unfolding recs_in rows
no_rows bs = refl

-- ONE START
module _ {bs table : List ℕ} {m u w k : ℕ} (best : List ℕ) (held : ℕ) (s : StartFrom bs table m u w k (recs_in held best)) where
  pub start_count : held ≤ 20
  start_count = go s.so_far.whole
    where
      count : length (recs_in held best) ≡ held
      count = recs_in_length held best

      go : (recs_in held best ≡ []) ⊎ (Full kinds_before kinds_order (drawing_in bs) (recs_in held best) × Fits (drawing_in bs)
          (recs_in held best)) → held ≤ 20
      go (inl e) = omega (arith, count, ap length e)
      go (inr z) = omega (arith, count, z.0, s.given.pattern.cables_high)

  module _
      (next : Rec)
      (is : next ≡ first_record (drawing_in bs) u w k)
      (o : Ordering)
      (stands : Against (recs_in 0 best) (recs_in held best) next o) where
    pub start_left : o ≡ Greater → StartDone (drawing_in bs) u w k (recs_in held best) (recs_in held best)
    start_left q = start_passed s (rw (no_rows best, is, q) at stands)

    module _
        (on : o ≡ Greater → ⊥)
        (first : List ℕ)
        (kept : ℕ)
        (rows : recs_in kept first ≡ chosen_rows o (recs_in 0 best) next (recs_in held best)) where
      chosen : Chosen kinds_before kinds_order (drawing_in bs) [] (first_record (drawing_in bs) u w k) (recs_in held best) (recs_in kept first)
      chosen = rw (rows, ← is, no_rows best) (against_chosen (drawing_in bs) [] (recs_in held best) next o (rw (no_rows best) at stands) on)

      first_row : recs_in 1 first ≡ first_record (drawing_in bs) u w k ∷ []
      first_row =
          best_begins (drawing_in bs) _ first kept 1
          (chosen_best kinds_before kinds_order (drawing_in bs) [] (first_record (drawing_in bs) u w k) (recs_in held best)
          (recs_in kept first) s.so_far chosen) refl

      pub start_call : SearchFrom bs table m (recs_in 1 first) (first_state u w) (recs_in kept first)
      start_call = rw first_row (start_search s (recs_in kept first) chosen)

      pub start_return :
          (after : List Rec) → SearchDone bs (recs_in 1 first) (first_state u w) (recs_in kept first) after
          → StartDone (drawing_in bs) u w k (recs_in held best) after
      start_return after z =
          start_searched s (recs_in kept first) chosen after (rw first_row at z)

-- A CABLE FROM EITHER END: other cables are seen, both ways round, and this one way round
abbrev SeenHalf : (seen : List Cable) (a b l u w k : ℕ) → Type 0
SeenHalf seen a b l u w k = SeenIn seen u w k ⊎ ((u ≡ a) × (w ≡ b) × (k ≡ l))

module _ {bs table : List ℕ} {m : ℕ} (g : Given bs table m) where
  count_is : get_or bs 1 0 ≡ m
  count_is = sym (accepted_parts bs g.accepted).cable_count ∙ g.cables

  cables_are : (drawing_in bs).cables ≡ cables_before m bs
  unfolding drawing_in
  cables_are = ap (λ (n : ℕ). cables_before n bs) count_is

module _ {bs table : List ℕ} {m c : ℕ} {best : List Rec} (s : CableFrom bs table m c best) (a b l : ℕ)
    (is : record { a = a; b = b; kind = l } ≡ cable_at bs c) where
  joined : Has a b l (drawing_in bs).cables
  joined =
      rw (cables_are s.given)
      (subst (λ (x : Cable). Has x.a x.b x.kind (cables_before m bs)) (before_at m bs c s.below ∙ sym is)
      (has_at (cables_before m bs) c (cable_in []) (rw (before_length m bs) s.below)))

  pub first_start : StartFrom bs table m a b l best
  first_start = record { given = s.given; has = joined; so_far = s.so_far }

  module _ (mid : List Rec) (there : StartDone (drawing_in bs) a b l best mid) where
    pub second_start : StartFrom bs table m b a l mid
    second_start =
        record { given = s.given; has = has_flip joined; so_far = start_leaves (drawing_in bs) a b l best mid s.so_far there }

    split :
        (seen : List Cable) (u w k : ℕ) → SeenIn (snoc seen (cable_at bs c)) u w k → SeenHalf seen a b l u w k ⊎ ((u ≡ b) × (w ≡ a) × (k ≡ l))
    split seen u w k h = go (last_cases seen (rw (← is) at h))
      where
        way : Joins u w (record { a = a; b = b; kind = l }) → l ≡ k → SeenHalf seen a b l u w k ⊎ ((u ≡ b) × (w ≡ a) × (k ≡ l))
        way (along p q) e = inl (inr (sym p, sym q, sym e))
        way (against p q) e = inr (sym q, sym p, sym e)

        go :
            Has u w k seen ⊎ Last u w k (record { a = a; b = b; kind = l })
            → SeenHalf seen a b l u w k ⊎ ((u ≡ b) × (w ≡ a) × (k ≡ l))
        go (inl z) = inl (inl z)
        go (inr z) = way z.joins z.kind

    pub both_seen : (after : List Rec) → StartDone (drawing_in bs) b a l mid after → OneCableMore bs c best after
    both_seen after back seen t =
        starts_more (drawing_in bs) mid after (SeenHalf seen a b l) (SeenIn (snoc seen (cable_at bs c))) b a l (split seen)
        (starts_more (drawing_in bs) best mid (SeenIn seen) (SeenHalf seen a b l) a b l (λ u w k h. h) t there) back

-- THE WALK OVER THE CABLES: one cable first, then those before c
pub none_best : (bs : List ℕ) (best : List Rec) → best ≡ [] → Best kinds_before kinds_order (drawing_in bs) [] best
none_best bs best e = record { rest = best; is = refl; whole = inl e }

pub first_seen : (bs : List ℕ) (first : ℕ) (best after : List Rec) → best ≡ [] → OneCableMore bs first best after
    → Starts (drawing_in bs) after (SeenIn (FirstAndBefore bs first 0))
unfolding cables_in rows
first_seen bs first best after e z = z [] (no_start e (λ u w k h. elim h [ ]))

module _ (bs : List ℕ) (first c : ℕ) (best : List Rec) (t : Starts (drawing_in bs) best (SeenIn (FirstAndBefore bs first c))) where
  pub seen_best : Best kinds_before kinds_order (drawing_in bs) [] best
  seen_best = starts_best (drawing_in bs) best (SeenIn (FirstAndBefore bs first c)) t

  pub next_seen : (after : List Rec) → OneCableMore bs c best after
      → Starts (drawing_in bs) after (SeenIn (FirstAndBefore bs first (c + 1)))
  next_seen after z = rw (before_next c bs) (z (FirstAndBefore bs first c) t)

  -- the first one stands for itself
  pub skip_seen : c ≡ first → Starts (drawing_in bs) best (SeenIn (FirstAndBefore bs first (c + 1)))
  skip_seen e =
      starts_fewer (drawing_in bs) best (SeenIn (FirstAndBefore bs first c)) (SeenIn (FirstAndBefore bs first (c + 1))) fewer t
    where
      old : (u w k : ℕ) → Has u w k (cables_before c bs) ⊎ Last u w k (cable_at bs c) → Has u w k (FirstAndBefore bs first c)
      old u w k (inl z) = Has.there z
      old u w k (inr z) = Has.here {c = cable_at bs first} (rw (← e) z.joins) (rw (← e) z.kind)

      fewer : (u w k : ℕ) → Has u w k (FirstAndBefore bs first (c + 1)) → Has u w k (FirstAndBefore bs first c)
      fewer u w k (Has.here j q) = Has.here j q
      fewer u w k (Has.there h) = old u w k (last_cases (cables_before c bs) (rw (before_next c bs) at h))

  pub all_seen : {table : List ℕ} {m : ℕ} → Given bs table m → c ≡ m → Least (drawing_in bs) best
  all_seen g e =
      starts_least (drawing_in bs) g.pattern best (SeenIn (FirstAndBefore bs first c))
      (λ u w k h. Has.there (rw (e, ← cables_are g) h)) t
