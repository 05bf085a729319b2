-- A permitted step of a reading that the program holds: its kinds, and the reading after it. Rests on ReadingLaws.
-- Assumes nothing.
use Rattle.std.specs.Prelude.{◌≡◌, refl, true, false, ◌&&◌, ◌||◌, ℕ, zero, suc, ◌+◌, ◌≤◌, ◌<◌, ltb, eqb, length, get_or, take, set, Some, None}
use Rattle.std.proofs.Common.{sym, ◌∙◌, not-suc-le-zero, le_of_suc-le-suc, add-one, arith, length-set, get_or-take, take-suc-set, lt-ltb, le-ltb, eqb-true, eq-eqb, ne_eqb}
use Rattle.std.proofs.Math.Path.{ap, ap₂}
use mathlib.Core.List.{List, [], ◌∷◌, ◌++◌, map}
use Rattle.std.proofs.lemmas.List.{set-get_or}
use Rattle.laws.specs.Tests.{and_split}
use Rattle.laws.specs.Lists.{map_append}
use Rattle.codes.specs.Code.{
  Rec,
  Reading,
  fresh,
  forward,
  step_good,
  kinds_match,
  cut_to,
  cable_of,
  begun,
  forwarded,
  backed,
  stepped,
}
use Rattle.codes.specs.Step as steps
use Rattle.codes.specs.Step.{cut_falling}
use Rattle.codes.specs.Reading.{Invariant, invariant_step, invariant_begun}
use Rattle.codes.specs.ReadRows.{step_from_test, stepped_is, begun_is, begun_from_test}
use Rattle.codes.specs.BranchState.{descending}
use Rattle.records.specs.declared.code.Code.{Code}
use Rattle.readings.specs.declared.reading.Reading as held
use Rattle.readings.specs.Readings as readings
use Rattle.readings.specs.Readings.{
  held_records,
  as_reading,
  NotBegun,
  Begun,
  Sound,
  PathCutPlace,
  StepFrom,
  RecordHeld,
  CanTake,
  Steps,
}
use Rattle.readings.specs.PathLaws.{descending_store, falling_place}
use Rattle.readings.specs.ReadingLaws.{
  devices_some,
  devices_is,
  sound_fresh,
  sound_begun,
  not_fresh,
  step_device,
  Forward,
  forward_from_good,
}

-- an element that is there, whatever stands for what is not
get_d_any : (l : List ℕ) (i d e : ℕ) → i < length l → get_or l i d ≡ get_or l i e
get_d_any [] i d e h = absurd (not-suc-le-zero h)
get_d_any (x ∷ l) zero d e h = refl
get_d_any (x ∷ l) (suc i) d e h = get_d_any l i d e (le_of_suc-le-suc h)

-- KINDS of a permitted step
fresh_matches : (e : Rec) → kinds_match fresh e ≡ true
unfolding kinds_match fresh
fresh_matches e = refl

module _ (h : held.Reading) (wide : length h.kinds ≡ 10) (e : Rec) where
  pub kinds_first : Sound h → h.devices ≡ 0 → kinds_match (as_reading h) e ≡ true
  kinds_first s none = ap (λ (x : Reading). kinds_match x e) (sound_fresh h s none) ∙ fresh_matches e

  module _ (b : Begun h) (good : step_good (as_reading h) e ≡ true) where
    first_met : e.i < h.devices
    first_met = rw (devices_is h wide b) at (step_device (as_reading h) b.invariant e good)

    pub first_low : e.i < 10
    first_low = omega (arith, first_met, b.devices_most)

    kind_is : (v : ℕ) → v < h.devices → get_or (take h.devices h.kinds) v 256 ≡ get_or h.kinds v 0
    kind_is v l = get_or-take h.devices h.kinds v 256 l ∙ get_d_any h.kinds v 256 0 (omega (arith, b.devices_most))

    match_is :
        kinds_match (as_reading h) e
        ≡ (eqb (get_or h.kinds e.i 0) e.ki && (ltb e.i e.j || eqb (get_or (take h.devices h.kinds) e.j 256) e.kj))
    unfolding kinds_match forward
    match_is = rw (not_fresh (as_reading h) b.invariant e, kind_is e.i first_met)

    pub first_differs : (get_or h.kinds e.i 0 ≡ e.ki → ⊥) → kinds_match (as_reading h) e ≡ false
    first_differs d = match_is ∙ rw (ne_eqb _ _ d)

    module _ (same : get_or h.kinds e.i 0 ≡ e.ki) where
      pub forward_matches : e.i < e.j → kinds_match (as_reading h) e ≡ true
      forward_matches up = match_is ∙ rw (eq-eqb _ _ same, lt-ltb e.i e.j up)

      pub backward_matches : e.j ≤ e.i → kinds_match (as_reading h) e ≡ eqb (get_or h.kinds e.j 0) e.kj
      backward_matches low =
          match_is ∙ rw (eq-eqb _ _ same, le-ltb e.i e.j low, kind_is e.j (omega (arith, first_met, low)))

    -- what a match tells of the first device
    pub matched_kind : kinds_match (as_reading h) e ≡ true → get_or h.kinds e.i 0 ≡ e.ki
    matched_kind m = eqb-true _ _ (and_split (eqb (get_or h.kinds e.i 0) e.ki) _ (sym match_is ∙ m)).0

-- THE READING AFTER A PERMITTED STEP keeps what holds of a reading
stepped_begun : (x : Reading) → Invariant x → (e : Rec) → step_good x e ≡ true → kinds_match x e ≡ true → Invariant (stepped x e)
stepped_begun x v e g k =
    let s : steps.Step x e = step_from_test x v e g k in
    rw (stepped_is x v e s) (invariant_step v s)

stepped_first : (e : Rec) → step_good fresh e ≡ true → Invariant (stepped fresh e)
stepped_first e g = let s = begun_from_test e g in rw (begun_is e) (invariant_begun e s.0 s.1)

stepped_invariant : (h : held.Reading) (e : Rec) → CanTake h e → Invariant (stepped (as_reading h) e)
stepped_invariant h e c = go c.sound
  where
    go : Sound h → Invariant (stepped (as_reading h) e)
    go (readings.not_begun n) = rw n.is (stepped_first e (rw n.is at c.good))
    go (readings.begun b) = stepped_begun (as_reading h) b.invariant e c.good c.kinds

-- A reading from its parts
reading_eq : (x y : Reading) → x.kinds ≡ y.kinds → x.path ≡ y.path → x.back ≡ y.back → x.cables ≡ y.cables → x ≡ y
reading_eq x y p q r s = λ i. record { kinds = p i; path = q i; back = r i; cables = s i }

cables_more : (c r : Code) (e : Rec) → RecordHeld c e r → map cable_of (held_records r) ≡ map cable_of (held_records c) ++ (cable_of e ∷ [])
cables_more c r e a = ap (map cable_of) a.records ∙ map_append cable_of (held_records c) (e ∷ [])

stepped_backward : (x : Reading) → Invariant x → (e : Rec) → e.j ≤ e.i → stepped x e ≡ backed x e
unfolding stepped forward
stepped_backward x v e low = rw (not_fresh x v e, le-ltb e.i e.j low)

stepped_forward : (x : Reading) → Invariant x → (e : Rec) → e.i < e.j → stepped x e ≡ forwarded x e
unfolding stepped forward
stepped_forward x v e up = rw (not_fresh x v e, lt-ltb e.i e.j up)

-- BACKWARD: the path and the devices stay
module _ (h : held.Reading) (e : Rec) (s : CanTake h e) (r : Code) (a : RecordHeld h.code e r) where
  abbrev pub with_back : held.Reading
  with_back = record { code = r; kinds = h.kinds; devices = h.devices; back = Some e.j }

  pub steps_back : e.j ≤ e.i → Steps h e with_back
  steps_back low = go s.sound
    where
      is : Begun h → as_reading with_back ≡ stepped (as_reading h) e
      is b =
          reading_eq _ (backed (as_reading h) e) refl (rw (a.path, a.path_count)) refl (cables_more h.code r e a)
          ∙ sym (stepped_backward (as_reading h) b.invariant e low)

      go : Sound h → Steps h e with_back
      go (readings.not_begun n) =
          let p = begun_from_test e (rw n.is at s.good) in absurd (omega arith)
      go (readings.begun b) =
          record {
            is = is b;
            records = a.records;
            begun =
                record {
                  invariant = rw (is b) (stepped_invariant h e s);
                  devices_most = b.devices_most;
                  path_two = rw a.path_count b.path_two;
                  back_device = λ z. omega (arith, step_device (as_reading h) b.invariant e s.good, b.invariant.ten);
                };
            count = a.count;
          }

-- one more element in an array
take_more : (l : List ℕ) (n v : ℕ) → n < length l → take (n + 1) (set l n v) ≡ take n l ++ (v ∷ [])
take_more l n v h = rw (add-one, take-suc-set)

-- FORWARD: the path is cut back to i and goes on to j, a new device
module _ (h : held.Reading) (wide : length h.kinds ≡ 10) (long : length h.code.path ≡ 10)
    (e : Rec) (q : ℕ) (s : CanTake h e) (f : StepFrom h e q) (up : e.i < e.j) where
  -- what has a place in the arrays
  pub record InRange : Type 0 where
    pub first : e.i < 10
    pub second : e.j < 10
    pub place : q + 1 < 10

  forward_step : (b : Begun h) → Forward (as_reading h) b.invariant e
  forward_step b = forward_from_good (as_reading h) b.invariant e up s.good

  path_place : Begun h → PathCutPlace h.code.path_count h.code.path e.i q
  path_place b = f.place (λ z. omega (arith, z, devices_some h b)) up

  pub in_range : InRange
  in_range = go s.sound
    where
      go : Sound h → InRange
      go (readings.not_begun n) =
          let p = begun_from_test e (rw n.is at s.good) in
          let z : q ≡ 0 = f.first n.no_device in
          record { first = omega (arith, p.0); second = omega (arith, p.1); place = omega arith }
      go (readings.begun b) =
          let p = path_place b in
          let m = (forward_step b).most in
          let l = falling_place q h.code.path (rw (← p.cut) (cut_falling e.i _ b.invariant.falling)) in
          record { first = omega arith; second = omega arith; place = omega (arith, l, p.is) }

  module _ (r : Code) (a : RecordHeld h.code e r) where
    abbrev pub reading_grown : held.Reading
    reading_grown =
        record {
          code = record { records = r.records; count = r.count; path = set (set r.path q e.i) (q + 1) e.j; path_count = q + 2 };
          kinds = set (set h.kinds e.i e.ki) e.j e.kj;
          devices = e.j + 1;
          back = None;
        }

    path_room : q + 1 < length r.path
    path_room = omega (arith, ap length a.path, in_range.place)

    is_first : NotBegun h → as_reading reading_grown ≡ stepped (as_reading h) e
    is_first n =
        reading_eq _ (begun e) first_kinds first_path refl first_cables ∙ sym (ap (λ (x : Reading). stepped x e) n.is ∙ begun_is e)
      where
        ends : (e.i ≡ 0) × (e.j ≡ 1)
        ends = begun_from_test e (rw n.is at s.good)

        -- device 0, then device 1
        first_kinds : take (e.j + 1) (set (set h.kinds e.i e.ki) e.j e.kj) ≡ e.ki ∷ e.kj ∷ []
        first_kinds =
            let next : e.j ≡ e.i + 1 = omega (arith, ends.0, ends.1) in
            take_more (set h.kinds e.i e.ki) e.j e.kj (rw length-set (omega (arith, ends.1)))
            ∙ ap (λ (m : ℕ). take m (set h.kinds e.i e.ki) ++ (e.kj ∷ [])) next
            ∙ ap (λ (l : List ℕ). l ++ (e.kj ∷ [])) (take_more h.kinds e.i e.ki (omega (arith, ends.0)))
            ∙ ap (λ (m : ℕ). (take m h.kinds ++ (e.ki ∷ [])) ++ (e.kj ∷ [])) ends.0

        first_path : descending (q + 2) (set (set r.path q e.i) (q + 1) e.j) ≡ 1 ∷ 0 ∷ []
        first_path =
            unfold descending in
            descending_store r.path q e.i e.j path_room
            ∙ ap₂ {C = List ℕ} (λ v w. w ∷ v ∷ descending q r.path) ends.0 ends.1
            ∙ ap (λ (m : ℕ). 1 ∷ 0 ∷ descending m r.path) (f.first n.no_device)

        first_cables : map cable_of (held_records r) ≡ cable_of e ∷ []
        first_cables =
            unfold fresh in
            cables_more h.code r e a ∙ ap (λ (x : Reading). x.cables ++ (cable_of e ∷ [])) n.is

    is_next : Begun h → as_reading reading_grown ≡ stepped (as_reading h) e
    is_next b =
        reading_eq _ (forwarded (as_reading h) e) kinds_more path_more refl (cables_more h.code r e a)
        ∙ sym (stepped_forward (as_reading h) b.invariant e up)
      where
        place : PathCutPlace h.code.path_count h.code.path e.i q
        place = path_place b

        next : e.j ≡ h.devices
        next = (forward_step b).is_next ∙ devices_is h wide b

        same_kind : set h.kinds e.i e.ki ≡ h.kinds
        same_kind =
            ap (set h.kinds e.i) (sym (matched_kind h wide e b s.good s.kinds)) ∙ set-get_or h.kinds e.i 0

        kinds_more : take (e.j + 1) (set (set h.kinds e.i e.ki) e.j e.kj) ≡ take h.devices h.kinds ++ (e.kj ∷ [])
        kinds_more =
            ap (λ (l : List ℕ). take (e.j + 1) (set l e.j e.kj)) same_kind
            ∙ take_more h.kinds e.j e.kj (omega (arith, in_range.second))
            ∙ ap (λ (m : ℕ). take m h.kinds ++ (e.kj ∷ [])) next

        path_more :
            descending (q + 2) (set (set r.path q e.i) (q + 1) e.j)
            ≡ e.j ∷ cut_to e.i (descending h.code.path_count h.code.path)
        path_more =
            unfold descending in
            descending_store r.path q e.i e.j path_room
            ∙ ap (λ (l : List ℕ). e.j ∷ e.i ∷ descending q l) a.path
            ∙ ap (λ (v : ℕ). e.j ∷ v ∷ descending q h.code.path) (sym place.is)
            ∙ ap (λ (l : List ℕ). e.j ∷ l) (sym place.cut)

    pub steps_forward : Steps h e reading_grown
    steps_forward =
        record {
          is = is;
          records = a.records;
          begun =
              record {
                invariant = rw is (stepped_invariant h e s);
                devices_most = omega (arith, in_range.second);
                path_two = omega arith;
                back_device = tt;
              };
          count = a.count;
        }
      where
        is : as_reading reading_grown ≡ stepped (as_reading h) e
        is = go s.sound
          where
            go : Sound h → as_reading reading_grown ≡ stepped (as_reading h) e
            go (readings.not_begun n) = is_first n
            go (readings.begun b) = is_next b

-- what the match of kinds goes by
pub ruleset kinds_tests = (sound_begun, kinds_first, first_low, first_differs, forward_matches, backward_matches)
