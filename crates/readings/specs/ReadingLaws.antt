-- A reading that the program holds: what is a permitted step, and the reading after it. Rests on the rows of codes.
-- Assumes nothing.
use Rattle.std.specs.Prelude.{◌≡◌, refl, Bool, false, ◌&&◌, ◌||◌, List, ◌⊎◌, ℕ, zero, suc, ◌-◌, ◌≤◌, ◌<◌, length, get_or, take, Option, Some, None, IfSome}
use Rattle.std.proofs.Math.Path.{sym}
use Rattle.std.proofs.Common.{ap, ◌∙◌, arith, length-take-le}
use Rattle.std.proofs.Math.Bool.{true, not}
use Rattle.std.proofs.Math.Logic.{inl, inr}
use Rattle.std.proofs.Math.Dec.{ltb, leb, eqb}
use borrow.Author.Tests.{
  ltb-true,
  ltb-false,
  leb-true,
  eqb-true,
  eqb-false,
  not-true,
  lt-ltb,
  le-ltb,
  le-leb,
  eq-eqb,
  ne_eqb,
}
use Rattle.laws.specs.Tests.{and_split, or_cases, or_left, or_right, false_unless, true_and_false}
use Rattle.laws.specs.Rows.{rows}
use Rattle.graphs.specs.Drawing.{member}
use Rattle.graphs.specs.Cables.{mem_from_test, mem_to_test}
use Rattle.codes.specs.Code.{Rec, Reading, fresh, forward, end, second, forward_good, backward_good, step_good, recs_in}
use Rattle.codes.specs.Step.{Backward}
use Rattle.codes.specs.Reading.{Invariant}
use Rattle.codes.specs.ReadRows.{begun_from_test, begun_to_test}
use Rattle.codes.specs.BranchState.{descending}
use Rattle.records.specs.declared.code.Code.{Code}
use Rattle.records.specs.Codes.{HoldsNothing}
use Rattle.readings.specs.declared.reading.Reading as held
use Rattle.readings.specs.Readings as readings
use Rattle.readings.specs.Readings.{
  as_reading,
  back_number,
  NotBegun,
  Begun,
  Sound,
  PathCutPlace,
  PlaceSays,
  StepFrom,
  StepSays,
}
use Rattle.codes.specs.Descending.{descending_end, descending_second}
use Rattle.readings.specs.PathLaws.{falling_place, place_member}

-- NO RECORD READ
pub nothing_read : (c : Code) (ks : List ℕ) → HoldsNothing c → NotBegun (record { code = c; kinds = ks; devices = 0; back = None })
unfolding fresh recs_in rows descending
nothing_read c ks h = record { is = rw (h.records_none, h.path_none); no_device = refl; no_record = h.records_none }

-- ONE READ or none, by the number of devices
module _ (h : held.Reading) where
  pub devices_some : Begun h → 0 < h.devices
  devices_some b = go h.devices b.invariant.two
    where
      go : (m : ℕ) → 2 ≤ length (take m h.kinds) → 0 < m
      go zero l = absurd (omega arith)
      go (suc m) l = omega arith

  pub sound_fresh : Sound h → h.devices ≡ 0 → as_reading h ≡ fresh
  sound_fresh (readings.not_begun n) e = n.is
  sound_fresh (readings.begun b) e = absurd (omega (arith, devices_some b))

  pub sound_begun : Sound h → (h.devices ≡ 0 → ⊥) → Begun h
  sound_begun (readings.not_begun n) d = absurd (d n.no_device)
  sound_begun (readings.begun b) d = b

-- the kinds that count
module _ (h : held.Reading) (wide : length h.kinds ≡ 10) (b : Begun h) where
  pub devices_is : length (take h.devices h.kinds) ≡ h.devices
  devices_is = length-take-le h.devices h.kinds (omega (arith, b.devices_most))

-- TESTS OF A STEP after the first, as relations
module _ (x : Reading) (v : Invariant x) (e : Rec) where
  pub not_fresh : eqb (length x.kinds) 0 ≡ false
  not_fresh = ne_eqb (length x.kinds) 0 (omega (arith, v.two))

  step_backward : e.j ≤ e.i → step_good x e ≡ backward_good x e
  unfolding step_good forward
  step_backward h = rw (not_fresh, le-ltb e.i e.j h)

  step_forward : e.i < e.j → step_good x e ≡ forward_good x e
  unfolding step_good forward
  step_forward h = rw (not_fresh, lt-ltb e.i e.j h)

  -- backward
  pub backward_from_good : e.j ≤ e.i → step_good x e ≡ true → Backward x e.i e.j
  unfolding backward_good
  backward_from_good h g =
      let place = eqb e.i (end x.path) && (ltb e.j e.i && member e.j x.path) in
      let choice = not (eqb e.j (second x.path)) && (eqb x.back 10 || ltb x.back e.j) in
      let s = and_split place choice (sym (step_backward h) ∙ g) in
      let t = and_split (eqb e.i (end x.path)) (ltb e.j e.i && member e.j x.path) s.0 in
      let r = and_split (ltb e.j e.i) (member e.j x.path) t.1 in
      let z = and_split (not (eqb e.j (second x.path))) (eqb x.back 10 || ltb x.back e.j) s.1 in
      record {
        is_end = eqb-true e.i (end x.path) t.0;
        down = ltb-true e.j e.i r.0;
        on_path = mem_from_test e.j x.path r.1;
        not_parent = eqb-false e.j (second x.path) (not-true _ z.0);
        rising = rise (or_cases (eqb x.back 10) (ltb x.back e.j) z.1);
      }
    where
      rise : (eqb x.back 10 ≡ true) ⊎ (ltb x.back e.j ≡ true) → (x.back ≡ 10) ⊎ (x.back < e.j)
      rise (inl q) = inl (eqb-true x.back 10 q)
      rise (inr q) = inr (ltb-true x.back e.j q)

  pub backward_refused : e.j ≤ e.i → (Backward x e.i e.j → ⊥) → step_good x e ≡ false
  backward_refused h n = false_unless (step_good x e) (λ g. n (backward_from_good h g))

  pub backward_permitted : Backward x e.i e.j → step_good x e ≡ true
  unfolding backward_good
  backward_permitted o =
      step_backward (omega (arith, o.down))
      ∙ rw (
        eq-eqb e.i (end x.path) o.is_end,
        lt-ltb e.j e.i o.down,
        mem_to_test e.j x.path o.on_path,
        ne_eqb e.j (second x.path) o.not_parent,
      ) (rise o.rising)
    where
      rise : (x.back ≡ 10) ⊎ (x.back < e.j) → (eqb x.back 10 || ltb x.back e.j) ≡ true
      rise (inl z) = or_left (ltb x.back e.j) (eq-eqb x.back 10 z)
      rise (inr z) = or_right (eqb x.back 10) (lt-ltb x.back e.j z)

  -- forward
  pub record Forward : Type 0 where
    pub is_next : e.j ≡ length x.kinds
    pub most : e.j ≤ 9
    pub on_path : member e.i x.path ≡ true

  pub forward_from_good : e.i < e.j → step_good x e ≡ true → Forward
  unfolding forward_good
  forward_from_good h g =
      let s = and_split (eqb e.j (length x.kinds) && leb e.j 9) (member e.i x.path) (sym (step_forward h) ∙ g) in
      let t = and_split (eqb e.j (length x.kinds)) (leb e.j 9) s.0 in
      record { is_next = eqb-true e.j (length x.kinds) t.0; most = leb-true e.j 9 t.1; on_path = s.1 }

  pub forward_refused : e.i < e.j → (Forward → ⊥) → step_good x e ≡ false
  forward_refused h n = false_unless (step_good x e) (λ g. n (forward_from_good h g))

  pub forward_permitted : e.i < e.j → Forward → step_good x e ≡ true
  unfolding forward_good
  forward_permitted h f = step_forward h ∙ rw (eq-eqb e.j (length x.kinds) f.is_next, le-leb e.j 9 f.most, f.on_path)

  -- the devices of a permitted step were met before, but for the new one
  pub step_device : step_good x e ≡ true → e.i < length x.kinds
  step_device g = go (ltb e.i e.j) refl
    where
      go : (t : Bool) → ltb e.i e.j ≡ t → e.i < length x.kinds
      go true p = v.below e.i (mem_from_test e.i x.path (forward_from_good (ltb-true e.i e.j p) g).on_path)
      go false p = omega (arith, v.top, (backward_from_good (ltb-false e.i e.j p) g).is_end)

-- WHAT THE PROGRAM TESTS of the first record
module _ (h : held.Reading) (s : Sound h) (none : h.devices ≡ 0) (e : Rec) where
  pub first_permitted : e.i ≡ 0 → e.j ≡ 1 → StepFrom h e 0
  first_permitted p q =
      record { good = rw (sound_fresh h s none) (begun_to_test e p q).0; first = λ z. refl; place = λ d g. absurd (d none) }

  pub first_refused : (e.i ≡ 0 → e.j ≡ 1 → ⊥) → step_good (as_reading h) e ≡ false
  first_refused d = rw (sound_fresh h s none) (false_unless (step_good fresh e) (λ g. let p = begun_from_test e g in d p.0 p.1))

-- WHAT THE PROGRAM TESTS of a step after the first
module _ (h : held.Reading) (b : Begun h) where
  abbrev x : Reading
  x = as_reading h

  abbrev n : ℕ
  n = h.code.path_count

  abbrev path : List ℕ
  path = h.code.path

  end_is : end x.path ≡ get_or path (n - 1) 0
  end_is = descending_end n path (omega (arith, b.path_two))

  parent_is : second x.path ≡ get_or path (n - 1 - 1) 0
  parent_is = let e : n - 2 ≡ n - 1 - 1 = omega arith in descending_second n path b.path_two ∙ ap (λ (k : ℕ). get_or path k 0) e

  pub path_most : n ≤ 10
  path_most =
      let e : n ≡ suc (n - 1) = omega (arith, b.path_two) in
      let l = falling_place (n - 1) path (rw (← e) b.invariant.falling) in
      omega (arith, l, end_is, b.invariant.top, b.invariant.ten, b.path_two)

  -- backward: each test that refuses, and what passes them all
  module _ (e : Rec) where
    module _ (low : e.j ≤ e.i) where
      backward_no : (Backward x e.i e.j → ⊥) → step_good x e ≡ false
      backward_no = backward_refused x b.invariant e low

      pub end_refused : (e.i ≡ get_or path (n - 1) 0 → ⊥) → step_good x e ≡ false
      end_refused d = backward_no (λ o. d (o.is_end ∙ end_is))

      pub level_refused : e.i ≤ e.j → step_good x e ≡ false
      level_refused l = backward_no (λ o. omega (arith, o.down))

      pub parent_refused : e.j ≡ get_or path (n - 1 - 1) 0 → step_good x e ≡ false
      parent_refused p = backward_no (λ o. o.not_parent (p ∙ sym parent_is))

      pub back_refused : (j : ℕ) → h.back ≡ Some j → e.j ≤ j → step_good x e ≡ false
      back_refused j is l = backward_no (λ o. go (rw is at o.rising))
        where
          go : (j ≡ 10) ⊎ (j < e.j) → ⊥
          go (inl z) = (rw is at b.back_device) z
          go (inr z) = omega arith

      pub apart_refused : member e.j x.path ≡ false → step_good x e ≡ false
      apart_refused m = backward_no (λ o. true_and_false (mem_to_test e.j x.path o.on_path) m)

    pub backward_step_from :
        (q : ℕ) → e.i ≡ get_or path (n - 1) 0 → e.j < e.i → (e.j ≡ get_or path (n - 1 - 1) 0 → ⊥) → IfSome h.back (λ j. j < e.j)
        → PathCutPlace n path e.j q → StepFrom h e (n - 1)
    backward_step_from q p l d r m =
        record {
          good = backward_permitted x b.invariant e
              (record {
                is_end = p ∙ sym end_is;
                down = l;
                on_path = mem_from_test e.j x.path (place_member n path e.j q m);
                not_parent = λ z. d (z ∙ parent_is);
                rising = rise h.back r;
              });
          first = λ z. absurd (omega (arith, devices_some h b, z));
          place = λ z g. absurd (omega arith);
        }
      where
        rise : (k : Option ℕ) → IfSome k (λ j. j < e.j) → (back_number k ≡ 10) ⊎ (back_number k < e.j)
        rise None g = inl refl
        rise (Some j) g = inr g

    -- forward
    module _ (wide : length h.kinds ≡ 10) (up : e.i < e.j) where
      pub next_refused : (e.j ≡ h.devices → ⊥) → step_good x e ≡ false
      next_refused d = forward_refused x b.invariant e up (λ f. d (f.is_next ∙ devices_is h wide b))

      pub ten_refused : 10 ≤ e.j → step_good x e ≡ false
      ten_refused l = forward_refused x b.invariant e up (λ f. omega (arith, f.most))

      -- with the next device's number, the place of i decides
      pub forward_told : e.j ≡ h.devices → e.j < 10 → (s : Option ℕ) → PlaceSays n path e.i s → StepSays h e s
      unfolding PlaceSays StepSays
      forward_told d l None m = forward_refused x b.invariant e up (λ f. true_and_false f.on_path m)
      forward_told d l (Some q) p =
          record {
            good = forward_permitted x b.invariant e up
                (record { is_next = d ∙ sym (devices_is h wide b); most = omega arith; on_path = place_member n path e.i q p });
            first = λ z. absurd (omega arith);
            place = λ z g. p;
          }

-- what a step goes by: the first record, a backward one and a forward one
pub ruleset first_tests = (sound_begun, first_permitted, first_refused)

pub ruleset backward_tests = (path_most, end_refused, level_refused, parent_refused, back_refused, apart_refused, backward_step_from)

pub ruleset forward_tests = (path_most, next_refused, ten_refused, forward_told)
