-- A drawing's record of known counts: its unused bytes, and its refusal by the tests made. Assumes nothing.
use Rattle.std.specs.Prelude.{◌≡◌, true, false, ◌&&◌, List, [], ℕ, ◌+◌, ◌*◌, ◌-◌, ◌≤◌, ◌<◌, get_or, take, drop}
use Rattle.std.proofs.Common.{sym, ◌∙◌}
use Rattle.std.proofs.Math.Path.{ap}
use native.Mathlib.Omega.{arith}
use borrow.Author.Tests.{eq-eqb, ne_eqb, le-leb, lt-leb, leb-true}
use Rattle.std.proofs.Math.Dec.{leb}
use Rattle.std.proofs.Math.ListN.{length, length-drop}
use Rattle.std.proofs.Math.Seq.{length-take-le}
use Rattle.laws.specs.Tests.{and_split, passes}
use Rattle.graphs.specs.Drawing.{devices, cables_fit, drawing_in, cable_refusal, all_zero, unused_zero, connected, drawing_refusal}
use Rattle.graphs.specs.Sections.{fit_from_test, fit_most}
use Rattle.records.specs.declared.drawing.Drawing.{Drawing}
use Rattle.records.specs.Drawings.{counts_in, counts_refusal, rest_refusal, CountsWithin}
use Rattle.records.specs.Refusals.{first_of}
use Rattle.records.specs.RefusalLaws.{first_some, first_none, first_not, first_test}
use Rattle.records.specs.DrawingCables.{cables_before}

-- COUNTS within the limits, or not
module _ (d : Drawing) where
  pub devices_too_few : d.devices < 1 → counts_refusal d ≡ 2
  unfolding counts_refusal
  devices_too_few h = simp (lt-leb _ _ h)

  pub devices_too_many : 10 < d.devices → counts_refusal d ≡ 2
  unfolding counts_refusal
  devices_too_many h = let g : 1 ≤ d.devices = omega arith in simp (le-leb _ _ g, lt-leb _ _ h)

  module _ (low : 1 ≤ d.devices) (high : d.devices ≤ 10) where
    pub cables_unfit : cables_fit d.devices d.cables ≡ false → counts_refusal d ≡ 3
    unfolding counts_refusal
    cables_unfit h = simp (le-leb _ _ low, le-leb _ _ high, h)

    pub counts_fine : cables_fit d.devices d.cables ≡ true → counts_refusal d ≡ 0
    unfolding counts_refusal
    counts_fine h = simp (le-leb _ _ low, le-leb _ _ high, h)

  -- what counts that are not refused are known by
  fine_tests : counts_refusal d ≡ 0
      → ((leb 1 d.devices && leb d.devices 10) ≡ true) × (cables_fit d.devices d.cables ≡ true)
  unfolding counts_refusal
  fine_tests e =
      let n = passes (leb 1 d.devices && leb d.devices 10) 2 _ (λ q. omega arith) e in
      (n.0, (passes (cables_fit d.devices d.cables) 3 0 (λ q. omega arith) n.1).0)

  pub devices_few : counts_refusal d ≡ 0 → d.devices ≤ 10
  devices_few e = leb-true d.devices 10 (and_split (leb 1 d.devices) (leb d.devices 10) (fine_tests e).0).1

  pub counts_known : (bs : List ℕ) → length bs ≡ 73 → d ≡ counts_in bs → counts_refusal d ≡ 0 → CountsWithin bs d
  counts_known bs whole is e =
      record {
        whole = whole;
        counts = is;
        devices_most = devices_few e;
        cables_most = fit_most (fit_from_test d.devices d.cables (fine_tests e).1);
      }

module _ (bs : List ℕ) (d : Drawing) (known : CountsWithin bs d) where
  devices_is : get_or bs 0 0 ≡ d.devices
  devices_is = ap (λ (x : Drawing). x.devices) (sym known.counts)

  cables_is : get_or bs 1 0 ≡ d.cables
  cables_is = ap (λ (x : Drawing). x.cables) (sym known.counts)

  -- THE UNUSED BYTES, as parts of the record: they end before the cables and before the crane
  abbrev pub kinds_unused : List ℕ
  kinds_unused = take (12 - (2 + d.devices)) (drop (2 + d.devices) bs)

  abbrev pub cables_unused : List ℕ
  cables_unused = take (72 - (12 + 3 * d.cables)) (drop (12 + 3 * d.cables) bs)

  unused_parts : unused_zero bs ≡ (all_zero kinds_unused && all_zero cables_unused)
  unfolding unused_zero
  unused_parts =
      let e : 10 - d.devices ≡ 12 - (2 + d.devices) = omega arith in
      let f : 60 - 3 * d.cables ≡ 72 - (12 + 3 * d.cables) = omega arith in
      rw (devices_is, cables_is, e, f)

  pub unused_kinds : all_zero kinds_unused ≡ false → unused_zero bs ≡ false
  unused_kinds e = unused_parts ∙ simp e

  pub unused_cables : all_zero kinds_unused ≡ true → unused_zero bs ≡ all_zero cables_unused
  unused_cables e = unused_parts ∙ simp e

  -- THE DRAWING that the record gives
  pub drawing_devices : devices (drawing_in bs) ≡ d.devices
  unfolding drawing_in
  drawing_devices =
      ap (λ (n : ℕ). length (take n (drop 2 bs))) devices_is
      ∙ length-take-le d.devices (drop 2 bs) (rw length-drop (omega (arith, known.whole, known.devices_most)))

  pub drawing_cables : (drawing_in bs).cables ≡ cables_before d.cables bs
  unfolding drawing_in
  drawing_cables = ap (λ (m : ℕ). cables_before m bs) cables_is

-- THE REST, by its two tests
module _ (bs : List ℕ) where
  pub rest_unused : unused_zero bs ≡ false → rest_refusal bs ≡ 7
  unfolding rest_refusal
  rest_unused e = simp e

  pub rest_apart : unused_zero bs ≡ true → connected (drawing_in bs) ≡ false → rest_refusal bs ≡ 8
  unfolding rest_refusal
  rest_apart e f = simp (e, f)

  pub rest_fine : unused_zero bs ≡ true → connected (drawing_in bs) ≡ true → rest_refusal bs ≡ 0
  unfolding rest_refusal
  rest_fine e f = simp (e, f)

-- PLACE BY PLACE
module _ (bs : List ℕ) where
  pub size_refused : (length bs ≡ 73 → ⊥) → drawing_refusal bs ≡ 1
  unfolding drawing_refusal
  size_refused h = simp (ne_eqb _ _ h)

module _ (bs : List ℕ) (d : Drawing) (whole : length bs ≡ 73) (is : d ≡ counts_in bs) where
  abbrev of_cables : ℕ
  of_cables = cable_refusal d.devices [] (cables_before d.cables bs)

  place_by_place : drawing_refusal bs ≡ first_of (counts_refusal d) (first_of of_cables (rest_refusal bs))
  unfolding drawing_refusal counts_refusal rest_refusal drawing_in
  place_by_place =
      rw is (simp (eq-eqb _ _ whole) (rw (first_not, ← first_test, ← first_test, first_none 0)))

  pub counts_refused : 0 < counts_refusal d → drawing_refusal bs ≡ counts_refusal d
  counts_refused h = place_by_place ∙ first_some _ _ h

  pub cables_refused : counts_refusal d ≡ 0 → 0 < of_cables → drawing_refusal bs ≡ of_cables
  cables_refused e h = place_by_place ∙ first_none _ _ e ∙ first_some _ _ h

  pub rest_refused : counts_refusal d ≡ 0 → of_cables ≡ 0 → drawing_refusal bs ≡ rest_refusal bs
  rest_refused e f = place_by_place ∙ first_none _ _ e ∙ first_none _ _ f
