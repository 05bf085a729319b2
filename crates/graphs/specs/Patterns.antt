-- The test `is_pattern` is the record `Pattern`, and an accepted drawing record reads as a section; lists of bytes.
-- Rests on Simple, Connected and Sections. Assumes nothing.
use Rattle.std.specs.Prelude.{◌≡◌, refl, true, ◌&&◌, List, [], ◌∷◌, ◌++◌, ℕ, zero, suc, ◌+◌, ◌≤◌, ◌<◌, ltb, leb, eqb, length, get_or, take, drop}
use Rattle.std.proofs.Math.Path.{sym}
use Rattle.std.proofs.Common.{◌∙◌, not-suc-le-zero, le_of_suc-le-suc, arith, ltb-true, leb-true, eqb-true, lt-ltb, le-leb, eq-eqb, take-append-drop, length-drop, length-take-le, get_or-take}
use Rattle.std.proofs.lemmas.Bool.{eqb-false}
use Rattle.std.proofs.lemmas.List.{length-map}
use Rattle.std.proofs.Math.Seq.{get_or-drop}
use Rattle.laws.specs.Lists.{get_d_default}
use Rattle.laws.specs.Tests.{and_split, and_both, passes, passes_last}
use Rattle.laws.specs.Rows.{rows, rows_length}
use Rattle.graphs.specs.Drawing.{Drawing, devices, kind, cable_in, cables_in, cables_fit, drawing_in, byte_list, is_pattern, cable_refusal, unused_zero, connected, drawing_refusal, accepted}
use Rattle.graphs.specs.Graph.{Section, Pattern}
use Rattle.graphs.specs.Simple.{simple_from_test, simple_to_test}
use Rattle.graphs.specs.Connected.{connected_from_test, connected_to_test}
use Rattle.graphs.specs.Sections.{fit_from_test, fit_most}

-- LISTS OF BYTES
pub byte_list_append : (xs ys : List ℕ) → byte_list xs ≡ true → byte_list ys ≡ true → byte_list (xs ++ ys) ≡ true
unfolding byte_list
byte_list_append [] ys p q = q
byte_list_append (x ∷ xs) ys p q = let s = and_split (ltb x 256) (byte_list xs) p in and_both s.0 (byte_list_append xs ys s.1 q)

pub byte_list_split : (xs ys : List ℕ) → byte_list (xs ++ ys) ≡ true → (byte_list xs ≡ true) × (byte_list ys ≡ true)
unfolding byte_list
byte_list_split [] ys p = (refl, p)
byte_list_split (x ∷ xs) ys p =
    let s = and_split (ltb x 256) (byte_list (xs ++ ys)) p in
    let r = byte_list_split xs ys s.1 in
    (and_both s.0 r.0, r.1)

pub byte_list_take : (n : ℕ) (xs : List ℕ) → byte_list xs ≡ true → byte_list (take n xs) ≡ true
byte_list_take n xs p = (byte_list_split (take n xs) (drop n xs) (rw take-append-drop p)).0

pub byte_list_drop : (n : ℕ) (xs : List ℕ) → byte_list xs ≡ true → byte_list (drop n xs) ≡ true
byte_list_drop n xs p = (byte_list_split (take n xs) (drop n xs) (rw take-append-drop p)).1

pub byte_list_at : (xs : List ℕ) (i d : ℕ) → byte_list xs ≡ true → i < length xs → get_or xs i d < 256
unfolding byte_list
byte_list_at [] i d p h = absurd (not-suc-le-zero h)
byte_list_at (x ∷ xs) zero d p h = ltb-true x 256 (and_split (ltb x 256) (byte_list xs) p).0
byte_list_at (x ∷ xs) (suc i) d p h = byte_list_at xs i d (and_split (ltb x 256) (byte_list xs) p).1 (le_of_suc-le-suc h)

pub byte_list_from : (xs : List ℕ) → ((i : ℕ) → i < length xs → get_or xs i 256 < 256) → byte_list xs ≡ true
unfolding byte_list
byte_list_from [] h = refl
byte_list_from (x ∷ xs) h = and_both (lt-ltb x 256 (h 0 (omega arith))) (byte_list_from xs (λ i l. h (suc i) (omega arith)))

-- A PATTERN: an accepted drawing that has a cable, whatever its device numbers and the order of its cables
pub pattern_from_test : (p : Drawing) → is_pattern p ≡ true → Pattern p
unfolding is_pattern
pattern_from_test p h =
    let n = devices p in
    let m = length p.cables in
    let r = cable_refusal n [] p.cables in
    let halves = and_split ((leb 2 n && leb n 10) && (leb 1 m && leb m 20)) (byte_list p.kinds && (eqb r 0 && connected p)) h in
    let counts = and_split (leb 2 n && leb n 10) (leb 1 m && leb m 20) halves.0 in
    let ns = and_split (leb 2 n) (leb n 10) counts.0 in
    let ms = and_split (leb 1 m) (leb m 20) counts.1 in
    let rest = and_split (byte_list p.kinds) (eqb r 0 && connected p) halves.1 in
    let graph = and_split (eqb r 0) (connected p) rest.1 in
    let low : 2 ≤ devices p = leb-true 2 n ns.0 in
    let simple = simple_from_test p (eqb-true r 0 graph.0) in
    record {
      devices_low = low;
      devices_high = leb-true n 10 ns.1;
      cables_low = leb-true 1 m ms.0;
      cables_high = leb-true m 20 ms.1;
      bytes = rest.0;
      simple = simple;
      connected = connected_from_test p simple.ends (omega arith) graph.1;
    }

pub pattern_to_test : (p : Drawing) → Pattern p → is_pattern p ≡ true
unfolding is_pattern
pattern_to_test p w =
    let n = devices p in
    let m = length p.cables in
    let ns = and_both (le-leb 2 n w.devices_low) (le-leb n 10 w.devices_high) in
    let ms = and_both (le-leb 1 m w.cables_low) (le-leb m 20 w.cables_high) in
    let simple = eq-eqb (cable_refusal n [] p.cables) 0 (simple_to_test p w.simple) in
    let joined = connected_to_test p w.simple.ends (omega (arith, w.devices_low)) w.connected in
    and_both (and_both ns ms) (and_both w.bytes (and_both simple joined))

-- AN ACCEPTED RECORD, part by part
pub record AcceptedParts (bs : List ℕ) : Type 0 where
  pub size : length bs ≡ 73
  pub devices_low : 1 ≤ get_or bs 0 0
  pub devices_high : get_or bs 0 0 ≤ 10
  pub fitting : cables_fit (get_or bs 0 0) (get_or bs 1 0) ≡ true
  pub cables_high : get_or bs 1 0 ≤ 20
  pub cables_good : cable_refusal (get_or bs 0 0) [] (drawing_in bs).cables ≡ 0
  pub unused : unused_zero bs ≡ true
  pub is_connected : connected (drawing_in bs) ≡ true
  pub device_count : devices (drawing_in bs) ≡ get_or bs 0 0
  pub cable_count : length (drawing_in bs).cables ≡ get_or bs 1 0

-- as many cables are read as the second byte says
pub cables_in_length : (m : ℕ) (bs : List ℕ) → length (cables_in m bs) ≡ m
unfolding cables_in
cables_in_length m bs = length-map (rows 3 m bs) cable_in ∙ rows_length 3 m bs

-- a record is accepted exactly if it has these parts
pub accepted_parts : (bs : List ℕ) → drawing_refusal bs ≡ 0 → AcceptedParts bs
unfolding drawing_refusal drawing_in
accepted_parts bs e =
    let n = get_or bs 0 0 in
    let m = get_or bs 1 0 in
    let d = drawing_in bs in
    let whole = passes (eqb (length bs) 73) 1 _ (λ x y. omega arith) e in
    let few = passes (leb 1 n && leb n 10) 2 _ (λ x y. omega arith) whole.1 in
    let thin = passes (cables_fit n m) 3 _ (λ x y. omega arith) few.1 in
    let r = cable_refusal n [] d.cables in
    let good = passes (eqb r 0) r _ (eqb-false r 0) thin.1 in
    let rest = passes (unused_zero bs) 7 _ (λ x y. omega arith) good.1 in
    let ns = and_split (leb 1 n) (leb n 10) few.0 in
    let size : length bs ≡ 73 = eqb-true (length bs) 73 whole.0 in
    let high : get_or bs 0 0 ≤ 10 = leb-true n 10 ns.1 in
    record {
      size = size;
      devices_low = leb-true 1 n ns.0;
      devices_high = high;
      fitting = thin.0;
      cables_high = fit_most (fit_from_test n m thin.0);
      cables_good = eqb-true r 0 good.0;
      unused = rest.0;
      is_connected = passes_last (connected d) 8 (λ x. omega arith) rest.1;
      device_count = length-take-le n (drop 2 bs) (rw length-drop (omega arith));
      cable_count = cables_in_length m (drop 12 bs);
    }

pub refusal_zero : (bs : List ℕ) → AcceptedParts bs → drawing_refusal bs ≡ 0
unfolding drawing_refusal
refusal_zero bs a =
    rw (
      eq-eqb (length bs) 73 a.size,
      le-leb 1 n a.devices_low,
      le-leb n 10 a.devices_high,
      a.fitting,
      a.cables_good,
      a.unused,
      a.is_connected,
    )
  where
    n : ℕ
    n = get_or bs 0 0

    m : ℕ
    m = get_or bs 1 0

-- THE KIND of a device is its byte
module _ (bs : List ℕ) (ok : drawing_refusal bs ≡ 0) (v : ℕ) (h : v < devices (drawing_in bs)) where
  pub kind_place : 2 + v < length bs
  kind_place = let a = accepted_parts bs ok in omega (arith, a.size, a.device_count, a.devices_high)

  pub kind_byte : get_or bs (2 + v) 0 ≡ kind (drawing_in bs) v
  unfolding drawing_in
  kind_byte =
      get_d_default bs (2 + v) 0 256 kind_place
      ∙ sym (get_or-take (get_or bs 0 0) (drop 2 bs) v 256 (omega (arith, (accepted_parts bs ok).device_count)) ∙ get_or-drop 2 bs v 256)

-- AN ACCEPTED RECORD whose device kinds are bytes is a section, and so are accepted bytes
pub kinds_section : (bs : List ℕ) → drawing_refusal bs ≡ 0 → byte_list (drawing_in bs).kinds ≡ true → Section (drawing_in bs)
kinds_section bs e kinds = go (accepted_parts bs e)
  where
    go : AcceptedParts bs → Section (drawing_in bs)
    go a =
        let s = simple_from_test (drawing_in bs) (rw a.device_count a.cables_good) in
        record {
          devices_low = omega (arith, a.device_count, a.devices_low);
          devices_high = omega (arith, a.device_count, a.devices_high);
          cables_high = omega (arith, a.cable_count, a.cables_high);
          bytes = kinds;
          simple = s;
          connected = connected_from_test (drawing_in bs) s.ends (omega (arith, a.device_count, a.devices_low)) a.is_connected;
        }

pub accepted_section : (bs : List ℕ) → accepted bs ≡ true → Section (drawing_in bs)
unfolding accepted
accepted_section bs h =
    let s = and_split (byte_list bs) (eqb (drawing_refusal bs) 0) h in
    kinds_section bs (eqb-true (drawing_refusal bs) 0 s.1) (kinds s.0)
  where
    kinds : byte_list bs ≡ true → byte_list (drawing_in bs).kinds ≡ true
    kinds p = unfold drawing_in in byte_list_take (get_or bs 0 0) (drop 2 bs) (byte_list_drop 2 bs p)
