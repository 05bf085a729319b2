-- Reading and writing a drawing record are inverse: a section has an accepted record for each crane, and an accepted record is the one
-- that its drawing and its crane are written as. Rests on Patterns, and on Rows of laws for the cables' three bytes. Assumes nothing.
use Rattle.std.specs.Prelude.{◌≡◌, true, eqb, replicate}
use Rattle.std.proofs.Math.Path.{refl, sym, ap, ap₂}
use Rattle.std.proofs.Common.{◌∙◌, arith, eqb-true, lt-ltb, length-append, length-take, take-append-drop, take_at, take-add, drop-cons, get_or-drop}
use mathlib.Core.List.{List, [], ◌∷◌, ◌++◌, map, append_assoc}
use Prim.Native.Nat.{ℕ, zero, suc, ◌+◌, ◌*◌, ◌-◌, ◌≤◌, ◌<◌}
use Rattle.std.proofs.Math.ListN.{length, get_or, take, drop, length-drop, length-replicate}
use Rattle.std.proofs.lemmas.List.{length-map}
use Rattle.std.proofs.Math.Seq.{drop_at, drop-drop}
use Rattle.laws.specs.Tests.{and_split, and_both}
use Rattle.laws.specs.Lists.{concat, snoc_new, nil_of_length}
use Rattle.laws.specs.Rows.{rows, Sized, rows_sized, rows_concat, concat_rows, concat_length}
use Rattle.graphs.specs.Drawing.{Cable, Drawing, devices, cable_in, cables_in, drawing_in, crane_in, cable_bytes, drawing_bytes, all_zero, unused_zero, drawing_refusal, byte_list}
use Rattle.graphs.specs.Cables.{Has, has_flip, has_first}
use Rattle.graphs.specs.Graph.{Section}
use Rattle.graphs.specs.Simple.{simple_to_test}
use Rattle.graphs.specs.Connected.{connected_to_test}
use Rattle.graphs.specs.Sections.{fit_to_test, section_fit}
use Rattle.graphs.specs.Patterns.{
  AcceptedParts,
  accepted_parts,
  refusal_zero,
  byte_list_append,
}

-- ZERO BYTES
pub zeros_from_test : (n : ℕ) (xs : List ℕ) → length xs ≡ n → all_zero xs ≡ true → xs ≡ replicate n 0
unfolding all_zero
zeros_from_test n [] e h = rw (← e)
zeros_from_test n (x ∷ xs) e h =
    let s = and_split (eqb x 0) (all_zero xs) h in
    rw (← e) (ap₂ {C = List ℕ} (λ y ys. y ∷ ys) (eqb-true x 0 s.0) (zeros_from_test (length xs) xs refl s.1))

pub zeros_to_test : (n : ℕ) → all_zero (replicate n 0) ≡ true
unfolding all_zero
zeros_to_test zero = refl
zeros_to_test (suc n) = zeros_to_test n

zeros_byte_list : (n : ℕ) → byte_list (replicate n 0) ≡ true
unfolding byte_list
zeros_byte_list zero = refl
zeros_byte_list (suc n) = zeros_byte_list n

-- CABLES, three bytes each: one end, other end, cable kind
three : Cable → List ℕ
three c = c.a ∷ c.b ∷ c.kind ∷ []

cable_bytes_concat : (cs : List Cable) → cable_bytes cs ≡ concat (map three cs)
unfolding cable_bytes concat three
cable_bytes_concat [] = refl
cable_bytes_concat (c ∷ cs) = ap {B = List ℕ} (λ bs. c.a ∷ c.b ∷ c.kind ∷ bs) (cable_bytes_concat cs)

three_sized : (cs : List Cable) → Sized 3 (map three cs)
unfolding Sized three
three_sized [] = tt
three_sized (c ∷ cs) = (refl, three_sized cs)

cables_of_three : (cs : List Cable) → map cable_in (map three cs) ≡ cs
unfolding cable_in three
cables_of_three [] = refl
cables_of_three (c ∷ cs) = ap {B = List Cable} (λ ds. c ∷ ds) (cables_of_three cs)

three_of_cables : (rs : List (List ℕ)) → Sized 3 rs → map three (map cable_in rs) ≡ rs
unfolding Sized cable_in three
three_of_cables [] s = refl
three_of_cables (r ∷ rs) s = ap₂ {C = List (List ℕ)} (λ t ts. t ∷ ts) (same r s.0) (three_of_cables rs s.1)
  where
    same : (xs : List ℕ) → length xs ≡ 3 → get_or xs 0 0 ∷ get_or xs 1 0 ∷ get_or xs 2 0 ∷ [] ≡ xs
    same [] e = absurd (omega arith)
    same (x ∷ []) e = absurd (omega arith)
    same (x ∷ y ∷ []) e = absurd (omega arith)
    same (x ∷ y ∷ z ∷ []) e = refl
    same (x ∷ y ∷ z ∷ w ∷ xs) e = absurd (omega arith)

pub cable_bytes_length : (cs : List Cable) → length (cable_bytes cs) ≡ 3 * length cs
cable_bytes_length cs = rw cable_bytes_concat (concat_length 3 (map three cs) (three_sized cs) ∙ ap (λ (n : ℕ). 3 * n) (length-map cs three))

-- written, then read, whatever follows
pub cables_in_bytes : (cs : List Cable) (ys : List ℕ) → cables_in (length cs) (cable_bytes cs ++ ys) ≡ cs
unfolding cables_in
cables_in_bytes cs ys =
    rw (cable_bytes_concat, ← length-map cs three, rows_concat 3 (map three cs) ys (three_sized cs)) (cables_of_three cs)

-- read, then written
pub cable_bytes_in : (n : ℕ) (bs : List ℕ) → 3 * n ≤ length bs → cable_bytes (cables_in n bs) ≡ take (3 * n) bs
unfolding cables_in
cable_bytes_in n bs h = rw (cable_bytes_concat, three_of_cables (rows 3 n bs) (rows_sized 3 n bs h)) (concat_rows 3 n bs)

pub cable_bytes_byte_list : (cs : List Cable) → ((u v k : ℕ) → Has u v k cs → u < 256) → ((u v k : ℕ) → Has u v k cs → k < 256)
    → byte_list (cable_bytes cs) ≡ true
unfolding cable_bytes byte_list
cable_bytes_byte_list [] ends kinds = refl
cable_bytes_byte_list (c ∷ cs) ends kinds =
    and_both (lt-ltb c.a 256 (ends c.a c.b c.kind (has_first c cs)))
    (and_both (lt-ltb c.b 256 (ends c.b c.a c.kind (has_flip (has_first c cs))))
    (and_both (lt-ltb c.kind 256 (kinds c.a c.b c.kind (has_first c cs)))
    (cable_bytes_byte_list cs (λ u v k h. ends u v k (Has.there h)) (λ u v k h. kinds u v k (Has.there h)))))

-- A DRAWING: n, m, ten kinds, twenty cables of three bytes, the crane; unused kind and cable bytes are zero
kind_part : Drawing → List ℕ
kind_part d = d.kinds ++ replicate (10 - devices d) 0

cable_part : Drawing → List ℕ
cable_part d = cable_bytes d.cables ++ replicate (60 - 3 * length d.cables) 0

drawing_bytes_parts : (k : ℕ) (d : Drawing) → drawing_bytes k d ≡ devices d ∷ length d.cables ∷ (kind_part d ++ (cable_part d ++ (k ∷ [])))
unfolding drawing_bytes kind_part cable_part
drawing_bytes_parts k d = simp append_assoc

module _ (k : ℕ) (d : Drawing) (few : devices d ≤ 10) (thin : length d.cables ≤ 20) where
  kind_part_length : length (kind_part d) ≡ 10
  unfolding kind_part
  kind_part_length = simp (length-append, length-replicate) (omega arith)

  cable_part_length : length (cable_part d) ≡ 60
  unfolding cable_part
  cable_part_length = simp (length-append, length-replicate, cable_bytes_length) (omega arith)

  pub drawing_bytes_length : length (drawing_bytes k d) ≡ 73
  drawing_bytes_length =
      rw (drawing_bytes_parts, length-append (kind_part d), length-append (cable_part d)) (omega (arith, kind_part_length, cable_part_length))

  -- what stands where
  cables_there : drop 12 (drawing_bytes k d) ≡ cable_part d ++ (k ∷ [])
  cables_there = rw drawing_bytes_parts (drop_at (kind_part d) (cable_part d ++ (k ∷ [])) 10 kind_part_length)

  unused_kinds : take (10 - devices d) (drop (2 + devices d) (drawing_bytes k d)) ≡ replicate (10 - devices d) 0
  unfolding kind_part
  unused_kinds =
      rw (← drop-drop (devices d) 2 (drawing_bytes k d), drawing_bytes_parts, append_assoc, drop_at d.kinds _ (devices d) refl)
      (take_at (replicate (10 - devices d) 0) (cable_part d ++ (k ∷ [])) (10 - devices d) (length-replicate (10 - devices d) 0))

  unused_cables :
      take (60 - 3 * length d.cables) (drop (12 + 3 * length d.cables) (drawing_bytes k d)) ≡ replicate (60 - 3 * length d.cables) 0
  unfolding cable_part
  unused_cables =
      rw (
        ← drop-drop (3 * length d.cables) 12 (drawing_bytes k d),
        cables_there,
        append_assoc,
        drop_at (cable_bytes d.cables) _ (3 * length d.cables) (cable_bytes_length d.cables),
      )
      (take_at (replicate (60 - 3 * length d.cables) 0) (k ∷ []) (60 - 3 * length d.cables)
      (length-replicate (60 - 3 * length d.cables) 0))

  -- WRITTEN, THEN READ
  pub drawing_in_bytes : drawing_in (drawing_bytes k d) ≡ d
  unfolding drawing_in
  drawing_in_bytes = ap₂ {C = Drawing} (λ ks cs. record { kinds = ks; cables = cs }) used_kinds used_cables
    where
      used_kinds : take (get_or (drawing_bytes k d) 0 0) (drop 2 (drawing_bytes k d)) ≡ d.kinds
      used_kinds = unfold kind_part in rw (drawing_bytes_parts, append_assoc) (take_at d.kinds _ (devices d) refl)

      used_cables : cables_in (get_or (drawing_bytes k d) 1 0) (drop 12 (drawing_bytes k d)) ≡ d.cables
      used_cables = unfold cable_part in rw (cables_there, drawing_bytes_parts, append_assoc) (cables_in_bytes d.cables _)

  pub crane_in_bytes : crane_in (drawing_bytes k d) ≡ k
  unfolding crane_in
  crane_in_bytes = sym (get_or-drop 12 (drawing_bytes k d) 60 0) ∙ rw cables_there (snoc_new 0 (cable_part d) k 60 (sym cable_part_length))

-- READ, THEN WRITTEN
module _ (bs : List ℕ) (a : AcceptedParts bs) where
  zero_bytes : (all_zero (take (10 - get_or bs 0 0) (drop (2 + get_or bs 0 0) bs)) ≡ true)
      × (all_zero (take (60 - 3 * get_or bs 1 0) (drop (12 + 3 * get_or bs 1 0) bs)) ≡ true)
  zero_bytes = unfold unused_zero in and_split _ _ a.unused

  kind_part_in : kind_part (drawing_in bs) ≡ take 10 (drop 2 bs)
  unfolding kind_part drawing_in
  kind_part_in = rw (a.device_count, ← zeros) (sym (take-add n (10 - n) (drop 2 bs)) ∙ ap (λ (k : ℕ). take k (drop 2 bs)) ten)
    where
      n : ℕ
      n = get_or bs 0 0

      ten : n + (10 - n) ≡ 10
      ten = omega (arith, a.devices_high)

      zeros : take (10 - n) (drop n (drop 2 bs)) ≡ replicate (10 - n) 0
      zeros = zeros_from_test (10 - n) _ (simp (length-take, length-drop) (omega (arith, a.size, a.devices_high))) (rw drop-drop zero_bytes.0)

  cable_part_in : cable_part (drawing_in bs) ≡ take 60 (drop 12 bs)
  unfolding cable_part drawing_in
  cable_part_in =
      rw (a.cable_count, cable_bytes_in m (drop 12 bs) enough, ← zeros)
      (sym (take-add (3 * m) (60 - 3 * m) (drop 12 bs)) ∙ ap (λ (k : ℕ). take k (drop 12 bs)) sixty)
    where
      m : ℕ
      m = get_or bs 1 0

      sixty : 3 * m + (60 - 3 * m) ≡ 60
      sixty = omega (arith, a.cables_high)

      enough : 3 * m ≤ length (drop 12 bs)
      enough = rw length-drop (omega (arith, a.size, a.cables_high))

      zeros : take (60 - 3 * m) (drop (3 * m) (drop 12 bs)) ≡ replicate (60 - 3 * m) 0
      zeros =
          zeros_from_test (60 - 3 * m) _ (simp (length-take, length-drop) (omega (arith, a.size, a.cables_high))) (rw drop-drop zero_bytes.1)

-- an accepted record is the one that its drawing and its crane are written as
pub drawing_bytes_in : (bs : List ℕ) → drawing_refusal bs ≡ 0 → drawing_bytes (crane_in bs) (drawing_in bs) ≡ bs
drawing_bytes_in bs e =
    let a = accepted_parts bs e in
    rw (drawing_bytes_parts, a.device_count, a.cable_count, kind_part_in bs a, cable_part_in bs a) (go bs a.size)
  where
    go : (xs : List ℕ) → length xs ≡ 73
        → get_or xs 0 0 ∷ get_or xs 1 0 ∷ (take 10 (drop 2 xs) ++ (take 60 (drop 12 xs) ++ (crane_in xs ∷ []))) ≡ xs
    go [] z = absurd (omega arith)
    go (x ∷ []) z = absurd (omega arith)
    go (x ∷ y ∷ xs) z = ap {B = List ℕ} (λ ys. x ∷ y ∷ ys) (ap (λ (ys : List ℕ). take 10 xs ++ ys) rest ∙ take-append-drop 10 xs)
      where
        last : drop 60 (drop 10 xs) ≡ crane_in (x ∷ y ∷ xs) ∷ []
        last = unfold crane_in in rw drop-drop (drop-cons xs 70 0 (omega arith) ∙ ap (λ (ys : List ℕ). get_or xs 70 0 ∷ ys) none)
          where
            none : drop 71 xs ≡ []
            none = nil_of_length (drop 71 xs) (simp length-drop (omega arith))

        rest : take 60 (drop 10 xs) ++ (crane_in (x ∷ y ∷ xs) ∷ []) ≡ drop 10 xs
        rest = ap (λ (ys : List ℕ). take 60 (drop 10 xs) ++ ys) (sym last) ∙ take-append-drop 60 (drop 10 xs)

-- EVERY SECTION HAS AN ACCEPTED RECORD, as a sheet of any crane
module _ (k : ℕ) (d : Drawing) (section : Section d) where
  pub drawing_bytes_accepted : drawing_refusal (drawing_bytes k d) ≡ 0
  drawing_bytes_accepted =
      refusal_zero (drawing_bytes k d)
      (record {
        size = drawing_bytes_length k d few thin;
        devices_low = rw n section.devices_low;
        devices_high = rw n few;
        fitting = rw (n, m) (fit_to_test (devices d) (length d.cables) (section_fit d section));
        cables_high = rw m thin;
        cables_good = rw (n, back) (simple_to_test d section.simple);
        unused = unused;
        is_connected = rw back (connected_to_test d section.simple.ends (omega (arith, section.devices_low)) section.connected);
        device_count = rw (n, back);
        cable_count = rw (m, back);
      })
    where
      few : devices d ≤ 10
      few = section.devices_high

      thin : length d.cables ≤ 20
      thin = section.cables_high

      -- its first two bytes
      n : get_or (drawing_bytes k d) 0 0 ≡ devices d
      n = rw drawing_bytes_parts

      m : get_or (drawing_bytes k d) 1 0 ≡ length d.cables
      m = rw drawing_bytes_parts

      back : drawing_in (drawing_bytes k d) ≡ d
      back = drawing_in_bytes k d few thin

      unused : unused_zero (drawing_bytes k d) ≡ true
      unused =
          unfold unused_zero in
          rw (n, m, unused_kinds k d few thin, unused_cables k d few thin)
          (and_both (zeros_to_test (10 - devices d)) (zeros_to_test (60 - 3 * length d.cables)))

  -- of bytes, if its crane and its cable kinds are bytes
  pub drawing_bytes_byte_list : k < 256 → ((u v c : ℕ) → Has u v c d.cables → c < 256) → byte_list (drawing_bytes k d) ≡ true
  drawing_bytes_byte_list low kinds = rw drawing_bytes_parts counted
    where
      kind_bytes : byte_list (kind_part d) ≡ true
      kind_bytes = unfold kind_part in byte_list_append d.kinds _ section.bytes (zeros_byte_list (10 - devices d))

      ends : (u v c : ℕ) → Has u v c d.cables → u < 256
      ends u v c g = omega (arith, section.devices_high, section.simple.ends u v c g)

      cables : byte_list (cable_part d) ≡ true
      cables =
          unfold cable_part in
          byte_list_append (cable_bytes d.cables) _ (cable_bytes_byte_list d.cables ends kinds) (zeros_byte_list (60 - 3 * length d.cables))

      crane : byte_list (k ∷ []) ≡ true
      crane = unfold byte_list in and_both (lt-ltb k 256 low) refl

      counted : byte_list (devices d ∷ length d.cables ∷ (kind_part d ++ (cable_part d ++ (k ∷ [])))) ≡ true
      counted =
          unfold byte_list in
          and_both (lt-ltb (devices d) 256 (omega (arith, section.devices_high)))
          (and_both (lt-ltb (length d.cables) 256 (omega (arith, section.cables_high)))
          (byte_list_append (kind_part d) _ kind_bytes (byte_list_append (cable_part d) (k ∷ []) cables crane)))
