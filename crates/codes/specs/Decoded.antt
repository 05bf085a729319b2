-- What good rows describe is a pattern that has them as a code. Rests on Reading, FullCode and Connected. Assumes nothing.
use Rattle.std.specs.Prelude.{◌≡◌, refl, Bool, true, false, cond, List, [], ◌∷◌, ℕ, zero, suc, ◌<◌, ltb, eqb, length}
use Rattle.std.proofs.Common.{not-suc-le-zero, arith}
use Rattle.std.proofs.Math.Decide.{ℕ_discrete}
use Rattle.laws.specs.Tests.{and_split, and_both}
use Rattle.graphs.specs.Drawing.{byte_list}
use Rattle.graphs.specs.Graph.{Walk, stay, onward, Pattern}
use Rattle.graphs.specs.Connected.{walks_from_zero}
use Rattle.graphs.specs.Patterns.{byte_list_append}
use Rattle.codes.specs.Code.{
  Rec,
  Reading,
  fresh,
  forward,
  stepped,
  read_rows,
  rows_good,
  rec_bytes,
  decoded,
  CodeOf,
}
use Rattle.codes.specs.Reading.{Invariant, Parent}
use Rattle.codes.specs.ReadRows.{rows_invariant, decoded_cables, Good, good_from_test}
use Rattle.codes.specs.FullCode.{decoded_simple, coded_itself, coded_to_test}

-- each device but 0 was reached from a lower one, so a walk leads to it from 0
read_walk : (x : Reading) → Invariant x → (n v : ℕ) → v < n → v < length x.kinds → Walk x.cables 0 v
read_walk x i zero v h l = absurd (not-suc-le-zero h)
read_walk x i (suc n) v h l = go (ℕ_discrete 0 v) (λ u. read_walk x i n u)
  where
    go : Dec (0 ≡ v) → ((u : ℕ) → u < n → u < length x.kinds → Walk x.cables 0 u) → Walk x.cables 0 v
    go (yes e) to = rw (← e) stay
    go (no e) to =
        let s : Parent x v = i.parent v (omega arith) l in
        onward (to s.u (omega (arith, s.lower)) (omega (arith, s.lower))) s.has

-- GOOD ROWS DESCRIBE A PATTERN, if the device kinds are bytes; cable kinds play no part
pub decoded_pattern : (rs : List Rec) → rows_good rs ≡ true → byte_list (decoded rs).kinds ≡ true → Pattern (decoded rs)
unfolding decoded
decoded_pattern [] e b = absurd (omega (arith, (good_from_test [] e).one))
decoded_pattern (r ∷ rs) e b =
    record {
      devices_low = v.two;
      devices_high = v.ten;
      cables_low = omega (arith, decoded_cables (r ∷ rs));
      cables_high = omega (arith, decoded_cables (r ∷ rs), g.most);
      bytes = b;
      simple = v.simple;
      connected = walks_from_zero (decoded (r ∷ rs)) (λ w h. read_walk x v (suc w) w (omega arith) h);
    }
  where
    g : Good (r ∷ rs)
    g = good_from_test (r ∷ rs) e

    x : Reading
    x = read_rows fresh (r ∷ rs)

    v : Invariant x
    v = rows_invariant r rs g.accepted

-- AND HAVE IT AS A CODE
pub decoded_code : (rs : List Rec) → rows_good rs ≡ true → CodeOf (decoded rs) rs
decoded_code [] e = absurd (omega (arith, (good_from_test [] e).one))
decoded_code (r ∷ rs) e =
    let g = good_from_test (r ∷ rs) e in
    coded_to_test (decoded (r ∷ rs)) (decoded_simple r rs g.accepted) (omega (arith, decoded_cables (r ∷ rs), g.most)) (r ∷ rs)
    (coded_itself r rs g.accepted)

-- KINDS of a code of bytes are bytes
unfoldable pub rows_bytes : List Rec → Bool
rows_bytes rs = byte_list (rec_bytes rs)

one_of_three :
    (p q : Bool) (a b c : Reading) → byte_list a.kinds ≡ true → byte_list b.kinds ≡ true → byte_list c.kinds ≡ true
    → byte_list (cond {A = Reading} p a (cond q b c)).kinds ≡ true
one_of_three true q a b c x y z = x
one_of_three false true a b c x y z = y
one_of_three false false a b c x y z = z

one_byte : (k : ℕ) → ltb k 256 ≡ true → byte_list (k ∷ []) ≡ true
unfolding byte_list
one_byte k h = and_both h refl

stepped_bytes :
    (x : Reading) (e : Rec) → byte_list x.kinds ≡ true → ltb e.ki 256 ≡ true → ltb e.kj 256 ≡ true → byte_list (stepped x e).kinds ≡ true
unfolding stepped
stepped_bytes x e g a b =
    one_of_three (eqb (length x.kinds) 0) (forward e) _ _ _ (byte_list_append (e.ki ∷ []) (e.kj ∷ []) (one_byte e.ki a) (one_byte e.kj b))
    (byte_list_append x.kinds (e.kj ∷ []) g (one_byte e.kj b)) g

read_bytes :
    (x : Reading) (rs : List Rec) → byte_list x.kinds ≡ true → byte_list (rec_bytes rs) ≡ true → byte_list (read_rows x rs).kinds ≡ true
unfolding read_rows rec_bytes byte_list
read_bytes x [] g b = g
read_bytes x (r ∷ rs) g b =
    let s = and_split (ltb r.i 256) (byte_list (r.j ∷ r.ki ∷ r.c ∷ r.kj ∷ rec_bytes rs)) b in
    let t = and_split (ltb r.j 256) (byte_list (r.ki ∷ r.c ∷ r.kj ∷ rec_bytes rs)) s.1 in
    let u = and_split (ltb r.ki 256) (byte_list (r.c ∷ r.kj ∷ rec_bytes rs)) t.1 in
    let v = and_split (ltb r.c 256) (byte_list (r.kj ∷ rec_bytes rs)) u.1 in
    let w = and_split (ltb r.kj 256) (byte_list (rec_bytes rs)) v.1 in
    read_bytes (stepped x r) rs (stepped_bytes x r g u.0 w.0) w.1

pub decoded_kinds_bytes : (rs : List Rec) → rows_bytes rs ≡ true → byte_list (decoded rs).kinds ≡ true
unfolding decoded rows_bytes
decoded_kinds_bytes rs b = read_bytes fresh rs (unfold byte_list fresh in refl) b
