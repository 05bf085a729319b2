-- Drawings and their byte records, with refusals 1 to 8. A drawing is a labelled graph: a device is a vertex, a cable
-- an edge, a kind a label. Assumes nothing: these are definitions.
use Rattle.std.specs.Prelude.{Bool, true, false, ◌&&◌, ◌||◌, not, cond, List, [], ◌∷◌, ◌++◌, map, ℕ, zero, suc, ◌+◌, ◌*◌, ◌-◌, ltb, leb, eqb, length, get_or, take, drop, replicate}
use Rattle.laws.specs.Rows.{rows}

-- an edge between the vertices a and b, in either direction, with its label
pub record Cable : Type 0 where
  pub a : ℕ
  pub b : ℕ
  pub kind : ℕ

-- a labelled graph: the label of each vertex, and the edges in any order
pub record Drawing : Type 0 where
  pub kinds : List ℕ
  pub cables : List Cable

-- devices count from 0
abbrev pub devices : Drawing → ℕ
devices d = length d.kinds

-- 256 is no kind: what has no device has this one
abbrev pub kind : Drawing → (v : ℕ) → ℕ
kind d v = get_or d.kinds v 256

-- AS BYTES: n, m, ten kinds, twenty cables of three bytes (one end, other end, cable kind), the number of the crane
unfoldable pub cable_in : List ℕ → Cable
cable_in bs = record { a = get_or bs 0 0; b = get_or bs 1 0; kind = get_or bs 2 0 }

unfoldable pub cables_in : (n : ℕ) → List ℕ → List Cable
cables_in n bs = map cable_in (rows 3 n bs)

unfoldable pub drawing_in : List ℕ → Drawing
drawing_in bs = record { kinds = take (get_or bs 0 0) (drop 2 bs); cables = cables_in (get_or bs 1 0) (drop 12 bs) }

-- byte 72: the crane that the drawing is a sheet of. It is no part of the graph.
unfoldable pub crane_in : List ℕ → ℕ
crane_in bs = get_or bs 72 0

-- and back: unused kind and cable bytes are zero
unfoldable pub cable_bytes : List Cable → List ℕ
cable_bytes [] = []
cable_bytes (c ∷ cs) = c.a ∷ c.b ∷ c.kind ∷ cable_bytes cs

unfoldable pub drawing_bytes : (crane : ℕ) → Drawing → List ℕ
drawing_bytes k d =
    (devices d ∷ length d.cables ∷ []) ++ d.kinds ++ replicate (10 - devices d) 0 ++ cable_bytes d.cables
    ++ replicate (60 - 3 * length d.cables) 0
    ++ (k ∷ [])

-- CABLES have no direction
unfoldable pub joins : (a b : ℕ) → Cable → Bool
joins a b c = (eqb c.a a && eqb c.b b) || (eqb c.a b && eqb c.b a)

unfoldable pub joined_by : (a b : ℕ) → List Cable → Bool
joined_by a b [] = false
joined_by a b (c ∷ cs) = joins a b c || joined_by a b cs

-- each cable, rising: 4 an end not below n; 5 both ends equal; 6 pair joined by an earlier cable
unfoldable pub cable_refusal : (n : ℕ) → (earlier rest : List Cable) → ℕ
cable_refusal n bs [] = 0
cable_refusal n bs (c ∷ cs) =
    cond (leb n c.a || leb n c.b) 4
    (cond (eqb c.a c.b) 5 (cond (joined_by c.a c.b bs) 6 (cable_refusal n (bs ++ (c ∷ [])) cs)))

-- 7 unused byte not zero; the crane's byte is used, whatever it holds
unfoldable pub all_zero : List ℕ → Bool
all_zero [] = true
all_zero (b ∷ bs) = eqb b 0 && all_zero bs

unfoldable pub unused_zero : List ℕ → Bool
unused_zero bs =
    all_zero (take (10 - get_or bs 0 0) (drop (2 + get_or bs 0 0) bs)) && all_zero (take (60 - 3 * get_or bs 1 0) (drop (12 + 3 * get_or bs 1 0) bs))

-- CONNECTED: from device 0 cables lead to every other. Each round takes up the devices that a cable joins to one reached so far.
unfoldable pub member : ℕ → List ℕ → Bool
member v [] = false
member v (x ∷ xs) = eqb x v || member v xs

unfoldable pub with_ends : Cable → List ℕ → List ℕ
with_ends c vs =
    cond (member c.a vs && not (member c.b vs)) (c.b ∷ vs) (cond (member c.b vs && not (member c.a vs)) (c.a ∷ vs) vs)

unfoldable pub spread : List Cable → List ℕ → List ℕ
spread [] vs = vs
spread (c ∷ cs) vs = spread cs (with_ends c vs)

unfoldable pub reached : (rounds : ℕ) → List Cable → List ℕ → List ℕ
reached zero cs vs = vs
reached (suc n) cs vs = reached n cs (spread cs vs)

unfoldable pub connected : Drawing → Bool
connected d = eqb (length (reached (devices d) d.cables (0 ∷ []))) (devices d)

-- one device has no cable, more have 1 to 20
unfoldable pub cables_fit : (n m : ℕ) → Bool
cables_fit n m = cond (eqb n 1) (eqb m 0) (leb 1 m && leb m 20)

-- THE REFUSAL of a record: 1 to 8, or 0 where it is accepted
unfoldable pub drawing_refusal : List ℕ → ℕ
drawing_refusal bs =
    let n = get_or bs 0 0 in
    let m = get_or bs 1 0 in
    let d = drawing_in bs in
    cond (not (eqb (length bs) 73)) 1
    (cond (not (leb 1 n && leb n 10)) 2
    (cond (not (cables_fit n m)) 3
    (cond (not (eqb (cable_refusal n [] d.cables) 0)) (cable_refusal n [] d.cables)
    (cond (not (unused_zero bs)) 7 (cond (connected d) 0 8)))))

unfoldable pub byte_list : List ℕ → Bool
byte_list [] = true
byte_list (x ∷ xs) = ltb x 256 && byte_list xs

unfoldable pub accepted : List ℕ → Bool
accepted bs = byte_list bs && eqb (drawing_refusal bs) 0

-- A PATTERN: an accepted drawing that has a cable, whatever its device numbers and the order of its cables
unfoldable pub is_pattern : Drawing → Bool
is_pattern p =
    ((leb 2 (devices p) && leb (devices p) 10) && (leb 1 (length p.cables) && leb (length p.cables) 20))
    && (byte_list p.kinds && (eqb (cable_refusal (devices p) [] p.cables) 0 && connected p))
