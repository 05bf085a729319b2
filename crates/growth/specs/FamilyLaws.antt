-- The codes of a closed family: prefixes of listed codes are listed too, and where it can be decided what is wanted it can be decided what is listed.
-- Rests on the prefix theorem. Assumes nothing.
use Rattle.std.specs.Prelude.{◌≡◌, refl, Bool, true, false, List, [], ◌∷◌, ◌++◌, ◌⊎◌, ℕ, ◌<◌, eqb, length}
use Rattle.std.proofs.Common.{ap, subst, append_assoc, append-nil, inl, inr, arith, length-append, ne_eqb}
use Rattle.laws.specs.Tests.{Three, less, same, more, test, true_and_false}
use Rattle.laws.specs.Lists.{snoc}
use Rattle.graphs.specs.Drawing.{Drawing, is_pattern, byte_list}
use Rattle.graphs.specs.Map.{contains}
use Rattle.graphs.specs.Graph.{Pattern}
use Rattle.graphs.specs.Patterns.{pattern_from_test, pattern_to_test, byte_list_split}
use Rattle.graphs.specs.LeastMap.{contains_from_embedding, embedding_from_contains}
use Rattle.codes.specs.Code.{
  Rec,
  Reading,
  fresh,
  forward,
  stepped,
  read_rows,
  rows_refusal,
  rows_good,
  decoded,
  before_by,
  LeastBy,
}
use Rattle.codes.specs.CodeOrder.{LabelOrder, before_strict}
use Rattle.codes.specs.ReadRows.{good_from_test, good_to_test, rows_divided, rows_invariant, read_append}
use Rattle.codes.specs.Greedy.{Fits, fits_prefix}
use Rattle.codes.specs.FullCode.{coded_itself, coded_fits, least_unique}
use Rattle.codes.specs.LeastCode.{least_code_there, prefix_of_least_is_least}
use Rattle.codes.specs.Decoded.{decoded_pattern}
use Rattle.growth.specs.Family.{Listable, Closed, Decidable}

-- a drawing contains what accepted rows describe exactly if they fit it
pub fits_contained : (d : Drawing) (r : Rec) (rs : List Rec) → Fits d (r ∷ rs) → contains (decoded (r ∷ rs)) d ≡ true
unfolding decoded
fits_contained d r rs t = contains_from_embedding (decoded (r ∷ rs)) d t.numbering (rows_invariant r rs t.accepted).simple.ends t.embedding

pub contained_fits : (d : Drawing) (r : Rec) (rs : List Rec) → rows_refusal fresh (r ∷ rs) ≡ 0 → contains (decoded (r ∷ rs)) d ≡ true
    → Fits d (r ∷ rs)
unfolding decoded
contained_fits d r rs ok h =
    let m = embedding_from_contains (decoded (r ∷ rs)) d (rows_invariant r rs ok).simple.ends h in
    record { accepted = ok; numbering = m.0; embedding = m.1 }

-- WHETHER a code is the least of a pattern can be decided
pub decide_least :
    (labels : Rec → Rec → Bool) → LabelOrder labels → (d : Drawing) → Pattern d → (rs : List Rec) → LeastBy labels d rs ⊎ (LeastBy labels d rs → ⊥)
decide_least labels o d p rs = go ((before_strict labels o).tri l.0 rs)
  where
    l : (rs : List Rec) × LeastBy labels d rs
    l = least_code_there labels o d p

    only : LeastBy labels d rs → l.0 ≡ rs
    only m = least_unique labels o d l.0 rs l.1 m

    go :
        Three (before_by labels l.0 rs ≡ true) (l.0 ≡ rs) (before_by labels rs l.0 ≡ true)
        → LeastBy labels d rs ⊎ (LeastBy labels d rs → ⊥)
    go (less q) = inr (λ m. (before_strict labels o).irrefl rs (rw (only m) at q))
    go (same q) = inl (rw q at l.1)
    go (more q) = inr (λ m. (before_strict labels o).irrefl rs (rw (only m) at q))

-- KINDS of a prefix are bytes where the whole code's are
stepped_kinds : (x : Reading) (r : Rec) → 0 < length x.kinds → (k : List ℕ) × ((stepped x r).kinds ≡ x.kinds ++ k)
unfolding stepped
stepped_kinds x r n = go (ne_eqb (length x.kinds) 0 (λ e. omega arith)) (forward r) refl
  where
    go : eqb (length x.kinds) 0 ≡ false → (t : Bool) → forward r ≡ t → (k : List ℕ) × ((stepped x r).kinds ≡ x.kinds ++ k)
    go e true f = (r.kj ∷ [], rw (e, f))
    go e false f = ([], rw (e, f, append-nil))

shorter_kinds : (x : Reading) (rs : List Rec) → 0 < length x.kinds → byte_list (read_rows x rs).kinds ≡ true → byte_list x.kinds ≡ true
unfolding read_rows
shorter_kinds x [] n b = b
shorter_kinds x (r ∷ rs) n b =
    let g = stepped_kinds x r n in
    let h = shorter_kinds (stepped x r) rs (omega (arith, ap length g.1, length-append x.kinds g.0)) b in
    (byte_list_split x.kinds g.0 (rw g.1 at h)).0

-- PREFIXES of rows that are good, and what they describe
pub prefix_good : (r : Rec) (rs ss : List Rec) → rows_good (r ∷ rs ++ ss) ≡ true → rows_good (r ∷ rs) ≡ true
prefix_good r rs ss h =
    let g = good_from_test (r ∷ rs ++ ss) h in
    good_to_test (r ∷ rs)
    (record { one = omega arith; most = omega (arith, g.most, length-append rs ss); accepted = (rows_divided fresh (r ∷ rs) ss g.accepted).0 })

pub prefix_pattern : (r : Rec) (rs ss : List Rec) → rows_good (r ∷ rs ++ ss) ≡ true → is_pattern (decoded (r ∷ rs ++ ss)) ≡ true
    → is_pattern (decoded (r ∷ rs)) ≡ true
unfolding decoded
prefix_pattern r rs ss h p = pattern_to_test (decoded (r ∷ rs)) (decoded_pattern (r ∷ rs) g bytes)
  where
    g : rows_good (r ∷ rs) ≡ true
    g = prefix_good r rs ss h

    x : Reading
    x = read_rows fresh (r ∷ rs)

    bytes : byte_list x.kinds ≡ true
    bytes =
        shorter_kinds x ss (omega (arith, (rows_invariant r rs (good_from_test (r ∷ rs) g).accepted).two))
        (subst (λ (y : Reading). byte_list y.kinds ≡ true) (read_append fresh (r ∷ rs) ss) (pattern_from_test (decoded (r ∷ rs ++ ss)) p).bytes)

-- a prefix describes what the whole code's drawing contains
pub prefix_contained : (r : Rec) (rs ss : List Rec) → rows_good (r ∷ rs ++ ss) ≡ true → contains (decoded (r ∷ rs)) (decoded (r ∷ rs ++ ss)) ≡ true
prefix_contained r rs ss h =
    fits_contained (decoded (r ∷ rs ++ ss)) r rs
    (fits_prefix (decoded (r ∷ rs ++ ss)) (r ∷ rs) ss (coded_fits (coded_itself r (rs ++ ss) (good_from_test (r ∷ rs ++ ss) h).accepted)))

module _ (labels : Rec → Rec → Bool) (o : LabelOrder labels) (Wanted : Drawing → Type 0) where
  -- A PREFIX of what is listed is listed
  pub listable_prefix : Closed Wanted → (γ : List Rec) (e : Rec) (rest : List Rec) → Listable labels Wanted (γ ++ e ∷ rest)
      → Listable labels Wanted (snoc γ e)
  listable_prefix closed γ e rest f = go γ f
    where
      shorter : (r : Rec) (rs ss : List Rec) → Listable labels Wanted (r ∷ rs ++ ss) → Listable labels Wanted (r ∷ rs)
      shorter r rs ss f =
          let g = f.least.code.good in
          let p = prefix_pattern r rs ss g f.drawn in
          record {
            drawn = p;
            least = prefix_of_least_is_least labels o (decoded (r ∷ rs ++ ss))
                (pattern_from_test (decoded (r ∷ rs ++ ss)) f.drawn) r rs ss f.least;
            wanted = closed (decoded (r ∷ rs)) (decoded (r ∷ rs ++ ss)) (pattern_from_test (decoded (r ∷ rs)) p)
                (pattern_from_test (decoded (r ∷ rs ++ ss)) f.drawn) (prefix_contained r rs ss g) f.wanted;
          }

      go : (γ : List Rec) → Listable labels Wanted (γ ++ e ∷ rest) → Listable labels Wanted (snoc γ e)
      go [] f = shorter e [] rest f
      go (r ∷ rs) f = shorter r (snoc rs e) rest (rw append_assoc f)

  -- WHETHER rows are listed can be decided
  pub decide_listable : Decidable Wanted → (rs : List Rec) → Listable labels Wanted rs ⊎ (Listable labels Wanted rs → ⊥)
  decide_listable decide rs = by_pattern (test (is_pattern (decoded rs)))
    where
      by_wanted : is_pattern (decoded rs) ≡ true → LeastBy labels (decoded rs) rs → Wanted (decoded rs) ⊎ (Wanted (decoded rs) → ⊥)
          → Listable labels Wanted rs ⊎ (Listable labels Wanted rs → ⊥)
      by_wanted p m (inl q) = inl (record { drawn = p; least = m; wanted = q })
      by_wanted p m (inr q) = inr (λ f. q f.wanted)

      by_least : is_pattern (decoded rs) ≡ true → LeastBy labels (decoded rs) rs ⊎ (LeastBy labels (decoded rs) rs → ⊥)
          → Listable labels Wanted rs ⊎ (Listable labels Wanted rs → ⊥)
      by_least p (inl m) = by_wanted p m (decide (decoded rs))
      by_least p (inr m) = inr (λ f. m f.least)

      by_pattern : (is_pattern (decoded rs) ≡ true) ⊎ (is_pattern (decoded rs) ≡ false) → Listable labels Wanted rs ⊎ (Listable labels Wanted rs → ⊥)
      by_pattern (inl p) = by_least p (decide_least labels o (decoded rs) (pattern_from_test (decoded rs) p) rs)
      by_pattern (inr p) = inr (λ f. true_and_false f.drawn p)
