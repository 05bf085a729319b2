-- The starts of a search: a cable one way round, then every cable both ways round. Rests on Started, and on the laws of a
-- search below a branch. Assumes nothing.
use Rattle.std.specs.Prelude.{◌≡◌, true, List, [], ◌∷◌, ◌⊎◌, ℕ, ◌<◌, length}
use Rattle.std.proofs.Math.Path.{refl}
use Rattle.std.proofs.Common.{sym, ap, subst, inl, inr, arith}
use Rattle.graphs.specs.Drawing.{Drawing, devices, drawing_in}
use Rattle.graphs.specs.Cables.{Has, has_flip}
use Rattle.graphs.specs.Graph.{Pattern}
use Rattle.codes.specs.Code.{Rec, kinds_before, rec_before, Least}
use Rattle.codes.specs.CodeOrder.{rec_eq, kinds_order}
use Rattle.codes.specs.FirstRecord.{first_record, some_cable}
use Rattle.codes.specs.Branch.{tight_first}
use Rattle.codes.specs.Searched.{Best, Chosen, begun, kept, lowered, chosen_best}
use Rattle.codes.specs.Started.{Meets, none_yet, lowers, ties, started_skip, started_more, started_least}
use Rattle.codes.specs.BranchState.{label_at, first_state}
use Rattle.codes.specs.LabelLaws.{Labelled, cable_labelled}
use Rattle.codes.specs.BranchSteps.{represents_first}
use Rattle.std.specs.declared.cmp.Ordering.TheVariants.{Greater}
use Rattle.branches.specs.NextRecords.{first_along, MakesFirst}
use Rattle.least_below.specs.Searches.{SearchFrom, SearchDone, Against, comes_after}
use Rattle.least_code.specs.Starting.{StartFrom, StartDone, passed, searched, Starts, no_start, some_start}

-- ONE START
module _ {bs table : List ℕ} {m u w k : ℕ} {best : List Rec} (s : StartFrom bs table m u w k best) where
  abbrev d : Drawing
  d = drawing_in bs

  abbrev p : Pattern (drawing_in bs)
  p = s.given.pattern

  abbrev first : Rec
  first = first_record (drawing_in bs) u w k

  -- the ends of the cable are devices
  start_ends : (u < devices (drawing_in bs)) × (w < devices (drawing_in bs))
  start_ends = (p.simple.ends u w k s.has, p.simple.ends w u k (has_flip s.has))

  pub start_low : (u < 10) × (w < 10)
  start_low = (omega (arith, start_ends, p.devices_high), omega (arith, start_ends, p.devices_high))

  its_label : Labelled (drawing_in bs) u w k (label_at table u w)
  its_label = cable_labelled d p.simple.ends table s.given.labels u w k s.has

  -- the first record is taken from its label
  pub makes_first : MakesFirst bs table u w
  makes_first =
      let z = its_label in
      record {
        accepted = s.given.accepted;
        device = start_ends.0;
        u_low = start_low.0;
        w_low = start_low.1;
        some = omega (arith, z.is);
        most = omega (arith, z.is, z.byte, s.given.labels.cable_byte u w k s.has);
      }

  pub first_is : first_along (drawing_in bs) table u w ≡ first_record (drawing_in bs) u w k
  unfolding first_record
  first_is = rec_eq _ _ refl refl refl (sym its_label.cable_is) (sym its_label.kind_is)

  -- the best is ahead
  pub start_passed : Against [] best first Greater → StartDone (drawing_in bs) u w k best best
  start_passed (comes_after c rest is z) = passed c rest is z refl

  module _ (after_first : List Rec) (chosen : Chosen kinds_before kinds_order (drawing_in bs) []
      (first_record (drawing_in bs) u w k) best after_first) where
    start_best : Best kinds_before kinds_order (drawing_in bs) (first_record (drawing_in bs) u w k ∷ []) after_first
    start_best = chosen_best kinds_before kinds_order d [] first best after_first s.so_far chosen

    -- all that begins with it
    pub start_search : SearchFrom bs table m (first_record (drawing_in bs) u w k ∷ []) (first_state u w) after_first
    start_search =
        record {
          given = s.given;
          few = omega (arith, s.given.cables, p.cables_low);
          represents = represents_first d p.simple p.devices_high u w k s.has;
          tight = tight_first d p u w k s.has;
          so_far = start_best;
        }

    pub start_searched :
        (after : List Rec) → SearchDone bs (first_record (drawing_in bs) u w k ∷ []) (first_state u w) after_first after
        → StartDone (drawing_in bs) u w k best after
    start_searched after z = searched after_first chosen z

-- SEVERAL STARTS
pub starts_best : (d : Drawing) (best : List Rec) (Seen : (u w k : ℕ) → Type 0) → Starts d best Seen → Best kinds_before kinds_order d [] best
starts_best d best Seen (no_start e n) = record { rest = best; is = refl; whole = inl e }
starts_best d best Seen (some_start t) = record { rest = best; is = refl; whole = inr (t.full, t.fits) }

-- a start leaves a best code
pub start_leaves :
    (d : Drawing) (u w k : ℕ) (best after : List Rec) → Best kinds_before kinds_order d [] best → StartDone d u w k best after
    → Best kinds_before kinds_order d [] after
start_leaves d u w k best after b (passed c rest is z a) = rw a b
start_leaves d u w k best after b (searched first c z) = record { rest = after; is = refl; whole = inr (z.full, z.fits) }

-- fewer are seen where more are
pub starts_fewer :
    (d : Drawing) (best : List Rec) (Seen Fewer : (u w k : ℕ) → Type 0) → ((u w k : ℕ) → Fewer u w k → Seen u w k) → Starts d best Seen
    → Starts d best Fewer
starts_fewer d best Seen Fewer all (no_start e n) = no_start e (λ u w k h. n u w k (all u w k h))
starts_fewer d best Seen Fewer all (some_start t) =
    some_start
    record {
      r = t.r;
      tail = t.tail;
      is = t.is;
      full = t.full;
      fits = t.fits;
      first = λ u w k h. t.first u w k (all u w k h);
      runs = λ u w k h. t.runs u w k (all u w k h);
    }

-- one more
module _ (d : Drawing) (best after : List Rec) (Seen More : (u w k : ℕ) → Type 0) (u w k : ℕ)
    (split : (a b l : ℕ) → More a b l → Seen a b l ⊎ ((a ≡ u) × (b ≡ w) × (l ≡ k))) where
  abbrev e : Rec
  e = first_record d u w k

  nothing_else : (c : Rec) (rest : List Rec) → best ≡ [] → best ≡ c ∷ rest → ⊥
  nothing_else c rest p q = omega (arith, ap length p, ap length q)

  -- how the first record meets the best
  meets : (first : List Rec) → Chosen kinds_before kinds_order d [] e best first → Starts d best Seen
      → Meets kinds_before kinds_order d best Seen e first
  meets first c (no_start z n) = none_yet n
  meets first (begun z) (some_start t) = absurd (nothing_else t.r t.tail z t.is)
  meets first (kept rest z) (some_start t) = let q : e ≡ t.r = cc (z, t.is) in ties t q refl
  meets first (lowered c rest z l) (some_start t) =
      let q : c ≡ t.r = cc (z, t.is) in
      lowers t (subst (λ (y : Rec). rec_before e y ≡ true) q l)

  pub starts_more : Starts d best Seen → StartDone d u w k best after → Starts d after More
  starts_more t (searched first c z) =
      some_start (started_more kinds_before kinds_order d best first after Seen More u w k (meets first c t) z split)
  starts_more (no_start q n) (passed c rest is z a) = absurd (nothing_else c rest q is)
  starts_more (some_start t) (passed c rest is z a) =
      let q : c ≡ t.r = cc (is, t.is) in
      rw a (some_start (started_skip kinds_before kinds_order d best Seen More u w k t (subst (λ (y : Rec). rec_before y e ≡ true) q z) split))

-- all of them
pub starts_least :
    (d : Drawing) → Pattern d → (best : List Rec) (Seen : (u w k : ℕ) → Type 0) → ((u w k : ℕ) → Has u w k d.cables → Seen u w k)
    → Starts d best Seen → Least d best
starts_least d p best Seen all (no_start e n) = let c = some_cable d.cables p.cables_low in absurd
    (n c.0 c.1 c.2 (all c.0 c.1 c.2 c.3))
starts_least d p best Seen all (some_start t) = started_least kinds_before kinds_order d p best Seen t all
