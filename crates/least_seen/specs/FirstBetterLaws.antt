-- The first record of a code before which something is seen below a branch: found here, on the way that follows a backward record, or on the ways
-- that follow a forward one, device by device. Rests on AcceptedSteps. Assumes nothing.
use Rattle.std.specs.Prelude.{◌≡◌, ℕ, suc, ◌+◌, ◌*◌, ◌≤◌, ◌<◌, List, get_or}
use Rattle.std.proofs.Common.{arith, not-suc-le-zero, below_more}
use Rattle.std.proofs.Math.Decide.{dec_lt}
use Rattle.laws.specs.Rows.{row}
use Rattle.laws.specs.FirstSeen.{place_none, place_found, place_some}
use Rattle.codes.specs.Code.{rec_in}
use Rattle.codes.specs.BranchState.{State, with_edge}
use Rattle.std.specs.declared.cmp.Ordering.TheVariants.{Less, Equal, Greater}
use Rattle.branches.specs.Branches.{chorded, device_placed}
use Rattle.least_seen.specs.Betters.{BetterBelow, FirstBetter}
use Rattle.least_seen.specs.Accepting.{Lower, ChordTold, FreeLabel, BeforeEdge, wanted_label, TestGoesOn}
use Rattle.least_seen.specs.TestFollowLaws.{nothing_behind, better_left, better_of_more}
use Rattle.least_seen.specs.AcceptedSteps.{
  TriedWay,
  told_before,
  told_after,
  chord_tells,
  chord_ends,
  edge_before,
  edge_lower,
  edge_tells,
  tried_way,
  edge_way_none,
}

-- WITH NO RECORD LEFT nothing is seen
pub first_ended : (bs : List ℕ) (m enough k : ℕ) (b : State) → m ≤ k → FirstBetter bs m enough k b m
first_ended bs m enough k b h = place_none (λ j. BetterBelow bs j k b) (nothing_behind bs m k b h)

-- a branch that goes on does so of fewer records too
pub goes_of : {t bs : List ℕ} {m n k : ℕ} {b : State} → TestGoesOn t bs m n k b → (j : ℕ) → k ≤ j → j ≤ m → TestGoesOn t bs j n k b
goes_of G j low within =
    record {
      counted =
          record {
            tabled = G.counted.tabled;
            records = omega (arith, G.counted.records);
            within = G.counted.within;
            most = G.counted.most;
          };
      low = low;
      follows = G.follows;
    }

-- of a device: what does not lead to something better of more records does not of fewer
pub tried_of_fewer : {t bs : List ℕ} {m k : ℕ} {b : State} {q w : ℕ} (j : ℕ) → j ≤ m → TriedWay t bs m k b q w → TriedWay t bs j k b q w
tried_of_fewer {t} {bs} {m} {k} {b} {q} {w} j h p =
    record { not_lower = p.not_lower; no_way = λ u l x. p.no_way u l (better_of_more bs j m (k + 1) (with_edge b q w) h x) }

-- THE DEVICES BELOW w TRIED for record k, from place q: of the first `bound` records none of them leads to anything, of one more something is seen
pub record WaysTried (t bs : List ℕ) (m k : ℕ) (b : State) (q bound w : ℕ) : Type 0 where
  pub left : k < bound
  pub within : bound ≤ m
  pub seen : bound < m → BetterBelow bs (suc bound) k b
  pub tried : (v : ℕ) → v < w → TriedWay t bs bound k b q v

pub ways_begun : {t bs : List ℕ} {m k : ℕ} {b : State} {q : ℕ} → k < m → WaysTried t bs m k b q m 0
ways_begun more = record { left = more; within = omega arith; seen = λ h. absurd (omega arith); tried = λ v h. absurd (not-suc-le-zero h) }

pub ways_skipped : {t bs : List ℕ} {m k : ℕ} {b : State} {q bound w : ℕ} → WaysTried t bs m k b q bound w → TriedWay t bs bound k b q w
    → WaysTried t bs m k b q bound (w + 1)
ways_skipped {t} {bs} {m} {k} {b} {q} {bound} {w} W x =
    record { left = W.left; within = W.within; seen = W.seen; tried = below_more (TriedWay t bs bound k b q) w W.tried x }

module _ {t bs : List ℕ} {m n k : ℕ} {b : State} (G : TestGoesOn t bs m n k b) (more : k < m) where
  -- seen before record k itself
  here : {enough : ℕ} → BetterBelow bs (suc k) k b → FirstBetter bs m enough k b k
  here x = place_found (λ j. BetterBelow bs j k b) more x (nothing_behind bs k k b (omega arith))

  -- of just the records up to k
  own : TestGoesOn t bs (suc k) n k b
  own = goes_of G (suc k) (omega arith) more

  -- BACKWARD
  module _ (back : get_or bs (5 * k) 0 < get_or bs (5 * k + 1) 0 → ⊥) (q : ℕ) (low : q < b.count) (is : get_or b.path q 0 ≡ get_or bs (5 * k + 1) 0)
      (byte : (rec_in (row 5 k bs)).kj < 256) {enough : ℕ} where
    pub first_chord_before : ChordTold t b.numbers b.path b.count b.low q (wanted_label bs k) Less → FirstBetter bs m enough k b k
    first_chord_before c = here (told_before own (omega arith) back q low is byte c)

    pub first_chord_after : ChordTold t b.numbers b.path b.count b.low q (wanted_label bs k) Greater → FirstBetter bs m enough k b m
    first_chord_after c = place_none (λ j. BetterBelow bs j k b) (told_after G more back q low is byte c)

    pub first_chord_on : {r : ℕ} → ChordTold t b.numbers b.path b.count b.low q (wanted_label bs k) Equal
        → FirstBetter bs m enough (k + 1) (chorded b (get_or bs (5 * k + 1) 0)) r → FirstBetter bs m enough k b r
    first_chord_on {r} c f =
        record {
          within = f.within;
          none = λ h x.
              let l = better_left bs r k b x in
              chord_ends (goes_of G r (omega arith) f.within) l back q low is byte c (f.none h) x;
          some = λ h.
              let l = better_left bs (suc r) (k + 1) (chorded b (get_or bs (5 * k + 1) 0)) (f.some h) in
              chord_tells (goes_of G (suc r) (omega arith) h) (omega arith) back q low is byte c (f.some h);
        }

  -- FORWARD
  module _ (ahead : get_or bs (5 * k) 0 < get_or bs (5 * k + 1) 0) (q : ℕ) (low : q < b.count) (is : get_or b.path q 0 ≡ get_or bs (5 * k) 0) where
    pub first_edge_before : {enough : ℕ} → BeforeEdge t b.numbers b.used b.path b.count b.low n q → FirstBetter bs m enough k b k
    first_edge_before c = here (edge_before own (omega arith) ahead q low is c)

    module _ (byte : (rec_in (row 5 k bs)).kj < 256) where
      pub first_edge_lower : {enough : ℕ} (w : ℕ) → w < n → {l : ℕ} → FreeLabel t b.used (device_placed b.numbers b.path q) w l
          → Lower l (wanted_label bs k) → FirstBetter bs m enough k b k
      first_edge_lower w h f x = here (edge_lower own (omega arith) ahead q low is byte w h f x)

      -- by way of w, something is seen before record r or nothing of the first r
      module _ {bound w : ℕ} (W : WaysTried t bs m k b q bound w) (h : w < n) {l : ℕ}
          (f : FreeLabel t b.used (device_placed b.numbers b.path q) w l)
          (wanted : l ≡ wanted_label bs k) {enough r : ℕ} (F : FirstBetter bs bound enough (k + 1) (with_edge b q w) r) where
        way_seen : r < m → BetterBelow bs (suc r) k b
        way_seen =
            place_some (λ j. BetterBelow bs j k b) m bound r W.seen F.within
            (λ g.
            let a = better_left bs (suc r) (k + 1) (with_edge b q w) (F.some g) in
            edge_tells (goes_of G (suc r) (omega arith) (omega (arith, W.within))) (omega arith) ahead q low is byte w h f wanted (F.some g))

        -- r is behind record k
        way_left : k < r
        way_left = go (dec_lt r bound)
          where
            go : Dec (r < bound) → k < r
            go (yes g) = let a = better_left bs (suc r) (k + 1) (with_edge b q w) (F.some g) in omega arith
            go (no g) = omega (arith, F.within, W.left)

        -- a place that will do
        pub ways_enough : r ≤ enough → FirstBetter bs m enough k b r
        ways_enough e = record { within = omega (arith, F.within, W.within); none = λ g. absurd (omega arith); some = way_seen }

        pub ways_followed : enough < r → WaysTried t bs m k b q r (w + 1)
        ways_followed e =
            record {
              left = way_left;
              within = omega (arith, F.within, W.within);
              seen = way_seen;
              tried =
                  below_more (TriedWay t bs r k b q) w (λ v g. tried_of_fewer r F.within (W.tried v g))
                  (tried_way (goes_of G r (omega (arith, way_left)) (omega (arith, F.within, W.within))) way_left ahead q low is byte w h f wanted
                  (F.none e));
            }

      -- ALL DEVICES TRIED
      pub ways_all : {bound w enough : ℕ} → WaysTried t bs m k b q bound w → n ≤ w
          → (BeforeEdge t b.numbers b.used b.path b.count b.low n q → ⊥) → FirstBetter bs m enough k b bound
      ways_all {bound} W h none =
          record {
            within = W.within;
            none = λ g.
                edge_way_none (goes_of G bound (omega (arith, W.left)) W.within) W.left ahead q low is byte none
                (λ v l. W.tried v (omega arith));
            some = W.seen;
          }
