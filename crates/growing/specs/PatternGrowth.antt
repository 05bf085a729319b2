-- Growing a pattern: that it may be taken up, and what is listed when it is passed over, cannot stand there, is as large as the
-- limit, or its next cables were walked. An instance of ListingLaws. Assumes nothing.
use Rattle.std.specs.Prelude.{◌≡◌, refl, Bool, true, false, cond, eqb, List, [], ◌∷◌, map, ℕ, ◌+◌, ◌*◌, ◌≤◌, ◌<◌, length, Option, Some, None}
use Rattle.std.proofs.Common.{sym, ◌∙◌, subst, eqb-true}
use Rattle.std.proofs.Math.Path.{ap}
use native.Mathlib.Omega.{arith}
use Rattle.std.proofs.Math.ListN.{length-map}
use Rattle.laws.specs.Lists.{snoc}
use Rattle.graphs.specs.Drawing.{Drawing}
use Rattle.graphs.specs.Map.{contains}
use Rattle.graphs.specs.Patterns.{pattern_from_test}
use Rattle.graphs.specs.Survey.{containing, support, example}
use Rattle.codes.specs.Code.{Rec, recs_in, decoded, kinds_before, Least}
use Rattle.codes.specs.CodeBytes.{recs_in_length}
use Rattle.codes.specs.CodeOrder.{kinds_order}
use Rattle.codes.specs.LeastCode.{least_greedy}
use Rattle.growth.specs.Sizes.{entry_size}
use Rattle.growth.specs.Catalogue.{Figures, entry, entry_bytes, OftenIn, figures_of}
use Rattle.growth.specs.Family.{Listable, entry_for}
use Rattle.growth.specs.Growth.{Listed, ListedBy}
use Rattle.growth.specs.Frequent.{Frequent, FrequentIn, often_family}
use Rattle.growth.specs.Places.{place_of, cell_set, cell_count, cell_figures}
use Rattle.growth.specs.CellLaws.{crane_cell_set, count_true_bound}
use Rattle.growth.specs.CellFigures.{crane_cell_figures}
use Rattle.graphs.specs.CraneCounts.{crane_count_bound, crane_count_some}
use Rattle.growth.specs.CountingExtensions.{AllSections, Counting}
use Rattle.codes.specs.ReadRows.{good_from_test}
use Rattle.growth.specs.Floors.{FloorsOf, Above, GrownAbove}
use Rattle.growth.specs.ListedBy.{ChosenPlaces, place_in, chosen_places, chosen_listed}
use Rattle.growth.specs.Page.{NotThere}
use Rattle.growth.specs.Walking.{Gives}
use Rattle.growth.specs.Listings.{Lists}
use Rattle.growth.specs.PageLaws.{lists_next}
use Rattle.growth.specs.ListingLaws.{gives_nothing, gives_stopped, gives_stopped_below, gives_listed, gives_leaf}
use Rattle.entries.specs.ListOutcomes.{Outcome}
use Rattle.entries.specs.WrittenLaws.{outcome_as}
use Rattle.growing.specs.declared.grow.Settings.{Settings}
use Rattle.taking.specs.declared.take.Taken.{Taken}
use Rattle.taking.specs.declared.take.Taken.TheVariants as answers
use Rattle.taking.specs.declared.take.TakenOn.{TakenOn}
use Rattle.taking.specs.declared.take.TakenOn.TheVariants as steps
use Rattle.walks.specs.LabelMarks.{drawings_of, cranes_of}
use Rattle.laws.specs.PutRecords.{put_record}
use Rattle.laws.specs.PutRecordLaws.{put_length}
use Rattle.growth.specs.EntryLaws.{entry_bytes_length}
use Rattle.walks.specs.FloorLaws.{least_above}
use Rattle.walks.specs.PreparedLaws.{drawings_counted, prepared_few, prepared_sections}
use Rattle.walks.specs.Counts.{CanCount}
use Rattle.laws.specs.Parts.{part}
use Rattle.walks.specs.Choices.{ListKept}
use Rattle.choosing.specs.NextChosen.{RoomToChoose, CandidatesChosen}
use Rattle.extending.specs.HeldCode.{CodeHeld}
use Rattle.taking.specs.Taking.{CanTakeCandidate, EntryPut, CandidateTaken, taken_on, IsTakenOn, EntryGoesOn}
use Rattle.growing.specs.GrowthOutcomes.{
  CanGrowPattern,
  PatternGrown,
  Fit,
  candidates_in,
  CanWalkCandidates,
  CandidatesWalked,
}

-- WHAT IS COUNTED after a code of some records is what extends it above some floors
pub fit_grown :
    {place : Rec → ℕ} {ds : List Drawing} {i : ℕ} {sets : ℕ → List Bool} (k : ℕ) (floors : List ℕ) (γ : List Rec) → 1 ≤ length γ
    → Counting place (GrownAbove γ floors) ds i sets → Counting place (Fit k floors γ) ds i sets
fit_grown k floors [] h c = absurd (omega arith)
fit_grown k floors (r ∷ rs) h c = c

-- what is listed is above the floors of the code
listed_above :
    {Wanted : Drawing → Type 0} (γ : List Rec) (floors : List ℕ) → FloorsOf γ floors → (e : Rec) → Listable kinds_before Wanted (snoc γ e)
    → Above floors e
listed_above γ floors laid e f =
    least_above γ e floors laid (good_from_test (snoc γ e) f.least.code.good).accepted (pattern_from_test (decoded (snoc γ e)) f.drawn)
    f.least

-- so the candidates hold all that goes on
pub candidates_listed :
    {ds : List Drawing} {rank alphabet : List ℕ} {n : ℕ} {sets : ℕ → List Bool} {cr : List ℕ} {s : ℕ} (qs : List ℕ) → AllSections ds
    → Rattle.growth.specs.Places.Ranks ds rank alphabet n → (k : ℕ) (floors : List ℕ) (γ : List Rec) → 1 ≤ length γ → length γ ≤ 7
    → FloorsOf γ floors → Counting (place_of rank n) (Fit k floors γ) ds (length ds) sets → 1 ≤ s → ChosenPlaces cr sets s n (map place_in qs)
    → (l : ℕ) (cs : List (List Rec))
    → ListedBy kinds_before kinds_order (Frequent kinds_before cr ds s) l γ (candidates_in k γ alphabet n qs) cs
    → Listed kinds_before kinds_order (Frequent kinds_before cr ds s) l γ cs
candidates_listed qs sections o k floors [] some few laid c one h l cs t = absurd (omega arith)
candidates_listed qs sections o k floors (r ∷ rs) some few laid c one h l cs t =
    chosen_listed sections o r rs few floors c (listed_above (r ∷ rs) floors laid) one h l cs t

module _ {survey labels rank alphabet : List ℕ} {g : Settings} {γ : List Rec} {cell : ℕ} {cells seen list : List ℕ} {base : ℕ} {out : List ℕ}
    {count : ℕ} (a : CanGrowPattern survey labels rank alphabet g γ cell cells seen list base out count) where
  abbrev ds : List Drawing
  ds = drawings_of survey

  few : length (drawings_of survey) ≤ 32
  few = omega (arith, drawings_counted survey, prepared_few a.set_up.prepared)

  containing_few : length (containing (decoded γ) (drawings_of survey)) ≤ 32
  unfolding containing
  containing_few = omega (arith, length-map (drawings_of survey) (contains (decoded γ)), few)

  -- its cell has its support, and its example: some drawing contains it
  counted : cell_figures cell ≡ figures_of survey (decoded γ)
  unfolding support example
  counted =
      let some = crane_count_some (cranes_of survey) (containing (decoded γ) ds) (omega (arith, a.candidate.often, a.set_up.one)) in
      ap cell_figures a.candidate.cell_is
      ∙ crane_cell_figures (containing (decoded γ) ds) containing_few some.0 some.2 (cranes_of survey)

  support_few : cell_count cell ≤ 32
  unfolding support
  support_few =
      omega (
        arith,
        ap (λ (f : Figures). f.support) counted,
        crane_count_bound (cranes_of survey) (containing (decoded γ) ds),
        count_true_bound (containing (decoded γ) ds),
        containing_few,
      )

  frequent : Least (decoded γ) γ → FrequentIn kinds_before survey g.threshold γ
  frequent l = record { drawn = a.candidate.drawn; least = l; wanted = a.candidate.often }

  same_list : ListKept base list list
  same_list = record { size = a.at_hand.list_size; below = λ k l. refl }

  -- PASSED OVER
  pub grow_passed : (Least (decoded γ) γ → ⊥) → (z : List ℕ) → z ≡ out → PatternGrown survey g
      γ cells seen list base list out count (Some count) z
  grow_passed bad z e =
      record {
        blank = a.at_hand.blank;
        kept = same_list;
        size = ap length e;
        room = omega (arith, a.out_room, ap length e);
        told = λ cs old t.
            gives_nothing (OftenIn survey g.threshold) (figures_of survey) g.limit (λ f. bad f.least)
            (omega (arith, a.out_room, ap length e))
            (subst (λ (y : List ℕ). Lists (figures_of survey) cs old y count) (sym e) t);
      }

  -- STOPPED
  pub grow_stopped :
      Least (decoded γ) γ → NotThere g.checking (entry_bytes (entry (cell_figures cell) γ)) count out → (z : List ℕ) → z ≡ out
      → PatternGrown survey g γ cells seen list base list out count None z
  grow_stopped l s z e =
      record {
        blank = a.at_hand.blank;
        kept = same_list;
        size = ap length e;
        room = omega arith;
        told = λ cs old t.
            gives_stopped (OftenIn survey g.threshold) (figures_of survey) g.limit (frequent l) a.most
            (often_family kinds_before kinds_order (cranes_of survey) (drawings_of survey) g.threshold a.set_up.one)
            (omega (arith, a.most, a.set_up.small)) {checking = g.checking}
            (subst (λ (y : List ℕ). Lists (figures_of survey) cs old y count) (sym e) t)
            (subst (NotThere g.checking (entry_bytes (entry_for (figures_of survey) γ)) count) (sym e)
            (subst (λ (k : Figures). NotThere g.checking (entry_bytes (entry k γ)) count out) counted s));
      }

  -- LISTED
  module _ {mid : List ℕ} (p : EntryPut γ cell count out mid) where
    own : mid ≡ put_record entry_size count (entry_bytes (entry_for (figures_of survey) γ)) out
    own = p.is ∙ ap (λ (k : Figures). put_record entry_size count (entry_bytes (entry k γ)) out) counted

    mid_size : length mid ≡ length out
    mid_size =
        ap length own
        ∙ put_length entry_size count (entry_bytes (entry_for (figures_of survey) γ)) out
        (entry_bytes_length (entry_for (figures_of survey) γ) (omega (arith, a.most, a.set_up.small))) p.room

    listed : (cs : List (List Rec)) (old : List ℕ) → Lists (figures_of survey) cs old out count
        → Lists (figures_of survey) (snoc cs γ) old mid (count + 1)
    listed cs old t = lists_next (figures_of survey) cs γ (omega (arith, a.most, a.set_up.small)) old out mid count t own

    mid_room : entry_size * (count + 1) ≤ length mid
    mid_room = omega (arith, mid_size, p.room)

    -- AS LARGE AS THE LIMIT
    pub grow_leaf : length γ ≡ g.limit → PatternGrown survey g γ cells seen list base list out count (Some (count + 1)) mid
    grow_leaf e =
        record {
          blank = a.at_hand.blank;
          kept = same_list;
          size = mid_size;
          room = mid_room;
          told = λ cs old t.
              gives_leaf (OftenIn survey g.threshold) (figures_of survey) g.limit (frequent p.least) a.most (omega arith) mid_room
              (listed cs old t);
        }

  -- SMALLER: its next cables are chosen and walked
  module _ {mid : List ℕ} {more : ℕ} (o : EntryGoesOn γ cell g.limit count out more mid) where
    less : length γ < g.limit
    less = omega (arith, a.most, o.smaller)

    pub grow_room : RoomToChoose g.threshold list base
    grow_room =
        record {
          one = a.set_up.one;
          list_size = a.at_hand.list_size;
          room = omega (arith, a.at_hand.room, less, a.set_up.small);
        }

    module _ {cells₂ seen₂ list₂ : List ℕ} {top : ℕ}
        (c : CandidatesChosen (cranes_of survey) (drawings_of survey) γ rank g.labels g.threshold cells₂ seen₂ list base list₂ top) where
      sets_few : (p : ℕ) → length (c.sets p) ≤ 32
      sets_few p = omega (arith, c.counting.size p, few)

      pub grow_walks : CanWalkCandidates survey labels rank alphabet g γ 0 cells₂ seen₂ list₂ base top mid more
      grow_walks =
          record {
            set_up = a.set_up;
            accepted = a.candidate.accepted;
            more = less;
            greedy =
                least_greedy kinds_before kinds_order (decoded γ) (pattern_from_test (decoded γ) a.candidate.drawn) γ o.put.least;
            sets = c.sets;
            floors = c.floors;
            counting = fit_grown 0 c.floors γ a.some c.counting;
            chosen = c.chosen;
            low = c.low;
            at_hand = record { blank = c.blank; list_size = c.kept.size; room = omega (arith, c.high, a.at_hand.room) };
            out_room = omega (arith, mid_room o.put, o.one_more);
          }

      pub grow_went :
          {cells₃ seen₃ list₃ z : List ℕ} {r : Option ℕ} → CandidatesWalked survey alphabet g 0
          γ cells₃ seen₃ list₂ base top list₃ mid more r z
          → PatternGrown survey g γ cells₃ seen₃ list base list₃ out count r z
      grow_went {z = z} {r = r} w =
          record {
            blank = w.blank;
            kept = record { size = w.kept.size; below = λ k l. w.kept.below k (omega (arith, c.low)) ∙ c.kept.below k l };
            size = w.size ∙ mid_size o.put;
            room = w.room;
            told = λ cs old u.
                go cs old r (w.told (snoc cs γ) old
                (subst (λ (k : ℕ). Lists (figures_of survey) (snoc cs γ) old mid k) (sym o.one_more) (listed o.put cs old u)));
          }
        where
          all : (more : List (List Rec))
              → ListedBy kinds_before kinds_order (FrequentIn kinds_before survey g.threshold) g.limit γ
              (candidates_in 0 γ alphabet g.labels (part base top list₂)) more
              → Listed kinds_before kinds_order (FrequentIn kinds_before survey g.threshold) g.limit γ more
          all more =
              candidates_listed (part base top list₂) (prepared_sections a.set_up.prepared) a.set_up.prepared.ranks 0
              c.floors γ a.some (omega (arith, less, a.set_up.small)) c.laid
              (fit_grown 0 c.floors γ a.some c.counting) a.set_up.one
              (chosen_places (cranes_of survey) c.sets g.threshold g.labels (part base top list₂) sets_few c.chosen) g.limit more

          own_too : (cs : List (List Rec)) (old : List ℕ) (r : Option ℕ)
              → Outcome g.checking (figures_of survey)
              (Listed kinds_before kinds_order (FrequentIn kinds_before survey g.threshold) g.limit γ) (snoc cs γ) old z r
              → Outcome g.checking (figures_of survey) (Gives kinds_before kinds_order (OftenIn survey g.threshold) g.limit γ) cs old z r
          own_too cs old (Some k) m =
              gives_listed (OftenIn survey g.threshold) (figures_of survey) g.limit (frequent o.put.least) a.most m
          own_too cs old None m =
              gives_stopped_below (OftenIn survey g.threshold) (figures_of survey) g.limit (frequent o.put.least) a.most m

          go : (cs : List (List Rec)) (old : List ℕ) (r : Option ℕ)
              → Outcome g.checking (figures_of survey)
              (ListedBy kinds_before kinds_order (FrequentIn kinds_before survey g.threshold) g.limit γ
              (candidates_in 0 γ alphabet g.labels (part base top list₂))) (snoc cs γ) old z r
              → Outcome g.checking (figures_of survey) (Gives kinds_before kinds_order (OftenIn survey g.threshold) g.limit γ) cs old z r
          go cs old r m = own_too cs old r (outcome_as g.checking (figures_of survey) all (snoc cs γ) old z r m)

  -- THAT WAS ALL: passed over, or as large as the limit; or stopped
  module _ {r : TakenOn} {z : List ℕ} (t : IsTakenOn g.checking γ cell g.limit count out r z) where
    pub grow_over : {more : ℕ} → r ≡ steps.Over more → PatternGrown survey g γ cells seen list base list out count (Some more) z
    grow_over {more} o = go t.taken t.told (sym o ∙ t.is)
      where
        leaf : (b : Bool) → eqb (length γ) g.limit ≡ b → EntryPut γ cell count out z
            → steps.Over more ≡ cond b (steps.Over (count + 1)) (steps.On (count + 1))
            → PatternGrown survey g γ cells seen list base list out count (Some more) z
        leaf true k w e =
            let n : more ≡ count + 1 = cc in
            rw n (grow_leaf w (eqb-true (length γ) g.limit k))
        leaf false k w e = absurd (cc)

        go : (v : Taken) → CandidateTaken g.checking γ cell count out v z → steps.Over more ≡ taken_on (length γ) g.limit count v
            → PatternGrown survey g γ cells seen list base list out count (Some more) z
        go answers.Passed w e =
            let n : more ≡ count = cc in
            rw n (grow_passed w.not_least z w.same)
        go answers.Stopped w e = absurd (cc)
        go answers.Listed w e = leaf (eqb (length γ) g.limit) refl w e

    pub grow_ended : r ≡ steps.Stopped → PatternGrown survey g γ cells seen list base list out count None z
    grow_ended o = go t.taken t.told (sym o ∙ t.is)
      where
        leaf : (b : Bool) → steps.Stopped ≡ cond b (steps.Over (count + 1)) (steps.On (count + 1)) → ⊥
        leaf true e = cc
        leaf false e = cc

        go : (v : Taken) → CandidateTaken g.checking γ cell count out v z → steps.Stopped ≡ taken_on (length γ) g.limit count v
            → PatternGrown survey g γ cells seen list base list out count None z
        go answers.Passed w e = absurd (cc)
        go answers.Stopped w e = grow_stopped w.least w.back z w.same
        go answers.Listed w e = absurd (leaf (eqb (length γ) g.limit) e)

-- IN PLACE: a code of m records in front of an array
module _ {survey labels rank alphabet : List ℕ} {g : Settings} {code kinds : List ℕ} {m n : ℕ} (h : CodeHeld code kinds m n) {cell : ℕ}
    {cells seen list : List ℕ} {base : ℕ} {out : List ℕ} {count : ℕ}
    (a : CanGrowPattern survey labels rank alphabet g (recs_in m code) cell cells seen list base out count) where
  pub grow_takes_up : CanTakeCandidate code m n cell out count
  grow_takes_up =
      record {
        front =
            record {
              size = h.sized.long;
              one = omega (arith, recs_in_length m code, a.some);
              most = omega (arith, recs_in_length m code, a.most, a.set_up.small);
              accepted = a.candidate.accepted;
              count = h.met.count;
            };
        well = a.well;
        most = omega (arith, recs_in_length m code, a.most, a.set_up.small);
        few = support_few a;
        out_room = a.out_room;
      }

  pub grow_counts : (length (recs_in m code) ≡ g.limit → ⊥) → CanCount survey code m cell
  grow_counts smaller =
      record {
        accepted = a.candidate.accepted;
        some = omega (arith, recs_in_length m code, a.some);
        few = omega (arith, recs_in_length m code, a.most, a.set_up.small);
        set_is =
            ap cell_set a.candidate.cell_is
            ∙ crane_cell_set (cranes_of survey) (containing (decoded (recs_in m code)) (drawings_of survey)) (containing_few a);
      }
