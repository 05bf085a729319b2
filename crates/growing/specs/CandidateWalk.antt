-- Walking the next cables of a code: the record of each candidate, that the code may grow by it, and what is listed after
-- each. Rests on Growths and Walking. Assumes nothing.
use Rattle.std.specs.Prelude.{◌≡◌, refl, Bool, true, false, cond, List, [], ◌∷◌, ◌++◌, map, ℕ, zero, suc, ◌+◌, ◌-◌, ◌/◌, ◌%◌, ◌^◌, ◌≤◌, ◌<◌, ltb, length, get_or, Option, Some, None}
use Rattle.std.proofs.Common.{sym, ap, ◌∙◌, subst, mod-lt, arith}
use Rattle.laws.specs.Lists.{Mem, snoc, snoc_length, mem_map, map_append, mem_eq}
use Rattle.laws.specs.Rising.{Rises, rises_apart, rises_back}
use Rattle.graphs.specs.Drawing.{Drawing, is_pattern}
use Rattle.graphs.specs.Survey.{crane_count}
use Rattle.codes.specs.Code.{Rec, Reading, kinds_before, rec_before_by, recs_in, rows_refusal, fresh, decoded, Least}
use Rattle.codes.specs.CodeBytes.{recs_in_length}
use Rattle.codes.specs.CodeOrder.{kinds_order}
use Rattle.codes.specs.Greedy.{Greedy}
use Rattle.growth.specs.Catalogue.{OftenIn, figures_of}
use Rattle.growth.specs.Family.{Family}
use Rattle.growth.specs.Growth.{ListedBy}
use Rattle.growth.specs.Frequent.{FrequentIn, often_family}
use Rattle.growth.specs.Places.{Ranks, record_at, record_in_row, crane_cell, candidate_of}
use Rattle.growth.specs.CellLaws.{candidate_place, candidate_cell, crane_cell_below}
use Rattle.growth.specs.CountingExtensions.{AllSections}
use Rattle.growth.specs.Counted.{Extending, rows_extending, first_extending, Candidate, candidate_at, candidate_pattern}
use Rattle.growth.specs.ListedBy.{place_in, chosen_places, chosen_rise}
use Rattle.growth.specs.Walking.{Gives}
use Rattle.growth.specs.Listings.{ListsMore, Stops}
use Rattle.growth.specs.ListingLaws.{none_walked, walked_more, walked_past, walked_stopped}
use Rattle.growing.specs.declared.grow.Settings.{Settings}
use Rattle.walks.specs.LabelMarks.{drawings_of, cranes_of}
use Rattle.walks.specs.PreparedLaws.{drawings_counted, prepared_few, prepared_sections}
use Rattle.laws.specs.Parts.{part}
use Rattle.laws.specs.PartLaws.{part_none, part_snoc, part_split, part_has}
use Rattle.extending.specs.HeldCode.{basis, CanRead, CodeHeld, CodeKept}
use Rattle.extending.specs.HeldCodeLaws.{records_kept, held_kept}
use Rattle.looking.specs.declared.ahead.Hopeful.{Hopeful}
use Rattle.looking.specs.Looking.{MayCome, Hopeless, CanLookOn, FoundAhead, LookedOn}
use Rattle.codes.specs.OwnNumbering.{WellGrown}
use Rattle.growing.specs.GrowthOutcomes.{
  CandidateHeld,
  CanGrowPattern,
  PatternGrown,
  Fit,
  candidates_in,
  CanWalkCandidates,
  CandidatesWalked,
  OnTheWay,
}

-- the cable kind of a record at a place is a byte
record_byte : (x : Reading) (q l : ℕ) → l ≤ 65536 → (record_in_row x q l).c < 256
record_byte x q l h = go (ltb q 8)
  where
    go : (t : Bool)
        → (cond {A = Rec} t
        (record {
          i = Rattle.codes.specs.Code.end x.path;
          j = q;
          ki = get_or x.kinds (Rattle.codes.specs.Code.end x.path) 256;
          c =
              (l - 1) / 256;
          kj = (l - 1) % 256;
        })
        (record { i = 15 - q; j = length x.kinds; ki = get_or x.kinds (15 - q) 256; c = (l - 1) / 256; kj = (l - 1) % 256 })).c < 256
    go true = omega arith
    go false = omega arith

-- WHAT THE CANDIDATES REST ON, after some records or none
basis_extending :
    {ds : List Drawing} {rank alphabet : List ℕ} {n : ℕ} → AllSections ds → Ranks ds rank alphabet n → (k : ℕ) (floors : List ℕ) (γ : List Rec)
    → length γ ≤ 7 → Extending ds rank alphabet n γ (basis k γ) (Fit k floors γ)
basis_extending sections o k floors [] h = first_extending sections o k
basis_extending sections o k floors (r ∷ rs) h = rows_extending sections o r rs h floors

module _ {survey labels rank alphabet : List ℕ} {g : Settings} {γ : List Rec} {kind : ℕ} {cells seen list : List ℕ} {from top : ℕ} {out : List ℕ}
    {count : ℕ} (a : CanWalkCandidates survey labels rank alphabet g γ kind cells seen list from top out count) where
  abbrev ds : List Drawing
  ds = drawings_of survey

  abbrev Wanted : List Rec → Type 0
  Wanted = FrequentIn kinds_before survey g.threshold

  family : Family kinds_before (OftenIn survey g.threshold)
  family = often_family kinds_before kinds_order (cranes_of survey) (drawings_of survey) g.threshold a.set_up.one

  -- the records of the candidates from `from` up to k
  abbrev up_to : ℕ → List Rec
  up_to k = candidates_in kind γ alphabet g.labels (part from k list)

  sets_few : (p : ℕ) → length (a.sets p) ≤ 32
  sets_few p = omega (arith, a.counting.size p, drawings_counted survey, prepared_few a.set_up.prepared)

  within : top ≤ length list
  within = omega (arith, a.at_hand.room, a.at_hand.list_size, a.more, a.set_up.small)

  extending : Extending (drawings_of survey) rank alphabet g.labels γ (basis kind γ) (Fit kind a.floors γ)
  extending =
      basis_extending (prepared_sections a.set_up.prepared) a.set_up.prepared.ranks kind a.floors γ
      (omega (arith, a.more, a.set_up.small))

  rising : Rises (rec_before_by kinds_before) (candidates_in kind γ alphabet g.labels (part from top list))
  rising =
      chosen_rise a.set_up.prepared.ranks extending a.counting a.set_up.one
      (chosen_places (cranes_of survey) a.sets g.threshold g.labels (part from top list) sets_few a.chosen)

  -- those up to k, and those from k on
  split_at : (k : ℕ) → from ≤ k → k ≤ top
      → candidates_in kind γ alphabet g.labels (part from top list)
      ≡ candidates_in kind γ alphabet g.labels (part from k list) ++ candidates_in kind γ alphabet g.labels (part k top list)
  split_at k low high =
      let e : k + (top - k) ≡ top = omega arith in
      ap (candidates_in kind γ alphabet g.labels)
      (ap (λ (b : ℕ). part from b list) (sym e) ∙ part_split from k (top - k) list low (omega (arith, within)) ∙ ap
      (λ (b : ℕ). part from k list ++ part k b list) e)
      ∙ ap (map (record_at (basis kind γ) alphabet g.labels)) (map_append place_in (part from k list) (part k top list))
      ∙ map_append (record_at (basis kind γ) alphabet g.labels) (map place_in (part from k list)) (map place_in (part k top list))

  -- ONE CANDIDATE
  module _ (k : ℕ) (low : from ≤ k) (high : k < top) (q : ℕ) (there : q ≡ get_or list k 0) where
    abbrev place_at : ℕ
    place_at = q / (2 ^ 40)

    abbrev next : Rec
    next = record_at (basis kind γ) alphabet g.labels (q / (2 ^ 40))

    listed_cell : (p : ℕ)
        × (candidate_of p (crane_cell (cranes_of survey) (a.sets p)) ≡ q)
        × (g.threshold ≤ crane_count (cranes_of survey) (a.sets p))
    listed_cell = a.chosen.often q (mem_eq (sym there) (part_has from top list within k low high))

    place_is : listed_cell.0 ≡ q / (2 ^ 40)
    place_is =
        sym (candidate_place listed_cell.0 (crane_cell (cranes_of survey) (a.sets listed_cell.0))
        (crane_cell_below (cranes_of survey) (a.sets listed_cell.0) (sets_few listed_cell.0)))
        ∙ ap (λ (y : ℕ). y / (2 ^ 40)) listed_cell.1

    cell_is : q % (2 ^ 40) ≡ crane_cell (cranes_of survey) (a.sets (q / (2 ^ 40)))
    cell_is =
        ap (λ (y : ℕ). y % (2 ^ 40)) (sym listed_cell.1)
        ∙ candidate_cell listed_cell.0 (crane_cell (cranes_of survey) (a.sets listed_cell.0))
        (crane_cell_below (cranes_of survey) (a.sets listed_cell.0) (sets_few listed_cell.0))
        ∙ ap (λ (p : ℕ). crane_cell (cranes_of survey) (a.sets p)) place_is

    often : g.threshold ≤ crane_count (cranes_of survey) (a.sets (q / (2 ^ 40)))
    often = subst (λ (p : ℕ). g.threshold ≤ crane_count (cranes_of survey) (a.sets p)) place_is listed_cell.2

    candidate : Candidate extending a.counting (q / (2 ^ 40))
    candidate = candidate_at extending a.counting (cranes_of survey) place_at (omega (arith, often, a.set_up.one))

    some_label : 0 < g.labels
    some_label = omega (arith, candidate.below)

    walk_reads : CanRead γ kind rank alphabet g.labels (q / (2 ^ 40))
    walk_reads =
        record {
          accepted = a.accepted;
          labels = a.set_up.prepared.ranks.most;
          placed = candidate.placed;
          place_is = candidate.place_is;
          byte =
              record_byte (basis kind γ) (place_at / g.labels) (get_or alphabet (place_at % g.labels) 0)
              (a.set_up.prepared.ranks.below (place_at % g.labels) (mod-lt place_at some_label));
          below = omega (arith, candidate.below, a.set_up.prepared.ranks.most);
          some = some_label;
        }

    fits_accepted : rows_refusal fresh (snoc γ (record_at (basis kind γ) alphabet g.labels (q / (2 ^ 40)))) ≡ 0
    fits_accepted = (extending.grown candidate.drawing next candidate.fits).accepted

    drawn : is_pattern (decoded (snoc γ (record_at (basis kind γ) alphabet g.labels (q / (2 ^ 40))))) ≡ true
    drawn =
        candidate_pattern extending a.counting (prepared_sections a.set_up.prepared)
        (omega (arith, a.more, a.set_up.small)) place_at
        candidate

    pub walk_comes : MayCome γ kind rank alphabet g.labels (q / (2 ^ 40))
    walk_comes = record { can_read = walk_reads; accepted = fits_accepted; drawn = drawn }

    module _ {δ : List Rec} (t : δ ≡ snoc γ (record_at (basis kind γ) alphabet g.labels (q / (2 ^ 40)))) where
      held_candidate : CandidateHeld (cranes_of survey) (drawings_of survey) g.threshold δ (q % (2 ^ 40))
      held_candidate =
          subst (λ (c : List Rec). CandidateHeld (cranes_of survey) ds g.threshold c (q % (2 ^ 40))) (sym t)
          (record {
            accepted = fits_accepted;
            drawn = drawn;
            often = omega (arith, often, candidate.support_is (cranes_of survey));
            cell_is = cell_is ∙ ap (crane_cell (cranes_of survey)) candidate.containing_is;
          })

      walk_grows_on :
          {cells₁ seen₁ list₁ out₁ : List ℕ} {written : ℕ}
          → WellGrown (snoc γ (record_at (basis kind γ) alphabet g.labels (q / (2 ^ 40))))
          → OnTheWay survey alphabet g kind γ list from top out count k cells₁ seen₁ list₁ out₁ written
          → CanGrowPattern survey labels rank alphabet g δ (q % (2 ^ 40)) cells₁ seen₁ list₁ top out₁ written
      walk_grows_on well w =
          let size : length δ ≡ suc (length γ) = ap length t ∙ snoc_length γ next in
          record {
            set_up = a.set_up;
            some = omega arith;
            most = omega (arith, a.more);
            candidate = held_candidate;
            well = subst WellGrown (sym t) well;
            at_hand = record { blank = w.blank; list_size = w.kept.size; room = omega (arith, a.at_hand.room) };
            out_room = w.room;
          }

    -- the candidates so far, and this one
    up_next : candidates_in kind γ alphabet g.labels (part from (k + 1) list)
        ≡ snoc (candidates_in kind γ alphabet g.labels (part from k list))
        (record_at (basis kind γ) alphabet g.labels (q / (2 ^ 40)))
    up_next =
        ap (candidates_in kind γ alphabet g.labels) (part_snoc from k list low (omega (arith, within)) ∙ ap
        (λ (y : ℕ). snoc (part from k list) y) (sym there))
        ∙ ap (map (record_at (basis kind γ) alphabet g.labels)) (map_append place_in (part from k list) (q ∷ []))
        ∙ map_append (record_at (basis kind γ) alphabet g.labels) (map place_in (part from k list)) (place_at ∷ [])

    split : candidates_in kind γ alphabet g.labels (part from top list)
        ≡ candidates_in kind γ alphabet g.labels (part from k list) ++ candidates_in kind γ alphabet
        g.labels (part k top list)
    split = split_at k low (omega arith)

    own : Mem (record_at (basis kind γ) alphabet g.labels (q / (2 ^ 40)))
        (candidates_in kind γ alphabet g.labels (part k top list))
    own = mem_map (record_at (basis kind γ) alphabet g.labels)
        (mem_map place_in (mem_eq (sym there) (part_has k top list within k (omega arith) high)))

    later : (x : Rec) → Mem x (candidates_in kind γ alphabet g.labels (part from k list))
        → rec_before_by kinds_before x (record_at (basis kind γ) alphabet g.labels (q / (2 ^ 40))) ≡ true
    later x m =
        rises_apart (rec_before_by kinds_before) (up_to k) (candidates_in kind γ alphabet g.labels (part k top list))
        (subst (Rises (rec_before_by kinds_before)) split rising) x next m own

    -- with those after it they are all
    split_next : candidates_in kind γ alphabet g.labels (part from top list)
        ≡ snoc (candidates_in kind γ alphabet g.labels (part from k list)) (record_at (basis kind γ) alphabet g.labels (q / (2 ^ 40)))
        ++ candidates_in kind γ alphabet g.labels (part (k + 1) top list)
    split_next =
        split_at (k + 1) (omega arith) (omega arith)
        ∙ ap (λ (es : List Rec). es ++ candidates_in kind γ alphabet g.labels (part (k + 1) top list)) up_next

    rising_next : Rises (rec_before_by kinds_before)
        (snoc (candidates_in kind γ alphabet g.labels (part from k list)) (record_at (basis kind γ) alphabet g.labels (q / (2 ^ 40)))
        ++ candidates_in kind γ alphabet g.labels (part (k + 1) top list))
    rising_next = subst (Rises (rec_before_by kinds_before)) split_next rising

    -- PASSED OVER, where its code would not be the least
    walk_passed :
        {cells₁ seen₁ list₁ out₁ : List ℕ} {written : ℕ}
        → (Least (decoded (snoc γ (record_at (basis kind γ) alphabet g.labels (q / (2 ^ 40)))))
        (snoc γ (record_at (basis kind γ) alphabet g.labels (q / (2 ^ 40)))) → ⊥)
        → OnTheWay survey alphabet g kind γ list from top out count k cells₁ seen₁ list₁ out₁ written
        → OnTheWay survey alphabet g kind γ list from top out count (k + 1) cells₁ seen₁ list₁ out₁ written
    walk_passed {out₁ = out₁} {written = written} bad w =
        record {
          low = omega arith;
          high = omega arith;
          blank = w.blank;
          kept = w.kept;
          size = w.size;
          room = w.room;
          told = λ cs old l. step cs old (w.told cs old l);
        }
      where
        step : (cs : List (List Rec)) (old : List ℕ)
            → ListsMore (figures_of survey) (ListedBy kinds_before kinds_order
            (FrequentIn kinds_before survey g.threshold) g.limit γ
            (candidates_in kind γ alphabet g.labels (part from k list))) cs old out₁ written
            → ListsMore (figures_of survey) (ListedBy kinds_before kinds_order
            (FrequentIn kinds_before survey g.threshold) g.limit γ
            (candidates_in kind γ alphabet g.labels (part from (k + 1) list))) cs old out₁ written
        step cs old x =
            subst (λ (es : List Rec). ListsMore (figures_of survey) (ListedBy kinds_before kinds_order Wanted g.limit γ es) cs old out₁ written)
            (sym up_next)
            (walked_past (OftenIn survey g.threshold) (figures_of survey) g.limit family γ (up_to k) next later x
            (λ f. bad f.least))

    -- AFTER IT
    module _ {δ : List Rec} (t : δ ≡ snoc γ (record_at (basis kind γ) alphabet g.labels (q / (2 ^ 40))))
        {cells₁ seen₁ list₁ out₁ : List ℕ} {written : ℕ} (w : OnTheWay survey alphabet g kind
        γ list from top out count k cells₁ seen₁ list₁ out₁ written)
        {cells₂ seen₂ list₂ out₂ : List ℕ} where
      walk_stopped : PatternGrown survey g δ cells₂ seen₂ list₁ top list₂ out₁ written None out₂
          → CandidatesWalked survey alphabet g kind γ cells₂ seen₂ list from top list₂ out count None out₂
      walk_stopped u =
          record {
            blank = u.blank;
            kept = record { size = u.kept.size; below = λ i l. u.kept.below i l ∙ w.kept.below i l };
            size = u.size ∙ w.size;
            room = omega arith;
            told = λ cs old l. stop cs old (w.told cs old l);
          }
        where
          stop : (cs : List (List Rec)) (old : List ℕ)
              → ListsMore (figures_of survey) (ListedBy kinds_before kinds_order
              (FrequentIn kinds_before survey g.threshold) g.limit γ
              (candidates_in kind γ alphabet g.labels (part from k list))) cs old out₁ written
              → Stops g.checking (figures_of survey) (ListedBy kinds_before kinds_order
              (FrequentIn kinds_before survey g.threshold) g.limit γ
              (candidates_in kind γ alphabet g.labels (part from top list))) cs out₂
          stop cs old x =
              subst (λ (es : List Rec). Stops g.checking (figures_of survey)
              (ListedBy kinds_before kinds_order (FrequentIn kinds_before survey g.threshold) g.limit γ es) cs out₂) (sym split_next)
              (walked_stopped (OftenIn survey g.threshold) (figures_of survey) g.limit family γ (up_to k) next later x a.more
              (candidates_in kind γ alphabet g.labels (part (k + 1) top list))
              (rises_back (rec_before_by kinds_before) (snoc (up_to k) next)
              (candidates_in kind γ alphabet g.labels (part (k + 1) top list)) rising_next)
              (rises_apart (rec_before_by kinds_before) (snoc (up_to k) next)
              (candidates_in kind γ alphabet g.labels (part (k + 1) top list)) rising_next)
              (subst (λ (c : List Rec). Stops g.checking (figures_of survey)
              (Gives kinds_before kinds_order (OftenIn survey g.threshold) g.limit c) (cs ++ x.more) out₂) t
              (u.told (cs ++ x.more) old x.lists)))

      walk_next : {m : ℕ} → PatternGrown survey g δ cells₂ seen₂ list₁ top list₂ out₁ written (Some m) out₂
          → OnTheWay survey alphabet g kind γ list from top out count (k + 1) cells₂ seen₂ list₂ out₂ m
      walk_next {m} u =
          record {
            low = omega arith;
            high = omega arith;
            blank = u.blank;
            kept = record { size = u.kept.size; below = λ i l. u.kept.below i l ∙ w.kept.below i l };
            size = u.size ∙ w.size;
            room = u.room;
            told = λ cs old l. let x = w.told cs old l in step cs old x (u.told (cs ++ x.more) old x.lists);
          }
        where
          step : (cs : List (List Rec)) (old : List ℕ)
              → (x : ListsMore (figures_of survey) (ListedBy kinds_before kinds_order
              (FrequentIn kinds_before survey g.threshold) g.limit γ
              (candidates_in kind γ alphabet g.labels (part from k list))) cs old out₁ written)
              → ListsMore (figures_of survey) (Gives kinds_before kinds_order (OftenIn survey g.threshold) g.limit
              δ) (cs ++ x.more) old out₂ m
              → ListsMore (figures_of survey) (ListedBy kinds_before kinds_order
              (FrequentIn kinds_before survey g.threshold) g.limit γ
              (candidates_in kind γ alphabet g.labels (part from (k + 1) list))) cs old out₂ m
          step cs old x y =
              subst (λ (es : List Rec). ListsMore (figures_of survey) (ListedBy kinds_before kinds_order Wanted g.limit γ es) cs old out₂ m)
              (sym up_next)
              (walked_more (OftenIn survey g.threshold) (figures_of survey) g.limit family γ (up_to k) next later x
              (subst (λ (c : List Rec). ListsMore (figures_of survey) (Gives kinds_before kinds_order (OftenIn survey g.threshold) g.limit c)
              (cs ++ x.more) old out₂ m) t y))

  -- THE START AND THE END
  pub walk_starts : OnTheWay survey alphabet g kind γ list from top out count from cells seen list out count
  walk_starts =
      record {
        low = omega arith;
        high = a.low;
        blank = a.at_hand.blank;
        kept = record { size = a.at_hand.list_size; below = λ k l. refl };
        size = refl;
        room = a.out_room;
        told = λ cs old l.
            subst (λ (qs : List ℕ). ListsMore (figures_of survey) (ListedBy kinds_before kinds_order Wanted g.limit γ
            (candidates_in kind γ alphabet g.labels qs)) cs old out count) (sym (part_none from list))
            (none_walked (OftenIn survey g.threshold) (figures_of survey) g.limit γ a.out_room l);
      }

  walk_ends : {cells₁ seen₁ list₁ out₁ : List ℕ} {k written : ℕ} → top ≤ k
      → OnTheWay survey alphabet g kind γ list from top out count k cells₁ seen₁ list₁ out₁ written
      → CandidatesWalked survey alphabet g kind γ cells₁ seen₁ list from top list₁ out count (Some written) out₁
  walk_ends {out₁ = out₁} {k = k} {written = written} e w =
      let z : k ≡ top = omega (arith, w.high) in
      record {
        blank = w.blank;
        kept = w.kept;
        size = w.size;
        room = w.room;
        told = λ cs old l.
            subst (λ (i : ℕ). ListsMore (figures_of survey) (ListedBy kinds_before kinds_order Wanted g.limit γ (up_to i)) cs old out₁ written) z
            (w.told cs old l);
      }

-- IN PLACE: what the walk of the earlier candidates left in front is the code
module _ {survey labels rank alphabet : List ℕ} {g : Settings} {code kinds : List ℕ} {m n : ℕ} (h : CodeHeld code kinds m n) {kind : ℕ}
    {cells seen list : List ℕ} {from top : ℕ} {out : List ℕ} {count : ℕ}
    (a : CanWalkCandidates survey labels rank alphabet g (recs_in m code) kind cells seen list from top out count)
    {code₁ kinds₁ : List ℕ} (s : CodeKept m n code kinds code₁ kinds₁) {k : ℕ} {cells₁ seen₁ list₁ out₁ : List ℕ} {written : ℕ}
    (w : OnTheWay survey alphabet g kind (recs_in m code) list from top out count k cells₁ seen₁ list₁ out₁ written) where
  few : m < 20
  few = omega (arith, recs_in_length m code, a.more, a.set_up.small)

  same : recs_in m code₁ ≡ recs_in m code
  same = records_kept (omega (arith, few)) h.sized s

  -- the candidates left
  pub walk_looks : CanLookOn code₁ kinds₁ m n kind alphabet g.labels list₁ k top
  walk_looks =
      record {
        work =
            record {
              room = few;
              held = held_kept (omega (arith, few)) h.sized s h.met;
              greedy = subst (λ (γ : List Rec). Greedy kinds_before (decoded γ) [] γ) (sym same) a.greedy;
            };
        list_size = w.kept.size;
        low = w.high;
        high = omega (arith, a.at_hand.room, a.more, a.set_up.small);
        rank = rank;
        next = λ i low high.
            subst (λ (γ : List Rec). MayCome γ kind rank alphabet g.labels (get_or list₁ i 0 / (2 ^ 40))) (sym same)
            (walk_comes a i (omega (arith, w.low)) high (get_or list₁ i 0) (w.kept.below i high));
      }

  -- THOSE BEFORE ONE are passed over
  module _ {at : ℕ} (low : k ≤ at) (high : at ≤ top)
      (passed : (i : ℕ) → k ≤ i → i < at
      → Hopeless (snoc (recs_in m code₁) (record_at (basis kind (recs_in m code₁)) alphabet g.labels (get_or list₁ i 0 / (2 ^ 40))))) where
    passes : (d i : ℕ) → i + d ≡ at → k ≤ i
        → OnTheWay survey alphabet g kind (recs_in m code) list from top out count i cells₁ seen₁ list₁ out₁ written
        → OnTheWay survey alphabet g kind (recs_in m code) list from top out count at cells₁ seen₁ list₁ out₁ written
    passes zero i e from_k v =
        let z : i ≡ at = omega arith in
        subst (λ (j : ℕ). OnTheWay survey alphabet g kind (recs_in m code) list from top out count j cells₁ seen₁ list₁ out₁ written) z v
    passes (suc d) i e from_k v =
        let within : i < top = omega (arith, high) in
        passes d (i + 1) (omega arith) (omega arith)
        (walk_passed a i v.low within (get_or list₁ i 0) (w.kept.below i within)
        (subst (λ (γ : List Rec). Hopeless (snoc γ (record_at (basis kind γ) alphabet g.labels (get_or list₁ i 0 / (2 ^ 40))))) same
        (passed i from_k (omega arith))) v)

    walk_at : OnTheWay survey alphabet g kind (recs_in m code) list from top out count at cells₁ seen₁ list₁ out₁ written
    walk_at = passes (at - k) k (omega (arith, low)) (omega arith) w

  -- ONE IS LOOKED FOR
  module _ {code₂ kinds₂ : List ℕ} {found : Option Hopeful}
      (l : LookedOn code₁ kinds₁ m n kind alphabet g.labels list₁ k top code₂ kinds₂ found) where
    -- none is left
    pub walk_ends_all : found ≡ None
        → CandidatesWalked survey alphabet g kind (recs_in m code) cells₁ seen₁ list from top list₁ out count (Some written) out₁
        × CodeKept m n code kinds code₂ kinds₂
    walk_ends_all e =
        let none = l.none e in (
          walk_ends a (omega arith) (walk_at none.low none.high none.passed),
          subst (λ (ks : List ℕ). CodeKept m n code kinds code₂ ks) (sym none.same_kinds)
              (subst (λ (c : List ℕ). CodeKept m n code kinds c kinds₁) (sym none.same_code) s),
        )

    -- ONE IS FOUND
    module _ {next : Hopeful} (b : found ≡ Some next) where
      one : FoundAhead code₁ kinds₁ m n kind alphabet g.labels list₁ k top code₂ kinds₂ next.at next.cell next.wider
      one = l.some next b

      reached : OnTheWay survey alphabet g kind (recs_in m code) list from top out count next.at cells₁ seen₁ list₁ out₁ written
      reached = walk_at one.low (omega (arith, one.high)) one.passed

      pub walk_turned : recs_in (m + 1) code₂
          ≡ snoc (recs_in m code) (record_at (basis kind (recs_in m code)) alphabet g.labels (get_or list₁ next.at 0 / (2 ^ 40)))
      walk_turned =
          one.grown.appended.records
          ∙ ap (λ (γ : List Rec). snoc γ (record_at (basis kind γ) alphabet g.labels (get_or list₁ next.at 0 / (2 ^ 40)))) same

      pub walk_grows : CanGrowPattern survey labels rank alphabet g (recs_in (m + 1) code₂) next.cell cells₁ seen₁ list₁ top out₁ written
      walk_grows =
          subst (λ (c : ℕ). CanGrowPattern survey labels rank alphabet g (recs_in (m + 1) code₂) c cells₁ seen₁ list₁ top out₁ written)
          (sym one.cell_is)
          (walk_grows_on a next.at reached.low one.high (get_or list₁ next.at 0) (w.kept.below next.at one.high) walk_turned
          (subst (λ (γ : List Rec). WellGrown (snoc γ (record_at (basis kind γ) alphabet g.labels (get_or list₁ next.at 0 / (2 ^ 40))))) same
          one.grown.well) reached)

      -- after it
      module _ {cells₃ seen₃ list₃ out₃ : List ℕ} where
        pub walk_fills : PatternGrown survey g (recs_in (m + 1) code₂) cells₃ seen₃ list₁ top list₃ out₁ written None out₃
            → CandidatesWalked survey alphabet g kind (recs_in m code) cells₃ seen₃ list from top list₃ out count None out₃
        walk_fills = walk_stopped a next.at reached.low one.high (get_or list₁ next.at 0) (w.kept.below next.at one.high) walk_turned reached

        pub walk_goes_on : {more : ℕ}
            → PatternGrown survey g (recs_in (m + 1) code₂) cells₃ seen₃ list₁ top list₃ out₁ written (Some more) out₃
            → OnTheWay survey alphabet g kind (recs_in m code) list from top out count (next.at + 1) cells₃ seen₃ list₃ out₃ more
        walk_goes_on = walk_next a next.at reached.low one.high (get_or list₁ next.at 0) (w.kept.below next.at one.high) walk_turned reached
