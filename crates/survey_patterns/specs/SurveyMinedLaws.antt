-- Mining a survey, kind by kind of device 0; its tables. Rests on Firsts and ListingLaws. Assumes nothing.
use Rattle.std.specs.Prelude.{◌≡◌, refl, Bool, false, List, [], ◌∷◌, ◌++◌, map, ℕ, suc, ◌+◌, ◌≤◌, ◌<◌, length, get_or, Option, Some, None}
use Rattle.std.proofs.Common.{sym, ap, ◌∙◌, subst, add-one, arith}
use Rattle.graphs.specs.Drawing.{Drawing}
use Rattle.codes.specs.Code.{Rec, fresh, rows_refusal, decoded, kinds_before}
use Rattle.codes.specs.CodeOrder.{kinds_order}
use Rattle.codes.specs.Greedy.{Greedy}
use Rattle.codes.specs.ReadRows.{rows_nil}
use Rattle.growth.specs.Catalogue.{figures_of}
use Rattle.growth.specs.Growth.{ListedBy, listed_none}
use Rattle.growth.specs.Frequent.{FrequentIn}
use Rattle.growth.specs.PlacedRecords.{alone}
use Rattle.growth.specs.CountingExtensions.{FirstOf, Counting}
use Rattle.growth.specs.ListedBy.{ChosenPlaces, ChosenCells, place_in, records_at, chosen_places, listed_join}
use Rattle.growth.specs.Firsts.{Firsts, firsts_none, firsts_skip, firsts_apart, firsts_next, firsts_rest, firsts_listed}
use Rattle.growth.specs.ListingLaws.{lists_none, stops_further}
use Rattle.growth.specs.Sizes.{candidates_size}
use Rattle.growing.specs.declared.grow.Settings.{Settings}
use Rattle.walks.specs.LabelMarks.{drawings_of, cranes_of}
use Rattle.walks.specs.Counts.{Blank}
use Rattle.walks.specs.Prepared.{CountedCells}
use Rattle.walks.specs.PreparedLaws.{as_many_cranes, prepared_few, prepared_sections}
use Rattle.walks.specs.SheetTables.{sheets_of, BesideSheets}
use Rattle.walks.specs.SheetTableLaws.{tables_beside, bits_beside, sheets_counted}
use Rattle.walks.specs.DrawingTables.{Tables}
use Rattle.walks.specs.LabelBits.{BitsNoted}
use Rattle.growth.specs.Places.{Ranks}
use Rattle.growth.specs.Settings.{AcceptedSettings}
use Rattle.growth.specs.Sheets.{SheetsNoted}
use Rattle.graphs.specs.AcceptedSurvey.{accepted_survey}
use Rattle.laws.specs.Parts.{part}
use Rattle.walks.specs.Choices.{OfSets, CanChoose, Chose}
use Rattle.growing.specs.GrowthOutcomes.{Fit, CanWalkCandidates, CandidatesWalked}
use Rattle.walks.specs.Kinds.{Occurs}
use Rattle.walks.specs.KindLaws.{no_first}
use Rattle.survey_patterns.specs.SurveyMined.{CanMine, Mined, KindsDone, AfterKind}

-- WHAT IS COUNTED after no record
fit_first :
    {place : Rec → ℕ} {ds : List Drawing} {i : ℕ} {sets : ℕ → List Bool} (k : ℕ) (γ : List Rec) → γ ≡ []
    → Counting place (FirstOf k) ds i sets → Counting place (Fit k [] γ) ds i sets
fit_first k [] e c = c
fit_first k (r ∷ rs) e c = absurd (omega (arith, ap (λ (x : List Rec). length x) e))

-- a code of no records is greedy
greedy_none : (γ : List Rec) → γ ≡ [] → Greedy kinds_before (decoded γ) [] γ
unfolding Greedy
greedy_none γ e = subst (λ (δ : List Rec). Greedy kinds_before (decoded δ) [] δ) (sym e) tt

module _ {survey labels rank alphabet : List ℕ} {g : Settings} (a : CanMine survey labels rank alphabet g) where
  abbrev ds : List Drawing
  ds = drawings_of survey

  abbrev Wanted : List Rec → Type 0
  Wanted = FrequentIn kinds_before survey g.threshold

  -- THE START: no kind yet
  pub mine_starts :
      {cells seen list : List ℕ} (out : List ℕ) → Blank cells seen → length list ≡ candidates_size → KindsDone survey g out 0 cells seen list out 0
  mine_starts out blank list_size =
      record {
        low = omega arith;
        blank = blank;
        list_size = list_size;
        size = refl;
        room = omega arith;
        firsts = [];
        codes = [];
        first = firsts_none (cranes_of survey) ds g.threshold;
        listed = listed_none kinds_before kinds_order Wanted g.limit [];
        lists = lists_none (figures_of survey) out;
      }

  -- A KIND THAT DOES NOT OCCUR is passed over
  pub mine_skips :
      {out : List ℕ} {k : ℕ} {cells₁ seen₁ list₁ out₁ : List ℕ} {written : ℕ} {marks : List Bool} → k < 256 → Occurs survey marks
      → get_or marks k false ≡ false → KindsDone survey g out k cells₁ seen₁ list₁ out₁ written
      → KindsDone survey g out (k + 1) cells₁ seen₁ list₁ out₁ written
  mine_skips {k = k} low o none w =
      record {
        low = omega arith;
        blank = w.blank;
        list_size = w.list_size;
        size = w.size;
        room = w.room;
        firsts = w.firsts;
        codes = w.codes;
        first = rw add-one (firsts_skip a.set_up.one w.first (no_first a.set_up.prepared o k none));
        listed = w.listed;
        lists = w.lists;
      }

  -- ONE KIND MORE
  module _ {out : List ℕ} {k : ℕ} {cells₁ seen₁ list₁ out₁ : List ℕ} {written : ℕ} (w : KindsDone survey g out k cells₁ seen₁ list₁ out₁ written)
      {cells₂ seen₂ : List ℕ} {found : ℕ} (c : CountedCells (drawings_of survey) (FirstOf k) rank g.labels cells₂ seen₂ found) where
    sets_few : (p : ℕ) → length (c.sets p) ≤ 32
    sets_few p = omega (arith, c.counting.size p, prepared_few a.set_up.prepared)

    of_sets : OfSets (cranes_of survey) c.sets cells₂
    of_sets = record { size = λ p. c.counting.size p ∙ sym (as_many_cranes survey); cell = c.cell }

    pub mine_chooses : CanChoose (sheets_of labels) cells₂ seen₂ found g.threshold list₁ 0
    mine_chooses =
        record {
          cr = cranes_of survey;
          cranes_told = a.set_up.prepared.sheets;
          sets = c.sets;
          of_sets = of_sets;
          places = c.places;
          sized = c.sized;
          one = a.set_up.one;
          list_size = w.list_size;
          room = omega arith;
        }

    module _ {cells₃ list₃ : List ℕ} {top : ℕ} (t : Chose (sheets_of labels) cells₂ g.threshold list₁ 0 cells₃ seen₂ list₃ top) {γ : List Rec}
        (n : γ ≡ []) where
      chosen_cells : ChosenCells (cranes_of survey) c.sets g.threshold g.labels (part 0 top list₃)
      chosen_cells = t.chosen (cranes_of survey) a.set_up.prepared.sheets c.sets of_sets g.labels a.set_up.prepared.ranks.most

      chosen : ChosenPlaces (cranes_of survey) c.sets g.threshold g.labels (map place_in (part 0 top list₃))
      chosen = chosen_places (cranes_of survey) c.sets g.threshold g.labels (part 0 top list₃) sets_few chosen_cells

      abbrev news : List Rec
      news = records_at (alone k) alphabet g.labels (map place_in (part 0 top list₃))

      pub mine_walks : CanWalkCandidates survey labels rank alphabet g γ k cells₃ seen₂ list₃ 0 top out₁ written
      mine_walks =
          record {
            set_up = a.set_up;
            accepted = ap (rows_refusal fresh) n ∙ rows_nil fresh;
            more = omega (arith, ap length n, a.some);
            greedy = greedy_none γ n;
            sets = c.sets;
            floors = [];
            counting = fit_first k γ n c.counting;
            chosen = chosen_cells;
            low = t.low;
            at_hand = record { blank = t.blank; list_size = t.kept.size; room = omega (arith, t.high, ap length n) };
            out_room = w.room;
          }

      -- the first records of one kind more
      firsts : Firsts (cranes_of survey) (drawings_of survey) g.threshold (suc k)
          (w.firsts ++ records_at (alone k) alphabet g.labels (map place_in (part 0 top list₃)))
      firsts =
          firsts_next a.set_up.one w.first (prepared_sections a.set_up.prepared) a.set_up.prepared.ranks c.counting chosen

      joined : (more : List (List Rec))
          → ListedBy kinds_before kinds_order (FrequentIn kinds_before survey g.threshold) g.limit []
          (records_at (alone k) alphabet g.labels (map place_in (part 0 top list₃))) more
          → ListedBy kinds_before kinds_order (FrequentIn kinds_before survey g.threshold) g.limit []
          (w.firsts ++ records_at (alone k) alphabet g.labels (map place_in (part 0 top list₃))) (w.codes ++ more)
      joined more =
          listed_join kinds_before kinds_order Wanted g.limit [] w.firsts news w.codes more
          (firsts_apart a.set_up.one w.first (prepared_sections a.set_up.prepared) a.set_up.prepared.ranks
          c.counting chosen) w.listed

      module _ {cells₄ seen₄ list₄ out₄ : List ℕ} where
        went : {r : Option ℕ} → CandidatesWalked survey alphabet g k γ cells₄ seen₄ list₃ 0 top list₄ out₁ written r out₄
            → CandidatesWalked survey alphabet g k [] cells₄ seen₄ list₃ 0 top list₄ out₁ written r out₄
        went {r} = subst (λ (δ : List Rec). CandidatesWalked survey alphabet g k δ cells₄ seen₄ list₃ 0 top list₄ out₁ written r out₄) n

        -- stopped: those of later kinds would come behind
        mine_stopped : CandidatesWalked survey alphabet g k γ cells₄ seen₄ list₃ 0 top list₄ out₁ written None out₄
            → Mined survey g out None out₄
        mine_stopped v =
            let x = (went v).told w.codes out w.lists in
            let r = firsts_rest a.set_up.one firsts g.limit a.some (w.codes ++ x.more) (joined x.more x.which) in
            stops_further x ((w.codes ++ x.more) ++ r.0) r.0 refl r.1

        mine_next : {m : ℕ} → k < 256 → CandidatesWalked survey alphabet g k γ cells₄ seen₄ list₃ 0 top list₄ out₁ written
            (Some m) out₄
            → KindsDone survey g out (k + 1) cells₄ seen₄ list₄ out₄ m
        mine_next {m} low v =
            let x = (went v).told w.codes out w.lists in
            record {
              low = omega arith;
              blank = v.blank;
              list_size = v.kept.size;
              size = v.size ∙ w.size;
              room = v.room;
              firsts = w.firsts ++ news;
              codes = w.codes ++ x.more;
              first = rw add-one firsts;
              listed = joined x.more x.which;
              lists = x.lists;
            }

        -- either way
        pub kind_after : (r : Option ℕ) → k < 256 → CandidatesWalked survey alphabet g k γ cells₄ seen₄ list₃ 0 top list₄ out₁ written r out₄
            → AfterKind survey g out k cells₄ seen₄ list₄ out₄ r
        kind_after (Some m) low v = mine_next low v
        kind_after None low v = mine_stopped v

  -- THE END: all kinds
  pub mine_ends : {out : List ℕ} {k : ℕ} {cells₁ seen₁ list₁ out₁ : List ℕ} {written : ℕ} → 256 ≤ k
      → KindsDone survey g out k cells₁ seen₁ list₁ out₁ written
      → Mined survey g out (Some written) out₁
  mine_ends e w =
      record {
        more = w.codes;
        which = firsts_listed a.set_up.one w.first (prepared_sections a.set_up.prepared) e g.limit w.codes w.listed;
        lists = w.lists;
        room = w.room;
      }

-- THE TABLES OF AN ACCEPTED SURVEY AT HAND
pub tables_ready :
    {bs before labels rank alphabet : List ℕ} {n s l : ℕ} (checking : Bool) → AcceptedSettings bs s l → Tables bs before
    → Ranks (drawings_of bs) rank alphabet n → BitsNoted bs before rank n → BesideSheets before labels
    → SheetsNoted (cranes_of bs) (sheets_of labels)
    → CanMine bs labels rank alphabet (record { labels = n; threshold = s; limit = l; checking = checking })
tables_ready {bs} {rank = rank} {n = n} checking a t o b beside noted =
    let most = (accepted_survey bs a.drawings).most in
    record {
      set_up = record {
        prepared = record {
          accepted = a.drawings;
          tables = tables_beside bs most beside t;
          ranks = o;
          bits = bits_beside bs most beside rank n b;
          sheets = sheets_counted bs a.drawings noted;
        };
        one = a.threshold_low;
        most = a.threshold_high;
        small = a.limit_high;
      };
      some = a.limit_low;
    }
