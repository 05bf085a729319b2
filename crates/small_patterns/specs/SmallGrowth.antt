-- Growing the codes of small patterns: what is listed when an entry does not fit, is as large as the limit, or the records that may come next were
-- walked; and what is listed after each of these. An instance of ListingLaws. Rests on SmallNext and Books. Assumes nothing.
use Rattle.std.specs.Prelude.{◌≡◌, refl, Bool, true, false, cond, List, ◌++◌, ℕ, ◌+◌, ◌*◌, ◌≤◌, ◌<◌, ltb, length, Option, Some, None}
use Rattle.std.proofs.Common.{sym, ap, ◌∙◌, subst, arith}
use Rattle.laws.specs.Lists.{Mem, snoc}
use Rattle.laws.specs.PutRecordLaws.{put_length}
use Rattle.codes.specs.Code.{Rec, fresh, recs_in, rows_refusal, decoded, kinds_before, rec_before_by}
use Rattle.codes.specs.CodeBytes.{recs_in_length}
use Rattle.codes.specs.CodeFronts.{front_shorter, front_then, front_records_kept}
use Rattle.codes.specs.CodeOrder.{kinds_order}
use Rattle.codes.specs.ReadRows.{good_from_test}
use Rattle.growth.specs.Sizes.{entry_size}
use Rattle.growth.specs.Catalogue.{entry_bytes}
use Rattle.growth.specs.EntryLaws.{entry_bytes_length}
use Rattle.growth.specs.Family.{Listable, entry_for}
use Rattle.growth.specs.FamilyLaws.{listable_prefix}
use Rattle.growth.specs.Growth.{Listed, ListedBy, listed_all}
use Rattle.growth.specs.Walking.{Gives}
use Rattle.growth.specs.Page.{EntryHanded}
use Rattle.growth.specs.PageLaws.{lists_next}
use Rattle.growth.specs.Listings.{Lists, ListsMore, Stops}
use Rattle.growth.specs.ListingLaws.{
  gives_stopped,
  gives_listed,
  gives_stopped_below,
  gives_leaf,
  none_walked,
  walked_more,
  walked_past,
  walked_stopped,
}
use Rattle.entries.specs.ListOutcomes.{Outcome}
use Rattle.entries.specs.WrittenLaws.{outcome_as}
use Rattle.books.specs.Book.{unsupported}
use Rattle.books.specs.SmallRecords.{width, numbered, next_count, numbered_below}
use Rattle.books.specs.SmallFamily.{small_closed}
use Rattle.books.specs.NumberedRecords.{numbered_next, numbered_has, numbered_earlier, numbered_split}
use Rattle.books.specs.Books.{small_family}
use Rattle.books.specs.SmallNext.{next_numbered, width_next, width_some, width_most}
use Rattle.small_patterns.specs.declared.next.BookBounds.{BookBounds}
use Rattle.small_patterns.specs.SmallWalk.{
  Asked,
  RecordTried,
  SmallHeld,
  CodeStays,
  CanGrowSmall,
  SmallGrown,
  CanWalkSmall,
  SmallWalked,
  SmallSoFar,
}

-- the code stays
pub code_stays_same : {m : ℕ} {code : List ℕ} → length code ≡ 100 → CodeStays m code code
code_stays_same long = record { front = record { is = refl }; long = long }

-- ALL THAT GOES ON from a code goes on by the records that are walked
pub small_all :
    {g : BookBounds} {code : List ℕ} {m n : ℕ} → SmallHeld g code m n → (more : List (List Rec))
    → ListedBy kinds_before kinds_order (Listable kinds_before (Asked g)) g.limit (recs_in m code) (numbered_below n (next_count n)) more
    → Listed kinds_before kinds_order (Listable kinds_before (Asked g)) g.limit (recs_in m code) more
small_all {g} {code} {m} {n} held more =
    listed_all kinds_before kinds_order (Listable kinds_before (Asked g)) g.limit (recs_in m code) (numbered_below n (next_count n)) more
    (λ e rest f. next e (listable_prefix kinds_before kinds_order (Asked g) (small_closed g.devices g.cables) (recs_in m code) e rest f))
  where
    next : (e : Rec) → Listable kinds_before (Asked g) (snoc (recs_in m code) e) → Mem e (numbered_below n (next_count n))
    next e f =
        let w = next_numbered g.devices_few g.cables_few (recs_in m code) e f in
        subst (λ (k : ℕ). Mem e (numbered_below k (next_count k))) (sym held.wide)
        (subst (λ (x : Rec). Mem x (numbered_below (width (recs_in m code)) (next_count (width (recs_in m code))))) w.2
        (numbered_has (width (recs_in m code)) (next_count (width (recs_in m code))) w.0 w.1))

-- GROWING
module _ {g : BookBounds} {code : List ℕ} {m n : ℕ} {out : List ℕ} {count : ℕ} (a : CanGrowSmall g code m n out count) where
  own_size : length (recs_in m code) ≡ m
  own_size = recs_in_length m code

  low : length (recs_in m code) ≤ 8
  low = omega (arith, own_size, a.most, g.limit_few)

  -- NO ROOM
  pub small_full : {z : List ℕ} → EntryHanded false (entry_bytes (entry_for unsupported (recs_in m code))) count out false z
      → SmallGrown g code m out count None code z
  small_full {z} (short, is) =
      record {
        stays = code_stays_same a.held.long;
        size = ap length is;
        room = omega arith;
        told = λ cs old t.
            subst (Stops false unsupported (Gives kinds_before kinds_order (Asked g) g.limit (recs_in m code)) cs) (sym is)
            (gives_stopped (Asked g) unsupported g.limit a.listable (omega (arith, own_size, a.most)) (small_family g.devices g.cables)
            low t short);
      }

  -- WRITTEN
  module _ {mid : List ℕ} (h : EntryHanded false (entry_bytes (entry_for unsupported (recs_in m code))) count out true mid) where
    small_mid_size : length mid ≡ length out
    small_mid_size =
        ap length h.1
        ∙ put_length entry_size count (entry_bytes (entry_for unsupported (recs_in m code))) out
        (entry_bytes_length (entry_for unsupported (recs_in m code)) low) h.0

    listed : (cs : List (List Rec)) (old : List ℕ) → Lists unsupported cs old out count
        → Lists unsupported (snoc cs (recs_in m code)) old mid (count + 1)
    listed cs old t = lists_next unsupported cs (recs_in m code) low old out mid count t h.1

    mid_room : entry_size * (count + 1) ≤ length mid
    mid_room = omega (arith, small_mid_size, h.0)

    -- AS LARGE AS THE LIMIT
    pub small_leaf : m ≡ g.limit → SmallGrown g code m out count (Some (count + 1)) code mid
    small_leaf e =
        record {
          stays = code_stays_same a.held.long;
          size = small_mid_size;
          room = mid_room;
          told = λ cs old t.
              gives_leaf (Asked g) unsupported g.limit a.listable (omega (arith, own_size, a.most)) (omega (arith, own_size)) mid_room
              (listed cs old t);
        }

    -- SMALLER
    module _ (less : m ≡ g.limit → ⊥) where
      pub small_walks : CanWalkSmall g code m n mid (count + 1)
      small_walks = record { held = a.held; less = omega (arith, a.most); room = mid_room }

      pub small_went : {now z : List ℕ} {r : Option ℕ} → SmallWalked g code m n mid (count + 1) r now z → SmallGrown g code m out count r now z
      small_went {z = z} {r = r} w =
          record {
            stays = w.stays;
            size = w.size ∙ small_mid_size;
            room = w.room;
            told = λ cs old t.
                go cs old r
                (outcome_as false unsupported (small_all a.held) (snoc cs (recs_in m code)) old z r
                (w.told (snoc cs (recs_in m code)) old (listed cs old t)));
          }
        where
          go : (cs : List (List Rec)) (old : List ℕ) (r : Option ℕ)
              → Outcome false unsupported (Listed kinds_before kinds_order (Listable kinds_before (Asked g)) g.limit (recs_in m code))
              (snoc cs (recs_in m code)) old z r
              → Outcome false unsupported (Gives kinds_before kinds_order (Asked g) g.limit (recs_in m code)) cs old z r
          go cs old (Some k) x = gives_listed (Asked g) unsupported g.limit a.listable (omega (arith, own_size, a.most)) x
          go cs old None x = gives_stopped_below (Asked g) unsupported g.limit a.listable (omega (arith, own_size, a.most)) x

-- WALKING
module _ {g : BookBounds} {code : List ℕ} {m n : ℕ} {out : List ℕ} {count : ℕ} (a : CanWalkSmall g code m n out count) where
  abbrev By : ℕ → List (List Rec) → Type 0
  By k = ListedBy kinds_before kinds_order (Listable kinds_before (Asked g)) g.limit (recs_in m code) (numbered_below n k)

  pub walk_wide : (1 ≤ n) × (n ≤ 10)
  walk_wide = (
    omega (arith, a.held.wide, width_some (recs_in m code) a.held.accepted),
    omega (arith, a.held.wide, width_most (recs_in m code) a.held.accepted),
  )

  pub small_starts : SmallSoFar g code m n out count 0 code out count
  unfolding numbered_below
  small_starts =
      record {
        low = omega arith;
        stays = code_stays_same a.held.long;
        size = refl;
        room = a.room;
        told = λ cs old t. none_walked (Asked g) unsupported g.limit (recs_in m code) a.room t;
      }

  pub small_ends :
      {code₁ out₁ : List ℕ} {k written : ℕ} → next_count n ≤ k → SmallSoFar g code m n out count k code₁ out₁ written
      → SmallWalked g code m n out count (Some written) code₁ out₁
  small_ends {code₁} {out₁} {k} {written} e w =
      let z : k ≡ next_count n = omega (arith, w.low) in
      record {
        stays = w.stays;
        size = w.size;
        room = w.room;
        told = λ cs old t. subst (λ (i : ℕ). ListsMore unsupported (By i) cs old out₁ written) z (w.told cs old t);
      }

  -- ONE RECORD IS TRIED
  module _ {code₁ out₁ : List ℕ} {k written : ℕ} (w : SmallSoFar g code m n out count k code₁ out₁ written) (high : k < next_count n) where
    few_records : m ≤ 2
    few_records = omega (arith, a.less, g.limit_few)

    pub so_far_same : recs_in m code₁ ≡ recs_in m code
    so_far_same = front_records_kept m (omega (arith, few_records, a.held.long)) (omega (arith, few_records, w.stays.long)) w.stays.front

    earlier : (x : Rec) → Mem x (numbered_below n k) → rec_before_by kinds_before x (numbered n k) ≡ true
    earlier = numbered_earlier n k walk_wide.0 high

    module _ {e : Rec} (is : e ≡ numbered n k) {code₂ : List ℕ} {r : Bool} (t : RecordTried g code₁ m e r code₂) where
      tried_stays : CodeStays m code code₂
      tried_stays = record { front = front_then w.stays.front t.put.front; long = t.put.long ∙ w.stays.long }

      small_before : Asked g (decoded (recs_in m code₁))
      small_before = subst (λ (γ : List Rec). Asked g (decoded γ)) (sym so_far_same) a.held.small

      -- NOT LISTED
      pub small_passed : r ≡ false → SmallSoFar g code m n out count (k + 1) code₂ out₁ written
      small_passed no_one =
          record {
            low = omega arith;
            stays = tried_stays;
            size = w.size;
            room = w.room;
            told = λ cs old l. step cs old (w.told cs old l);
          }
        where
          bad : Listable kinds_before (Asked g) (snoc (recs_in m code) (numbered n k)) → ⊥
          bad f =
              (t.decides small_before).fails no_one
              (subst (λ (γ : List Rec). Listable kinds_before (Asked g) (snoc γ e)) (sym so_far_same)
              (subst (λ (x : Rec). Listable kinds_before (Asked g) (snoc (recs_in m code) x)) (sym is) f))

          step : (cs : List (List Rec)) (old : List ℕ) → ListsMore unsupported (By k) cs old out₁ written
              → ListsMore unsupported (By (k + 1)) cs old out₁ written
          step cs old x =
              subst (λ (es : List Rec). ListsMore unsupported
              (ListedBy kinds_before kinds_order (Listable kinds_before (Asked g)) g.limit (recs_in m code) es) cs old out₁ written)
              (sym (numbered_next n k))
              (walked_past (Asked g) unsupported g.limit (small_family g.devices g.cables) (recs_in m code) (numbered_below n k)
              (numbered n k) earlier x bad)

      -- LISTED: it is grown
      module _ (yes_one : r ≡ true) where
        grown_is : recs_in (m + 1) code₂ ≡ snoc (recs_in m code) (numbered n k)
        grown_is = t.put.records ∙ ap (λ (γ : List Rec). snoc γ e) so_far_same ∙ ap (snoc (recs_in m code)) is

        found : Listable kinds_before (Asked g) (snoc (recs_in m code) (numbered n k))
        found =
            subst (λ (x : Rec). Listable kinds_before (Asked g) (snoc (recs_in m code) x)) is
            (subst (λ (γ : List Rec). Listable kinds_before (Asked g) (snoc γ e)) so_far_same ((t.decides small_before).holds yes_one))

        fine : rows_refusal fresh (snoc (recs_in m code) (numbered n k)) ≡ 0
        fine = (good_from_test (snoc (recs_in m code) (numbered n k)) found.least.code.good).accepted

        pub small_grows : {wider : ℕ} → wider ≡ cond (ltb e.i e.j) (n + 1) n → CanGrowSmall g code₂ (m + 1) wider out₁ written
        small_grows {wider} wide =
            record {
              held =
                  record {
                    long = tried_stays.long;
                    accepted = subst (λ (γ : List Rec). rows_refusal fresh γ ≡ 0) (sym grown_is) fine;
                    small = subst (λ (γ : List Rec). Asked g (decoded γ)) (sym grown_is) found.wanted;
                    wide =
                        wide ∙ ap (λ (x : Rec). cond (ltb x.i x.j) (n + 1) n) is
                        ∙ ap (λ (i : ℕ). cond (ltb (numbered n k).i (numbered n k).j) (i + 1) i) a.held.wide
                        ∙ sym (width_next (recs_in m code) (numbered n k) fine)
                        ∙ ap width (sym grown_is);
                  };
              listable = subst (Listable kinds_before (Asked g)) (sym grown_is) found;
              most = omega (arith, a.less);
              room = w.room;
            }

        after_stays : {code₃ : List ℕ} → CodeStays (m + 1) code₂ code₃ → CodeStays m code code₃
        after_stays s = record { front = front_then tried_stays.front (front_shorter (omega arith) s.front); long = s.long }

        module _ {code₃ out₂ : List ℕ} where
          outcome : {v : Option ℕ} → SmallGrown g code₂ (m + 1) out₁ written v code₃ out₂ → (cs : List (List Rec)) (old : List ℕ)
              → (x : ListsMore unsupported (By k) cs old out₁ written)
              → Outcome false unsupported (Gives kinds_before kinds_order (Asked g) g.limit (snoc (recs_in m code) (numbered n k)))
              (cs ++ x.more) old out₂ v
          outcome {v} u cs old x =
              subst (λ (γ : List Rec). Outcome false unsupported (Gives kinds_before kinds_order (Asked g) g.limit γ) (cs ++ x.more) old out₂ v)
              grown_is (u.told (cs ++ x.more) old x.lists)

          pub small_fills : SmallGrown g code₂ (m + 1) out₁ written None code₃ out₂ → SmallWalked g code m n out count None code₃ out₂
          small_fills u =
              record {
                stays = after_stays u.stays;
                size = u.size ∙ w.size;
                room = omega arith;
                told = λ cs old l. stop cs old (w.told cs old l) (outcome u cs old (w.told cs old l));
              }
            where
              stop : (cs : List (List Rec)) (old : List ℕ) → (x : ListsMore unsupported (By k) cs old out₁ written)
                  → Stops false unsupported (Gives kinds_before kinds_order (Asked g) g.limit (snoc (recs_in m code) (numbered n k)))
                  (cs ++ x.more) out₂
                  → Stops false unsupported (By (next_count n)) cs out₂
              stop cs old x y =
                  let s = numbered_split n k walk_wide.0 high in
                  subst (λ (es : List Rec). Stops false unsupported
                  (ListedBy kinds_before kinds_order (Listable kinds_before (Asked g)) g.limit (recs_in m code) es) cs out₂)
                  (sym s.whole)
                  (walked_stopped (Asked g) unsupported g.limit (small_family g.devices g.cables) (recs_in m code) (numbered_below n k)
                  (numbered n k) earlier x (omega (arith, recs_in_length m code, a.less)) s.rest s.rise s.apart y)

          pub small_next : {more : ℕ} → SmallGrown g code₂ (m + 1) out₁ written (Some more) code₃ out₂
              → SmallSoFar g code m n out count (k + 1) code₃ out₂ more
          small_next {more} u =
              record {
                low = omega arith;
                stays = after_stays u.stays;
                size = u.size ∙ w.size;
                room = u.room;
                told = λ cs old l. step cs old (w.told cs old l) (outcome u cs old (w.told cs old l));
              }
            where
              step : (cs : List (List Rec)) (old : List ℕ) → (x : ListsMore unsupported (By k) cs old out₁ written)
                  → ListsMore unsupported (Gives kinds_before kinds_order (Asked g) g.limit (snoc (recs_in m code) (numbered n k)))
                  (cs ++ x.more) old out₂ more
                  → ListsMore unsupported (By (k + 1)) cs old out₂ more
              step cs old x y =
                  subst (λ (es : List Rec). ListsMore unsupported
                  (ListedBy kinds_before kinds_order (Listable kinds_before (Asked g)) g.limit (recs_in m code) es) cs old out₂ more)
                  (sym (numbered_next n k))
                  (walked_more (Asked g) unsupported g.limit (small_family g.devices g.cables) (recs_in m code) (numbered_below n k)
                  (numbered n k) earlier x y)
