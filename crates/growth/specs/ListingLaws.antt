-- A list of a family grows, entry behind entry: a code that gives nothing, cannot stand there, or is listed with what goes on from it; one next
-- record after another. This is the growth argument: a catalogue, written or checked, and the book are its instances. Where an entry cannot
-- stand on the page, neither can the whole list: what would have come is there without a walk (FamilyLists). Rests on Walking and PageLaws.
-- Assumes nothing.
use Rattle.std.specs.Prelude.{◌≡◌, refl, Bool, true, List, [], ◌∷◌, ◌++◌, map, ℕ, ◌*◌, ◌≤◌, ◌<◌, length}
use Rattle.std.proofs.Common.{sym, ap, ◌∙◌, subst, append-nil, append_assoc}
use Rattle.laws.specs.Lists.{Mem, snoc, concat}
use Rattle.laws.specs.Rising.{Rises}
use Rattle.graphs.specs.Drawing.{Drawing}
use Rattle.codes.specs.Code.{Rec, kinds_before, rec_before_by}
use Rattle.codes.specs.CodeOrder.{kinds_order}
use Rattle.growth.specs.Sizes.{entry_size}
use Rattle.growth.specs.Catalogue.{entry_bytes, all_bytes, Figures}
use Rattle.growth.specs.Family.{Listable, Family, entry_for}
use Rattle.growth.specs.FamilyLists.{below_there, rest_there}
use Rattle.growth.specs.Growth.{Listed, ListedBy, listed_none, listed_leaf}
use Rattle.growth.specs.ListedBy.{listed_join}
use Rattle.growth.specs.Walking.{Gives, passed, taken, listed_next}
use Rattle.growth.specs.Page.{NotThere, CannotStand}
use Rattle.growth.specs.PageLaws.{codes_further, stands_not_at}
use Rattle.growth.specs.Listings.{Lists, ListsMore, Stops}

-- NOTHING YET
pub lists_none : (figure : Drawing → Figures) (page : List ℕ) → Lists figure [] page page 0
unfolding all_bytes concat
lists_none figure page = record { count_is = refl; small = λ c m. elim m [ ]; bytes = refl }

-- the same list, of no records more
pub lists_same : {figure : Drawing → Figures} {cs : List (List Rec)} {old out : List ℕ} {count : ℕ} → Lists figure cs old out count
    → Lists figure (cs ++ []) old out count
lists_same {figure} {cs} {old} {out} {count} t = subst (λ (xs : List (List Rec)). Lists figure xs old out count) (sym (append-nil cs)) t

-- what cannot stand there, with more behind it, and told in other words
pub stops_further :
    {checking : Bool} {figure : Drawing → Figures} {P Q : List (List Rec) → Type 0} {cs ds : List (List Rec)} {on : List ℕ}
    → (s : Stops checking figure P ds on) (more rest : List (List Rec)) → (ds ++ s.more) ++ rest ≡ cs ++ more → Q more
    → Stops checking figure Q cs on
stops_further {checking} {figure} {ds = ds} {on = on} s more rest e q =
    record {
      more = more;
      which = q;
      back = subst (λ (xs : List (List Rec)). CannotStand checking (all_bytes (map (entry_for figure) xs)) on) e
          (codes_further figure checking (ds ++ s.more) rest on s.back);
    }

module _ (Wanted : Drawing → Type 0) (figure : Drawing → Figures) (l : ℕ) where
  -- A CODE THAT IS NOT LISTED gives nothing
  pub gives_nothing :
      {cs : List (List Rec)} {γ : List Rec} {old out : List ℕ} {count : ℕ} → (Listable kinds_before Wanted γ → ⊥) → entry_size * count ≤ length out
      → Lists figure cs old out count → ListsMore figure (Gives kinds_before kinds_order Wanted l γ) cs old out count
  gives_nothing bad room t = record { more = []; which = passed bad; lists = lists_same t; room = room }

  module _ {cs : List (List Rec)} {γ : List Rec} (f : Listable kinds_before Wanted γ) (n : length γ ≤ l) where
    -- one that is and cannot stand there
    pub gives_stopped :
        Family kinds_before Wanted → length γ ≤ 8 → {checking : Bool} {old on : List ℕ} {count : ℕ} → Lists figure cs old on count
        → NotThere checking (entry_bytes (entry_for figure γ)) count on
        → Stops checking figure (Gives kinds_before kinds_order Wanted l γ) cs on
    gives_stopped family low {checking} {old} {on} {count} t h =
        let b = below_there kinds_before kinds_order Wanted l family γ in
        record {
          more = γ ∷ b.0;
          which = taken f n b.1;
          back = subst (λ (xs : List (List Rec)). CannotStand checking (all_bytes (map (entry_for figure) xs)) on) (append_assoc cs (γ ∷ []) b.0)
              (codes_further figure checking (snoc cs γ) b.0 on (stands_not_at figure cs γ low checking old on count t h));
        }

    -- ONE THAT IS, with all that goes on from it
    pub gives_listed :
        {old out : List ℕ} {count : ℕ}
        → ListsMore figure (Listed kinds_before kinds_order (Listable kinds_before Wanted) l γ) (snoc cs γ) old out count
        → ListsMore figure (Gives kinds_before kinds_order Wanted l γ) cs old out count
    gives_listed {old} {out} {count} m =
        record {
          more = γ ∷ m.more;
          which = taken f n m.which;
          lists = subst (λ (xs : List (List Rec)). Lists figure xs old out count) (append_assoc cs (γ ∷ []) m.more) m.lists;
          room = m.room;
        }

    -- or some of that cannot stand there
    pub gives_stopped_below :
        {checking : Bool} {on : List ℕ}
        → Stops checking figure (Listed kinds_before kinds_order (Listable kinds_before Wanted) l γ) (snoc cs γ) on
        → Stops checking figure (Gives kinds_before kinds_order Wanted l γ) cs on
    gives_stopped_below s =
        stops_further s (γ ∷ s.more) [] (append-nil (snoc cs γ ++ s.more) ∙ append_assoc cs (γ ∷ []) s.more) (taken f n s.which)

    -- nothing goes on from one as large as the limit
    pub gives_leaf :
        {old out : List ℕ} {count : ℕ} → l ≤ length γ → entry_size * count ≤ length out → Lists figure (snoc cs γ) old out count
        → ListsMore figure (Gives kinds_before kinds_order Wanted l γ) cs old out count
    gives_leaf large room t =
        gives_listed
        (record {
          more = [];
          which = listed_leaf kinds_before kinds_order (Listable kinds_before Wanted) l γ large;
          lists = lists_same t;
          room = room;
        })

  -- NO NEXT RECORD yet
  pub none_walked :
      {cs : List (List Rec)} (γ : List Rec) {old out : List ℕ} {count : ℕ} → entry_size * count ≤ length out → Lists figure cs old out count
      → ListsMore figure (ListedBy kinds_before kinds_order (Listable kinds_before Wanted) l γ []) cs old out count
  none_walked γ room t =
      record { more = []; which = listed_none kinds_before kinds_order (Listable kinds_before Wanted) l γ; lists = lists_same t; room = room }

  -- ONE NEXT RECORD MORE, e after es
  module _ (family : Family kinds_before Wanted) (γ es : List Rec) (e : Rec)
      (later : (x : Rec) → Mem x es → rec_before_by kinds_before x e ≡ true) where
    module _ {cs : List (List Rec)} {old out : List ℕ} {count : ℕ}
        (x : ListsMore figure (ListedBy kinds_before kinds_order (Listable kinds_before Wanted) l γ es) cs old out count) where
      -- it gives something
      pub walked_more :
          {now : List ℕ} {m : ℕ} → ListsMore figure (Gives kinds_before kinds_order Wanted l (snoc γ e)) (cs ++ x.more) old now m
          → ListsMore figure (ListedBy kinds_before kinds_order (Listable kinds_before Wanted) l γ (snoc es e)) cs old now m
      walked_more {now} {m} y =
          record {
            more = x.more ++ y.more;
            which = listed_next kinds_before kinds_order Wanted l family.closed γ es e x.more y.more later x.which y.which;
            lists = subst (λ (c : List (List Rec)). Lists figure c old now m) (append_assoc cs x.more y.more) y.lists;
            room = y.room;
          }

      -- or it is passed over
      pub walked_past :
          (Listable kinds_before Wanted (snoc γ e) → ⊥)
          → ListsMore figure (ListedBy kinds_before kinds_order (Listable kinds_before Wanted) l γ (snoc es e)) cs old out count
      walked_past bad = walked_more (gives_nothing bad x.room x.lists)

      -- or it cannot stand there; then no list of all next records can, those after it (gs) included
      pub walked_stopped :
          {checking : Bool} {now : List ℕ} → length γ < l → (gs : List Rec) → Rises (rec_before_by kinds_before) gs
          → ((a b : Rec) → Mem a (snoc es e) → Mem b gs → rec_before_by kinds_before a b ≡ true)
          → Stops checking figure (Gives kinds_before kinds_order Wanted l (snoc γ e)) (cs ++ x.more) now
          → Stops checking figure (ListedBy kinds_before kinds_order (Listable kinds_before Wanted) l γ (snoc es e ++ gs)) cs now
      walked_stopped less gs rise apart y =
          let r = rest_there kinds_before kinds_order Wanted l family γ less gs rise in
          stops_further y ((x.more ++ y.more) ++ r.0) r.0
          (ap (λ (t : List (List Rec)). t ++ r.0) (append_assoc cs x.more y.more) ∙ append_assoc cs (x.more ++ y.more) r.0)
          (listed_join kinds_before kinds_order (Listable kinds_before Wanted) l γ (snoc es e) gs (x.more ++ y.more) r.0 apart
          (listed_next kinds_before kinds_order Wanted l family.closed γ es e x.more y.more later x.which y.which) r.1)
