-- Two size limits: what the calls write and answer with the smaller one, by what they do with the greater. Rests on SmallerLimits and on what both
-- calls say. Assumes nothing.
use Rattle.std.specs.Prelude.{◌≡◌, List, [], ◌++◌, ℕ, ◌/◌, ◌≤◌, length, drop, Bool, true, Result, Ok}
use Rattle.std.proofs.Common.{sym, ap, ap₂, subst, ◌∙◌, append-nil, arith, le-leb}
use Rattle.laws.specs.Passing.{passing_length}
use Rattle.graphs.specs.Drawing.{Drawing}
use Rattle.graphs.specs.Survey.{survey, cranes, survey_refusal}
use Rattle.codes.specs.Code.{kinds_before}
use Rattle.codes.specs.CodeOrder.{kinds_order}
use Rattle.growth.specs.Sizes.{entry_size}
use Rattle.growth.specs.Catalogue.{
  Entry,
  Catalogue,
  Often,
  figures_in,
  OftenIn,
  figures_of,
  few_cables,
  entries_within,
  all_bytes,
  entries_up_to,
}
use Rattle.growth.specs.SmallerLimits.{list_within, list_smaller, entry_bytes_within}
use Rattle.growth.specs.Settings.{accepted_settings}
use Rattle.mining.specs.CatalogueSays.{CatalogueSays}
use Rattle.mining.specs.CheckSays.{CheckSays}
use Rattle.demands.specs.Terms.{written_entries, CatalogueRefused}
use Rattle.demands.specs.RefusedLaws.{catalogue_turned_back}
use Rattle.demands.specs.WholeLists.{Finished, finished}
use Rattle.demands.specs.WholeCatalogues.{entries_accepted}
use Rattle.demands.specs.CheckRules.{Right, right_yes, right_written, right_size, check_list_refused}
use Rattle.records.specs.declared.refusal.Fault.{Fault}

-- THE ENTRIES
pub catalogue_within :
    (cr : List ℕ) (ds : List Drawing) (s l m : ℕ) → l ≤ m → (gs : List Entry) → Catalogue cr ds s m gs
    → Catalogue cr ds s l (entries_within l gs) × ((es : List Entry) → Catalogue cr ds s l es → es ≡ entries_within l gs)
catalogue_within cr ds s l m low gs g = (
  list_within kinds_before (Often cr ds s) (figures_in cr ds) low gs g,
  λ es e. list_smaller kinds_before (Often cr ds s) (figures_in cr ds) low kinds_order es gs e g,
)

-- WHAT IS REFUSED before a catalogue is begun has nothing to do with a limit of 1 to 8
pub limits_alike : (bs : List ℕ) (s l m : ℕ) → 1 ≤ l → l ≤ 8 → 1 ≤ m → m ≤ 8 → survey_refusal bs s l ≡ survey_refusal bs s m
unfolding survey_refusal
limits_alike bs s l m a b c d = rw (le-leb 1 l a, le-leb l 8 b, le-leb 1 m c, le-leb m 8 d)

module _ (bs : List ℕ) (s l m : ℕ) (low : l ≤ m) where
  up_to :
      (gs : List Entry) → Catalogue (cranes bs) (survey bs) s m gs → (survey_refusal bs s m).number ≡ 0 → (rest : List ℕ)
      → entries_up_to l (length gs) (all_bytes gs ++ rest) ≡ all_bytes (entries_within l gs)
  up_to gs g fine rest =
      entry_bytes_within l gs rest (λ e h. omega (arith, (g.sound e h).size, (accepted_settings bs s m fine).limit_high))

  -- WRITTEN
  pub written_within :
      (n k : ℕ) (o p z w : List ℕ) → CatalogueSays bs s l (Ok n) o z → CatalogueSays bs s m (Ok k) p w
      → written_entries n z ≡ entries_up_to l k w
  written_within n k o p z w v u =
      let a = right_written bs s l n o z v in
      let f : Finished (OftenIn bs s) (figures_of bs) m k p w = finished (OftenIn bs s) (figures_of bs) m (survey_refusal bs s m) k p w u in
      a.bytes
      ∙ ap all_bytes ((catalogue_within (cranes bs) (survey bs) s l m low f.es f.list).1 a.es a.catalogue)
      ∙ sym (up_to f.es f.list (entries_accepted bs s m k p w u) (drop (length (all_bytes f.es)) p))
      ∙ ap₂ (entries_up_to l) (sym f.count) (sym f.output)

  module _ (some : 1 ≤ l) where
    fine_within : (survey_refusal bs s m).number ≡ 0 → (survey_refusal bs s l).number ≡ 0
    fine_within h =
        let most : m ≤ 8 = (accepted_settings bs s m h).limit_high in
        rw (limits_alike bs s l m some (omega arith) (omega arith) most) h

    fewer_catalogue : (gs : List Entry) → Catalogue (cranes bs) (survey bs) s m gs → Catalogue (cranes bs) (survey bs) s l (entries_within l gs)
    fewer_catalogue gs g = (catalogue_within (cranes bs) (survey bs) s l m low gs g).0

    -- ROOM for the greater catalogue is room for the smaller
    pub room_within :
        (k : ℕ) (o p w z : List ℕ) (r : Result ℕ Fault) → CatalogueSays bs s m (Ok k) o w → length o ≤ length p → CatalogueSays bs s l r p z
        → (n : ℕ) × (r ≡ Ok n) × (n ≤ k)
    room_within k o p w z r u h v =
        let f : Finished (OftenIn bs s) (figures_of bs) m k o w = finished (OftenIn bs s) (figures_of bs) m (survey_refusal bs s m) k o w u in
        let fine = fine_within (entries_accepted bs s m k o w u) in
        let fewer : length (entries_within l f.es) ≤ length f.es = passing_length (few_cables l) f.es in
        let told : CatalogueRefused bs s l r p z = catalogue_turned_back bs s l r p z v in
        let t = told.enough fine (entries_within l f.es) (fewer_catalogue f.es f.list) (omega (arith, f.room)) in
        (length (entries_within l f.es), t.0, omega (arith, f.count))

    -- CHECKED: where a list is right with the greater limit, a list is right with the smaller exactly if it is the entries of at most l cables
    pub checked_within :
        (right : List ℕ) → CheckSays bs s m right (Ok true) → (list : List ℕ) (r : Result Bool Fault) → CheckSays bs s l list r
        → (r ≡ Ok true → list ≡ entries_up_to l (length right / entry_size) right) × (list ≡ entries_up_to l (length right / entry_size) right → r ≡ Ok true)
    checked_within right u list r v = (to, back)
      where
        k : Right bs s m right
        k = right_yes bs s m right u

        within : entries_up_to l (length right / entry_size) right ≡ all_bytes (entries_within l k.es)
        within =
            let count : length right / entry_size ≡ length k.es = omega (arith, right_size bs s m k) in
            ap₂ (entries_up_to l) count (k.bytes ∙ sym (append-nil (all_bytes k.es))) ∙ up_to k.es k.catalogue k.fine []

        to : r ≡ Ok true → list ≡ entries_up_to l (length right / entry_size) right
        to e =
            let j = right_yes bs s l list (subst (CheckSays bs s l list) e v) in
            j.bytes
            ∙ ap all_bytes ((catalogue_within (cranes bs) (survey bs) s l m low k.es k.catalogue).1 j.es j.catalogue)
            ∙ sym within

        back : list ≡ entries_up_to l (length right / entry_size) right → r ≡ Ok true
        back e =
            (check_list_refused bs s l list r v).yes (fine_within k.fine) (entries_within l k.es) (fewer_catalogue k.es k.catalogue)
            (e ∙ within)
