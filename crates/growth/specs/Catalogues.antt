-- Each accepted survey has just one catalogue: the frequent least codes, rising, each with its support. Rests on FamilyLists
-- and Frequent. Assumes nothing.
use Rattle.std.specs.Prelude.{◌≡◌, Bool, List, [], map, ℕ, ◌≤◌}
use Rattle.graphs.specs.Drawing.{Drawing}
use Rattle.graphs.specs.Survey.{survey, cranes}
use Rattle.codes.specs.Code.{Rec, kinds_before}
use Rattle.codes.specs.CodeOrder.{LabelOrder, kinds_order}
use Rattle.growth.specs.Catalogue.{Entry, Often, figures_in, CatalogueBy, CatalogueThere}
use Rattle.growth.specs.Settings.{accepted_settings}
use Rattle.growth.specs.Growth.{Listed}
use Rattle.growth.specs.Family.{entry_for}
use Rattle.growth.specs.FamilyLists.{listed_list, list_exists, list_unique}
use Rattle.growth.specs.Frequent.{Frequent, often_closed, often_family, figures_kept}

module _ (labels : Rec → Rec → Bool) (o : LabelOrder labels) (cr : List ℕ) (ds : List Drawing) (s l : ℕ) where
  -- ALL FREQUENT LEAST CODES, with their supports, are a catalogue
  pub listed_catalogue :
      (cs : List (List Rec)) → Listed labels o (Frequent labels cr ds s) l [] cs
      → CatalogueBy labels cr ds s l (map (entry_for (figures_in cr ds)) cs)
  listed_catalogue = listed_list labels o (Often cr ds s) (figures_in cr ds) l (often_closed cr ds s) (figures_kept cr ds)

  -- THERE IS ONE
  pub catalogue_exists : 1 ≤ s → (es : List Entry) × CatalogueBy labels cr ds s l es
  catalogue_exists one =
      list_exists labels o (Often cr ds s) (figures_in cr ds) l (often_family labels o cr ds s one) (figures_kept cr ds)

  -- AND NO OTHER
  pub catalogue_unique : (es gs : List Entry) → CatalogueBy labels cr ds s l es → CatalogueBy labels cr ds s l gs → es ≡ gs
  catalogue_unique = list_unique labels o (Often cr ds s) (figures_in cr ds) l

-- THE STATEMENT, proved
pub catalogue_there : CatalogueThere
unfolding CatalogueThere
catalogue_there bs s l b h =
    let t = catalogue_exists kinds_before kinds_order (cranes bs) (survey bs) s l (accepted_settings bs s l h).threshold_low in
    (t.0, t.1, λ gs g. catalogue_unique kinds_before kinds_order (cranes bs) (survey bs) s l gs t.0 g t.1)
