-- A catalogue that is written to its end is whole, as the third demand asks: that follows from what the call says, and from nothing
-- else. Rests on WholeLists. Assumes nothing.
use Rattle.std.specs.Prelude.{◌≡◌, List, ℕ, ◌≤◌, ◌<◌, Ok}
use Rattle.std.proofs.Common.{sym, ap, subst, arith}
use Rattle.graphs.specs.Drawing.{Drawing}
use Rattle.graphs.specs.Graph.{Section}
use Rattle.graphs.specs.Survey.{survey, cranes, survey_refusal}
use Rattle.growth.specs.Catalogue.{Figures, OftenIn, figures_of}
use Rattle.growth.specs.Frequent.{often_closed, figures_kept}
use Rattle.growth.specs.Settings.{accepted_settings}
use Rattle.walks.specs.PreparedLaws.{as_many_cranes}
use Rattle.mining.specs.CatalogueSays.{CatalogueSays}
use Rattle.demands.specs.Terms.{entry_in, EntryFor, Supported, FirstWith, WholeCatalogue}
use Rattle.demands.specs.Supports.{supported, supported_is}
use Rattle.demands.specs.ExampleRules.{first_with}
use Rattle.demands.specs.WholeLists.{EntrySays, list_accepted, Finished, finished, whole_says, whole_there, whole_list}

-- where entries are answered, settings and survey are accepted
pub entries_accepted : (bs : List ℕ) (s l n : ℕ) (o z : List ℕ) → CatalogueSays bs s l (Ok n) o z → (survey_refusal bs s l).number ≡ 0
entries_accepted bs s l n o z = list_accepted (OftenIn bs s) (figures_of bs) l (survey_refusal bs s l) n o z

module _ (bs : List ℕ) (s l n : ℕ) (o z : List ℕ) (low : 1 ≤ s) (high : l ≤ 8) (f : Finished (OftenIn bs s) (figures_of bs) l n o z) where
  says : (p : Drawing) → Section p → (k : ℕ) → k < n → EntryFor p z k → EntrySays (OftenIn bs s) (figures_of bs) l (entry_in k z) p
  says = whole_says (OftenIn bs s) (figures_of bs) l (often_closed (cranes bs) (survey bs) s) (figures_kept (cranes bs) (survey bs)) high f

  -- in the words of the demand: a pattern as a graph, support as a number of cranes, the example as the first drawing
  demanded : WholeCatalogue bs s l n o z
  demanded =
      record {
        list = whole_list (OftenIn bs s) (figures_of bs) l (often_closed (cranes bs) (survey bs) s) (figures_kept (cranes bs) (survey bs)) high f;
        there = λ p i some h m q g.
            whole_there (OftenIn bs s) (figures_of bs) l (often_closed (cranes bs) (survey bs) s) (figures_kept (cranes bs) (survey bs)) high f
            p i some h
            (λ w. omega (arith, supported_is p w.simple.ends (cranes bs) (survey bs) (as_many_cranes bs) m q));
        frequent = λ p i k h c.
            let t = says p i k h c in
            (t.pattern.cables_low, t.size, omega (arith, t.wanted, ap (λ (f : Figures). f.support) t.figures_are));
        support = λ p i k h c.
            let t = says p i k h c in
            subst (Supported p (cranes bs) (survey bs)) (sym (ap (λ (f : Figures). f.support) t.figures_are))
            (supported p t.pattern.simple.ends (cranes bs) (survey bs) (as_many_cranes bs));
        example = λ p i k h c.
            let t = says p i k h c in
            subst (FirstWith p (survey bs)) (sym (ap (λ (f : Figures). f.example) t.figures_are))
            (first_with p t.pattern.simple.ends (cranes bs) (survey bs) (omega (arith, t.wanted)));
      }

-- ONE THEOREM: a catalogue that the call says to have n entries is whole
pub whole_catalogue : (bs : List ℕ) (s l n : ℕ) (o z : List ℕ) → CatalogueSays bs s l (Ok n) o z → WholeCatalogue bs s l n o z
whole_catalogue bs s l n o z says =
    let fine = accepted_settings bs s l (entries_accepted bs s l n o z says) in
    demanded bs s l n o z fine.threshold_low fine.limit_high
    (finished (OftenIn bs s) (figures_of bs) l (survey_refusal bs s l) n o z says)
