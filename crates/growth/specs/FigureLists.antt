-- Figures of patterns told in another way make the same list, told in that way; equal figures make equal lists. A catalogue is the list of the
-- patterns whose support is at least s. Rests on the definition of a list. Assumes nothing.
use Rattle.std.specs.Prelude.{◌≡◌, refl, List, [], ◌∷◌, map, ℕ, ◌≤◌}
use Rattle.std.proofs.Common.{sym, ap, ◌∙◌, subst, arith}
use Rattle.laws.specs.Lists.{Mem, mem_map}
use Rattle.laws.specs.Selections.{Sent, map_from}
use Rattle.graphs.specs.Drawing.{Drawing}
use Rattle.graphs.specs.Graph.{Pattern}
use Rattle.graphs.specs.Patterns.{pattern_from_test}
use Rattle.codes.specs.Code.{Rec, kinds_before}
use Rattle.growth.specs.Catalogue.{Figures, Entry, entry, EntryOf, ListOf}

-- an entry with other figures
abbrev pub with_figures : (Figures → Figures) → Entry → Entry
with_figures h e = entry (h e.figures) e.code

module _ (Before After : Drawing → Type 0) (f g : Drawing → Figures) (h : Figures → Figures)
    (same : (p : Drawing) → Pattern p → g p ≡ h (f p)) (to : (p : Drawing) → Pattern p → Before p → After p)
    (back : (p : Drawing) → Pattern p → After p → Before p) where
  codes_stay : (es : List Entry) → map (λ e. e.code) (map (with_figures h) es) ≡ map (λ e. e.code) es
  codes_stay [] = refl
  codes_stay (e ∷ es) = ap {B = List (List Rec)} (λ cs. e.code ∷ cs) (codes_stay es)

  pub figures_told : (l : ℕ) (es : List Entry) → ListOf kinds_before Before f l es → ListOf kinds_before After g l (map (with_figures h) es)
  figures_told l es c =
      record {
        rise = rw (codes_stay es) c.rise;
        sound = λ e m. sound e (map_from (with_figures h) es m);
        whole = λ p rs i n w t.
            let x = pattern_from_test p i in
            subst (λ (k : Figures). Mem (entry k rs) (map (with_figures h) es)) (sym (same p x))
            (mem_map (with_figures h) (c.whole p rs i n (back p x w) t));
      }
    where
      sound : (e : Entry) → Sent (with_figures h) es e → EntryOf kinds_before After g l e
      sound e s =
          let t = c.sound s.a s.member in
          let x = pattern_from_test t.pattern t.is_one in
          subst (EntryOf kinds_before After g l) s.is
          (record {
            pattern = t.pattern;
            is_one = t.is_one;
            least = t.least;
            size = t.size;
            figures_are = same t.pattern x ∙ ap h t.figures_are;
            wanted = to t.pattern x t.wanted;
          })

-- EQUAL FIGURES make equal lists, of the patterns whose support is at least s
same_told : (es : List Entry) → map (with_figures (λ k. k)) es ≡ es
same_told [] = refl
same_told (e ∷ es) = ap {B = List Entry} (λ gs. e ∷ gs) (same_told es)

pub figures_alike :
    (f g : Drawing → Figures) (s l : ℕ) (es : List Entry) → ((p : Drawing) → Pattern p → f p ≡ g p)
    → ListOf kinds_before (λ p. s ≤ (f p).support) f l es → ListOf kinds_before (λ p. s ≤ (g p).support) g l es
figures_alike f g s l es same c =
    let support : (p : Drawing) → Pattern p → (f p).support ≡ (g p).support = λ p w. ap (λ (k : Figures). k.support) (same p w) in
    subst (ListOf kinds_before (λ p. s ≤ (g p).support) g l) (same_told es)
    (figures_told (λ p. s ≤ (f p).support) (λ p. s ≤ (g p).support) f g (λ k. k) (λ p w. sym (same p w))
    (λ p w q. omega (arith, support p w)) (λ p w q. omega (arith, support p w)) l es c)
