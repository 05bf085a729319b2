-- Drawings without cables in a survey: they support no pattern, are the example of none, and add no entry. Rests on the catalogue that the third
-- demand describes. Assumes nothing.
use Rattle.std.specs.Prelude.{◌≡◌, refl, Bool, ℕ, zero, suc, ◌≤◌, ◌<◌, get_or, Ok}
use Rattle.std.proofs.Common.{sym, ◌∙◌, arith}
use Rattle.std.proofs.Math.Path.{ap, ap₂}
use Rattle.std.proofs.Math.Bool.{true, false}
use mathlib.Core.List.{List, [], ◌∷◌, ◌++◌, map}
use Rattle.std.proofs.Math.ListN.{length, length-map}
use Rattle.laws.specs.Tests.{false_unless}
use Rattle.laws.specs.Lists.{Mem, map_append}
use Rattle.graphs.specs.Drawing.{Cable, Drawing}
use Rattle.graphs.specs.Map.{contains}
use Rattle.graphs.specs.Cables.{Has, has_first}
use Rattle.graphs.specs.Graph.{Pattern}
use Rattle.graphs.specs.LeastMap.{embedding_from_contains}
use Rattle.graphs.specs.Survey.{survey, cranes, containing, marked_cranes, each_once, support, first_true, example}
use Rattle.graphs.specs.FirstMarks.{moved_up, moved_down, first_true_up, first_true_down}
use Rattle.growth.specs.Catalogue.{figures, Entry, Often, figures_in, Catalogue}
use Rattle.growth.specs.FigureLists.{figures_told}
use Rattle.growth.specs.Settings.{accepted_settings}
use Rattle.mining.specs.CatalogueSays.{CatalogueSays}
use Rattle.demands.specs.Terms.{Contained, Supported, renumbered, entry_in, WholeCatalogue}
use Rattle.demands.specs.WholeCatalogues.{whole_catalogue, entries_accepted}

-- A SURVEY: no pattern with cables is in a drawing without
pub supports_none : (p d : Drawing) → 1 ≤ length p.cables → d.cables ≡ [] → Contained p d → ⊥
supports_none p d some none (f, e) = go p.cables refl
  where
    go : (cs : List Cable) → p.cables ≡ cs → ⊥
    go [] z = omega (arith, ap length z)
    go (c ∷ cs) z =
        let h : Has c.a c.b c.kind p.cables = rw z (has_first c cs) in
        elim (rw none at (e.cables c.a c.b c.kind h)) [ ]

no_crane : (p : Drawing) (cr : List ℕ) (ds : List Drawing) (n : ℕ) → 1 ≤ length p.cables
    → ((k : ℕ) (none : Drawing) → k < length ds → (get_or ds k none).cables ≡ []) → Supported p cr ds n → n ≡ 0
no_crane p cr ds n some bare w = w.counts ∙ none_listed w.numbers w.filed
  where
    none_listed :
        (cs : List ℕ)
        → ((c : ℕ) → Mem c cs → (k : ℕ) × (k < length ds) × (get_or cr k 256 ≡ c) × ((none : Drawing) → Contained p (get_or ds k none)))
        → length cs ≡ 0
    none_listed [] h = refl
    none_listed (c ∷ cs) h =
        let t = h c (Mem.here refl) in
        absurd (supports_none p (get_or ds t.0 p) some (bare t.0 p t.1) (t.3 p))

-- so a survey of drawings without cables has no entry
pub survey_empty :
    (bs : List ℕ) (s l n : ℕ) (o z : List ℕ) → ((k : ℕ) (none : Drawing) → k < length (survey bs) → (get_or (survey bs) k none).cables ≡ [])
    → CatalogueSays bs s l (Ok n) o z → n ≡ 0
survey_empty bs s l n o z bare says = go n refl
  where
    whole : WholeCatalogue bs s l n o z
    whole = whole_catalogue bs s l n o z says

    one : 1 ≤ s
    one = (accepted_settings bs s l (entries_accepted bs s l n o z says)).threshold_low

    go : (m : ℕ) → n ≡ m → n ≡ 0
    go zero e = e
    go (suc m) e =
        let first : 0 < n = omega arith in
        let t = whole.list.sound 0 first in
        let f = whole.frequent t.0 t.1 0 first t.2 in
        let q = whole.support t.0 t.1 0 first t.2 in
        absurd (omega (arith, one, f.2, no_crane t.0 (cranes bs) (survey bs) (entry_in 0 z).figures.support f.0 bare q))

-- A DRAWING WITHOUT CABLES MORE changes no support, so it changes no catalogue
module _ (d : Drawing) (bare : d.cables ≡ []) where
  unmarked : (p : Drawing) → Pattern p → contains p d ≡ false
  unmarked p w =
      false_unless (contains p d) (λ e. supports_none p d w.cables_low bare (embedding_from_contains p d w.simple.ends e))

  -- whatever its crane
  cranes_without :
      (p : Drawing) → Pattern p → (c : ℕ) (ks ls : List ℕ) (xs ys : List Drawing) → length ks ≡ length xs
      → marked_cranes (ks ++ (c ∷ ls)) (containing p (xs ++ (d ∷ ys))) ≡ marked_cranes (ks ++ ls) (containing p (xs ++ ys))
  unfolding containing marked_cranes
  cranes_without p w c [] ls [] ys e = rw (unmarked p w)
  cranes_without p w c [] ls (x ∷ xs) ys e = absurd (omega arith)
  cranes_without p w c (k ∷ ks) ls [] ys e = absurd (omega arith)
  cranes_without p w c (k ∷ ks) ls (x ∷ xs) ys e = go (contains p x) (cranes_without p w c ks ls xs ys (omega arith))
    where
      go : (t : Bool) → marked_cranes (ks ++ (c ∷ ls)) (containing p (xs ++ (d ∷ ys))) ≡ marked_cranes (ks ++ ls) (containing p (xs ++ ys))
          → marked_cranes (k ∷ (ks ++ (c ∷ ls))) (t ∷ containing p (xs ++ (d ∷ ys))) ≡ marked_cranes (k ∷ (ks ++ ls)) (t ∷ containing p (xs ++ ys))
      go true q = ap (λ (zs : List ℕ). k ∷ zs) q
      go false q = q

  support_without :
      (p : Drawing) → Pattern p → (c : ℕ) (ks ls : List ℕ) (xs ys : List Drawing) → length ks ≡ length xs
      → support p (ks ++ (c ∷ ls)) (xs ++ (d ∷ ys)) ≡ support p (ks ++ ls) (xs ++ ys)
  unfolding support
  support_without p w c ks ls xs ys e = ap (λ (zs : List ℕ). length (each_once zs)) (cranes_without p w c ks ls xs ys e)

  -- the drawings from it on have a number more
  marks_with : (p : Drawing) → Pattern p → (xs ys : List Drawing) → containing p (xs ++ (d ∷ ys)) ≡ containing p xs ++ (false ∷ containing p ys)
  unfolding containing
  marks_with p w xs ys =
      map_append (contains p) xs (d ∷ ys)
      ∙ ap (λ (b : Bool). map (contains p) xs ++ (b ∷ map (contains p) ys)) (unmarked p w)

  marks_size : (p : Drawing) (xs : List Drawing) → length (containing p xs) ≡ length xs
  unfolding containing
  marks_size p xs = length-map xs (contains p)

  marks_of : (p : Drawing) (xs ys : List Drawing) → containing p (xs ++ ys) ≡ containing p xs ++ containing p ys
  unfolding containing
  marks_of p xs ys = map_append (contains p) xs ys

  example_up : (p : Drawing) → Pattern p → (xs ys : List Drawing) → example p (xs ++ (d ∷ ys)) ≡ moved_up (length xs) (example p (xs ++ ys))
  unfolding example
  example_up p w xs ys =
      ap first_true (marks_with p w xs ys) ∙ first_true_up (containing p ys) (containing p xs)
      ∙ ap₂ moved_up (marks_size p xs) (ap first_true (sym (marks_of p xs ys)))

  example_down : (p : Drawing) → Pattern p → (xs ys : List Drawing) → example p (xs ++ ys) ≡ moved_down (length xs) (example p (xs ++ (d ∷ ys)))
  unfolding example
  example_down p w xs ys =
      ap first_true (marks_of p xs ys) ∙ first_true_down (containing p ys) (containing p xs)
      ∙ ap₂ moved_down (marks_size p xs) (ap first_true (sym (marks_with p w xs ys)))

-- so codes and supports stay, and examples go along with the numbers
pub lone_adds_none :
    (ks ls : List ℕ) (c : ℕ) (xs ys : List Drawing) (d : Drawing) (s l : ℕ) (gs : List Entry) → length ks ≡ length xs → d.cables ≡ []
    → (Catalogue (ks ++ (c ∷ ls)) (xs ++ (d ∷ ys)) s l gs → Catalogue (ks ++ ls) (xs ++ ys) s l (renumbered (moved_down (length xs)) gs))
    × (Catalogue (ks ++ ls) (xs ++ ys) s l gs → Catalogue (ks ++ (c ∷ ls)) (xs ++ (d ∷ ys)) s l (renumbered (moved_up (length xs)) gs))
lone_adds_none ks ls c xs ys d s l gs sized bare =
    let same : (p : Drawing) → Pattern p → support p (ks ++ (c ∷ ls)) (xs ++ (d ∷ ys)) ≡ support p (ks ++ ls) (xs ++ ys) =
    λ p w. support_without d bare p w c ks ls xs ys sized in (
      figures_told (Often (ks ++ (c ∷ ls)) (xs ++ (d ∷ ys)) s) (Often (ks ++ ls) (xs ++ ys) s) (figures_in (ks ++ (c ∷ ls)) (xs ++ (d ∷ ys)))
          (figures_in (ks ++ ls) (xs ++ ys)) _ (λ p w. ap₂ figures (sym (same p w)) (example_down d bare p w xs ys))
          (λ p w q. omega (arith, same p w)) (λ p w q. omega (arith, same p w)) l gs,
      figures_told (Often (ks ++ ls) (xs ++ ys) s) (Often (ks ++ (c ∷ ls)) (xs ++ (d ∷ ys)) s) (figures_in (ks ++ ls) (xs ++ ys))
          (figures_in (ks ++ (c ∷ ls)) (xs ++ (d ∷ ys))) _ (λ p w. ap₂ figures (same p w) (example_up d bare p w xs ys))
          (λ p w q. omega (arith, same p w)) (λ p w q. omega (arith, same p w)) l gs,
    )
