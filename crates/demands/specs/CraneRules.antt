-- The crane's byte: calls over drawings do not look at it, and a survey whose cranes all differ has the catalogue that drawings counted one by one
-- give. Rests on CraneByte, on what calls say, and on supports. Assumes nothing.
use Rattle.std.specs.Prelude.{◌≡◌, refl, cond, List, ◌⊎◌, ℕ, zero, suc, ◌*◌, ◌<◌, ltb, length, get_or, Bool, true, false, Option, Result, Ok}
use Rattle.std.proofs.Common.{sym, ◌∙◌, subst, inl, inr, arith}
use Rattle.std.proofs.Math.Path.{ap}
use Rattle.std.proofs.Math.Option as maybe
use Rattle.std.proofs.Math.ListN.{length-map}
use Rattle.laws.specs.Counting.{Different, injective_different}
use Rattle.graphs.specs.Drawing.{Drawing, devices, drawing_in, drawing_refusal}
use Rattle.graphs.specs.Graph.{Section, Pattern}
use Rattle.graphs.specs.Map.{Same, contains, least_map}
use Rattle.graphs.specs.Survey.{survey, cranes, containing, support, example}
use Rattle.graphs.specs.CraneByte.{crane_refusal_same, crane_drawing_same}
use Rattle.graphs.specs.CraneCounts.{crane_count_all}
use Rattle.graphs.specs.Isomorphisms.{same_reflexive, same_symmetric}
use Rattle.graphs.specs.LeastMap.{embedding_from_contains}
use Rattle.graphs.specs.Containment.{contains_from_same}
use Rattle.graphs.specs.AcceptedDrawing.{accepted_simple}
use Rattle.codes.specs.SectionCode.{section_records}
use Rattle.growth.specs.Catalogue.{figures, Entry, figures_of, Catalogue}
use Rattle.growth.specs.FigureLists.{figures_alike}
use Rattle.records.specs.Refusals.{first_of}
use Rattle.records.specs.RefusalLaws.{first_some, first_none}
use Rattle.coding.specs.CodeDrawing.{coding_refusal, CodeAs, CodeSays}
use Rattle.matching.specs.MatchAnswers.{match_number, MatchAs, MatchSays, SameAs, SameSays}
use Rattle.walks.specs.PreparedLaws.{as_many_cranes}
use Rattle.demands.specs.Terms.{Mapped, Contained, SheetsAlike, drawings_with, CatalogueOneByOne}
use Rattle.demands.specs.CodeWays.{same_from_mapped}
use Rattle.demands.specs.Determined.{Agree, code_determined, match_determined, same_determined}
use Rattle.records.specs.declared.refusal.Refusal.{Refusal}

-- WHAT IS REFUSED says nothing of a drawing
first_is : (n k : ℕ) → first_of (suc n) k ≡ suc n
first_is n k = first_some (suc n) k (omega arith)

first_refuses : (q n : ℕ) → (m : ℕ) × (first_of q (suc n) ≡ suc m)
first_refuses zero n = (n, first_none zero (suc n) refl)
first_refuses (suc q) n = (q, first_is q (suc n))

code_turned : (r : Result ℕ Refusal) (o z : List ℕ) (n j k : ℕ) (d e : Drawing) → CodeAs (first_of (suc n) j) d r o z → CodeAs (first_of (suc n) k) e r o z
unfolding CodeAs
code_turned r o z n j k d e h = rw (first_is n k) (rw (first_is n j) at h)

match_turned :
    (r : Result (Option ℕ) Refusal) (o z : List ℕ) (q n j k : ℕ) (f g : maybe.Option (List ℕ)) → q ≡ suc n → MatchAs (first_of q j) f r o z → MatchAs (first_of q k) g r o z
unfolding MatchAs
match_turned r o z q n j k f g e h = rw (e, first_is n k) (rw (e, first_is n j) at h)

same_turned : (t : Result Bool Refusal) (q n : ℕ) (c d e f : Drawing) → q ≡ suc n → SameAs q c d t → SameAs q e f t
unfolding SameAs
same_turned t q n c d e f is h = rw is (rw is at h)

module _ {xs ys : List ℕ} (a : SheetsAlike xs ys) where
  pub refused_alike : drawing_refusal xs ≡ drawing_refusal ys
  refused_alike = crane_refusal_same xs ys a.sized a.alike

  -- what looks at a drawing only where it is accepted says the same of both
  along :
      (F : ℕ → Drawing → Type 0) → ((n : ℕ) (d e : Drawing) → F (suc n) d → F (suc n) e) → F (drawing_refusal ys) (drawing_in ys)
      → F (drawing_refusal xs) (drawing_in xs)
  along F turned f = go (drawing_refusal xs) refl (subst (λ (n : ℕ). F n (drawing_in ys)) (sym refused_alike) f)
    where
      go : (n : ℕ) → drawing_refusal xs ≡ n → F (drawing_refusal xs) (drawing_in ys) → F (drawing_refusal xs) (drawing_in xs)
      go zero e g = subst (F (drawing_refusal xs)) (sym (crane_drawing_same xs ys a.sized a.alike e)) g
      go (suc n) e g = rw e (turned n (drawing_in ys) (drawing_in xs) (rw e at g))

  -- CODING: equal answers, equal bytes
  code_along : (r : Result ℕ Refusal) (o z : List ℕ) → CodeSays ys r o z → CodeSays xs r o z
  unfolding CodeSays coding_refusal
  code_along r o z =
      along (λ n d. CodeAs (first_of n (cond (ltb (length o) (5 * section_records d)) 15 0)) d r o z) (λ n d e. code_turned r o z n _ _ d e)

  pub code_alike : (o z w : List ℕ) (r s : Result ℕ Refusal) → CodeSays xs r o z → CodeSays ys s o w → Agree r s z w
  code_alike o z w r s x y = code_determined xs o z w r s x (code_along s o w y)

  -- MATCHING, as pattern and as drawing
  pattern_along : (ds : List ℕ) (r : Result (Option ℕ) Refusal) (o z : List ℕ) → MatchSays ys ds r o z → MatchSays xs ds r o z
  unfolding MatchSays match_number
  pattern_along ds r o z =
      along
      (λ n d.
      MatchAs (first_of (first_of n (drawing_refusal ds)) (cond (ltb (length o) (devices d)) 15 0)) (least_map d (drawing_in ds)) r o z)
      (λ n d e. match_turned r o z _ n _ _ _ _ (first_is n (drawing_refusal ds)))

  drawing_along : (ps : List ℕ) (r : Result (Option ℕ) Refusal) (o z : List ℕ) → MatchSays ps ys r o z → MatchSays ps xs r o z
  unfolding MatchSays match_number
  drawing_along ps r o z =
      along
      (λ n d.
      MatchAs (first_of (first_of (drawing_refusal ps) n) (cond (ltb (length o) (devices (drawing_in ps))) 15 0)) (least_map (drawing_in ps) d)
      r o z)
      (λ n d e. let m = first_refuses (drawing_refusal ps) n in match_turned r o z _ m.0 _ _ _ _ m.1)

  pub pattern_alike : (ds o z w : List ℕ) (r s : Result (Option ℕ) Refusal) → MatchSays xs ds r o z → MatchSays ys ds s o w → Agree r s z w
  pattern_alike ds o z w r s x y = match_determined xs ds o z w r s x (pattern_along ds s o w y)

  pub drawing_alike : (ps o z w : List ℕ) (r s : Result (Option ℕ) Refusal) → MatchSays ps xs r o z → MatchSays ps ys s o w → Agree r s z w
  drawing_alike ps o z w r s x y = match_determined ps xs o z w r s x (drawing_along ps s o w y)

  -- SAMENESS, whichever stands first; and they are the same
  first_along : (ds : List ℕ) (t : Result Bool Refusal) → SameSays ys ds t → SameSays xs ds t
  unfolding SameSays
  first_along ds t =
      along (λ n d. SameAs (first_of n (drawing_refusal ds)) d (drawing_in ds) t)
      (λ n d e. same_turned t _ n _ _ _ _ (first_is n (drawing_refusal ds)))

  second_along : (ds : List ℕ) (t : Result Bool Refusal) → SameSays ds ys t → SameSays ds xs t
  unfolding SameSays
  second_along ds t =
      along (λ n d. SameAs (first_of (drawing_refusal ds) n) (drawing_in ds) d t)
      (λ n d e. let m = first_refuses (drawing_refusal ds) n in same_turned t _ m.0 _ _ _ _ m.1)

  pub first_alike : (ds : List ℕ) (t u : Result Bool Refusal) → SameSays xs ds t → SameSays ys ds u → t ≡ u
  first_alike ds t u x y = same_determined xs ds t u x (first_along ds u y)

  pub second_alike : (ds : List ℕ) (t u : Result Bool Refusal) → SameSays ds xs t → SameSays ds ys u → t ≡ u
  second_alike ds t u x y = same_determined ds xs t u x (second_along ds u y)

  pub sheets_same : (t : Result Bool Refusal) → drawing_refusal xs ≡ 0 → SameSays xs ys t → t ≡ Ok true
  unfolding SameSays SameAs
  sheets_same t e says =
      told (subst (λ (n : ℕ). SameAs n (drawing_in xs) (drawing_in xs) t) (first_none _ _ e ∙ e) (second_along xs t says))
    where
      told : ((t ≡ Ok true) × Same (drawing_in xs) (drawing_in xs)) ⊎ ((t ≡ Ok false) × (Same (drawing_in xs) (drawing_in xs) → ⊥))
          → t ≡ Ok true
      told (inl h) = h.0
      told (inr h) = absurd (h.1 (same_reflexive (drawing_in xs) (accepted_simple xs e).ends))

-- OLD SURVEYS, drawing d as crane d, keep their catalogues
module _ (bs : List ℕ) (numbered : (d : ℕ) → d < length (survey bs) → get_or (cranes bs) d 256 ≡ d) where
  cranes_different : Different (cranes bs)
  cranes_different =
      injective_different (cranes bs)
      (λ i j h g e.
      omega (arith, numbered i (omega (arith, as_many_cranes bs)), numbered j (omega (arith, as_many_cranes bs)), e))

  same_figures : (p : Drawing) → Pattern p → figures_of bs p ≡ drawings_with (survey bs) p
  unfolding support containing
  same_figures p w =
      ap (λ (n : ℕ). figures n (example p (survey bs)))
      (crane_count_all (cranes bs) (containing p (survey bs)) cranes_different
      (omega (arith, as_many_cranes bs, length-map (survey bs) (contains p))))

  pub catalogue_kept : (s l : ℕ) (es : List Entry) → Catalogue (cranes bs) (survey bs) s l es → CatalogueOneByOne (survey bs) s l es
  catalogue_kept s l es = figures_alike (figures_of bs) (drawings_with (survey bs)) s l es same_figures

  pub kept_catalogue : (s l : ℕ) (es : List Entry) → CatalogueOneByOne (survey bs) s l es → Catalogue (cranes bs) (survey bs) s l es
  kept_catalogue s l es = figures_alike (drawings_with (survey bs)) (figures_of bs) s l es (λ p w. sym (same_figures p w))

-- A MAP both ways contains each in the other
pub mapped_contained : (p q : Drawing) → Section p → Section q → Mapped p q → Contained p q × Contained q p
mapped_contained p q a b m =
    let x = a.simple.ends in
    let y = b.simple.ends in
    let s = same_from_mapped p q x y m in (
      embedding_from_contains p q x (contains_from_same p q x y s),
      embedding_from_contains q p y (contains_from_same q p y x (same_symmetric p q x y s)),
    )
