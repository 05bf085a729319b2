-- Frequent least codes: what a catalogue lists. They are a closed family, and each of their records comes from a cable of some drawing. Rests
-- on FamilyLaws and on support. Assumes nothing.
use Rattle.std.specs.Prelude.{◌≡◌, refl, Bool, true, false, List, [], ◌∷◌, ◌++◌, map, ◌⊎◌, ℕ, zero, suc, ◌≤◌, get_or}
use Rattle.std.proofs.Common.{ap₂, inl, inr, arith}
use Rattle.std.proofs.lemmas.Bool.{false≢true}
use Rattle.std.proofs.Math.Decide.{dec_le}
use Rattle.laws.specs.Lists.{Mem, snoc, concat, mem_concat, mem_map}
use Rattle.graphs.specs.Drawing.{Drawing}
use Rattle.graphs.specs.Map.{contains}
use Rattle.graphs.specs.Survey.{survey, cranes, containing, support}
use Rattle.graphs.specs.CraneCounts.{crane_count_some}
use Rattle.graphs.specs.Containment.{support_falls, same_support, same_example}
use Rattle.codes.specs.Code.{Rec, fresh, rows_refusal, decoded}
use Rattle.codes.specs.CodeOrder.{LabelOrder}
use Rattle.codes.specs.ReadRows.{good_from_test}
use Rattle.codes.specs.Greedy.{Fits}
use Rattle.codes.specs.LeastExtension.{candidates, fits_candidate}
use Rattle.growth.specs.Catalogue.{figures, Often, figures_in}
use Rattle.growth.specs.Family.{Listable, Closed, Decidable, Family, KeptByMaps}
use Rattle.growth.specs.FamilyLaws.{contained_fits, listable_prefix, decide_listable}

-- what has support some drawing contains
pub some_containing : (p : Drawing) (cr : List ℕ) (ds : List Drawing) → 1 ≤ support p cr ds → (d : Drawing) × Mem d ds × (contains p d ≡ true)
unfolding support containing
some_containing p cr ds h = let t = crane_count_some cr (containing p ds) h in marked ds t.0 t.2
  where
    marked : (ds : List Drawing) (i : ℕ) → get_or (containing p ds) i false ≡ true → (d : Drawing) × Mem d ds × (contains p d ≡ true)
    marked [] i e = absurd (false≢true e)
    marked (d ∷ ds) zero e = (d, Mem.here refl, e)
    marked (d ∷ ds) (suc i) e = let t = marked ds i e in (t.0, Mem.there t.1, t.2)

-- WHAT A CATALOGUE LISTS
abbrev pub Frequent : (labels : Rec → Rec → Bool) (cr : List ℕ) (ds : List Drawing) (s : ℕ) → List Rec → Type 0
Frequent labels cr ds s = Listable labels (Often cr ds s)

abbrev pub FrequentIn : (labels : Rec → Rec → Bool) (bytes : List ℕ) (s : ℕ) → List Rec → Type 0
FrequentIn labels bs = Frequent labels (cranes bs) (survey bs)

-- it is a closed family, support and example do not look at the devices' numbers, and what is frequent can be decided
pub often_closed : (cr : List ℕ) (ds : List Drawing) (s : ℕ) → Closed (Often cr ds s)
often_closed cr ds s p q a b h often = omega (arith, often, support_falls p q a.simple.ends b.simple.ends h cr ds)

pub figures_kept : (cr : List ℕ) (ds : List Drawing) → KeptByMaps (figures_in cr ds)
figures_kept cr ds p q a b s = ap₂ figures (same_support p q a b s cr ds) (same_example p q a b s ds)

pub often_decided : (cr : List ℕ) (ds : List Drawing) (s : ℕ) → Decidable (Often cr ds s)
often_decided cr ds s p = go (dec_le s (support p cr ds))
  where
    go : Dec (s ≤ support p cr ds) → (s ≤ support p cr ds) ⊎ (s ≤ support p cr ds → ⊥)
    go (yes q) = inl q
    go (no q) = inr q

module _ (labels : Rec → Rec → Bool) (o : LabelOrder labels) (cr : List ℕ) (ds : List Drawing) (s : ℕ) where
  pub frequent_prefix : (γ : List Rec) (e : Rec) (rest : List Rec) → Frequent labels cr ds s (γ ++ e ∷ rest) → Frequent labels cr ds s (snoc γ e)
  frequent_prefix = listable_prefix labels o (Often cr ds s) (often_closed cr ds s)

  pub decide_frequent : (rs : List Rec) → Frequent labels cr ds s rs ⊎ (Frequent labels cr ds s rs → ⊥)
  decide_frequent = decide_listable labels o (Often cr ds s) (often_decided cr ds s)

  -- EVERY RECORD of what is frequent comes from a cable of some drawing
  pub survey_candidates : List Rec
  survey_candidates = concat (map candidates ds)

  pub frequent_candidate : 1 ≤ s → (γ : List Rec) (e : Rec) (rest : List Rec) → Frequent labels cr ds s (γ ++ e ∷ rest) → Mem e survey_candidates
  unfolding survey_candidates
  frequent_candidate one γ e rest f = go (frequent_prefix γ e rest f)
    where
      from : (d : Drawing) → Mem d ds → Fits d (snoc γ e) → Mem e (concat (map candidates ds))
      from d m t = mem_concat (map candidates ds) (mem_map candidates m) (fits_candidate d γ e t)

      accepted : Frequent labels cr ds s (snoc γ e) → rows_refusal fresh (snoc γ e) ≡ 0
      accepted f = (good_from_test (snoc γ e) f.least.code.good).accepted

      fits : (γ : List Rec) (d : Drawing) → rows_refusal fresh (snoc γ e) ≡ 0 → contains (decoded (snoc γ e)) d ≡ true → Fits d (snoc γ e)
      fits [] d ok c = contained_fits d e [] ok c
      fits (r ∷ rs) d ok c = contained_fits d r (snoc rs e) ok c

      go : Frequent labels cr ds s (snoc γ e) → Mem e (concat (map candidates ds))
      go f =
          let c = some_containing (decoded (snoc γ e)) cr ds (omega (arith, f.wanted)) in
          from c.0 c.1 (fits γ c.0 (accepted f) c.2)

  -- so frequent patterns can be listed
  pub often_family : 1 ≤ s → Family labels (Often cr ds s)
  often_family one =
      record {
        closed = often_closed cr ds s;
        decided = often_decided cr ds s;
        next = λ γ. survey_candidates;
        all = λ γ e rest. frequent_candidate one γ e rest;
      }
