-- A search for the least code that keeps the best code so far: what it has done below one branch, and how branches and
-- ties add up. Rests on Runs. Assumes nothing.
use Rattle.std.specs.Prelude.{◌≡◌, refl, Bool, true, List, [], ◌∷◌, ◌++◌, ◌⊎◌, ℕ, ◌+◌, ◌≤◌, length}
use Rattle.std.proofs.Common.{sym, ap, ◌∙◌, subst, append_assoc, append-nil, inl, inr, arith, length-append}
use Rattle.laws.specs.Lists.{snoc, nil_of_length}
use Rattle.graphs.specs.Drawing.{Drawing, devices}
use Rattle.graphs.specs.Embedding.{EndsInRange}
use Rattle.codes.specs.Code.{Rec, fresh, read_rows, rec_before_by, before_by}
use Rattle.codes.specs.CodeOrder.{LabelOrder, before_strict, difference_decides, same_first}
use Rattle.codes.specs.Extension.{Local, next}
use Rattle.codes.specs.Greedy.{Fits}
use Rattle.codes.specs.Branch.{Node, node_fits, node_next}
use Rattle.codes.specs.Runs.{
  LeastLocal,
  LeastRun,
  least_run_done,
  least_run_cut,
  least_run_step,
  least_run_lower,
}

-- behind equal beginnings the rest decides
pub same_prefix : (labels : Rec → Rec → Bool) (ps xs ys : List Rec) → before_by labels (ps ++ xs) (ps ++ ys) ≡ before_by labels xs ys
same_prefix labels [] xs ys = refl
same_prefix labels (p ∷ ps) xs ys = same_first labels p (ps ++ xs) (ps ++ ys) ∙ same_prefix labels ps xs ys

same_rest : (ps xs ys : List Rec) → ps ++ xs ≡ ps ++ ys → xs ≡ ys
same_rest [] xs ys e = e
same_rest (p ∷ ps) xs ys e = same_rest ps xs ys (cc)

module _ (labels : Rec → Rec → Bool) (o : LabelOrder labels) (d : Drawing) where
  -- a code that lists every cable
  abbrev pub Full : List Rec → Type 0
  Full rs = length rs ≡ length d.cables

  -- not after another
  abbrev pub AtMost : (lower upper : List Rec) → Type 0
  AtMost xs ys = (xs ≡ ys) ⊎ (before_by labels xs ys ≡ true)

  at_most_trans : (xs ys zs : List Rec) → AtMost xs ys → AtMost ys zs → AtMost xs zs
  at_most_trans xs ys zs (inl p) (inl q) = inl (p ∙ q)
  at_most_trans xs ys zs (inl p) (inr q) = inr (rw p q)
  at_most_trans xs ys zs (inr p) (inl q) = inr (rw q at p)
  at_most_trans xs ys zs (inr p) (inr q) = inr ((before_strict labels o).trans xs ys zs p q)

  pub at_most_rest : (ps xs ys : List Rec) → AtMost (ps ++ xs) (ps ++ ys) → AtMost xs ys
  at_most_rest ps xs ys (inl p) = inl (same_rest ps xs ys p)
  at_most_rest ps xs ys (inr p) = inr (sym (same_prefix labels ps xs ys) ∙ p)

  -- THE BEST SO FAR begins with the rows of the branch: those rows alone, or a whole code that fits
  pub record Best (γ best : List Rec) : Type 0 where
    pub rest : List Rec
    pub is : best ≡ γ ++ rest
    pub whole : (best ≡ γ) ⊎ (Full best × Fits d best)

  -- WHAT A SEARCH BELOW f HAS DONE: a whole code that fits, not after the best before it, and not after any run from f
  pub record Searched (γ : List Rec) (f : List ℕ) (best after : List Rec) : Type 0 where
    pub rest : List Rec
    pub is : after ≡ γ ++ rest
    pub full : Full after
    pub fits : Fits d after
    pub least : LeastRun labels o d γ f rest
    pub at_most : Full best → AtMost after best

  -- at the end of a branch there is nothing to do
  pub searched_done : (γ : List Rec) (f : List ℕ) (best : List Rec) → Node d γ f → Full γ → Best γ best → Searched γ f best best
  searched_done γ f best n h b =
      record {
        rest = [];
        is = is ∙ sym (append-nil γ);
        full = ap length is ∙ h;
        fits = subst (Fits d) (sym is) (node_fits d γ f n);
        least = least_run_done labels o d γ f;
        at_most = λ z. inl refl;
      }
    where
      short : Full best → b.rest ≡ []
      short z = nil_of_length b.rest (omega (arith, ap length b.is, length-append γ b.rest))

      go : (best ≡ γ) ⊎ (Full best × Fits d best) → best ≡ γ
      go (inl e) = e
      go (inr z) = b.is ∙ ap (λ (l : List Rec). γ ++ l) (short z.0) ∙ append-nil γ

      is : best ≡ γ
      is = go b.whole

  -- the best is ahead already
  pub searched_cut :
      (γ : List Rec) (f : List ℕ) (c : Rec) (rest : List Rec) → ((l : Rec) → Local d (read_rows fresh γ) f l → rec_before_by labels c l ≡ true)
      → Full (γ ++ c ∷ rest) → Fits d (γ ++ c ∷ rest) → Searched γ f (γ ++ c ∷ rest) (γ ++ c ∷ rest)
  searched_cut γ f c rest later h t =
      record { rest = c ∷ rest; is = refl; full = h; fits = t; least = least_run_cut labels o d γ f c rest later; at_most = λ q. inl refl }

  -- TIES, one after another: all numberings that came so far are searched
  pub record Ties (γ : List Rec) (first now : List Rec) (Done : List ℕ → Type 0) : Type 0 where
    pub best : Best γ now
    pub at_most : Full first → Full now × AtMost now first
    pub full : (g : List ℕ) → Done g → Full now
    pub least : (g : List ℕ) → Done g → LeastRun labels o d γ g best.rest

  pub ties_none : (γ first : List Rec) → Best γ first → Ties γ first first (λ g. ⊥)
  ties_none γ first b = record { best = b; at_most = λ h. (h, inl refl); full = λ g z. absurd z; least = λ g z. absurd z }

  pub ties_more :
      (γ first now after : List Rec) (Done More : List ℕ → Type 0) (f : List ℕ) → Ties γ first now Done → Searched γ f now after
      → ((g : List ℕ) → More g → Done g ⊎ (g ≡ f)) → Ties γ first after More
  ties_more γ first now after Done More f t s split =
      record {
        best = record { rest = s.rest; is = s.is; whole = inr (s.full, s.fits) };
        at_most = λ h. let z = t.at_most h in (s.full, at_most_trans after now first (s.at_most z.0) z.1);
        full = λ g h. s.full;
        least = λ g h. each g (split g h);
      }
    where
      same_size : (xs ys : List Rec) → after ≡ γ ++ xs → now ≡ γ ++ ys → Full now → length xs ≡ length ys
      same_size xs ys p q h = omega (arith, s.full, ap length p, ap length q, length-append γ xs, length-append γ ys)

      lower : Full now → AtMost s.rest t.best.rest
      lower h = at_most_rest γ s.rest t.best.rest (rw (← s.is, ← t.best.is) (s.at_most h))

      each : (g : List ℕ) → Done g ⊎ (g ≡ f) → LeastRun labels o d γ g s.rest
      each g (inl z) =
          let h = t.full g z in
          least_run_lower labels o d γ g t.best.rest s.rest (t.least g z)
          (same_size s.rest t.best.rest s.is t.best.is h) (lower h)
      each g (inr z) = rw z s.least

  -- HOW THE NEXT RECORD e MEETS THE BEST: there is no next record yet; it is the same; or it comes after e and is given up
  pub data Chosen (γ : List Rec) (e : Rec) (best : List Rec) : (first : List Rec) → Type 0 where
    begun : best ≡ γ → Chosen γ e best (snoc γ e)
    kept : (rest : List Rec) → best ≡ γ ++ e ∷ rest → Chosen γ e best best
    lowered : (c : Rec) (rest : List Rec) → best ≡ γ ++ c ∷ rest → rec_before_by labels e c ≡ true → Chosen γ e best (snoc γ e)

  -- the best that the ties begin with
  pub chosen_best : (γ : List Rec) (e : Rec) (best first : List Rec) → Best γ best → Chosen γ e best first → Best (snoc γ e) first
  chosen_best γ e best first b (begun z) = record { rest = []; is = sym (append-nil (snoc γ e)); whole = inl refl }
  chosen_best γ e best first b (lowered c rest z q) = record { rest = []; is = sym (append-nil (snoc γ e)); whole = inl refl }
  chosen_best γ e best first b (kept rest z) =
      record { rest = rest; is = z ∙ sym (append_assoc γ (e ∷ []) rest); whole = go b.whole }
    where
      go : (best ≡ γ) ⊎ (Full best × Fits d best) → (best ≡ snoc γ e) ⊎ (Full best × Fits d best)
      go (inl y) = absurd (omega (arith, ap length y, ap length z, length-append γ (e ∷ rest)))
      go (inr y) = inr y

  chosen_at_most :
      (γ : List Rec) (e : Rec) (best first after rest : List Rec) → Chosen γ e best first → after ≡ γ ++ e ∷ rest → Full after
      → (Full first → AtMost after first) → Full best → AtMost after best
  chosen_at_most γ e best first after rest (begun z) is h t y =
      absurd (omega (arith, ap length z, ap length is, length-append γ (e ∷ rest)))
  chosen_at_most γ e best first after rest (kept old z) is h t y = t y
  chosen_at_most γ e best first after rest (lowered c old z q) is h t y = inr (rw (is, z) (difference_decides labels o γ e c rest old q))

  -- ALL TIES of the least record searched, the branch is
  pub searched_step :
      devices d ≤ 10 → EndsInRange d → (γ : List Rec) (f : List ℕ) (e : Rec) (best first after : List Rec) (Done : List ℕ → Type 0) → Node d γ f
      → LeastLocal labels o d (read_rows fresh γ) f e → Local d (read_rows fresh γ) f e → Chosen γ e best first → Ties (snoc γ e) first after Done
      → ((h : Local d (read_rows fresh γ) f e) → Done (next h)) → Searched γ f best after
  searched_step ten ends γ f e best first after Done n least h c t all =
      record {
        rest = e ∷ t.best.rest;
        is = is;
        full = full;
        fits = fits t.best.whole;
        least = least_run_step labels o d γ f e t.best.rest least (λ g. t.least (next g) (all g));
        at_most = chosen_at_most γ e best first after t.best.rest c is full (λ z. (t.at_most z).1);
      }
    where
      is : after ≡ γ ++ e ∷ t.best.rest
      is = t.best.is ∙ append_assoc γ (e ∷ []) t.best.rest

      full : Full after
      full = t.full (next h) (all h)

      fits : (after ≡ snoc γ e) ⊎ (Full after × Fits d after) → Fits d after
      fits (inl z) = subst (Fits d) (sym z) (node_fits d (snoc γ e) (next h) (node_next d ten ends γ f e n h))
      fits (inr z) = z.1
