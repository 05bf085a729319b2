-- Growing codes record by record: whatever is to be listed, as long as prefixes of it are too, a walk through rising next
-- records lists it, rising, each once. Rests on the order of codes. Assumes nothing.
use Rattle.std.specs.Prelude.{◌≡◌, refl, Bool, true, List, [], ◌∷◌, ◌++◌, ◌⊎◌, ℕ, zero, suc, ◌+◌, ◌-◌, ◌≤◌, length}
use Rattle.std.proofs.Common.{sym, ap, ◌∙◌, subst, append_assoc, inl, inr, arith, length-append}
use Rattle.laws.specs.Lists.{Mem, snoc, snoc_length, mem_front, mem_back, mem_cases}
use Rattle.laws.specs.Rising.{
  Rises,
  rises_nil,
  rises_cons,
  rises_append,
  rises_tail,
  rises_head,
  sorted,
  sorted_rises,
  sorted_has,
}
use Rattle.codes.specs.Code.{Rec, rec_before_by, before_by}
use Rattle.codes.specs.CodeOrder.{LabelOrder, rec_before_strict, prefix_comes_before, difference_decides}

module _ (labels : Rec → Rec → Bool) (o : LabelOrder labels) (good : List Rec → Type 0) (l : ℕ) where
  -- c goes on from γ by e and more
  pub record GoesOnFrom (γ c : List Rec) : Type 0 where
    pub e : Rec
    pub more : List Rec
    pub is : c ≡ γ ++ e ∷ more

  -- ALL THAT IS GOOD, of at most l records, and goes on from γ
  pub record Listed (γ : List Rec) (cs : List (List Rec)) : Type 0 where
    pub rise : Rises (before_by labels) cs
    pub sound : (c : List Rec) → Mem c cs → good c × (length c ≤ l) × GoesOnFrom γ c
    pub whole : (e : Rec) (more : List Rec) → good (γ ++ e ∷ more) → length (γ ++ e ∷ more) ≤ l → Mem (γ ++ e ∷ more) cs

  -- the same, of what goes on by one of es
  pub record ListedBy (γ : List Rec) (es : List Rec) (cs : List (List Rec)) : Type 0 where
    pub rise : Rises (before_by labels) cs
    pub sound : (c : List Rec) → Mem c cs → good c × (length c ≤ l) × ((g : GoesOnFrom γ c) × Mem g.e es)
    pub whole : (e : Rec) (more : List Rec) → Mem e es → good (γ ++ e ∷ more) → length (γ ++ e ∷ more) ≤ l → Mem (γ ++ e ∷ more) cs

  -- a code of l records does not go on
  pub listed_leaf : (γ : List Rec) → l ≤ length γ → Listed γ []
  listed_leaf γ h =
      record {
        rise = rises_nil (before_by labels);
        sound = λ c m. elim m [ ];
        whole = λ e more g n. absurd (omega (arith, length-append γ (e ∷ more)));
      }

  -- with no next record left there is nothing more
  pub listed_none : (γ : List Rec) → ListedBy γ [] []
  listed_none γ = record { rise = rises_nil (before_by labels); sound = λ c m. elim m [ ]; whole = λ e more m. elim m [ ] }

  -- es holds every next record that matters
  pub listed_all : (γ es : List Rec) (cs : List (List Rec)) → ((e : Rec) (more : List Rec) → good (γ ++ e ∷ more) → Mem e es)
      → ListedBy γ es cs → Listed γ cs
  listed_all γ es cs all t =
      record {
        rise = t.rise;
        sound = λ c m. let s = t.sound c m in (s.0, s.1, s.2.0);
        whole = λ e more g n. t.whole e more (all e more g) g n;
      }

  module _ (prefix : (γ : List Rec) (e : Rec) (more : List Rec) → good (γ ++ e ∷ more) → good (snoc γ e)) where
    -- a next record that gives nothing good is passed over
    pub listed_skip :
        (γ : List Rec) (e : Rec) (es : List Rec) (cs : List (List Rec)) → (good (snoc γ e) → ⊥) → ListedBy γ es cs → ListedBy γ (e ∷ es) cs
    listed_skip γ e es cs bad t =
        record {
          rise = t.rise;
          sound = λ c m. let s = t.sound c m in (s.0, s.1, (s.2.0, Mem.there s.2.1));
          whole = whole;
        }
      where
        whole : (x : Rec) (more : List Rec) → Mem x (e ∷ es) → good (γ ++ x ∷ more) → length (γ ++ x ∷ more) ≤ l → Mem (γ ++ x ∷ more) cs
        whole x more (Mem.here q) g n = absurd (bad (rw q (prefix γ x more g)))
        whole x more (Mem.there m) g n = t.whole x more m g n

    -- a good one is listed, then what goes on from it, then the later ones
    pub listed_take :
        (γ : List Rec) (e : Rec) (es : List Rec) (cs ds : List (List Rec)) → good (snoc γ e) → length (snoc γ e) ≤ l
        → ((x : Rec) → Mem x es → rec_before_by labels e x ≡ true) → Listed (snoc γ e) cs → ListedBy γ es ds → ListedBy γ (e ∷ es)
        ((snoc γ e ∷ cs) ++ ds)
    listed_take γ e es cs ds g n later t u = record { rise = rise; sound = sound; whole = whole }
      where
        under : (c : List Rec) → GoesOnFrom (snoc γ e) c → (more : List Rec) × (c ≡ γ ++ e ∷ more)
        under c h = (h.e ∷ h.more, h.is ∙ append_assoc γ (e ∷ []) (h.e ∷ h.more))

        at : (c : List Rec) → Mem c (snoc γ e ∷ cs) → (more : List Rec) × (c ≡ γ ++ e ∷ more)
        at c (Mem.here q) = ([], sym q)
        at c (Mem.there m) = under c (t.sound c m).2

        first : (c : List Rec) → Mem c cs → before_by labels (snoc γ e) c ≡ true
        first c m = let h = (t.sound c m).2 in rw h.is (prefix_comes_before labels o (snoc γ e) h.e h.more)

        apart : (x y : List Rec) → Mem x (snoc γ e ∷ cs) → Mem y ds → before_by labels x y ≡ true
        apart x y p q =
            let a = at x p in
            let b = (u.sound y q).2 in
            rw (a.1, b.0.is) (difference_decides labels o γ e b.0.e a.0 b.0.more (later b.0.e b.1))

        rise : Rises (before_by labels) ((snoc γ e ∷ cs) ++ ds)
        rise = rises_append (before_by labels) (snoc γ e ∷ cs) ds (rises_cons (before_by labels) (snoc γ e) cs first t.rise) u.rise apart

        sound : (c : List Rec) → Mem c ((snoc γ e ∷ cs) ++ ds) → good c × (length c ≤ l) × ((h : GoesOnFrom γ c) × Mem h.e (e ∷ es))
        sound c m = go (mem_cases (snoc γ e ∷ cs) m)
          where
            go : Mem c (snoc γ e ∷ cs) ⊎ Mem c ds → good c × (length c ≤ l) × ((h : GoesOnFrom γ c) × Mem h.e (e ∷ es))
            go (inl (Mem.here q)) = (subst good q g, rw (← q) n, (record { e = e; more = []; is = sym q }, Mem.here refl))
            go (inl (Mem.there q)) =
                let s = t.sound c q in
                let w = under c s.2 in
                (s.0, s.1, (record { e = e; more = w.0; is = w.1 }, Mem.here refl))
            go (inr q) = let s = u.sound c q in (s.0, s.1, (s.2.0, Mem.there s.2.1))

        below : (y : Rec) (more : List Rec) → good (γ ++ e ∷ y ∷ more) → length (γ ++ e ∷ y ∷ more) ≤ l → Mem (γ ++ e ∷ y ∷ more) cs
        below y more h k = rw append_assoc at (t.whole y more (rw append_assoc h) (rw append_assoc k))

        whole :
            (x : Rec) (more : List Rec) → Mem x (e ∷ es) → good (γ ++ x ∷ more) → length (γ ++ x ∷ more) ≤ l
            → Mem (γ ++ x ∷ more) ((snoc γ e ∷ cs) ++ ds)
        whole x more (Mem.there m) h k = mem_back (snoc γ e ∷ cs) (u.whole x more m h k)
        whole x [] (Mem.here q) h k = mem_front ds (Mem.here {xs = cs} (ap (snoc γ) q))
        whole x (y ∷ more) (Mem.here q) h k =
            mem_front ds
            (Mem.there {xs = cs}
            (subst (λ (z : Rec). Mem (γ ++ z ∷ y ∷ more) cs) q
            (below y more (subst (λ (z : Rec). good (γ ++ z ∷ y ∷ more)) (sym q) h) (subst (λ (z : Rec). length (γ ++ z ∷ y ∷ more) ≤ l) (sym q) k))))

    -- THERE IS SUCH A LIST, if what is good can be decided and some list holds every next record that matters
    module _ (decide : (c : List Rec) → good c ⊎ (good c → ⊥)) (candidates : List Rec → List Rec)
        (all : (γ : List Rec) (e : Rec) (more : List Rec) → good (γ ++ e ∷ more) → Mem e (candidates γ)) where
      pub listed_siblings :
          (γ : List Rec) → suc (length γ) ≤ l → ((e : Rec) → (cs : List (List Rec)) × Listed (snoc γ e) cs) → (es : List Rec)
          → Rises (rec_before_by labels) es → (cs : List (List Rec)) × ListedBy γ es cs
      listed_siblings γ n below [] r = ([], listed_none γ)
      listed_siblings γ n below (e ∷ es) r = go (decide (snoc γ e)) (listed_siblings γ n below es (rises_tail (rec_before_by labels) e es r))
        where
          go : good (snoc γ e) ⊎ (good (snoc γ e) → ⊥) → (cs : List (List Rec)) × ListedBy γ es cs → (cs : List (List Rec)) × ListedBy γ (e ∷ es) cs
          go (inl g) (ds, u) =
              let t = below e in (
                (snoc γ e ∷ t.0) ++ ds,
                listed_take γ e es t.0 ds g (rw snoc_length n) (rises_head (rec_before_by labels) e es r) t.1 u,
              )
          go (inr b) (ds, u) = (ds, listed_skip γ e es ds b u)

      pub listed_there : (n : ℕ) (γ : List Rec) → length γ + n ≡ l → (cs : List (List Rec)) × Listed γ cs
      listed_there zero γ h = ([], listed_leaf γ (omega arith))
      listed_there (suc n) γ h =
          let es = sorted (rec_before_by labels) (candidates γ) in
          let r = sorted_rises (rec_before_by labels) (rec_before_strict labels o) (candidates γ) in
          let t = listed_siblings γ (omega arith) (λ e. listed_there n (snoc γ e) (rw snoc_length (omega arith))) es r in (
            t.0,
            listed_all γ es t.0
                (λ e more g. sorted_has (rec_before_by labels) (rec_before_strict labels o) e (candidates γ) (all γ e more g)) t.1,
          )
