-- A branch against the next record of an accepted code: what is seen before it, that nothing is, and the ways on. Rests on
-- BetterLaws and the laws of branches. Assumes nothing.
use Rattle.std.specs.Prelude.{◌≡◌, refl, Bool, true, false, List, ◌∷◌, ◌++◌, ◌⊎◌, ℕ, ◌-◌, ◌/◌, ◌%◌, ◌≤◌, ◌<◌, get_or, Some}
use Rattle.std.proofs.Common.{sym, ap, ◌∙◌, arith}
use Rattle.std.proofs.Math.Path.{subst}
use Rattle.std.proofs.Math.Logic.{inl, inr}
use Rattle.std.proofs.Math.Decide.{dec_lt}
use borrow.Author.Tests.{lt-ltb, le-ltb, eq-eqb}
use Rattle.laws.specs.Tests.{true_and_false}
use Rattle.laws.specs.Lists.{snoc}
use Rattle.graphs.specs.Drawing.{Drawing}
use Rattle.codes.specs.Code.{
  Rec,
  Reading,
  fresh,
  forward,
  kinds_before,
  rec_before_by,
  rec_before,
  rows_refusal,
  read_rows,
}
use Rattle.codes.specs.CodeOrder.{rec_eq, rec_same_test, backward_before_forward}
use Rattle.codes.specs.Step.{Step, steps_back, steps_forward}
use Rattle.codes.specs.ReadRows.{step_from_test, rows_cons, rows_divided}
use Rattle.codes.specs.Extension.{Local, next}
use Rattle.codes.specs.Better.{SeesBefore, Better}
use Rattle.codes.specs.BranchState.{
  label_of,
  State,
  numbering,
  OpenPlace,
  chord_label,
  edge_label,
  Free,
  ChordFound,
  NoChord,
  chord_of,
  edge_of,
  with_chord,
  with_edge,
  Represents,
}
use Rattle.codes.specs.BranchBounds.{Bounds, represents_bounds, path_end_is, on_path_place}
use Rattle.codes.specs.Descending.{PathPlace}
use Rattle.codes.specs.LabelLaws.{
  label_parts,
  label_whole,
  backward_not_lower,
  forward_not_first,
  forward_not_deeper,
  forward_same_ends,
  kinds_not_before,
}
use Rattle.codes.specs.BranchLaws.{
  OpenAt,
  Sighted,
  sees_chord,
  sees_edge,
  backward_open,
  chord_local,
  edge_local,
  edge_room,
  local_sighted,
}
use Rattle.codes.specs.BranchLeast.{edge_ties}
use Rattle.codes.specs.BranchSteps.{numbering_with_edge, represents_edge}
use Rattle.branches.specs.declared.extension.Extension.TheVariants.{Chord}
use Rattle.std.specs.declared.cmp.Ordering.TheVariants.{Equal}
use Rattle.code_records.specs.Records.{order_of}
use Rattle.branches.specs.Ways.{chord_with}
use Rattle.least_seen.specs.Betters.{step_order}
use Rattle.least_seen.specs.BetterLaws.{Sees, next_kind, way_represents, way_better, ways_none}

-- THE ORDER OF RECORDS, where it says yes, or leaves it to the labels
module _ (labels : Rec → Rec → Bool) (e r : Rec) where
  pub backward_lower : e.j < e.i → r.j < r.i → e.j < r.j → rec_before_by labels e r ≡ true
  unfolding rec_before_by forward
  backward_lower p q h = rw (le-ltb e.i e.j (omega arith), le-ltb r.i r.j (omega arith), lt-ltb e.j r.j h)

  pub backward_same_ends : e.j < e.i → e.i ≡ r.i → e.j ≡ r.j → rec_before_by labels e r ≡ labels e r
  unfolding rec_before_by forward
  backward_same_ends p i j =
      rw (
        le-ltb e.i e.j (omega arith),
        le-ltb r.i r.j (omega arith),
        le-ltb e.j r.j (omega arith),
        eq-eqb e.j r.j j,
        le-ltb e.i r.i (omega arith),
        eq-eqb e.i r.i i,
      )

  pub forward_deeper : e.i < e.j → r.i < r.j → r.i < e.i → rec_before_by labels e r ≡ true
  unfolding rec_before_by forward
  forward_deeper p q h = rw (lt-ltb e.i e.j p, lt-ltb r.i r.j q, lt-ltb r.i e.i h)

pub kinds_lower :
    (e r : Rec) → e.ki ≡ r.ki → (e.c < r.c) ⊎ ((e.c ≡ r.c) × (e.kj < r.kj)) → kinds_before e r ≡ true
unfolding kinds_before
kinds_lower e r k (inl h) = rw (le-ltb e.ki r.ki (omega arith), eq-eqb e.ki r.ki k, lt-ltb e.c r.c h)
kinds_lower e r k (inr h) =
    rw (
      le-ltb e.ki r.ki (omega arith),
      eq-eqb e.ki r.ki k,
      le-ltb e.c r.c (omega (arith, h.0)),
      eq-eqb e.c r.c h.0,
      lt-ltb e.kj r.kj h.1,
    )

-- a label against that of c and kj
pub label_lower :
    (l c kj : ℕ) → kj < 256 → 0 < l → l < label_of c kj → ((l - 1) / 256 < c) ⊎ (((l - 1) / 256 ≡ c) × ((l - 1) % 256 < kj))
label_lower l c kj b h g = go (dec_lt ((l - 1) / 256) c)
  where
    go : Dec ((l - 1) / 256 < c) → ((l - 1) / 256 < c) ⊎ (((l - 1) / 256 ≡ c) × ((l - 1) % 256 < kj))
    go (yes k) = inl k
    go (no k) = inr (omega arith, omega arith)

pub label_not_lower :
    (l c kj : ℕ) → kj < 256 → label_of c kj ≤ l → (c < (l - 1) / 256) ⊎ ((c ≡ (l - 1) / 256) × (kj ≤ (l - 1) % 256))
label_not_lower l c kj b g = go (dec_lt c ((l - 1) / 256))
  where
    go : Dec (c < (l - 1) / 256) → (c < (l - 1) / 256) ⊎ ((c ≡ (l - 1) / 256) × (kj ≤ (l - 1) % 256))
    go (yes k) = inl k
    go (no k) = inr (omega arith, omega arith)

order_same : (e : Rec) → order_of e e ≡ Equal
unfolding order_of
order_same e = rw (rec_same_test.at e)

-- A BRANCH, and the record e that comes next in an accepted code
module _ {d : Drawing} {t : List ℕ} {γ : List Rec} {b : State} (v : Sees d t γ b) (e : Rec) (ss : List Rec)
    (ok : rows_refusal fresh (γ ++ e ∷ ss) ≡ 0) where
  abbrev x : Reading
  x = read_rows fresh γ

  abbrev f : List ℕ
  f = numbering b

  abbrev wanted : ℕ
  wanted = label_of e.c e.kj

  bounds : Bounds b
  bounds = represents_bounds d γ b v.ten v.branch

  step : Step x e
  step =
      let c = rows_cons x e ss (rows_divided fresh γ (e ∷ ss) ok).1 in
      step_from_test x v.branch.node.invariant e c.step c.kinds

  kind_at : (n : ℕ) → n ≡ e.i → get_or x.kinds n 256 ≡ e.ki
  kind_at n i = ap (λ (m : ℕ). get_or x.kinds m 256) i ∙ next_kind x e step

  sighted : (r : Rec) → Local d x f r → Sighted t x b r
  sighted = local_sighted d v.ten v.ends t v.labels γ b v.branch

  seen : (a : Rec) → Local d x f a → rec_before a e ≡ true → SeesBefore kinds_before d x f e
  seen a h p = record { l = a; local = h; earlier = p }

  pub seen_better : SeesBefore kinds_before d x f e → Better kinds_before d γ (e ∷ ss) f
  unfolding Better
  seen_better s = inl s

  chord_seen : (p : ℕ) → OpenPlace b p → (h : 0 < chord_label t b p) → Local d x f (chord_of x b p (chord_label t b p))
  chord_seen p o h = chord_local d v.ten v.ends t v.labels γ b v.branch p (chord_label t b p) o refl h

  edge_seen : (p w : ℕ) → p < b.count → Free b w → 0 < edge_label t b p w → Local d x f (edge_of x b p (edge_label t b p w))
  edge_seen p w h g s = (edge_local d v.ten v.ends t v.labels γ b v.branch p w (edge_label t b p w) h g refl s).0

  chord_down : (p : ℕ) → OpenPlace b p → get_or b.path p 0 < get_or b.path (b.count - 1) 0
  chord_down p o = bounds.rises p (b.count - 1) (omega (arith, o.inner)) (omega (arith, o.inner))

  -- places that have one number are one
  same_place : (p q : ℕ) → p < b.count → q < b.count → get_or b.path p 0 ≡ get_or b.path q 0 → p ≡ q
  same_place p q g h s = go (dec_lt p q) (dec_lt q p)
    where
      go : Dec (p < q) → Dec (q < p) → p ≡ q
      go (yes k) m = absurd (omega (arith, bounds.rises p q k h))
      go (no k) (yes m) = absurd (omega (arith, bounds.rises q p m g))
      go (no k) (no m) = omega arith

  -- a record that is not forward is backward
  pub one_way : (e.i < e.j → ⊥) → e.j < e.i
  one_way not = go step
    where
      go : Step x e → e.j < e.i
      go (steps_back o p q) = o.down
      go (steps_forward m p q k) =
          let l = on_path_place d γ b v.ten v.branch e.i m in
          absurd (not (omega (arith, l.is, bounds.on_path l.i l.below, v.branch.given_is)))

  -- BACKWARD, to the device at place q
  module _ (down : e.j < e.i) where
    pub back_open : OpenAt b e.j
    back_open = go step
      where
        go : Step x e → OpenAt b e.j
        go (steps_back o p q) = backward_open d v.ten v.ends t v.labels γ b v.branch e.i e.j o
        go (steps_forward m p q k) =
            let l = on_path_place d γ b v.ten v.branch e.i m in
            absurd (omega (arith, l.is, bounds.on_path l.i l.below, v.branch.given_is))

    end_is : get_or b.path (b.count - 1) 0 ≡ e.i
    end_is = go step
      where
        go : Step x e → get_or b.path (b.count - 1) 0 ≡ e.i
        go (steps_back o p q) = sym (o.is_end ∙ path_end_is d γ b v.ten v.branch)
        go (steps_forward m p q k) =
            let l = on_path_place d γ b v.ten v.branch e.i m in
            absurd (omega (arith, l.is, bounds.on_path l.i l.below, v.branch.given_is))

    module _ (q : ℕ) (below : q < b.count) (is : get_or b.path q 0 ≡ e.j) where
      pub back_place : OpenPlace b q
      back_place =
          let o = back_open in
          subst (OpenPlace b) (same_place o.q q (omega (arith, o.place.inner)) below (o.is ∙ sym is)) o.place

      -- a chord to a lower place comes before it
      pub back_lower : (p : ℕ) → p < q → b.low ≤ get_or b.path p 0 → 0 < chord_label t b p → SeesBefore kinds_before d x f e
      back_lower p h low s =
          let o : OpenPlace b p = record { inner = omega (arith, back_place.inner); high = low } in
          seen (chord_of x b p (chord_label t b p)) (chord_seen p o s)
          (backward_lower kinds_before (chord_of x b p (chord_label t b p)) e (chord_down p o) down
          (omega (arith, is, bounds.rises p q h below)))

      module _ (byte : e.kj < 256) where
        -- so does one there with a lower label
        pub back_label : 0 < chord_label t b q → chord_label t b q < wanted → SeesBefore kinds_before d x f e
        back_label s h =
            let a = chord_of x b q (chord_label t b q) in
            seen a (chord_seen q back_place s)
            (backward_same_ends kinds_before a e (chord_down q back_place) end_is is
            ∙ kinds_lower a e (kind_at _ end_is) (label_lower (chord_label t b q) e.c e.kj byte s h))

        module _ (none : (p : ℕ) → p < q → b.low ≤ get_or b.path p 0 → chord_label t b p ≡ 0) where
          -- without a lower label there nothing comes before it
          pub back_not_before : ((0 < chord_label t b q) × (chord_label t b q < wanted) → ⊥) → SeesBefore kinds_before d x f e → ⊥
          back_not_before lower s = go (sighted s.l s.local)
            where
              go : Sighted t x b s.l → ⊥
              go (sees_edge p w h g n i) =
                  true_and_false s.earlier
                  (rw i (forward_not_first kinds_before (edge_of x b p (edge_label t b p w)) e (bounds.on_path p h) down))
              go (sees_chord p o n i) = true_and_false s.earlier (rw i (at (dec_lt p q) (dec_lt q p)))
                where
                  a : Rec
                  a = chord_of x b p (chord_label t b p)

                  at : Dec (p < q) → Dec (q < p) → rec_before (chord_of x b p (chord_label t b p)) e ≡ false
                  at (yes k) m = absurd (omega (arith, none p k o.high))
                  at (no k) (yes m) =
                      backward_not_lower kinds_before a e (chord_down p o) down
                      (omega (arith, is, bounds.rises q p m (omega (arith, o.inner))))
                  at (no k) (no m) =
                      let z : p ≡ q = omega arith in
                      let l : chord_label t b p ≡ chord_label t b q = ap (chord_label t b) z in
                      let k : chord_label t b q < wanted → ⊥ = λ y. lower (omega arith, y) in
                      let h : wanted ≤ chord_label t b p = omega arith in
                      backward_same_ends kinds_before a e (chord_down p o) end_is (ap (λ (y : ℕ). get_or b.path y 0) z ∙ is)
                      ∙ kinds_not_before a e (kind_at _ end_is) (label_not_lower (chord_label t b p) e.c e.kj byte h)

          -- with another label than its own it does not go on itself
          pub back_not_there : (chord_label t b q ≡ wanted → ⊥) → Local d x f e → ⊥
          back_not_there other h = go (sighted e h)
            where
              go : Sighted t x b e → ⊥
              go (sees_edge p w h g n i) =
                  let y : e.i ≡ get_or b.path p 0 = ap (λ (z : Rec). z.i) i in
                  let z : e.j ≡ b.given = ap (λ (z : Rec). z.j) i in
                  omega (arith, bounds.on_path p h)
              go (sees_chord p o n i) =
                  let j : e.j ≡ get_or b.path p 0 = ap (λ (z : Rec). z.j) i in
                  let c : e.c ≡ (chord_label t b p - 1) / 256 = ap (λ (z : Rec). z.c) i in
                  let k : e.kj ≡ (chord_label t b p - 1) % 256 = ap (λ (z : Rec). z.kj) i in
                  let z = same_place p q (omega (arith, o.inner)) below (sym j ∙ sym is) in
                  other (ap (chord_label t b) (sym z) ∙ omega (arith, label_whole (chord_label t b p) n))

          pub back_none :
              (chord_label t b q ≡ wanted → ⊥) → ((0 < chord_label t b q) × (chord_label t b q < wanted) → ⊥)
              → Better kinds_before d γ (e ∷ ss) f → ⊥
          unfolding Better
          back_none other lower (inl s) = back_not_before lower s
          back_none other lower (inr m) = back_not_there other m.0

          -- WITH ITS OWN LABEL the way there is the one way on
          module _ (own : chord_label t b q ≡ wanted) where
            pub back_found : ChordFound t b q wanted
            back_found = record { place = back_place; label = own; some = omega arith; lowest = λ p h o. none p h o.high }

            pub back_is : chord_of x b q wanted ≡ e
            back_is =
                let parts = label_parts e.c e.kj byte in
                rec_eq _ e end_is is (kind_at _ end_is) (sym parts.0) (sym parts.1)

            order : step_order b (Some (Chord q wanted)) e ≡ Equal
            order =
                let parts = label_parts e.c e.kj byte in
                ap (λ (a : Rec). order_of a e) (rec_eq (chord_with b q wanted e.ki) e end_is is refl (sym parts.0) (sym parts.1))
                ∙ order_same e

            pub back_represents : Represents d (snoc γ e) (with_chord b q)
            back_represents = way_represents v e ss ok (Some (Chord q wanted)) back_found order 0 refl

            pub back_on : Better kinds_before d (snoc γ e) ss f → Better kinds_before d γ (e ∷ ss) f
            back_on = way_better v e ss ok (Some (Chord q wanted)) back_found order 0 refl

            pub back_only : (Better kinds_before d (snoc γ e) ss f → ⊥) → Better kinds_before d γ (e ∷ ss) f → ⊥
            back_only n = ways_none v e ss ok (Some (Chord q wanted)) back_found order (λ w h g. n)

  -- FORWARD, from the device at place q
  module _ (up : e.j < e.i → ⊥) where
    pub front_place : PathPlace b.count b.path e.i
    front_place = go step
      where
        go : Step x e → PathPlace b.count b.path e.i
        go (steps_back o p q) = absurd (up o.down)
        go (steps_forward m p q k) = on_path_place d γ b v.ten v.branch e.i m

    pub front_given : e.j ≡ b.given
    front_given = go step
      where
        go : Step x e → e.j ≡ b.given
        go (steps_back o p q) = absurd (up o.down)
        go (steps_forward m p q k) = p ∙ sym v.branch.given_is

    ahead : e.i < e.j
    ahead = let p = front_place in omega (arith, front_given, p.is, bounds.on_path p.i p.below)

    -- any chord comes before it
    pub front_chord : (p : ℕ) → OpenPlace b p → 0 < chord_label t b p → SeesBefore kinds_before d x f e
    front_chord p o s =
        let a = chord_of x b p (chord_label t b p) in
        seen a (chord_seen p o s) (backward_before_forward kinds_before a e (chord_down p o) ahead)

    module _ (q : ℕ) (below : q < b.count) (is : get_or b.path q 0 ≡ e.i) where
      -- an edge from a deeper place does
      pub front_deeper : (p w : ℕ) → q < p → p < b.count → Free b w → 0 < edge_label t b p w → SeesBefore kinds_before d x f e
      front_deeper p w h g free s =
          let a = edge_of x b p (edge_label t b p w) in
          seen a (edge_seen p w g free s)
          (forward_deeper kinds_before a e (bounds.on_path p g) ahead (omega (arith, is, bounds.rises q p h g)))

      module _ (byte : e.kj < 256) where
        -- one there with a lower label does
        pub front_label : (w : ℕ) → Free b w → 0 < edge_label t b q w → edge_label t b q w < wanted → SeesBefore kinds_before d x f e
        front_label w free s h =
            let a = edge_of x b q (edge_label t b q w) in
            seen a (edge_seen q w below free s)
            (forward_same_ends kinds_before a e (bounds.on_path q below) is (sym front_given)
            ∙ kinds_lower a e (kind_at _ is) (label_lower (edge_label t b q w) e.c e.kj byte s h))

        pub front_is : edge_of x b q wanted ≡ e
        front_is =
            let parts = label_parts e.c e.kj byte in
            rec_eq _ e is (sym front_given) (kind_at _ is) (sym parts.0) (sym parts.1)

        -- A WAY: a device without a number at its own label
        module _ (w : ℕ) (free : Free b w) (own : edge_label t b q w ≡ wanted) where
          pub front_room : b.given < 10
          front_room = edge_room d v.ten v.ends t v.labels γ b v.branch q w below free (omega arith)

          pub front_represents : Represents d (snoc γ e) (with_edge b q w)
          front_represents =
              subst (λ (z : Rec). Represents d (snoc γ z) (with_edge b q w)) front_is
              (represents_edge d v.ten v.ends t v.labels γ b v.branch q w wanted below free own (omega arith))

          on_from : (z : Rec) → edge_of x b q wanted ≡ z
              → Better kinds_before d (snoc γ z) ss (numbering (with_edge b q w)) → Better kinds_before d γ (z ∷ ss) f
          unfolding Better
          on_from z i =
              let h = edge_local d v.ten v.ends t v.labels γ b v.branch q w wanted below free own (omega arith) in
              subst
              (λ (y : Rec). Better kinds_before d (snoc γ y) ss (numbering (with_edge b q w)) → Better kinds_before d γ (y ∷ ss) f) i
              (λ m. inr (h.0, rw (h.1, ← numbering_with_edge d v.ten v.ends t v.labels γ b v.branch q w front_room) m))

          pub front_on : Better kinds_before d (snoc γ e) ss (numbering (with_edge b q w)) → Better kinds_before d γ (e ∷ ss) f
          front_on = on_from e front_is

        -- it goes on itself only to a device at its own label
        pub front_not_there : ((w : ℕ) → Free b w → edge_label t b q w ≡ wanted → ⊥) → Local d x f e → ⊥
        front_not_there no_way h =
            let own = subst (Local d x f) (sym front_is) h in
            let k = edge_ties d v.ten v.ends t v.labels γ b v.branch q wanted below (omega arith) own in
            no_way k.w k.free k.label

        -- WHERE NONE OF THESE IS nothing comes before it, and where no way leads to one, nothing better is seen
        module _
            (no_chord : NoChord t b)
            (no_deeper : (p w : ℕ) → q < p → p < b.count → Free b w → edge_label t b p w ≡ 0)
            (no_lower : (w : ℕ) → Free b w → (0 < edge_label t b q w) × (edge_label t b q w < wanted) → ⊥) where
          none_before : (r : Rec) → Sighted t x b r → rec_before r e ≡ false
          none_before r (sees_chord p o n i) = absurd (omega (arith, no_chord p o))
          none_before r (sees_edge p w h g n i) = rw i (at (dec_lt p q) (dec_lt q p))
            where
              a : Rec
              a = edge_of x b p (edge_label t b p w)

              at : Dec (p < q) → Dec (q < p) → rec_before (edge_of x b p (edge_label t b p w)) e ≡ false
              at k (yes m) = absurd (omega (arith, no_deeper p w m h g))
              at (yes k) (no m) =
                  forward_not_deeper kinds_before a e (bounds.on_path p h) ahead (omega (arith, is, bounds.rises p q k below))
              at (no k) (no m) =
                  let z : p ≡ q = omega arith in
                  let l : edge_label t b p w ≡ edge_label t b q w = ap (λ (y : ℕ). edge_label t b y w) z in
                  let k : edge_label t b q w < wanted → ⊥ = λ y. no_lower w g (omega arith, y) in
                  let low : wanted ≤ edge_label t b p w = omega arith in
                  let i_is : get_or b.path p 0 ≡ e.i = ap (λ (y : ℕ). get_or b.path y 0) z ∙ is in
                  forward_same_ends kinds_before a e (bounds.on_path p h) i_is (sym front_given)
                  ∙ kinds_not_before a e (kind_at _ i_is) (label_not_lower (edge_label t b p w) e.c e.kj byte low)

          leads : (z : Rec) → edge_of x b q wanted ≡ z
              → ((w : ℕ) → Free b w → edge_label t b q w ≡ wanted → Better kinds_before d (snoc γ z) ss (numbering (with_edge b q w)) → ⊥)
              → (h : Local d x f z)
              × Better kinds_before d (snoc γ z) ss (next h)
              → ⊥
          leads z i =
              subst
              (λ (y : Rec).
              ((w : ℕ) → Free b w → edge_label t b q w ≡ wanted → Better kinds_before d (snoc γ y) ss (numbering (with_edge b q w)) → ⊥)
              → (h : Local d x f y)
              × Better kinds_before d (snoc γ y) ss (next h)
              → ⊥)
              i go
            where
              go :
                  ((w : ℕ) → Free b w → edge_label t b q w ≡ wanted
                  → Better kinds_before d (snoc γ (edge_of x b q wanted)) ss (numbering (with_edge b q w)) → ⊥)
                  → (h : Local d x f (edge_of x b q wanted))
                  × Better kinds_before d (snoc γ (edge_of x b q wanted)) ss (next h)
                  → ⊥
              go none (h, m) =
                  let k = edge_ties d v.ten v.ends t v.labels γ b v.branch q wanted below (omega arith) h in
                  none k.w k.free k.label
                  (rw (
                    numbering_with_edge d v.ten v.ends t v.labels γ b v.branch q k.w (front_room k.w k.free k.label),
                    ← k.next_is,
                  ) m)

          pub front_not_before : SeesBefore kinds_before d x f e → ⊥
          front_not_before s = true_and_false s.earlier (none_before s.l (sighted s.l s.local))

          pub front_none :
              ((w : ℕ) → Free b w → edge_label t b q w ≡ wanted → Better kinds_before d (snoc γ e) ss (numbering (with_edge b q w)) → ⊥)
              → Better kinds_before d γ (e ∷ ss) f → ⊥
          unfolding Better
          front_none no_way (inl s) = front_not_before s
          front_none no_way (inr m) = leads e front_is no_way m
