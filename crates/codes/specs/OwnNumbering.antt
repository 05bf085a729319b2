-- A code's own numbering sees no record before the code's own, where the code without its last record is greedy and that
-- record overlooks none. Rests on Overlooked, Better and LaterRows. Assumes nothing.
use Rattle.std.specs.Prelude.{◌≡◌, Bool, true, ◌⊎◌, ℕ, zero, suc, ◌≤◌, ◌<◌}
use Rattle.std.proofs.Math.Path.{refl, sym, ap, subst}
use Rattle.std.proofs.Common.{◌∙◌, inl, inr, arith}
use mathlib.Core.List.{List, [], ◌∷◌, ◌++◌, append_assoc, append-nil}
use Rattle.std.proofs.Math.Decide.{dec_lt}
use Rattle.std.proofs.Math.ListN.{length, get_or}
use Rattle.laws.specs.Tests.{true_and_false}
use Rattle.laws.specs.Lists.{Mem, snoc, snoc_length, snoc_old, snoc_new, snoc_below, Snoc, unsnoc}
use Rattle.graphs.specs.Drawing.{Drawing, kind}
use Rattle.graphs.specs.Map.{image}
use Rattle.graphs.specs.Cables.{Joins, along, against, Has, Last, has_flip, has_eq, last_cases}
use Rattle.graphs.specs.Embedding.{Unnumbered}
use Rattle.graphs.specs.Embeddings.{identity, identity_image, embedding_identity}
use Rattle.codes.specs.Code.{Rec, Reading, fresh, cable_of, stepped, rows_refusal, read_rows, drawn, decoded, kinds_before, rec_before_by}
use Rattle.codes.specs.CodeOrder.{LabelOrder, kinds_order, rec_before_strict, rec_eq}
use Rattle.codes.specs.Step.{Step, steps_back, steps_forward, after}
use Rattle.codes.specs.Reading.{Invariant, invariant_step, back_new}
use Rattle.codes.specs.ReadRows.{step_from_test, stepped_is, begun_is, rows_cons, rows_divided, rows_invariant, read_append, read_snoc}
use Rattle.codes.specs.Extension.{Local, chord_at, edge_at, next}
use Rattle.codes.specs.Greedy.{Greedy}
use Rattle.codes.specs.Branch.{Node, node_fits, node_next}
use Rattle.codes.specs.Better.{SeesBefore, Better}
use Rattle.codes.specs.LabelLaws.{backward_not_lower, forward_not_first, forward_not_deeper, forward_same_ends}
use Rattle.codes.specs.Overlooked.{relabelled, Overlooks, by_edge, by_chord, EarlierNode, earlier_node, greedy_at}
use Rattle.codes.specs.LaterRows.{Later, later_step, later_rows, path_left}

-- THE FIRST n DEVICES, each with its own number
pub record Own (n : ℕ) (f : List ℕ) : Type 0 where
  pub size : length f ≡ n
  pub is : (i : ℕ) → i < n → image f i ≡ i

own_free : {n : ℕ} {f : List ℕ} {w : ℕ} → Own n f → Unnumbered f w → n ≤ w
own_free {n} {f} {w} o u = go (dec_lt w n)
  where
    go : Dec (w < n) → n ≤ w
    go (yes h) = absurd (u w (omega (arith, o.size)) (o.is w h))
    go (no h) = omega arith

free_own : {n : ℕ} {f : List ℕ} {w : ℕ} → Own n f → n ≤ w → Unnumbered f w
free_own {n} o h i l e = let z : i < n = omega (arith, o.size) in omega (arith, o.is i z)

own_next : {n : ℕ} {f : List ℕ} {w : ℕ} → Own n f → w ≡ n → Own (suc n) (snoc f w)
own_next {n} {f} {w} o e =
    record { size = snoc_length f w ∙ ap suc o.size; is = λ i h. go i (snoc_below f w i (rw snoc_length (omega (arith, o.size)))) }
  where
    go : (i : ℕ) → (i < length f) ⊎ (i ≡ length f) → image (snoc f w) i ≡ i
    go i (inl h) = snoc_old 256 f w i h ∙ o.is i (omega (arith, o.size))
    go i (inr h) = snoc_new 256 f w i h ∙ omega (arith, o.size)

-- WHAT A LAST RECORD ADDS to a drawing
module _ (y : Reading) (e : Rec) where
  added_cable : (s : Step y e) {a b k : ℕ} → Has a b k (after s).cables → Has a b k y.cables ⊎ Last a b k (cable_of e)
  added_cable (steps_back o p q) h = last_cases y.cables h
  added_cable (steps_forward o p q t) h = last_cases y.cables h

  old_kind : (s : Step y e) (w : ℕ) → w < length y.kinds → kind (drawn (after s)) w ≡ kind (drawn y) w
  old_kind (steps_back o p q) w h = refl
  old_kind (steps_forward o p q t) w h = snoc_old 256 y.kinds e.kj w h

-- A GREEDY CODE r, qs with one record e more
module _ (labels : Rec → Rec → Bool) (o : LabelOrder labels) (r : Rec) (qs : List Rec) (e : Rec) (ok : rows_refusal fresh (r ∷ qs) ≡ 0)
    (greedy : Greedy labels (drawn (read_rows fresh (r ∷ qs))) [] (r ∷ qs)) (t : Step (read_rows fresh (r ∷ qs)) e) where
  abbrev y : Reading
  y = read_rows fresh (r ∷ qs)

  vy : Invariant (read_rows fresh (r ∷ qs))
  vy = rows_invariant r qs ok

  -- what the code describes, with e
  abbrev pub grown : Drawing
  grown = drawn (after t)

  own_node : Node (drawn (read_rows fresh (r ∷ qs))) (r ∷ qs) (identity (length (read_rows fresh (r ∷ qs)).kinds))
  own_node = record { accepted = ok; invariant = vy; embedding = embedding_identity (drawn y) vy.simple.ends }

  -- AT A RECORD s of the code
  module _ (ps : List Rec) (s : Rec) (ms : List Rec) (is : ps ++ s ∷ ms ≡ qs) where
    abbrev x : Reading
    x = read_rows fresh (r ∷ ps)

    abbrev n : ℕ
    n = length (read_rows fresh (r ∷ ps)).kinds

    split : (rows_refusal fresh (r ∷ ps) ≡ 0) × (rows_refusal (read_rows fresh (r ∷ ps)) (s ∷ ms) ≡ 0)
    split = rows_divided fresh (r ∷ ps) (s ∷ ms) (subst (λ (q : List Rec). rows_refusal fresh (r ∷ q) ≡ 0) (sym is) ok)

    vx : Invariant (read_rows fresh (r ∷ ps))
    vx = rows_invariant r ps split.0

    c : Rattle.codes.specs.ReadRows.FirstRow (read_rows fresh (r ∷ ps)) s ms
    c = rows_cons (read_rows fresh (r ∷ ps)) s ms split.1

    st : Step (read_rows fresh (r ∷ ps)) s
    st = step_from_test (read_rows fresh (r ∷ ps)) vx s c.step c.kinds

    later : Later (after st) (read_rows fresh (r ∷ qs))
    unfolding read_rows
    later =
        subst (Later (after st)) (sym (read_append fresh (r ∷ ps) (s ∷ ms)) ∙ ap (λ (q : List Rec). read_rows fresh (r ∷ q)) is)
        (subst (λ (z : Reading). Later z (read_rows (stepped (read_rows fresh (r ∷ ps)) s) ms)) (stepped_is x vx s st)
        (later_rows (stepped (read_rows fresh (r ∷ ps)) s) (subst Invariant (sym (stepped_is x vx s st)) (invariant_step vx st)) ms c.rest))

    few : n ≤ length y.kinds
    few = omega (arith, (later_step x vx s st).more, later.more)

    -- the same numbers in what the code describes without e
    before : EarlierNode (drawn (read_rows fresh (r ∷ qs))) (r ∷ ps) (identity (length (read_rows fresh (r ∷ qs)).kinds))
    before =
        earlier_node (drawn y) r ps (s ∷ ms) (identity (length y.kinds))
        (subst (λ (q : List Rec). Node (drawn y) (r ∷ q) (identity (length y.kinds))) (sym is) own_node)

    own_before : Own n before.f
    own_before =
        record {
          size = before.node.embedding.size;
          is = λ i h.
              sym (before.begins.same i (omega (arith, before.node.embedding.size)))
              ∙ identity_image (length y.kinds) i (omega (arith, few));
        }

    not_there : (l : Rec) → Local (drawn y) x before.f l → rec_before_by labels l s ≡ true → ⊥
    not_there l h z =
        true_and_false z
        (greedy_at labels (drawn y) [] (r ∷ ps) s ms (subst (λ (q : List Rec). Greedy labels (drawn y) [] (r ∷ q)) (sym is) greedy) l
        (node_fits (drawn y) (snoc (r ∷ ps) l) (next h) (node_next (drawn y) vy.ten vy.simple.ends (r ∷ ps) before.f l before.node h)))

    module _ (l : Rec) (z : rec_before_by labels l s ≡ true) where
      -- a chord along the last cable comes after the chords of the code
      chord_last : Rattle.codes.specs.Step.Backward x l.i l.j → Joins l.i l.j (cable_of e) → Step y e → ⊥
      unfolding cable_of
      chord_last b (along p q) (steps_back d _ _) = go st later
        where
          i_is : e.i ≡ l.i
          i_is = p

          j_is : e.j ≡ l.j
          j_is = q

          same : length y.kinds ≡ n
          same = omega (arith, vx.top, vy.top, b.is_end, d.is_end)

          under : (a : ℕ) → (y.back ≡ 10 → ⊥) × (a ≤ y.back) → (y.back ≡ 10) ⊎ (y.back < e.j) → a < e.j
          under a (m, k) (inl h) = absurd (m h)
          under a (m, k) (inr h) = omega arith

          go : (st : Step x s) → Later (after st) y → ⊥
          go (steps_back a _ _) k =
              let low : s.j < 10 = omega (arith, vx.ten, vx.below s.j a.on_path) in
              let rise : s.j < e.j = under s.j (k.rising same (λ h. omega arith)) d.rising in
              true_and_false z (backward_not_lower labels l s b.down a.down (omega arith))
          go (steps_forward a _ _ _) k =
              let more : length (snoc x.kinds s.kj) ≤ length y.kinds = k.more in
              omega (arith, same, snoc_length x.kinds s.kj)
      chord_last b (against p q) (steps_back d _ _) =
          let i_is : e.i ≡ l.j = p in
          let j_is : e.j ≡ l.i = q in
          omega (arith, b.down, d.down)
      chord_last b (along p q) (steps_forward d j _ _) =
          let j_is : e.j ≡ l.j = q in
          omega (arith, few, vx.below l.j b.on_path)
      chord_last b (against p q) (steps_forward d j _ _) =
          let j_is : e.j ≡ l.i = q in
          omega (arith, few, vx.top, b.is_end)

      -- an edge along the last cable: e is a forward record, or a backward one seen from its lower end
      module _ (w : ℕ) (from : Mem l.i x.path) (to : l.j ≡ n) (high : n ≤ w) (ki : get_or x.kinds l.i 256 ≡ l.ki) where
        i_low : l.i < n
        i_low = vx.below l.i from

        up_l : l.i < l.j
        up_l = omega (arith, i_low)

        -- where its device is still on the path, s leaves that device too, and comes after it by its labels
        edge_last : Mem l.i y.path → (l.i ≡ s.i → s.i < s.j → labels (relabelled s l.c l.kj) s ≡ true → ⊥) → ⊥
        edge_last on_path not_overlooked = go st later
          where
            go : (st : Step x s) → Later (after st) y → ⊥
            go (steps_back a _ _) k = true_and_false z (forward_not_first labels l s up_l a.down)
            go (steps_forward a j _ i) k = at (dec_lt s.i l.i) (dec_lt l.i s.i)
              where
                up : s.i < s.j
                up = omega (arith, vx.below s.i a)

                at : Dec (s.i < l.i) → Dec (l.i < s.i) → ⊥
                at (yes h) q = omega (arith, path_left x vx s a j y k l.i on_path i_low)
                at (no h) (yes q) = true_and_false z (forward_not_deeper labels l s up_l up q)
                at (no h) (no q) =
                    not_overlooked same up
                    (subst (λ (f : Rec). labels f s ≡ true) (rec_eq l (relabelled s l.c l.kj) same (to ∙ sym j) kinds refl refl)
                    (sym (forward_same_ends labels l s up_l same (to ∙ sym j)) ∙ z))
                  where
                    same : l.i ≡ s.i
                    same = omega arith

                    kinds : l.ki ≡ s.ki
                    kinds = sym ki ∙ ap (λ (v : ℕ). get_or x.kinds v 256) same ∙ i

        -- so e overlooks s
        edge_hopeless :
            (Overlooks labels s e → s.i < s.j → ⊥) → (t : Step y e) → kind (drawn (after t)) w ≡ l.kj → Joins l.i w (cable_of e)
            → e.c ≡ l.c → ⊥
        unfolding cable_of
        edge_hopeless hopeful (steps_forward d j m v) kj (along p q) k =
            let i_is : e.i ≡ l.i = p in
            let j_is : e.j ≡ w = q in
            let kind_is : e.kj ≡ l.kj = sym (snoc_new 256 y.kinds e.kj w (omega arith)) ∙ kj in
            edge_last (subst (λ (a : ℕ). Mem a y.path) i_is d)
            (λ same up f.
            hopeful
            (by_edge (omega (arith, vy.below e.i d)) (i_is ∙ same)
            (subst (λ (a : ℕ). labels (relabelled s a e.kj) s ≡ true) (sym k)
            (subst (λ (a : ℕ). labels (relabelled s l.c a) s ≡ true) (sym kind_is) f)))
            up)
        edge_hopeless hopeful (steps_forward d j m v) kj (against p q) k =
            let j_is : e.j ≡ l.i = q in
            omega (arith, few, i_low)
        edge_hopeless hopeful (steps_back d v m) kj (along p q) k =
            let i_is : e.i ≡ l.i = p in
            let j_is : e.j ≡ w = q in
            omega (arith, d.down, i_low)
        edge_hopeless hopeful (steps_back d v m) kj (against p q) k =
            let i_is : e.i ≡ w = p in
            let j_is : e.j ≡ l.i = q in
            let kind_is : e.ki ≡ l.kj = sym v ∙ ap (λ (a : ℕ). get_or y.kinds a 256) i_is ∙ kj in
            edge_last (subst (λ (a : ℕ). Mem a y.path) j_is d.on_path)
            (λ same up f.
            hopeful
            (by_chord (omega (arith, d.down)) (j_is ∙ same)
            (subst (λ (a : ℕ). labels (relabelled s a e.ki) s ≡ true) (sym k)
            (subst (λ (a : ℕ). labels (relabelled s l.c a) s ≡ true) (sym kind_is) f)))
            up)

    -- NOTHING COMES BEFORE s
    pub sees_nothing : (Overlooks labels s e → s.i < s.j → ⊥) → (f : List ℕ) → Own n f → SeesBefore labels grown x f s → ⊥
    unfolding cable_of
    sees_nothing hopeful f own seen = go seen.local
      where
        l : Rec
        l = seen.l

        go : Local grown x f seen.l → ⊥
        go (chord_at b h ki kj) = at (added_cable y e t (has_eq (own.is l.i i_low) (own.is l.j j_low) refl h))
          where
            i_low : seen.l.i < n
            i_low = omega (arith, vx.top, b.is_end)

            j_low : seen.l.j < n
            j_low = vx.below l.j b.on_path

            at : Has seen.l.i seen.l.j seen.l.c y.cables ⊎ Last seen.l.i seen.l.j seen.l.c (cable_of e) → ⊥
            at (inl g) =
                not_there l (chord_at b (has_eq (sym (own_before.is l.i i_low)) (sym (own_before.is l.j j_low)) refl g) ki kj) seen.earlier
            at (inr g) = chord_last l seen.earlier b g.joins t
        go (edge_at w m j u h ki kj) = at (added_cable y e t (has_eq (own.is l.i i_low) refl refl h))
          where
            i_low : seen.l.i < n
            i_low = vx.below l.i m

            at : Has seen.l.i w seen.l.c y.cables ⊎ Last seen.l.i w seen.l.c (cable_of e) → ⊥
            at (inl g) =
                not_there l
                (edge_at w m j (free_own own_before (own_free own u)) (has_eq (sym (own_before.is l.i i_low)) refl refl g) ki
                (sym (old_kind y e t w (vy.simple.ends w l.i l.c (has_flip g))) ∙ kj))
                seen.earlier
            at (inr g) = edge_hopeless l seen.earlier w m j (own_free own u) ki hopeful t kj g.joins g.kind

    -- how many devices there are after s
    after_back : s.j < s.i → length (read_rows fresh (snoc (r ∷ ps) s)).kinds ≡ n
    after_back down = ap (λ (a : Reading). length a.kinds) (read_snoc fresh (r ∷ ps) s ∙ stepped_is x vx s st) ∙ go st
      where
        go : (st : Step x s) → length (after st).kinds ≡ n
        go (steps_back a _ _) = refl
        go (steps_forward a j _ _) = absurd (omega (arith, vx.below s.i a))

    after_edge : s.i < s.j → length (read_rows fresh (snoc (r ∷ ps) s)).kinds ≡ suc n
    after_edge up = ap (λ (a : Reading). length a.kinds) (read_snoc fresh (r ∷ ps) s ∙ stepped_is x vx s st) ∙ go st
      where
        go : (st : Step x s) → length (after st).kinds ≡ suc n
        go (steps_back a _ _) = absurd (omega (arith, a.down))
        go (steps_forward a j _ _) = snoc_length x.kinds s.kj

  -- AT e ITSELF only e is left
  module _ (l : Rec) (z : rec_before_by labels l e ≡ true) where
    not_itself : l.i ≡ e.i → l.j ≡ e.j → l.ki ≡ e.ki → l.c ≡ e.c → l.kj ≡ e.kj → ⊥
    not_itself a b c k m = (rec_before_strict labels o).irrefl e (subst (λ (v : Rec). rec_before_by labels v e ≡ true) (rec_eq l e a b c k m) z)

    chord_itself :
        (t : Step y e) → Rattle.codes.specs.Step.Backward y l.i l.j → get_or y.kinds l.i 256 ≡ l.ki
        → get_or y.kinds l.j 256 ≡ l.kj → Joins l.i l.j (cable_of e) → e.c ≡ l.c → ⊥
    unfolding cable_of
    chord_itself (steps_back d v m) b ki kj (along p q) k =
        not_itself (sym p) (sym q) (sym ki ∙ ap (λ (a : ℕ). get_or y.kinds a 256) (sym p) ∙ v) (sym k)
        (sym kj ∙ ap (λ (a : ℕ). get_or y.kinds a 256) (sym q) ∙ m)
    chord_itself (steps_back d v m) b ki kj (against p q) k =
        let i_is : e.i ≡ l.j = p in
        let j_is : e.j ≡ l.i = q in
        omega (arith, b.down, d.down)
    chord_itself (steps_forward d j m v) b ki kj (along p q) k =
        let j_is : e.j ≡ l.j = q in
        omega (arith, vy.below l.j b.on_path)
    chord_itself (steps_forward d j m v) b ki kj (against p q) k =
        let j_is : e.j ≡ l.i = q in
        omega (arith, vy.top, b.is_end)

    edge_itself :
        (t : Step y e) (w : ℕ) → length y.kinds ≤ w → l.j ≡ length y.kinds → get_or y.kinds l.i 256 ≡ l.ki
        → kind (drawn (after t)) w ≡ l.kj → l.i < length y.kinds → Joins l.i w (cable_of e) → e.c ≡ l.c → ⊥
    unfolding cable_of
    edge_itself (steps_forward d j m v) w high to ki kj low (along p q) k =
        let j_is : e.j ≡ w = q in
        not_itself (sym p) (to ∙ sym j) (sym ki ∙ ap (λ (a : ℕ). get_or y.kinds a 256) (sym p) ∙ v) (sym k)
        (sym kj ∙ snoc_new 256 y.kinds e.kj w (omega arith))
    edge_itself (steps_forward d j m v) w high to ki kj low (against p q) k =
        let i_is : e.i ≡ w = p in
        omega (arith, vy.below e.i d)
    edge_itself (steps_back d v m) w high to ki kj low (along p q) k =
        let i_is : e.i ≡ l.i = p in
        let j_is : e.j ≡ w = q in
        omega (arith, d.down)
    edge_itself (steps_back d v m) w high to ki kj low (against p q) k =
        let i_is : e.i ≡ w = p in
        omega (arith, vy.top, d.is_end)

  sees_itself : (f : List ℕ) → Own (length y.kinds) f → SeesBefore labels grown y f e → ⊥
  unfolding cable_of
  sees_itself f own seen = go seen.local
    where
      l : Rec
      l = seen.l

      go : Local grown y f seen.l → ⊥
      go (chord_at b h ki kj) = at (added_cable y e t (has_eq (own.is l.i i_low) (own.is l.j j_low) refl h))
        where
          i_low : seen.l.i < length y.kinds
          i_low = omega (arith, vy.top, b.is_end)

          j_low : seen.l.j < length y.kinds
          j_low = vy.below l.j b.on_path

          at : Has seen.l.i seen.l.j seen.l.c y.cables ⊎ Last seen.l.i seen.l.j seen.l.c (cable_of e) → ⊥
          at (inl g) = back_new y vy l b l.c g
          at (inr g) = chord_itself l seen.earlier t b ki kj g.joins g.kind
      go (edge_at w m j u h ki kj) = at (added_cable y e t (has_eq (own.is l.i i_low) refl refl h))
        where
          i_low : seen.l.i < length y.kinds
          i_low = vy.below l.i m

          at : Has seen.l.i w seen.l.c y.cables ⊎ Last seen.l.i w seen.l.c (cable_of e) → ⊥
          at (inl g) = omega (arith, own_free own u, vy.simple.ends w l.i l.c (has_flip g))
          at (inr g) = edge_itself l seen.earlier t w (own_free own u) j ki kj i_low g.joins g.kind

  -- WHERE NO FORWARD RECORD TIES, no branch sees anything before the code but the own one, and that sees nothing
  module _
      (hopeful : (ps : List Rec) (s : Rec) (ms : List Rec) → ps ++ s ∷ ms ≡ qs → Overlooks labels s e → s.i < s.j → ⊥)
      (no_tie :
      (ps : List Rec) (s : Rec) (ms : List Rec) → ps ++ s ∷ ms ≡ qs → s.i < s.j → (w : ℕ) → s.j < w → Has s.i w s.c grown.cables
      → kind grown w ≡ s.kj → ⊥) where
    pub own_not_better :
        (ps ss : List Rec) → ps ++ ss ≡ qs → (f : List ℕ) → Own (length (read_rows fresh (r ∷ ps)).kinds) f
        → Better labels grown (r ∷ ps) (snoc ss e) f → ⊥
    unfolding Better
    own_not_better ps [] is f own (inl seen) = go (sym (append-nil ps) ∙ is) own seen
      where
        go : ps ≡ qs → Own (length (read_rows fresh (r ∷ ps)).kinds) f → SeesBefore labels grown (read_rows fresh (r ∷ ps)) f e → ⊥
        go q a b =
            sees_itself f (subst (λ (v : List Rec). Own (length (read_rows fresh (r ∷ v)).kinds) f) q a)
            (subst (λ (v : List Rec). SeesBefore labels grown (read_rows fresh (r ∷ v)) f e) q b)
    own_not_better ps [] is f own (inr (h, b)) = b
    own_not_better ps (s ∷ ms) is f own (inl seen) = sees_nothing ps s ms is (hopeful ps s ms is) f own seen
    own_not_better ps (s ∷ ms) is f own (inr (h, b)) = go (λ g. own_not_better (snoc ps s) ms (append_assoc ps (s ∷ []) ms ∙ is) g) h b
      where
        go :
            ((g : List ℕ) → Own (length (read_rows fresh (snoc (r ∷ ps) s)).kinds) g → Better labels grown (snoc (r ∷ ps) s) (snoc ms e) g → ⊥)
            → (h : Local grown (read_rows fresh (r ∷ ps)) f s) → Better labels grown (snoc (r ∷ ps) s) (snoc ms e) (next h) → ⊥
        go rest (chord_at d g ki kj) z = rest f (subst (λ (k : ℕ). Own k f) (sym (after_back ps s ms is d.down)) own) z
        go rest (edge_at w m j u g ki kj) z = at (dec_lt s.j w)
          where
            low : s.i < length (read_rows fresh (r ∷ ps)).kinds
            low = (rows_invariant r ps (rows_divided fresh (r ∷ ps) (s ∷ ms) (subst (λ (q : List Rec). rows_refusal fresh (r ∷ q) ≡ 0) (sym is) ok)).0
                ).below s.i m

            at : Dec (s.j < w) → ⊥
            at (yes q) = no_tie ps s ms is (omega (arith, low)) w q (has_eq (own.is s.i low) refl refl g) kj
            at (no q) =
                rest (snoc f w)
                (subst (λ (k : ℕ). Own k (snoc f w)) (sym (after_edge ps s ms is (omega (arith, low))))
                (own_next own (omega (arith, own_free own u)))) z

-- A CODE THAT GREW WELL: without its last record it is greedy, and that record overlooks none
pub record WellGrown (γ : List Rec) : Type 0 where
  pub greedy : (δ : List Rec) (e : Rec) → γ ≡ snoc δ e → Greedy kinds_before (decoded δ) [] δ
  pub hopeful :
      (r : Rec) (qs : List Rec) (e : Rec) → γ ≡ r ∷ snoc qs e → (ps : List Rec) (s : Rec) (ms : List Rec) → ps ++ s ∷ ms ≡ qs
      → Overlooks kinds_before s e → s.i < s.j → ⊥

-- a forward record has but one device to go to, where a code numbers devices as it does itself
abbrev pub Untied : (d : Drawing) (s : Rec) → Type 0
Untied d s = s.i < s.j → (w : ℕ) → s.j < w → Has s.i w s.c d.cables → kind d w ≡ s.kj → ⊥

two_devices : (r : Rec) → length (read_rows fresh (r ∷ [])).kinds ≡ 2
unfolding read_rows
two_devices r = ap (λ (a : Reading). length a.kinds) (begun_is r)

own_first : Own 2 (0 ∷ 1 ∷ [])
own_first = record { size = refl; is = low }
  where
    low : (i : ℕ) → i < 2 → image (0 ∷ 1 ∷ []) i ≡ i
    low zero h = refl
    low (suc zero) h = refl
    low (suc (suc i)) h = absurd (omega arith)

-- THE OWN START of such a code, where no record before the last ties, leads to nothing before the code
module _ (r : Rec) (qs : List Rec) (e : Rec) (ok : rows_refusal fresh (r ∷ snoc qs e) ≡ 0) (well : WellGrown (r ∷ snoc qs e)) where
  parts : (rows_refusal fresh (r ∷ qs) ≡ 0) × (rows_refusal (read_rows fresh (r ∷ qs)) (e ∷ []) ≡ 0)
  parts = rows_divided fresh (r ∷ qs) (e ∷ []) ok

  step : Step (read_rows fresh (r ∷ qs)) e
  step =
      let c = rows_cons (read_rows fresh (r ∷ qs)) e [] parts.1 in
      step_from_test (read_rows fresh (r ∷ qs)) (rows_invariant r qs parts.0) e c.step c.kinds

  described : decoded (r ∷ snoc qs e) ≡ drawn (after step)
  unfolding decoded
  described = ap drawn (read_snoc fresh (r ∷ qs) e ∙ stepped_is (read_rows fresh (r ∷ qs)) (rows_invariant r qs parts.0) e step)

  parent_greedy : Greedy kinds_before (drawn (read_rows fresh (r ∷ qs))) [] (r ∷ qs)
  unfolding decoded
  parent_greedy = well.greedy (r ∷ qs) e refl

  grown_not_better :
      ((ps : List Rec) (s : Rec) (ms : List Rec) → ps ++ s ∷ ms ≡ qs → Untied (decoded (r ∷ snoc qs e)) s)
      → Better kinds_before (decoded (r ∷ snoc qs e)) (r ∷ []) (snoc qs e) (0 ∷ 1 ∷ []) → ⊥
  grown_not_better untied b =
      own_not_better kinds_before kinds_order r qs e parts.0 parent_greedy step (λ ps s ms h. well.hopeful r qs e refl ps s ms h)
      (λ ps s ms h. subst (λ (d : Drawing). Untied d s) described (untied ps s ms h)) [] qs refl (0 ∷ 1 ∷ [])
      (subst (λ (k : ℕ). Own k (0 ∷ 1 ∷ [])) (sym (two_devices r)) own_first)
      (subst (λ (d : Drawing). Better kinds_before d (r ∷ []) (snoc qs e) (0 ∷ 1 ∷ [])) described b)

pub own_start_not_better :
    (r : Rec) (rest : List Rec) → rows_refusal fresh (r ∷ rest) ≡ 0 → WellGrown (r ∷ rest)
    → ((ps : List Rec) (s e : Rec) (ms : List Rec) → rest ≡ ps ++ s ∷ snoc ms e → Untied (decoded (r ∷ rest)) s)
    → Better kinds_before (decoded (r ∷ rest)) (r ∷ []) rest (0 ∷ 1 ∷ []) → ⊥
unfolding Better
own_start_not_better r [] ok well untied b = b
own_start_not_better r (q ∷ qs) ok well untied b = go (unsnoc (q ∷ qs) (length qs) refl)
  where
    go : Snoc (q ∷ qs) (length qs) → ⊥
    go v = grown (q ∷ qs) v.whole ok well untied b
      where
        grown :
            (rest : List Rec) → rest ≡ snoc v.front v.last → rows_refusal fresh (r ∷ rest) ≡ 0 → WellGrown (r ∷ rest)
            → ((ps : List Rec) (s e : Rec) (ms : List Rec) → rest ≡ ps ++ s ∷ snoc ms e → Untied (decoded (r ∷ rest)) s)
            → Better kinds_before (decoded (r ∷ rest)) (r ∷ []) rest (0 ∷ 1 ∷ []) → ⊥
        grown rest is =
            subst
            (λ (z : List Rec). rows_refusal fresh (r ∷ z) ≡ 0 → WellGrown (r ∷ z)
            → ((ps : List Rec) (s e : Rec) (ms : List Rec) → z ≡ ps ++ s ∷ snoc ms e → Untied (decoded (r ∷ z)) s)
            → Better kinds_before (decoded (r ∷ z)) (r ∷ []) z (0 ∷ 1 ∷ []) → ⊥)
            (sym is)
            (λ o w u.
            grown_not_better r v.front v.last o w
            (λ ps s ms h. u ps s v.last ms (ap (λ (a : List Rec). snoc a v.last) (sym h) ∙ append_assoc ps (s ∷ ms) (v.last ∷ []))))
