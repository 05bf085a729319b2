-- A branch that follows an accepted code, against the code's next record as the program reads it: what each test tells, and
-- the branches that are followed. Rests on AcceptedLaws. Assumes nothing.
use Rattle.std.specs.Prelude.{◌≡◌, Bool, true, false, ℕ, ◌+◌, ◌*◌, ◌/◌, ◌≤◌, ◌<◌, length, get_or, take, drop}
use Rattle.std.proofs.Math.Path.{refl, ap, subst}
use Rattle.std.proofs.Common.{sym, ◌∙◌, inl, inr}
use mathlib.Core.List.{List, ◌∷◌, ◌++◌}
use native.Mathlib.Omega.{arith}
use Rattle.std.proofs.Math.Decide.{dec_lt}
use Rattle.laws.specs.Lists.{snoc}
use Rattle.laws.specs.Rows.{row}
use Rattle.graphs.specs.Drawing.{Drawing}
use Rattle.graphs.specs.Cables.{has_flip}
use Rattle.graphs.specs.Graph.{Simple}
use Rattle.codes.specs.Code.{Rec, fresh, rec_in, code_records, kinds_before, rows_refusal, read_rows, decoded}
use Rattle.codes.specs.Better.{SeesBefore, Better}
use Rattle.codes.specs.BranchState.{
  label_at,
  State,
  numbering,
  device_at,
  chord_label,
  edge_label,
  Free,
  NoChord,
  with_edge,
  Represents,
}
use Rattle.codes.specs.Twins.{FreeTwin}
use Rattle.codes.specs.BranchBounds.{Bounds}
use Rattle.codes.specs.Descending.{PathPlace}
use Rattle.codes.specs.LabelLaws.{label_cable}
use Rattle.codes.specs.TwinBranches.{twin_label, twin_edge_better}
use Rattle.std.specs.declared.cmp.Ordering.TheVariants.{Less, Equal, Greater}
use Rattle.code_records.specs.RecordLaws.{record_read}
use Rattle.tables.specs.CodeRows.{code_simple, records_through, front_records_on, front_among, front_good}
use Rattle.branches.specs.Branches.{chorded, device_placed, Places}
use Rattle.branches.specs.InPlaceLaws.{chorded_is, bounds_places}
use Rattle.least_seen.specs.Betters.{BetterBelow}
use Rattle.least_seen.specs.BetterLaws.{Sees}
use Rattle.least_seen.specs.TestFollowLaws.{sees, follows_bounds}
use Rattle.least_seen.specs.Accepting.{
  MarksNumbered,
  ChordBelow,
  Lower,
  ChordTold,
  FreeLabel,
  CountedLabel,
  BeforeEdge,
  wanted_label,
  TestGoesOn,
}
use Rattle.least_seen.specs.AcceptedLaws.{
  one_way,
  seen_better,
  back_open,
  back_lower,
  back_label,
  back_none,
  back_represents,
  back_on,
  back_only,
  front_place,
  front_chord,
  front_deeper,
  front_label,
  front_room,
  front_represents,
  front_on,
  front_none,
}

-- a record's label is none of a missing cable
pub wanted_label_some : (bs : List ℕ) (k : ℕ) {l : ℕ} → l ≡ wanted_label bs k → 0 < l
wanted_label_some bs k e = omega arith

-- a label that counts is that of the device itself
pub counted_free : {t : List ℕ} {used : List Bool} {u w l : ℕ} → CountedLabel t used u w l → 0 < l → FreeLabel t used u w l
counted_free (inl f) h = f
counted_free (inr x) h = absurd (omega (arith, x.0))

-- of the device w: no lower label, and no way to it that leads to something better
pub record TriedWay (t bs : List ℕ) (m k : ℕ) (b : State) (q w : ℕ) : Type 0 where
  pub not_lower : get_or b.used w true ≡ false → Lower (edge_label t b q w) (wanted_label bs k) → ⊥
  pub no_way : get_or b.used w true ≡ false → edge_label t b q w ≡ wanted_label bs k → BetterBelow bs m (k + 1) (with_edge b q w) → ⊥

module _ {t bs : List ℕ} {m n k : ℕ} {b : State} (G : TestGoesOn t bs m n k b) where
  bounds : Bounds b
  bounds = follows_bounds G.follows

  -- WHAT THE PROGRAM NEEDS
  pub goes_two : 2 ≤ b.count
  goes_two = bounds.two

  pub goes_count : b.count ≤ 10
  goes_count = omega (arith, bounds.count_low, bounds.given_low)

  pub goes_below : b.count ≤ b.given
  goes_below = bounds.count_low

  pub goes_places : Places b.numbers b.path b.count
  goes_places = bounds_places b bounds

  v : Sees (decoded (code_records bs)) t (take k (code_records bs)) b
  v = sees G.follows

  pub goes_marked : MarksNumbered b.used n
  goes_marked = record { low = G.counted.most; size = G.follows.branch.used_size }

  -- a device at the end of a cable is one of the drawing's
  labelled_low : (u w : ℕ) → u < 10 → w < 10 → 0 < label_at t u w → w < n
  labelled_low u w p q h =
      let c = label_cable (decoded (code_records bs)) v.ends t v.labels u w (label_at t u w) p q refl h in
      omega (arith, v.ends w u c.0 (has_flip c.1.has), G.counted.within)

  module _ (more : k < m) where
    below : k < length bs / 5
    below = omega (arith, G.counted.records)

    pub goes_room : 5 * k + 5 ≤ length bs
    goes_room = omega (arith, below)

    e : Rec
    e = rec_in (row 5 k bs)

    i_is : get_or bs (5 * k) 0 ≡ e.i
    unfolding e
    i_is = ap (λ (z : Rec). z.i) (record_read bs k)

    j_is : get_or bs (5 * k + 1) 0 ≡ e.j
    unfolding e
    j_is = ap (λ (z : Rec). z.j) (record_read bs k)

    ss : List Rec
    ss = drop (k + 1) (take m (code_records bs))

    ok : rows_refusal fresh (take k (code_records bs) ++ e ∷ ss) ≡ 0
    unfolding e ss
    ok =
        rw (← front_among bs k below (rec_in (row 5 k bs)) refl m more G.counted.records)
        (front_good bs G.counted.tabled.accepted m)

    here : Better kinds_before (decoded (code_records bs)) (take k (code_records bs)) (e ∷ ss) (numbering b) → BetterBelow bs m k b
    unfolding e ss
    here x = rw (front_records_on bs k below (rec_in (row 5 k bs)) refl m more G.counted.records) x

    sees_earlier :
        SeesBefore kinds_before (decoded (code_records bs)) (read_rows fresh (take k (code_records bs))) (numbering b) e → BetterBelow bs m k b
    sees_earlier x = here (seen_better v e ss ok x)

    on : BetterBelow bs m k b → Better kinds_before (decoded (code_records bs)) (take k (code_records bs)) (e ∷ ss) (numbering b)
    unfolding e ss
    on x = rw (front_records_on bs k below (rec_in (row 5 k bs)) refl m more G.counted.records) at x

    through : take (k + 1) (code_records bs) ≡ snoc (take k (code_records bs)) e
    unfolding e
    through = records_through bs k below (rec_in (row 5 k bs)) refl

    -- one record further
    abbrev BetterNext : State → Type 0
    BetterNext z = Better kinds_before (decoded (code_records bs)) (snoc (take k (code_records bs)) e) ss (numbering z)

    next_to : (z : State) → BetterBelow bs m (k + 1) z → BetterNext z
    unfolding ss
    next_to z x =
        subst (λ (γ : List Rec). Better kinds_before (decoded (code_records bs)) γ (drop (k + 1) (take m (code_records bs))) (numbering z)) through x

    next_from : (z : State) → BetterNext z → BetterBelow bs m (k + 1) z
    unfolding ss
    next_from z x = subst (λ (γ : List Rec). Better kinds_before (decoded (code_records bs)) γ (drop (k + 1) (take m (code_records bs)))
        (numbering z)) (sym through) x

    goes : (z : State) → Represents (decoded (code_records bs)) (snoc (take k (code_records bs)) e) z → TestGoesOn t bs m n (k + 1) z
    goes z r =
        record {
          counted = G.counted;
          low = omega arith;
          follows =
              record {
                tabled = G.counted.tabled;
                within = omega (arith, below);
                branch = subst (λ (γ : List Rec). Represents (decoded (code_records bs)) γ z) (sym through) r;
              };
        }

    -- BACKWARD
    module _ (back : get_or bs (5 * k) 0 < get_or bs (5 * k + 1) 0 → ⊥) where
      falls : e.j < e.i
      falls = one_way v e ss ok (λ h. back (omega (arith, i_is, j_is)))

      pub back_on_path : PathPlace b.count b.path (get_or bs (5 * k + 1) 0)
      back_on_path =
          let o = back_open v e ss ok falls in
          record { i = o.q; below = omega (arith, o.place.inner); is = o.is ∙ sym j_is }

      module _ (q : ℕ) (low : q < b.count) (is : get_or b.path q 0 ≡ get_or bs (5 * k + 1) 0) where
        at_j : get_or b.path q 0 ≡ e.j
        at_j = is ∙ j_is

        none_lower : (ChordBelow t b.numbers b.path b.count b.low q → ⊥)
            → (p : ℕ) → p < q → b.low ≤ get_or b.path p 0 → chord_label t b p ≡ 0
        none_lower n p h l = go (dec_lt 0 (chord_label t b p))
          where
            go : Dec (0 < chord_label t b p) → chord_label t b p ≡ 0
            go (yes s) = absurd (n (record { q = p; below = h; high = l; some = s }))
            go (no s) = omega arith

        module _ (byte : (rec_in (row 5 k bs)).kj < 256) where
          pub told_before : ChordTold t b.numbers b.path b.count b.low q (wanted_label bs k) Less → BetterBelow bs m k b
          unfolding e
          told_before (inl c) = sees_earlier (back_lower v e ss ok falls q low at_j c.q c.below c.high c.some)
          told_before (inr l) = sees_earlier (back_label v e ss ok falls q low at_j byte l.0 l.1)

          pub told_after : ChordTold t b.numbers b.path b.count b.low q (wanted_label bs k) Greater → BetterBelow bs m k b → ⊥
          unfolding e
          told_after c x = back_none v e ss ok falls q low at_j byte (none_lower c.0) c.1 c.2 (on x)

          module _ (c : ChordTold t b.numbers b.path b.count b.low q (wanted_label bs k) Equal) where
            pub chord_goes : TestGoesOn t bs m n (k + 1) (chorded b (get_or bs (5 * k + 1) 0))
            unfolding e
            chord_goes =
                goes (chorded b (get_or bs (5 * k + 1) 0))
                (subst (Represents (decoded (code_records bs)) (snoc (take k (code_records bs)) e)) (chorded_is b q _ is)
                (back_represents v e ss ok falls q low at_j byte (none_lower c.0) c.1))

            pub chord_tells : BetterBelow bs m (k + 1) (chorded b (get_or bs (5 * k + 1) 0)) → BetterBelow bs m k b
            unfolding e
            chord_tells x =
                here (back_on v e ss ok falls q low at_j byte (none_lower c.0) c.1 (next_to (chorded b (get_or bs (5 * k + 1) 0)) x))

            pub chord_ends : (BetterBelow bs m (k + 1) (chorded b (get_or bs (5 * k + 1) 0)) → ⊥) → BetterBelow bs m k b → ⊥
            unfolding e
            chord_ends none x =
                back_only v e ss ok falls q low at_j byte (none_lower c.0) c.1
                (λ y. none (next_from (chorded b (get_or bs (5 * k + 1) 0)) y)) (on x)

    -- FORWARD
    module _ (ahead : get_or bs (5 * k) 0 < get_or bs (5 * k + 1) 0) where
      rises : e.j < e.i → ⊥
      rises h = omega (arith, i_is, j_is)

      pub front_on_path : PathPlace b.count b.path (get_or bs (5 * k) 0)
      front_on_path = let p = front_place v e ss ok rises in record { i = p.i; below = p.below; is = p.is ∙ sym i_is }

      module _ (q : ℕ) (low : q < b.count) (is : get_or b.path q 0 ≡ get_or bs (5 * k) 0) where
        at_i : get_or b.path q 0 ≡ e.i
        at_i = is ∙ i_is

        free : (w : ℕ) → w < n → get_or b.used w true ≡ false → Free b w
        free w h u = record { below = omega (arith, goes_marked.low); unused = u }

        pub edge_before : BeforeEdge t b.numbers b.used b.path b.count b.low n q → BetterBelow bs m k b
        edge_before (inl c) =
            sees_earlier (front_chord v e ss ok rises c.q (record { inner = omega (arith, c.below); high = c.high }) c.some)
        edge_before (inr c) =
            sees_earlier (front_deeper v e ss ok rises q low at_i c.p c.edge.w c.above c.below
            (free c.edge.w c.edge.below c.edge.free) c.edge.some)

        module _ (byte : (rec_in (row 5 k bs)).kj < 256) where
          module _ (w : ℕ) (h : w < n) {l : ℕ} (f : FreeLabel t b.used (device_placed b.numbers b.path q) w l) where
            pub edge_lower : Lower l (wanted_label bs k) → BetterBelow bs m k b
            unfolding e
            edge_lower x =
                let u = f.taken x.0 in
                let s = f.free u in
                sees_earlier (front_label v e ss ok rises q low at_i byte w (free w h u) (rw s at x.0) (rw s at x.1))

            pub not_lower_way : (Lower l (wanted_label bs k) → ⊥) → (l ≡ wanted_label bs k → ⊥) → TriedWay t bs m k b q w
            not_lower_way a c =
                record {
                  not_lower = λ u x. a (rw (f.free u) x);
                  no_way = λ u x y. c (f.free u ∙ x);
                }

            module _ (own : l ≡ wanted_label bs k) where
              unused : get_or b.used w true ≡ false
              unused = f.taken (omega arith)

              label_own : edge_label t b q w ≡ wanted_label bs k
              label_own = sym (f.free unused) ∙ own

              pub edge_way_room : b.given < 10
              unfolding e
              edge_way_room = front_room v e ss ok rises q low at_i byte w (free w h unused) label_own

              pub edge_goes : TestGoesOn t bs m n (k + 1) (with_edge b q w)
              unfolding e
              edge_goes = goes (with_edge b q w) (front_represents v e ss ok rises q low at_i byte w (free w h unused) label_own)

              pub edge_tells : BetterBelow bs m (k + 1) (with_edge b q w) → BetterBelow bs m k b
              unfolding e
              edge_tells x =
                  here (front_on v e ss ok rises q low at_i byte w (free w h unused) label_own (next_to (with_edge b q w) x))

              pub tried_way : (BetterBelow bs m (k + 1) (with_edge b q w) → ⊥) → TriedWay t bs m k b q w
              tried_way none =
                  record { not_lower = λ u x. omega (arith, x.1, label_own); no_way = λ u x. none }

          -- A TWIN below w that was tried stands for it
          pub twin_way : (w : ℕ) → w < n → FreeTwin t b.used w → ((u : ℕ) → u < w → TriedWay t bs m k b q u) → TriedWay t bs m k b q w
          unfolding e
          twin_way w h x tried =
              record {
                not_lower = λ f z. p.not_lower x.free (rw (same f) z);
                no_way = λ f own z. p.no_way x.free (same f ∙ own) (stands f own z);
              }
            where
              p : TriedWay t bs m k b q x.u
              p = tried x.u x.below

              d : Drawing
              d = decoded (code_records bs)

              simple : Simple d
              simple = code_simple bs G.counted.tabled.accepted

              same : get_or b.used w true ≡ false → edge_label t b q x.u ≡ edge_label t b q w
              same f = twin_label d simple v.ten t v.labels (take k (code_records bs)) b v.branch (free w h f) x q low

              stands :
                  get_or b.used w true ≡ false → edge_label t b q w ≡ wanted_label bs k → BetterBelow bs m (k + 1) (with_edge b q w)
                  → BetterBelow bs m (k + 1) (with_edge b q x.u)
              stands f own z =
                  let room = front_room v e ss ok rises q low at_i byte w (free w h f) own in
                  twin_edge_better d simple v.ten t v.labels (take k (code_records bs)) b v.branch (free w h f) x kinds_before
                  (take (k + 1) (code_records bs)) q room (drop (k + 1) (take m (code_records bs))) z

          -- ALL DEVICES TRIED
          pub edge_way_none :
              (BeforeEdge t b.numbers b.used b.path b.count b.low n q → ⊥)
              → ((w : ℕ) → w < n → TriedWay t bs m k b q w) → BetterBelow bs m k b → ⊥
          unfolding e
          edge_way_none before tried x = front_none v e ss ok rises q low at_i byte no_chord no_deeper no_lower no_way (on x)
            where
              no_chord : NoChord t b
              no_chord p o = go (dec_lt 0 (chord_label t b p))
                where
                  go : Dec (0 < chord_label t b p) → chord_label t b p ≡ 0
                  go (yes s) = absurd (before (inl (record { q = p; below = omega (arith, o.inner); high = o.high; some = s })))
                  go (no s) = omega arith

              in_range : (p w : ℕ) → p < b.count → Free b w → 0 < edge_label t b p w → w < n
              in_range p w h f s = labelled_low (device_at b p) w (goes_places.lands p h) f.below s

              no_deeper : (p w : ℕ) → q < p → p < b.count → Free b w → edge_label t b p w ≡ 0
              no_deeper p w a h f = go (dec_lt 0 (edge_label t b p w))
                where
                  go : Dec (0 < edge_label t b p w) → edge_label t b p w ≡ 0
                  go (yes s) =
                      absurd
                      (before
                      (inr
                      (record { p = p; above = a; below = h; edge = record { w = w; below = in_range p w h f s; free = f.unused; some = s } })))
                  go (no s) = omega arith

              no_lower : (w : ℕ) → Free b w → (0 < edge_label t b q w) × (edge_label t b q w < wanted_label bs k) → ⊥
              no_lower w f s = (tried w (in_range q w low f s.0)).not_lower f.unused s

              no_way : (w : ℕ) → Free b w → edge_label t b q w ≡ wanted_label bs k → BetterNext (with_edge b q w) → ⊥
              no_way w f l y =
                  (tried w (in_range q w low f (omega arith))).no_way f.unused l (next_from (with_edge b q w) y)
