-- A branch against the next row of an accepted code, as the program tells it: what each test says. Rests on AcceptedLaws.
-- Assumes nothing.
use Rattle.std.specs.Prelude.{◌≡◌, true, List, ◌⊎◌, ℕ, ◌≤◌, ◌<◌, get_or}
use Rattle.std.proofs.Common.{sym, subst, inl, inr, arith}
use Rattle.std.proofs.Math.Decide.{dec_lt}
use Rattle.laws.specs.Tests.{Three, less, same, more}
use Rattle.graphs.specs.Drawing.{Drawing}
use Rattle.codes.specs.Code.{Rec, Reading, fresh, kinds_before, rec_before, read_rows}
use Rattle.codes.specs.CodeOrder.{kinds_order, rec_before_strict}
use Rattle.codes.specs.Extension.{Local}
use Rattle.codes.specs.Better.{SeesBefore}
use Rattle.codes.specs.BranchState.{label_of, State, numbering, chord_label, edge_label, Free, NoChord, EdgeFound}
use Rattle.codes.specs.BranchBounds.{Bounds, represents_bounds}
use Rattle.codes.specs.Descending.{PathPlace}
use Rattle.std.specs.declared.cmp.Ordering.{Ordering}
use Rattle.std.specs.declared.cmp.Ordering.TheVariants.{Less, Equal, Greater}
use Rattle.branches.specs.Branches.{OnPath, Places}
use Rattle.branches.specs.Extensions.{LeastEdge}
use Rattle.branches.specs.InPlaceLaws.{bounds_places, places_at}
use Rattle.least_seen.specs.declared.met.Met.{Met}
use Rattle.least_seen.specs.declared.met.Met.TheVariants.{Earlier, Back, Front, Later}
use Rattle.least_seen.specs.Accepting.{MarksNumbered, ChordBelow, ChordTold, Lower, BeforeEdge}
use Rattle.least_seen.specs.Meetings.{RowNext, RowMet}
use Rattle.least_seen.specs.AcceptedLaws.{
  one_way,
  back_open,
  back_lower,
  back_label,
  back_not_before,
  back_not_there,
  back_found,
  back_is,
  front_place,
  front_chord,
  front_deeper,
  front_label,
  front_is,
  front_not_there,
  front_not_before,
}

-- where nothing comes before a record, and it does not go on itself, all that goes on comes after it
only_later :
    (d : Drawing) (x : Reading) (f : List ℕ) (e : Rec) → (SeesBefore kinds_before d x f e → ⊥) → (Local d x f e → ⊥)
    → (l : Rec) → Local d x f l → rec_before e l ≡ true
only_later d x f e none gone l h = go ((rec_before_strict kinds_before kinds_order).tri e l)
  where
    go : Three (rec_before e l ≡ true) (e ≡ l) (rec_before l e ≡ true) → rec_before e l ≡ true
    go (less q) = q
    go (same q) = absurd (gone (subst (Local d x f) (sym q) h))
    go (more q) = absurd (none (record { l = l; local = h; earlier = q }))

-- what the order of a chord tells
abbrev pub chord_met : Ordering → Met
chord_met Less = Earlier
chord_met Equal = Back
chord_met Greater = Later

module _ {d : Drawing} {t : List ℕ} {γ : List Rec} {b : State} {e : Rec} (n : RowNext d t γ b e) where
  bounds : Bounds b
  bounds = represents_bounds d γ b n.sees.ten n.sees.branch

  -- WHAT THE PROGRAM NEEDS
  pub row_places : Places b.numbers b.path b.count
  row_places = bounds_places b bounds

  pub row_counts : (2 ≤ b.count) × (b.count ≤ 10)
  row_counts = (bounds.two, omega (arith, bounds.count_low, bounds.given_low))

  pub row_marked : MarksNumbered b.used 10
  row_marked = record { low = omega arith; size = n.sees.branch.used_size }

  -- BACKWARD
  module _ (back : e.i < e.j → ⊥) where
    falls : e.j < e.i
    falls = one_way n.sees e n.rest n.accepted back

    pub row_back_told_place : PathPlace b.count b.path e.j
    row_back_told_place =
        let o = back_open n.sees e n.rest n.accepted falls in
        record { i = o.q; below = omega (arith, o.place.inner); is = o.is }

    module _ (q : ℕ) (low : q < b.count) (is : get_or b.path q 0 ≡ e.j) (byte : e.kj < 256) where
      none_lower : (ChordBelow t b.numbers b.path b.count b.low q → ⊥)
          → (p : ℕ) → p < q → b.low ≤ get_or b.path p 0 → chord_label t b p ≡ 0
      none_lower none p h l = go (dec_lt 0 (chord_label t b p))
        where
          go : Dec (0 < chord_label t b p) → chord_label t b p ≡ 0
          go (yes s) = absurd (none (record { q = p; below = h; high = l; some = s }))
          go (no s) = omega arith

      pub row_back_told :
          (o : Ordering) → ChordTold t b.numbers b.path b.count b.low q (label_of e.c e.kj) o → RowMet d t γ b e (chord_met o)
      row_back_told Less (inl c) = back_lower n.sees e n.rest n.accepted falls q low is c.q c.below c.high c.some
      row_back_told Less (inr l) = back_label n.sees e n.rest n.accepted falls q low is byte l.0 l.1
      row_back_told Equal c = (
        q,
        back_found n.sees e n.rest n.accepted falls q low is byte (none_lower c.0) c.1,
        back_is n.sees e n.rest n.accepted falls q low is byte (none_lower c.0) c.1,
      )
      row_back_told Greater c =
          only_later d (read_rows fresh γ) (numbering b) e
          (back_not_before n.sees e n.rest n.accepted falls q low is byte (none_lower c.0) c.2)
          (back_not_there n.sees e n.rest n.accepted falls q low is byte (none_lower c.0) c.1)

  -- FORWARD
  module _ (ahead : e.i < e.j) where
    rises : e.j < e.i → ⊥
    rises h = omega arith

    pub row_front_place : PathPlace b.count b.path e.i
    row_front_place = front_place n.sees e n.rest n.accepted rises

    module _ (q : ℕ) (low : q < b.count) (is : get_or b.path q 0 ≡ e.i) where
      pub row_on_path : OnPath b.numbers b.path q
      row_on_path = places_at row_places q low

      pub row_front_before : BeforeEdge t b.numbers b.used b.path b.count b.low 10 q → RowMet d t γ b e Earlier
      row_front_before (inl c) =
          front_chord n.sees e n.rest n.accepted rises c.q (record { inner = omega (arith, c.below); high = c.high }) c.some
      row_front_before (inr c) =
          front_deeper n.sees e n.rest n.accepted rises q low is c.p c.edge.w c.above c.below
          (record { below = c.edge.below; unused = c.edge.free }) c.edge.some

      module _ (byte : e.kj < 256) (before : BeforeEdge t b.numbers b.used b.path b.count b.low 10 q → ⊥) (l : ℕ)
          (least : LeastEdge t b q 10 l) where
        pub row_front_lower : Lower l (label_of e.c e.kj) → RowMet d t γ b e Earlier
        row_front_lower x =
            let w = least.from x.0 in
            front_label n.sees e n.rest n.accepted rises q low is byte w.device w.free (rw w.label x.0) (rw w.label x.1)

        no_chord : NoChord t b
        no_chord p o = go (dec_lt 0 (chord_label t b p))
          where
            go : Dec (0 < chord_label t b p) → chord_label t b p ≡ 0
            go (yes s) = absurd (before (inl (record { q = p; below = omega (arith, o.inner); high = o.high; some = s })))
            go (no s) = omega arith

        no_deeper : (p w : ℕ) → q < p → p < b.count → Free b w → edge_label t b p w ≡ 0
        no_deeper p w a h f = go (dec_lt 0 (edge_label t b p w))
          where
            go : Dec (0 < edge_label t b p w) → edge_label t b p w ≡ 0
            go (yes s) =
                absurd
                (before (inr (record { p = p; above = a; below = h; edge = record { w = w; below = f.below; free = f.unused; some = s } })))
            go (no s) = omega arith

        pub row_front_same : l ≡ label_of e.c e.kj → RowMet d t γ b e (Front q l)
        row_front_same own = (found, rw own (front_is n.sees e n.rest n.accepted rises q low is byte))
          where
            some : 0 < l
            some = omega arith

            either : (w : ℕ) → (edge_label t b q w ≡ 0) ⊎ ((0 < l) × (l ≤ edge_label t b q w)) → (edge_label t b q w ≡ 0) ⊎ (l ≤ edge_label t b q w)
            either w (inl z) = inl z
            either w (inr z) = inr z.1

            found : EdgeFound t b q l
            found =
                let w = least.from some in
                record {
                  place = low;
                  some = some;
                  device = w.device;
                  free = w.free;
                  label = w.label;
                  least = λ v f. either v (least.least v f.below f);
                  deepest = no_deeper;
                  no_chord = no_chord;
                }

        pub row_front_later :
            (Lower l (label_of e.c e.kj) → ⊥) → (l ≡ label_of e.c e.kj → ⊥) → RowMet d t γ b e Later
        row_front_later lower other =
            only_later d (read_rows fresh γ) (numbering b) e
            (front_not_before n.sees e n.rest n.accepted rises q low is byte no_chord no_deeper no_lower)
            (front_not_there n.sees e n.rest n.accepted rises q low is byte no_way)
          where
            above : (w : ℕ) → (edge_label t b q w ≡ 0) ⊎ ((0 < l) × (l ≤ edge_label t b q w))
                → (edge_label t b q w ≡ 0) ⊎ (label_of e.c e.kj < edge_label t b q w)
            above w (inl z) = inl z
            above w (inr z) = inr (go (dec_lt l (label_of e.c e.kj)))
              where
                go : Dec (l < label_of e.c e.kj) → label_of e.c e.kj < edge_label t b q w
                go (yes h) = absurd (lower (z.0, h))
                go (no h) = let k : l ≡ label_of e.c e.kj → ⊥ = other in omega (arith, z.1)

            not_low : (w : ℕ) → (edge_label t b q w ≡ 0) ⊎ (label_of e.c e.kj < edge_label t b q w)
                → (0 < edge_label t b q w) × (edge_label t b q w ≤ label_of e.c e.kj) → ⊥
            not_low w (inl z) x = omega (arith, x.0)
            not_low w (inr z) x = omega (arith, x.1)

            no_lower : (w : ℕ) → Free b w → (0 < edge_label t b q w) × (edge_label t b q w < label_of e.c e.kj) → ⊥
            no_lower w f x = not_low w (above w (least.least w f.below f)) (x.0, omega (arith, x.1))

            no_way : (w : ℕ) → Free b w → edge_label t b q w ≡ label_of e.c e.kj → ⊥
            no_way w f x = not_low w (above w (least.least w f.below f)) (omega arith, omega arith)
