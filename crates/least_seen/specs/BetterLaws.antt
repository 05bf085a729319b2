-- What an extension that is the code's next record tells of the records below a branch: every way has to be followed. Rests on Better
-- and the laws of branches. Assumes nothing.
use Rattle.std.specs.Prelude.{◌≡◌, refl, false, List, ◌∷◌, ◌++◌, ◌⊎◌, ℕ, ◌-◌, ◌≤◌, ◌<◌, get_or, Option, Some, None}
use Rattle.std.proofs.Common.{sym, ap, ◌∙◌, inl, arith, ne_eqb}
use Rattle.std.proofs.Math.Path.{subst}
use Rattle.std.proofs.Math.Logic.{inr}
use Rattle.std.proofs.Math.Decide.{ℕ_discrete}
use Rattle.laws.specs.Tests.{true_and_false}
use Rattle.laws.specs.Lists.{snoc}
use Rattle.graphs.specs.Drawing.{Drawing, devices}
use Rattle.graphs.specs.Cables.{Has}
use Rattle.graphs.specs.Embedding.{EndsInRange}
use Rattle.codes.specs.Code.{
  Rec,
  Reading,
  fresh,
  forward,
  kinds_before,
  rec_before_by,
  rec_before,
  rec_same,
  rows_refusal,
  read_rows,
}
use Rattle.codes.specs.CodeOrder.{rec_eq}
use Rattle.codes.specs.Step.{Step, steps_back, steps_forward}
use Rattle.codes.specs.ReadRows.{step_from_test, rows_cons, rows_divided}
use Rattle.codes.specs.Extension.{Local, next}
use Rattle.codes.specs.Better.{Better}
use Rattle.codes.specs.BranchState.{
  label_at,
  Labels,
  State,
  numbering,
  device_at,
  ChordFound,
  EdgeFound,
  chord_of,
  edge_of,
  with_edge,
  Represents,
}
use Rattle.codes.specs.BranchBounds.{Bounds, represents_bounds, device_low}
use Rattle.codes.specs.LabelLaws.{end_byte}
use Rattle.codes.specs.BranchLaws.{chord_found_local, chord_next, edge_local, edge_room}
use Rattle.codes.specs.BranchLeast.{chord_found_least, edge_found_least, edge_ties}
use Rattle.codes.specs.BranchSteps.{represents_chord, represents_edge, numbering_with_edge}
use Rattle.branches.specs.declared.extension.Extension.{Extension}
use Rattle.branches.specs.declared.extension.Extension.TheVariants.{Chord, Edge}
use Rattle.std.specs.declared.cmp.Ordering.TheVariants.{Equal}
use Rattle.code_records.specs.Records.{order_of}
use Rattle.code_records.specs.RecordLaws.{order_equal}
use Rattle.branches.specs.Extensions.{ExtensionFound}
use Rattle.branches.specs.NextRecords.{CanRecord}
use Rattle.branches.specs.Ways.{TiesWay, Way, followed}
use Rattle.least_seen.specs.Betters.{step_order}

-- TWO RECORDS FROM ONE DEVICE agree in its kind, so that either's stands in; from two devices kinds do not count
stands_in : (a e : Rec) → (a.i ≡ e.i → a.ki ≡ e.ki)
    → order_of (record { i = a.i; j = a.j; ki = e.ki; c = a.c; kj = a.kj }) e ≡ order_of a e
unfolding order_of rec_same rec_before_by forward
stands_in a e same = go (ℕ_discrete a.i e.i)
  where
    go : Dec (a.i ≡ e.i) → order_of (record { i = a.i; j = a.j; ki = e.ki; c = a.c; kj = a.kj }) e ≡ order_of a e
    go (yes q) = ap (λ (z : Rec). order_of z e) (rec_eq _ a refl refl (sym (same q)) refl refl)
    go (no q) = rw (ne_eqb a.i e.i q)

-- the record that comes next has the kind that was given to its device
pub next_kind : (x : Reading) (e : Rec) → Step x e → get_or x.kinds e.i 256 ≡ e.ki
next_kind x e (steps_back o p q) = p
next_kind x e (steps_forward m p q k) = k

-- A BRANCH with the table that it looks at
pub record Sees (d : Drawing) (t : List ℕ) (γ : List Rec) (b : State) : Type 0 where
  pub ten : devices d ≤ 10
  pub ends : EndsInRange d
  pub labels : Labels d t
  pub branch : Represents d γ b

module _ {d : Drawing} {t : List ℕ} {γ : List Rec} {b : State} (v : Sees d t γ b) where
  -- what was read, its numbering, and the records that extensions of it stand for
  abbrev x : Reading
  x = read_rows fresh γ

  abbrev f : List ℕ
  f = numbering b

  abbrev chord : (q l : ℕ) → Rec
  chord q l = chord_of x b q l

  abbrev edge : (q l : ℕ) → Rec
  edge q l = edge_of x b q l

  -- a label is that of two bytes
  label_most : (u w : ℕ) → u < 10 → w < 10 → label_at t u w ≤ 65536
  label_most u w p q = go (v.labels.only u w p q)
    where
      go : (label_at t u w ≡ 0) ⊎ ((k : ℕ) × Has u w k d.cables) → label_at t u w ≤ 65536
      go (inl z) = omega arith
      go (inr z) =
          omega (
            arith,
            v.labels.joined u w z.0 z.1,
            v.labels.cable_byte u w z.0 z.1,
            end_byte d v.ends t v.labels u w z.0 z.1,
          )

  bounds : Bounds b
  bounds = represents_bounds d γ b v.ten v.branch

  low : (q : ℕ) → q < b.count → device_at b q < 10
  low = device_low d γ b v.ten v.branch

  -- WHAT THE PROGRAM NEEDS of what is found
  pub found_records : (s : Option Extension) → ExtensionFound t b s → CanRecord b.count s
  found_records (Some (Chord q l)) c =
      let h : q < b.count = omega (arith, c.place.inner) in
      let g : b.count - 1 < b.count = omega (arith, c.place.inner) in
      let m = label_most (device_at b (b.count - 1)) (device_at b q) (low (b.count - 1) g) (low q h) in
      (h, c.some, omega (arith, c.label))
  found_records (Some (Edge q l)) c =
      (c.place, c.some, omega (arith, label_most (device_at b q) c.device (low q c.place) c.free.below, c.label))
  found_records None c = tt

  room : (q l w : ℕ) → EdgeFound t b q l → TiesWay t b q l w → b.given < 10
  room q l w c k = edge_room d v.ten v.ends t v.labels γ b v.branch q w c.place k.free (omega (arith, k.label, c.some))

  -- the device of a tie can be given the next number
  pub tie_room : (q l w : ℕ) → EdgeFound t b q l → TiesWay t b q l w → (b.given < 10) × (q < 9) × (w < 10)
  tie_room q l w c k = (room q l w c k, omega (arith, c.place, bounds.count_low, room q l w c k), k.free.below)

  -- THE RECORD a is the least that is seen
  module _ (a : Rec) (least : (l : Rec) → Local d x f l → rec_before l a ≡ false) (e : Rec) (ss : List Rec) where
    seen_equal : a ≡ e → Better kinds_before d γ (e ∷ ss) f
        → (h : Local d x f e) × Better kinds_before d (snoc γ e) ss (next h)
    unfolding Better
    seen_equal q (inl s) = absurd (true_and_false s.earlier (rw q at (least s.l s.local)))
    seen_equal q (inr m) = m

  -- THE NEXT RECORD e of a code that is accepted
  module _ (e : Rec) (ss : List Rec) (ok : rows_refusal fresh (γ ++ e ∷ ss) ≡ 0) where
    kind_is : get_or x.kinds e.i 256 ≡ e.ki
    kind_is =
        let c = rows_cons x e ss (rows_divided fresh γ (e ∷ ss) ok).1 in
        next_kind x e (step_from_test x v.branch.node.invariant e c.step c.kinds)

    chord_stands : (q l : ℕ) → step_order b (Some (Chord q l)) e ≡ order_of (chord q l) e
    chord_stands q l =
        stands_in (chord q l) e (λ i. ap (λ (n : ℕ). get_or x.kinds n 256) i ∙ kind_is)

    edge_stands : (q l : ℕ) → step_order b (Some (Edge q l)) e ≡ order_of (edge q l) e
    edge_stands q l =
        stands_in (edge q l) e (λ i. ap (λ (n : ℕ). get_or x.kinds n 256) i ∙ kind_is)

    chord_equal : (q l : ℕ) → step_order b (Some (Chord q l)) e ≡ Equal → chord q l ≡ e
    chord_equal q l o = order_equal _ e (sym (chord_stands q l) ∙ o)

    edge_equal : (q l : ℕ) → step_order b (Some (Edge q l)) e ≡ Equal → edge q l ≡ e
    edge_equal q l o = order_equal _ e (sym (edge_stands q l) ∙ o)

    -- EQUAL: each way is a branch that has followed e
    pub way_represents : (s : Option Extension) → ExtensionFound t b s → step_order b s e ≡ Equal → (w : ℕ) → Way t b s w
        → Represents d (snoc γ e) (followed b s w)
    way_represents (Some (Chord q l)) c o w k =
        rw (← chord_equal q l o)
        (represents_chord d v.ten v.ends t v.labels γ b v.branch q l c.place c.label c.some)
    way_represents (Some (Edge q l)) c o w k =
        rw (← edge_equal q l o)
        (represents_edge d v.ten v.ends t v.labels γ b v.branch q w l c.place k.free k.label c.some)
    way_represents None c o w k = absurd k

    -- what is better there is better here
    chord_better : (q l : ℕ) → ChordFound t b q l → (z : Rec) → chord q l ≡ z
        → Better kinds_before d (snoc γ z) ss f → Better kinds_before d γ (z ∷ ss) f
    unfolding Better
    chord_better q l c z e =
        let h = chord_found_local d v.ten v.ends t v.labels γ b v.branch q l c in
        subst (λ (y : Rec). Better kinds_before d (snoc γ y) ss f → Better kinds_before d γ (y ∷ ss) f) e
        (λ m. inr (h, rw (chord_next d v.ten v.ends t v.labels γ b v.branch q l h c.place) m))

    edge_better : (q l w : ℕ) → EdgeFound t b q l → TiesWay t b q l w → (z : Rec) → edge q l ≡ z
        → Better kinds_before d (snoc γ z) ss (numbering (with_edge b q w)) → Better kinds_before d γ (z ∷ ss) f
    unfolding Better
    edge_better q l w c k z e =
        let h = edge_local d v.ten v.ends t v.labels γ b v.branch q w l c.place k.free k.label c.some in
        subst
        (λ (y : Rec). Better kinds_before d (snoc γ y) ss (numbering (with_edge b q w)) → Better kinds_before d γ (y ∷ ss) f) e
        (λ m. inr (h.0, rw (h.1, ← numbering_with_edge d v.ten v.ends t v.labels γ b v.branch q w (room q l w c k)) m))

    pub way_better : (s : Option Extension) → ExtensionFound t b s → step_order b s e ≡ Equal → (w : ℕ) → Way t b s w
        → Better kinds_before d (snoc γ e) ss (numbering (followed b s w)) → Better kinds_before d γ (e ∷ ss) f
    way_better (Some (Chord q l)) c o w k = chord_better q l c e (chord_equal q l o)
    way_better (Some (Edge q l)) c o w k = edge_better q l w c k e (edge_equal q l o)
    way_better None c o w k = absurd k

    -- where nothing is on any way, nothing is here
    chord_none : (q l : ℕ) → ChordFound t b q l → (z : Rec) → chord q l ≡ z
        → (Better kinds_before d (snoc γ z) ss f → ⊥) → Better kinds_before d γ (z ∷ ss) f → ⊥
    chord_none q l c z e =
        subst (λ (y : Rec). (Better kinds_before d (snoc γ y) ss f → ⊥) → Better kinds_before d γ (y ∷ ss) f → ⊥) e
        (λ none m.
        let p = seen_equal (chord q l) (chord_found_least d v.ten v.ends t v.labels γ b v.branch q l c) (chord q l) ss refl m in
        none (rw (chord_next d v.ten v.ends t v.labels γ b v.branch q l p.0 c.place) at p.1))

    edge_none : (q l : ℕ) → EdgeFound t b q l → (z : Rec) → edge q l ≡ z
        → ((w : ℕ) → TiesWay t b q l w → Better kinds_before d (snoc γ z) ss (numbering (with_edge b q w)) → ⊥)
        → Better kinds_before d γ (z ∷ ss) f → ⊥
    edge_none q l c z e =
        subst
        (λ (y : Rec).
        ((w : ℕ) → TiesWay t b q l w → Better kinds_before d (snoc γ y) ss (numbering (with_edge b q w)) → ⊥)
        → Better kinds_before d γ (y ∷ ss) f → ⊥)
        e (λ none m. go none (seen_equal a (edge_found_least d v.ten v.ends t v.labels γ b v.branch q l c) a ss refl m))
      where
        a : Rec
        a = edge q l

        go :
            ((w : ℕ) → TiesWay t b q l w → Better kinds_before d (snoc γ (edge q l)) ss (numbering (with_edge b q w)) → ⊥)
            → (h : Local d x f (edge q l))
            × Better kinds_before d (snoc γ (edge q l)) ss (next h)
            → ⊥
        go none (h, m) =
            let i = edge_ties d v.ten v.ends t v.labels γ b v.branch q l c.place c.some h in
            let k : TiesWay t b q l i.w = record { free = i.free; label = i.label } in
            none i.w k
            (rw (numbering_with_edge d v.ten v.ends t v.labels γ b v.branch q i.w (room q l i.w c k), ← i.next_is) m)

    pub ways_none : (s : Option Extension) → ExtensionFound t b s → step_order b s e ≡ Equal
        → ((w : ℕ) → w < 10 → Way t b s w → Better kinds_before d (snoc γ e) ss (numbering (followed b s w)) → ⊥)
        → Better kinds_before d γ (e ∷ ss) f → ⊥
    ways_none (Some (Chord q l)) c o none = chord_none q l c e (chord_equal q l o) (none 0 (omega arith) refl)
    ways_none (Some (Edge q l)) c o none = edge_none q l c e (edge_equal q l o) (λ w k. none w k.free.below k)
    ways_none None c o none = let z : ◌≡◌ {A = ℕ} 0 1 = cc in absurd (omega arith)
