-- A search below a branch, way by way: where the ways of the record found lead, and what they add up to. Rests on SearchLaws,
-- BranchSteps, TwinBranches and Searched. Assumes nothing.
use Rattle.std.specs.Prelude.{◌≡◌, refl, List, ◌⊎◌, ℕ, zero, suc, ◌+◌, ◌-◌, ◌≤◌, ◌<◌, length, Option, Some, None}
use Rattle.std.proofs.Common.{sym, ap, ◌∙◌, subst, inl, inr, arith}
use Rattle.std.proofs.Math.Decide.{dec_lt}
use Rattle.laws.specs.Lists.{snoc, snoc_length}
use Rattle.graphs.specs.Drawing.{Drawing, devices, drawing_in}
use Rattle.graphs.specs.Embedding.{EndsInRange}
use Rattle.codes.specs.Code.{Rec, fresh, read_rows, kinds_before}
use Rattle.codes.specs.CodeOrder.{kinds_order}
use Rattle.codes.specs.Extension.{Local, next}
use Rattle.codes.specs.Tight.{Tight}
use Rattle.codes.specs.Branch.{tight_next}
use Rattle.codes.specs.Runs.{LeastRun}
use Rattle.codes.specs.Searched.{Full, Ties, Chosen, ties_none, ties_more, chosen_best, searched_step}
use Rattle.codes.specs.BranchState.{Labels, State, numbering, OpenPlace, EdgeFound, edge_of, with_edge, Represents}
use Rattle.codes.specs.BranchLaws.{chord_found_local, chord_next, edge_local, edge_room}
use Rattle.codes.specs.BranchLeast.{Tie, nothing_found, edge_ties}
use Rattle.codes.specs.BranchSteps.{represents_chord, numbering_with_edge, represents_edge}
use Rattle.codes.specs.TwinBranches.{twin_free, twin_label, twin_edge_run}
use Rattle.branches.specs.declared.extension.Extension.{Extension}
use Rattle.branches.specs.declared.extension.Extension.TheVariants.{Chord, Edge}
use Rattle.branches.specs.Extensions.{ExtensionFound}
use Rattle.branches.specs.NextRecords.{found_record}
use Rattle.branches.specs.Ways as ways
use Rattle.branches.specs.Ways.{Way, Passed, followed}
use Rattle.least_below.specs.Searches.{SearchFrom, SearchDone, LedBelow}
use Rattle.least_below.specs.SearchLaws.{chord_record_is, edge_record_is, found_least, found_local}

-- fewer ties are searched too
ties_fewer :
    (d : Drawing) (γ first now : List Rec) (Done Fewer : List ℕ → Type 0) → Ties kinds_before kinds_order d γ first now Done
    → ((g : List ℕ) → Fewer g → Done g) → Ties kinds_before kinds_order d γ first now Fewer
ties_fewer d γ first now Done Fewer t z =
    record { best = t.best; at_most = t.at_most; full = λ g h. t.full g (z g h); least = λ g h. t.least g (z g h) }

module _ {bs t : List ℕ} {m : ℕ} {γ : List Rec} {b : State} {best : List Rec} (s : SearchFrom bs t m γ b best) where
  abbrev d : Drawing
  d = drawing_in bs

  abbrev ten : devices (drawing_in bs) ≤ 10
  ten = s.given.pattern.devices_high

  abbrev ends : EndsInRange (drawing_in bs)
  ends = s.given.pattern.simple.ends

  abbrev table : Labels (drawing_in bs) t
  table = s.given.labels

  abbrev r : Represents (drawing_in bs) γ b
  r = s.represents

  -- a step along a record from the branch
  abbrev Steps : Rec → Type 0
  Steps y = Local (drawing_in bs) (read_rows fresh γ) (numbering b) y

  -- A CHORD leads to the same numbering
  chord_numbering : (q l : ℕ) → OpenPlace b q → (h : Steps (found_record (drawing_in bs) b (Some (Chord q l)))) → next h ≡ numbering b
  chord_numbering q l o =
      subst (λ (z : Rec). (h : Steps z) → next h ≡ numbering b) (sym (chord_record_is s q l))
      (λ h. chord_next d ten ends t table γ b r q l h o)

  -- AN EDGE to one with a device more
  module _ (q l : ℕ) (found : EdgeFound t b q l) where
    edge_is : found_record (drawing_in bs) b (Some (Edge q l)) ≡ edge_of (read_rows fresh γ) b q l
    edge_is = edge_record_is s q l found.place

    module _ (w : ℕ) (tie : ways.TiesWay t b q l w) where
      room : b.given < 10
      room = edge_room d ten ends t table γ b r q w found.place tie.free (omega (arith, tie.label, found.some))

      edge_numbering : numbering (with_edge b q w) ≡ snoc (numbering b) w
      edge_numbering = numbering_with_edge d ten ends t table γ b r q w room

      edge_step : (h : Steps (found_record (drawing_in bs) b (Some (Edge q l)))) × (next h ≡ numbering (with_edge b q w))
      edge_step =
          rw (edge_is, edge_numbering)
          (edge_local d ten ends t table γ b r q w l found.place tie.free tie.label found.some)

      edge_represents : Represents (drawing_in bs) (snoc γ (found_record (drawing_in bs) b (Some (Edge q l)))) (with_edge b q w)
      edge_represents =
          rw edge_is (represents_edge d ten ends t table γ b r q w l found.place tie.free tie.label found.some)

  -- THE STEP of a way, and the branch that it leads to
  way_step :
      (e : Option Extension) → ExtensionFound t b e → (w : ℕ) → Way t b e w
      → (h : Steps (found_record (drawing_in bs) b e)) × (next h ≡ numbering (followed b e w))
  way_step (Some (Chord q l)) c w z =
      let h : Steps (found_record (drawing_in bs) b (Some (Chord q l))) =
      rw (chord_record_is s q l) (chord_found_local d ten ends t table γ b r q l c) in
      (h, chord_numbering q l c.place h)
  way_step (Some (Edge q l)) c w z = edge_step q l c w z
  way_step None c w z = absurd z

  way_represents :
      (e : Option Extension) → ExtensionFound t b e → (w : ℕ) → Way t b e w
      → Represents (drawing_in bs) (snoc γ (found_record (drawing_in bs) b e)) (followed b e w)
  way_represents (Some (Chord q l)) c w z =
      rw (chord_record_is s q l) (represents_chord d ten ends t table γ b r q l c.place c.label c.some)
  way_represents (Some (Edge q l)) c w z = edge_represents q l c w z
  way_represents None c w z = absurd z

  -- ANY STEP along the record found is a way
  edge_led : (q l : ℕ) → EdgeFound t b q l → (h : Steps (found_record (drawing_in bs) b (Some (Edge q l)))) → LedBelow t b (Some (Edge q l)) 10 (next h)
  edge_led q l c =
      subst (λ (z : Rec). (h : Steps z) → LedBelow t b (Some (Edge q l)) 10 (next h)) (sym (edge_is q l c))
      (λ h. led (edge_ties d ten ends t table γ b r q l c.place c.some h))
    where
      led : {g : List ℕ} → Tie t b q l g → LedBelow t b (Some (Edge q l)) 10 g
      led y =
          let z : ways.TiesWay t b q l y.w = record { free = y.free; label = y.label } in
          record { w = y.w; below = y.free.below; way = z; is = y.next_is ∙ sym (edge_numbering q l c y.w z) }

  step_led : (e : Option Extension) → ExtensionFound t b e → (h : Steps (found_record (drawing_in bs) b e)) → LedBelow t b e 10 (next h)
  step_led (Some (Chord q l)) c h = record { w = 0; below = omega arith; way = refl; is = chord_numbering q l c.place h }
  step_led (Some (Edge q l)) c h = edge_led q l c h
  step_led None c h = absurd (nothing_found d ten ends t table γ b r c _ h)

  -- A WAY THAT IS PASSED OVER has another below it that stands for it
  record StandsFor (e : Option Extension) (w : ℕ) : Type 0 where
    u : ℕ
    below : u < w
    way : Way t b e u
    run : (δ rest : List Rec) → LeastRun kinds_before kinds_order (drawing_in bs) δ (numbering (followed b e u)) rest
        → LeastRun kinds_before kinds_order (drawing_in bs) δ (numbering (followed b e w)) rest

  stands_for : (e : Option Extension) → ExtensionFound t b e → (w : ℕ) → Way t b e w → Passed t b e w → StandsFor e w
  stands_for (Some (Chord q l)) c w k x = absurd x
  stands_for (Some (Edge q l)) c w k x =
      let p = s.given.pattern.simple in
      record {
        u = x.u;
        below = x.below;
        way = record {
          free = twin_free d p ten t table γ b r k.free x;
          label = twin_label d p ten t table γ b r k.free x q c.place ∙ k.label;
        };
        run = λ δ rest. twin_edge_run d p ten t table γ b r k.free x kinds_before δ q (room q l c w k) kinds_order rest;
      }
  stands_for None c w k x = absurd x

  -- THE WAYS, one after another
  module _ (e : Option Extension) (found : ExtensionFound t b e) (less : length γ < m) where
    abbrev y : Rec
    y = found_record (drawing_in bs) b e

    -- all ways below n are searched
    abbrev pub WaysSearched : (first now : List Rec) (n : ℕ) → Type 0
    WaysSearched first now n = Ties kinds_before kinds_order (drawing_in bs) (snoc γ (found_record (drawing_in bs) b e)) first now
        (LedBelow t b e n)

    pub ways_begin :
        (first : List Rec) → Chosen kinds_before kinds_order (drawing_in bs) γ (found_record (drawing_in bs) b e) best first
        → WaysSearched first first 0
    ways_begin first chosen =
        ties_fewer d (snoc γ y) first first (λ g. ⊥) (LedBelow t b e 0)
        (ties_none kinds_before kinds_order d (snoc γ y) first (chosen_best kinds_before kinds_order d γ y best first s.so_far chosen))
        (λ g z. omega (arith, z.below))

    module _ (first now : List Rec) (n : ℕ) (so : WaysSearched first now n) where
      -- n is no way, or is passed over: its twin was searched
      way_passed : (Way t b e n → Passed t b e n) → WaysSearched first now (suc n)
      way_passed here =
          record { best = so.best; at_most = so.at_most; full = λ g z. full_at z (dec_lt z.w n); least = λ g z. least_at z (dec_lt z.w n) }
        where
          last : {g : List ℕ} (z : LedBelow t b e (suc n) g) → (z.w < n → ⊥) → z.w ≡ n
          last z h = omega (arith, z.below)

          twin : {g : List ℕ} (z : LedBelow t b e (suc n) g) → (z.w < n → ⊥) → StandsFor e n
          twin z h = let k : Way t b e n = rw (← last z h) z.way in stands_for e found n k (here k)

          led : (x : StandsFor e n) → LedBelow t b e n (numbering (followed b e x.u))
          led x = record { w = x.u; below = x.below; way = x.way; is = refl }

          full_at : {g : List ℕ} (z : LedBelow t b e (suc n) g) → Dec (z.w < n) → Full kinds_before kinds_order (drawing_in bs) now
          full_at {g} z (yes h) = so.full g (record { w = z.w; below = h; way = z.way; is = z.is })
          full_at z (no h) = let x = twin z h in so.full _ (led x)

          least_at :
              {g : List ℕ} (z : LedBelow t b e (suc n) g) → Dec (z.w < n)
              → LeastRun kinds_before kinds_order (drawing_in bs) (snoc γ (found_record (drawing_in bs) b e)) g so.best.rest
          least_at {g} z (yes h) = so.least g (record { w = z.w; below = h; way = z.way; is = z.is })
          least_at z (no h) =
              let x = twin z h in
              rw (z.is, last z h) (x.run (snoc γ y) so.best.rest (so.least _ (led x)))

      module _ (way : Way t b e n) where
        pub way_search : SearchFrom bs t m (snoc γ (found_record (drawing_in bs) b e)) (followed b e n) now
        way_search =
            let h = way_step e found n way in
            record {
              given = s.given;
              few = rw snoc_length less;
              represents = way_represents e found n way;
              tight =
                  subst (Tight d (read_rows fresh (snoc γ y))) h.1
                  (tight_next d s.given.pattern kinds_before γ (numbering b) y r.node s.tight (found_least s e found) h.0);
              so_far = so.best;
            }

        pub way_searched :
            (after : List Rec) → SearchDone bs (snoc γ (found_record (drawing_in bs) b e)) (followed b e n) now after
            → WaysSearched first after (n + 1)
        way_searched after z =
            ties_more kinds_before kinds_order d (snoc γ y) first now after (LedBelow t b e n) (LedBelow t b e (n + 1))
            (numbering (followed b e n)) so z
            (λ g v. go v (dec_lt v.w n))
          where
            go : {g : List ℕ} (v : LedBelow t b e (n + 1) g) → Dec (v.w < n) → LedBelow t b e n g ⊎ (g ≡ numbering (followed b e n))
            go v (yes h) = inl (record { w = v.w; below = h; way = v.way; is = v.is })
            go v (no h) =
                let q : v.w ≡ n = omega (arith, v.below) in
                inr (v.is ∙ ap (λ (w : ℕ). numbering (followed b e w)) q)

    -- so are all from n to k
    pub ways_passed :
        (first now : List Rec) (n : ℕ) → WaysSearched first now n → (k : ℕ) → ((w : ℕ) → n ≤ w → w < k → Way t b e w → Passed t b e w)
        → WaysSearched first now k
    ways_passed first now n so k each = go (dec_lt k n)
      where
        on : (m : ℕ) → m + n ≤ k → WaysSearched first now (m + n)
        on zero h = let q : n ≡ zero + n = omega arith in subst (WaysSearched first now) q so
        on (suc m) h =
            let q : suc (m + n) ≡ suc m + n = omega arith in
            subst (WaysSearched first now) q (way_passed first now (m + n) (on m (omega arith)) (each (m + n) (omega arith) (omega arith)))

        go : Dec (k < n) → WaysSearched first now k
        go (yes h) =
            ties_fewer d (snoc γ y) first now (LedBelow t b e n) (LedBelow t b e k) so
            (λ g z. record { w = z.w; below = omega (arith, z.below); way = z.way; is = z.is })
        go (no h) = let q : k - n + n ≡ k = omega arith in subst (WaysSearched first now) q (on (k - n) (omega arith))

    pub ways_done :
        (first after : List Rec) → Chosen kinds_before kinds_order (drawing_in bs) γ (found_record (drawing_in bs) b e) best first
        → WaysSearched first after 10 → SearchDone bs γ b best after
    ways_done first after chosen so =
        searched_step kinds_before kinds_order d ten ends γ (numbering b) y best first after (LedBelow t b e 10) r.node
        (found_least s e found) (found_local s less e found) chosen so (step_led e found)
