-- A search below a branch, record by record: what the next record and its ties establish. Rests on Searched, BranchLeast
-- and BranchSteps. Assumes nothing.
use Rattle.std.specs.Prelude.{◌≡◌, refl, true, List, [], ◌∷◌, ◌++◌, ◌⊎◌, ℕ, ◌-◌, ◌≤◌, ◌<◌, length, get_or, Option, Some, None, IsSome}
use Rattle.std.proofs.Common.{sym, ap, ◌∙◌, inl, inr, arith, length-append}
use Rattle.laws.specs.Tests.{Three, less, same, more, true_and_false}
use Rattle.laws.specs.Orders.{StrictOrder}
use Rattle.graphs.specs.Drawing.{Drawing, devices, drawing_in}
use Rattle.graphs.specs.Embedding.{EndsInRange}
use Rattle.graphs.specs.Graph.{Pattern}
use Rattle.codes.specs.Code.{Rec, fresh, read_rows, kinds_before, rec_before}
use Rattle.codes.specs.CodeOrder.{rec_eq, kinds_order, rec_before_strict}
use Rattle.codes.specs.Extension.{Local}
use Rattle.codes.specs.Greedy.{Fits}
use Rattle.codes.specs.Tight.{Tight}
use Rattle.codes.specs.Branch.{Node, node_goes_on}
use Rattle.codes.specs.Runs.{LeastLocal}
use Rattle.codes.specs.Searched.{Full, searched_done, searched_cut}
use Rattle.codes.specs.BranchState.{Labels, State, numbering, chord_of, edge_of, Represents}
use Rattle.codes.specs.BranchBounds.{Bounds, represents_bounds, numbering_size, device_is, device_kind}
use Rattle.codes.specs.BranchLaws.{chord_found_local, edge_local}
use Rattle.codes.specs.BranchLeast.{chord_found_least, edge_found_least, nothing_found}
use Rattle.std.specs.declared.cmp.Ordering.TheVariants.{Less}
use Rattle.branches.specs.declared.extension.Extension.{Extension}
use Rattle.branches.specs.declared.extension.Extension.TheVariants.{Chord, Edge}
use Rattle.branches.specs.Extensions.{ExtensionFound}
use Rattle.branches.specs.NextRecords.{found_record, MakesRecord}
use Rattle.branches.specs.InPlaceLaws.{bounds_places}
use Rattle.least_seen.specs.declared.met.Met.TheVariants.{Earlier, Later}
use Rattle.least_seen.specs.BetterLaws.{Sees, found_records}
use Rattle.least_seen.specs.Meetings.{RowNext, RowMet}
use Rattle.least_below.specs.Searches.{SearchFrom, SearchDone, Against, comes_before}

-- rows of a node are some
node_some : (d : Drawing) (γ : List Rec) (f : List ℕ) → Node d γ f → 0 < length γ
unfolding read_rows fresh
node_some d [] f n = absurd (omega (arith, n.invariant.two))
node_some d (r ∷ rs) f n = omega arith

module _ {bs t : List ℕ} {m : ℕ} {γ : List Rec} {b : State} {best : List Rec} (s : SearchFrom bs t m γ b best) where
  abbrev d : Drawing
  d = drawing_in bs

  abbrev p : Pattern (drawing_in bs)
  p = s.given.pattern

  abbrev ten : devices (drawing_in bs) ≤ 10
  ten = s.given.pattern.devices_high

  abbrev ends : EndsInRange (drawing_in bs)
  ends = s.given.pattern.simple.ends

  abbrev table : Labels (drawing_in bs) t
  table = s.given.labels

  abbrev r : Represents (drawing_in bs) γ b
  r = s.represents

  pub search_bounds : Bounds b
  search_bounds = represents_bounds d γ b ten r

  -- THE RECORD FOUND is the one that the rows say
  pub chord_record_is : (q l : ℕ) → found_record (drawing_in bs) b (Some (Chord q l)) ≡ chord_of (read_rows fresh γ) b q l
  chord_record_is q l = rec_eq _ _ refl refl (device_kind d γ b ten r (b.count - 1) (omega (arith, search_bounds.two))) refl refl

  pub edge_record_is : (q l : ℕ) → q < b.count → found_record (drawing_in bs) b (Some (Edge q l)) ≡ edge_of (read_rows fresh γ) b q l
  edge_record_is q l below = rec_eq _ _ refl refl (device_kind d γ b ten r q below) refl refl

  -- it is the least that goes on
  pub found_least :
      (e : Option Extension) → ExtensionFound t b e
      → LeastLocal kinds_before kinds_order (drawing_in bs) (read_rows fresh γ) (numbering b) (found_record (drawing_in bs) b e)
  found_least (Some (Chord q l)) c y h = rw (chord_record_is q l) (chord_found_least d ten ends t table γ b r q l c y h)
  found_least (Some (Edge q l)) c y h = rw (edge_record_is q l c.place) (edge_found_least d ten ends t table γ b r q l c y h)
  found_least None c y h = absurd (nothing_found d ten ends t table γ b r c y h)

  -- while a cable is not listed, something goes on
  something : length γ < m → (y : Rec) × Local (drawing_in bs) (read_rows fresh γ) (numbering b) y
  something h = go γ r.node s.tight (rw s.given.cables h)
    where
      go :
          (δ : List Rec) → Node (drawing_in bs) δ (numbering b) → Tight (drawing_in bs) (read_rows fresh δ) (numbering b)
          → length δ < length (drawing_in bs).cables → (y : Rec) × Local (drawing_in bs) (read_rows fresh δ) (numbering b) y
      go [] n i l = absurd (omega (arith, node_some d [] (numbering b) n))
      go (c ∷ δ) n i l = node_goes_on d p c δ (numbering b) n i l

  module _ (less : length γ < m) where
    pub never_none : ExtensionFound t b None → ⊥
    never_none c = let y = something less in nothing_found d ten ends t table γ b r c y.0 y.1

    pub found_some : (e : Option Extension) → ExtensionFound t b e → IsSome e
    found_some (Some e) c = refl
    found_some None c = absurd (never_none c)

    pub found_local :
        (e : Option Extension) → ExtensionFound t b e → Local (drawing_in bs) (read_rows fresh γ) (numbering b) (found_record (drawing_in bs) b e)
    found_local (Some (Chord q l)) c = rw (chord_record_is q l) (chord_found_local d ten ends t table γ b r q l c)
    found_local (Some (Edge q l)) c =
        rw (edge_record_is q l c.place) (edge_local d ten ends t table γ b r q c.device l c.place c.free c.label c.some).0
    found_local None c = absurd (never_none c)

  -- WHAT IS NEEDED to make it
  pub search_sees : Sees (drawing_in bs) t γ b
  search_sees = record { ten = ten; ends = ends; labels = table; branch = r }

  pub makes_record : (e : Option Extension) → ExtensionFound t b e → MakesRecord bs b.numbers b.path b.count b.given e
  makes_record e c =
      record {
        accepted = s.given.accepted;
        some = omega (arith, search_bounds.two);
        given_low = search_bounds.given_low;
        places = bounds_places b search_bounds;
        lands = λ q h.
            rw (device_is d γ b ten r q h)
            (r.node.embedding.lands (get_or b.path q 0) (rw (numbering_size d γ b ten r) (search_bounds.on_path q h)));
        place = found_records search_sees e c;
      }

  -- THE BEST SO FAR has at least the rows, and at most all cables
  whole_count : (best ≡ γ) ⊎ (Full kinds_before kinds_order (drawing_in bs) best × Fits (drawing_in bs) best) → length best ≤ m
  whole_count (inl z) = omega (arith, ap length z, s.few)
  whole_count (inr z) = omega (arith, z.0, s.given.cables)

  pub best_most : length best ≤ m
  best_most = whole_count s.so_far.whole

  pub best_rows : length γ ≤ length best
  best_rows = omega (arith, ap length s.so_far.is, length-append γ s.so_far.rest)

  -- AT THE END OF A BRANCH
  pub search_ended : length γ ≡ m → SearchDone bs γ b best best
  search_ended h = searched_done kinds_before kinds_order d γ (numbering b) best r.node (h ∙ sym s.given.cables) s.so_far

  -- A RECORD OF THE BEST behind the rows
  module _ (c : Rec) (rest : List Rec) (is : best ≡ γ ++ c ∷ rest) where
    whole_best : Full kinds_before kinds_order (drawing_in bs) best × Fits (drawing_in bs) best
    whole_best = go s.so_far.whole
      where
        go :
            (best ≡ γ) ⊎ (Full kinds_before kinds_order (drawing_in bs) best × Fits (drawing_in bs) best)
            → Full kinds_before kinds_order (drawing_in bs) best × Fits (drawing_in bs) best
        go (inl q) = absurd (omega (arith, ap length q, ap length is, length-append γ (c ∷ rest)))
        go (inr q) = q

    pub best_row_next : RowNext (drawing_in bs) t γ b c
    best_row_next = record { sees = search_sees; rest = rest; accepted = rw is at whole_best.1.accepted }

    -- all that goes on comes after it
    pub search_cut : RowMet (drawing_in bs) t γ b c Later → SearchDone bs γ b best best
    search_cut later =
        rw is (searched_cut kinds_before kinds_order d γ (numbering b) c rest later (rw is at whole_best.0) (rw is at whole_best.1))

    -- something does not
    pub search_lowers : RowMet (drawing_in bs) t γ b c Earlier → (e : Option Extension) → ExtensionFound t b e
        → Against γ best (found_record (drawing_in bs) b e) Less
    search_lowers seen e found = comes_before c rest is (go (order.tri (found_record (drawing_in bs) b e) seen.l))
      where
        order : StrictOrder rec_before
        order = rec_before_strict kinds_before kinds_order

        go :
            Three (rec_before (found_record (drawing_in bs) b e) seen.l ≡ true) (found_record (drawing_in bs) b e ≡ seen.l)
            (rec_before seen.l (found_record (drawing_in bs) b e) ≡ true) → rec_before (found_record (drawing_in bs) b e) c ≡ true
        go (less q) = order.trans (found_record (drawing_in bs) b e) seen.l c q seen.earlier
        go (same q) = rw q seen.earlier
        go (more q) = absurd (true_and_false q (found_least e found seen.l seen.local))
