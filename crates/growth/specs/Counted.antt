-- What a table of sets says after all drawings were walked: the set of a place is the set of drawings that contain the
-- pattern grown by its record, so places with s cranes are the candidates. Rests on Counting and Frequent. Assumes nothing.
use Rattle.std.specs.Prelude.{◌≡◌, Bool, List, [], ◌∷◌, ℕ, ◌*◌, ◌≤◌, ◌<◌}
use Rattle.std.proofs.Math.Path.{sym, ap}
use Rattle.std.proofs.Common.{◌∙◌, subst, arith}
use Rattle.std.proofs.Math.Bool.{true, false}
use Rattle.std.proofs.Math.ListN.{length, get_or}
use Rattle.std.proofs.lemmas.List.{length-map}
use Rattle.std.proofs.Math.Seq.{ext_get_or}
use Rattle.laws.specs.Tests.{same_truth}
use Rattle.laws.specs.Lists.{Mem, snoc, snoc_length, mem_at}
use Rattle.graphs.specs.Drawing.{Drawing, is_pattern}
use Rattle.graphs.specs.Map.{image, contains}
use Rattle.graphs.specs.Survey.{containing, crane_count, support}
use Rattle.graphs.specs.CraneCounts.{crane_count_some}
use Rattle.graphs.specs.Graph.{Section}
use Rattle.graphs.specs.Patterns.{pattern_to_test, byte_list_at, byte_list_from}
use Rattle.codes.specs.Code.{Rec, Reading, fresh, rows_refusal, read_rows, decoded}
use Rattle.codes.specs.ReadRows.{good_from_test, good_to_test}
use Rattle.codes.specs.Greedy.{Fits}
use Rattle.codes.specs.Decoded.{decoded_pattern}
use Rattle.growth.specs.FamilyLaws.{fits_contained, contained_fits}
use Rattle.growth.specs.Frequent.{Frequent, some_containing}
use Rattle.growth.specs.Places.{Ranks, place_of, record_at}
use Rattle.growth.specs.CellLaws.{member_below}
use Rattle.growth.specs.PlaceLaws.{Placed, place_below, place_record, place_same}
use Rattle.growth.specs.PlacedRecords.{alone, fits_placed, fits_first_placed}
use Rattle.growth.specs.CountingExtensions.{
  drawing_at,
  AllSections,
  FirstOf,
  FitsAt,
  Counting,
  containing_at,
}
use Rattle.growth.specs.Floors.{GrownAbove}

-- ALL DRAWINGS WERE WALKED
abbrev pub CountedFirsts : (ds : List Drawing) (k : ℕ) (rank : List ℕ) (n : ℕ) (sets : ℕ → List Bool) → Type 0
CountedFirsts ds k rank n sets = Counting (place_of rank n) (FirstOf k) ds (length ds) sets

-- WHAT FITS, WHATEVER THE ROWS
pub grown_contained : (γ : List Rec) (d : Drawing) (e : Rec) → Fits d (snoc γ e) → contains (decoded (snoc γ e)) d ≡ true
grown_contained [] d e t = fits_contained d e [] t
grown_contained (r ∷ rs) d e t = fits_contained d r (snoc rs e) t

pub contained_grown :
    (γ : List Rec) (d : Drawing) (e : Rec) → rows_refusal fresh (snoc γ e) ≡ 0 → contains (decoded (snoc γ e)) d ≡ true → Fits d (snoc γ e)
contained_grown [] d e ok c = contained_fits d e [] ok c
contained_grown (r ∷ rs) d e ok c = contained_fits d r (snoc rs e) ok c

-- what fits a pattern describes one
pub fits_pattern : (d : Drawing) → Section d → (rs : List Rec) → 1 ≤ length rs → length rs ≤ 20 → Fits d rs → is_pattern (decoded rs) ≡ true
unfolding decoded
fits_pattern d p rs one most t =
    pattern_to_test (decoded rs)
    (decoded_pattern rs (good_to_test rs (record { one = one; most = most; accepted = t.accepted })) (byte_list_from (decoded rs).kinds bytes))
  where
    bytes : (i : ℕ) → i < length (read_rows fresh rs).kinds → get_or (read_rows fresh rs).kinds i 256 < 256
    bytes i h =
        let l : i < length t.numbering = rw t.embedding.size h in
        rw (t.embedding.kinds i l) at (byte_list_at d.kinds (image t.numbering i) 256 p.bytes (t.embedding.lands i l))

-- what is frequent fits some drawing
pub frequent_fits :
    (labels : Rec → Rec → Bool) (cr : List ℕ) (ds : List Drawing) (s : ℕ) → 1 ≤ s → (γ : List Rec) (e : Rec) → Frequent labels cr ds s (snoc γ e)
    → (d : Drawing) × Mem d ds × Fits d (snoc γ e)
frequent_fits labels cr ds s one γ e f =
    let c = some_containing (decoded (snoc γ e)) cr ds (omega (arith, f.wanted)) in
    (c.0, c.1, contained_grown γ c.0 e (good_from_test (snoc γ e) f.least.code.good).accepted c.2)

-- WHAT IS COUNTED AFTER ROWS γ: records placed by the reading x, all that extend γ of those that fit once
pub record Extending (ds : List Drawing) (rank labels : List ℕ) (n : ℕ) (γ : List Rec) (x : Reading) (Fit : Drawing → Rec → Type 0) : Type 0 where
  pub placed : (d : Drawing) → Mem d ds → (e : Rec) → Fit d e → Placed x rank labels n e
  pub grown : (d : Drawing) (e : Rec) → Fit d e → Fits d (snoc γ e)
  pub again : (d g : Drawing) (e : Rec) → Fit g e → Fits d (snoc γ e) → Fit d e

module _ {ds : List Drawing} {rank labels : List ℕ} {n : ℕ} (sections : AllSections ds) (o : Ranks ds rank labels n) where
  pub rows_extending :
      (r : Rec) (rs : List Rec) → length (r ∷ rs) ≤ 7 → (floors : List ℕ)
      → Extending ds rank labels n (r ∷ rs) (read_rows fresh (r ∷ rs)) (GrownAbove (r ∷ rs) floors)
  rows_extending r rs few floors =
      record {
        placed = λ d m e t. fits_placed o d m (sections d m) r rs few e t.0;
        grown = λ d e t. t.0;
        again = λ d g e f t. (t, f.1);
      }

  pub first_extending : (k : ℕ) → Extending ds rank labels n [] (alone k) (FirstOf k)
  first_extending k =
      record {
        placed = λ d m e t.
            subst (λ (a : ℕ). Placed (alone a) rank labels n e) t.1 (fits_first_placed o d m (sections d m) e t.0);
        grown = λ d e t. t.0;
        again = λ d g e f t. (t, f.1);
      }

module _ {ds : List Drawing} {rank labels : List ℕ} {n : ℕ} {γ : List Rec} {x : Reading} {Fit : Drawing → Rec → Type 0} {sets : ℕ → List Bool}
    (t : Extending ds rank labels n γ x Fit) (c : Counting (place_of rank n) Fit ds (length ds) sets) where
  -- THE SET OF A PLACE is the set of drawings that contain the grown pattern, whether or not there are any
  pub counted_exactly :
      (e : Rec) → Placed x rank labels n e → rows_refusal fresh (snoc γ e) ≡ 0 → ((d : Drawing) → Fits d (snoc γ e) → Fit d e)
      → sets (place_of rank n e) ≡ containing (decoded (snoc γ e)) ds
  unfolding containing
  counted_exactly e w ok into =
      ext_get_or false (sets (place_of rank n e)) (containing (decoded (snoc γ e)) ds)
      (c.size (place_of rank n e) ∙ sym (length-map ds (contains (decoded (snoc γ e)))))
      (λ i h. at i (rw (c.size (place_of rank n e)) at h))
    where
      at : (i : ℕ) → i < length ds → get_or (sets (place_of rank n e)) i false ≡ get_or (containing (decoded (snoc γ e)) ds) i false
      at i h =
          same_truth (get_or (sets (place_of rank n e)) i false) (get_or (containing (decoded (snoc γ e)) ds) i false)
          (λ q. containing_at (decoded (snoc γ e)) ds i h ∙ seen (c.sound (place_of rank n e) i q))
          (λ q.
          c.whole i e h (into (drawing_at ds i) (contained_grown γ (drawing_at ds i) e ok (sym (containing_at (decoded (snoc γ e)) ds i h) ∙ q))))
        where
          seen : FitsAt (place_of rank n) Fit (drawing_at ds i) (place_of rank n e) → contains (decoded (snoc γ e)) (drawing_at ds i) ≡ true
          seen s =
              let z : s.e ≡ e = place_same (t.placed (drawing_at ds i) (mem_at _ ds i h) s.e s.fits) w s.place_is in
              grown_contained γ (drawing_at ds i) e
              (subst (λ (g : Rec). Fits (drawing_at ds i) (snoc γ g)) z (t.grown (drawing_at ds i) s.e s.fits))

  -- so for what fits some drawing
  pub counted_containing : (d : Drawing) → Mem d ds → (e : Rec) → Fit d e → sets (place_of rank n e) ≡ containing (decoded (snoc γ e)) ds
  counted_containing d m e f = counted_exactly e (t.placed d m e f) (t.grown d e f).accepted (λ g q. t.again g d e f q)

  -- and its number of cranes the support
  pub counted_support :
      (cr : List ℕ) (d : Drawing) → Mem d ds → (e : Rec) → Fit d e
      → crane_count cr (sets (place_of rank n e)) ≡ support (decoded (snoc γ e)) cr ds
  unfolding support
  counted_support cr d m e f = ap (crane_count cr) (counted_containing d m e f)

  -- WHAT IS FREQUENT is a candidate: its place has s cranes
  pub counted_candidate :
      (cr : List ℕ) (s : ℕ) → 1 ≤ s → (before : Rec → Rec → Bool) (e : Rec) → ((d : Drawing) → Fits d (snoc γ e) → Fit d e)
      → Frequent before cr ds s (snoc γ e)
      → s ≤ crane_count cr (sets (place_of rank n e))
  counted_candidate cr s one before e into f =
      let q = frequent_fits before cr ds s one γ e f in
      rw (counted_support cr q.0 q.1 e (into q.0 q.2)) f.wanted

  -- A PLACE WITH A DRAWING is that of the record read off it, and counts the drawings that contain the grown pattern
  pub record Candidate (p : ℕ) : Type 0 where
    pub drawing : Drawing
    pub member : Mem drawing ds
    pub fits : Fit drawing (record_at x labels n p)
    pub placed : Placed x rank labels n (record_at x labels n p)
    pub place_is : place_of rank n (record_at x labels n p) ≡ p
    pub below : p < 16 * n
    pub containing_is : sets p ≡ containing (decoded (snoc γ (record_at x labels n p))) ds
    pub support_is : (cr : List ℕ) → crane_count cr (sets p) ≡ support (decoded (snoc γ (record_at x labels n p))) cr ds

  pub candidate_at : (cr : List ℕ) (p : ℕ) → 1 ≤ crane_count cr (sets p) → Candidate p
  unfolding support
  candidate_at cr p one = go (c.sound p m.0 m.1)
    where
      m : (i : ℕ) × (get_or (sets p) i false ≡ true)
      m = let t = crane_count_some cr (sets p) one in (t.0, t.2)

      d : Drawing
      d = drawing_at ds m.0

      i : Mem d ds
      i = mem_at _ ds m.0 (rw (c.size p) at (member_below (sets p) m.0 m.1))

      go : FitsAt (place_of rank n) Fit (drawing_at ds m.0) p → Candidate p
      go s =
          record {
            drawing = d;
            member = i;
            fits = subst (Fit d) is s.fits;
            placed = subst (Placed x rank labels n) is w;
            place_is = ap (place_of rank n) (sym is) ∙ s.place_is;
            below = subst (λ (k : ℕ). k < 16 * n) s.place_is (place_below w);
            containing_is = sets_are;
            support_is = λ cr. ap (crane_count cr) sets_are;
          }
        where
          w : Placed x rank labels n s.e
          w = t.placed d i s.e s.fits

          is : s.e ≡ record_at x labels n p
          is = sym (place_record w) ∙ ap (record_at x labels n) s.place_is

          sets_are : sets p ≡ containing (decoded (snoc γ (record_at x labels n p))) ds
          sets_are = ap sets (sym s.place_is) ∙ counted_containing d i s.e s.fits ∙ ap (λ (g : Rec). containing (decoded (snoc γ g)) ds) is

  -- and the grown pattern is one
  pub candidate_pattern :
      AllSections ds → length γ ≤ 19 → (p : ℕ) → Candidate p → is_pattern (decoded (snoc γ (record_at x labels n p))) ≡ true
  candidate_pattern sections few p q =
      fits_pattern q.drawing (sections q.drawing q.member) (snoc γ (record_at x labels n p)) (rw snoc_length (omega arith))
      (rw snoc_length (omega arith)) (t.grown q.drawing (record_at x labels n p) q.fits)
