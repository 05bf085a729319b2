-- Isomorphisms: the test `same_by` says what `Isomorphism` says, and what demand 3 asks of a map; sameness is an
-- equivalence. Rests on Embeddings.antt and the laws of counting. Assumes nothing.
use Rattle.std.specs.Prelude.{◌≡◌, refl, true, ◌&&◌, List, [], ◌∷◌, ℕ, zero, suc, ◌+◌, ◌<◌, eqb, length}
use Rattle.std.proofs.Common.{sym, ap, ◌∙◌, not-suc-le-zero, le_of_suc-le-suc, add-zero, zero-add, add-suc, suc-add, arith, eqb-true, eq-eqb, ne_eqb}
use Rattle.laws.specs.Tests.{and_split, and_both}
use Rattle.laws.specs.Lists.{Mem, mem_eq, mem_at, place}
use Rattle.laws.specs.Counting.{Different, different_fewer, different_all, Injective, injective_different, injective_fits, below, below_length, below_bound, below_different}
use Rattle.graphs.specs.Drawing.{Drawing, devices, kind}
use Rattle.graphs.specs.Map.{image, cables_land, maps_into, inverse_at, inverse_from, same_by, Same}
use Rattle.graphs.specs.Cables.{Has, has_flip, has_eq}
use Rattle.graphs.specs.Embedding.{EndsInRange, Embedding, Numbered, Preimage, Isomorphism}
use Rattle.graphs.specs.Embeddings.{numbered_from_mem, numbered_to_mem, land_from_test, land_to_test, embedding_from_test, embedding_to_test, identity, identity_size, identity_image, embedding_identity, compose, compose_size, compose_image, embedding_compose}

-- NUMBERS OF DEVICES: an embedding is onto the devices where both drawings have as many, and only there
pub embedding_onto : (p d : Drawing) (f : List ℕ) → Embedding p d f → devices p ≡ devices d → (w : ℕ) → w < devices d → Numbered f w
embedding_onto p d f m e w h =
    numbered_from_mem (different_all (devices d) f (injective_different f m.injective) low (m.size ∙ e) w h)
  where
    low : (v : ℕ) → Mem v f → v < devices d
    low v n = let q = place 256 n in rw q.is at (m.lands q.i q.below)

pub isomorphism_devices : {p d : Drawing} {f : List ℕ} → Isomorphism p d f → devices p ≡ devices d
isomorphism_devices {p} {d} {f} s =
    let m = s.embedding in
    omega (
      arith,
      m.size,
      injective_fits (devices d) f m.injective m.lands,
      below_length (devices d),
      different_fewer (below (devices d)) f (below_different (devices d)) (λ v h. numbered_to_mem (s.onto v (below_bound (devices d) v h))),
    )

-- THE MAP BACK
pub inverse_size : (n v : ℕ) (f : List ℕ) → length (inverse_from n v f) ≡ n
unfolding inverse_from
inverse_size zero v f = refl
inverse_size (suc n) v f = ap suc (inverse_size n (suc v) f)

inverse_image : (n v : ℕ) (f : List ℕ) (i : ℕ) → i < n → image (inverse_from n v f) i ≡ inverse_at (v + i) 0 f
unfolding inverse_from
inverse_image zero v f i h = absurd (not-suc-le-zero h)
inverse_image (suc n) v f zero h = rw add-zero
inverse_image (suc n) v f (suc i) h = rw (add-suc, ← suc-add v i) (inverse_image n (suc v) f i (le_of_suc-le-suc h))

inverse_at_place : (v s : ℕ) (xs : List ℕ) (j : ℕ) → Different xs → j < length xs → image xs j ≡ v → inverse_at v s xs ≡ s + j
unfolding inverse_at Different
inverse_at_place v s [] j n h e = absurd (not-suc-le-zero h)
inverse_at_place v s (x ∷ xs) zero n h e = rw (eq-eqb x v e, add-zero)
inverse_at_place v s (x ∷ xs) (suc j) n h e =
    let l : j < length xs = le_of_suc-le-suc h in
    rw (ne_eqb x v (λ q. n.0 (mem_eq (e ∙ sym q) (mem_at 256 xs j l))), add-suc, ← suc-add s j)
    (inverse_at_place v (suc s) xs j n.1 l e)

-- a device's image leads back to it
pub inverse_undoes : (n : ℕ) (f : List ℕ) → Injective f → (i : ℕ) → i < length f → image f i < n
    → image (inverse_from n 0 f) (image f i) ≡ i
inverse_undoes n f inj i h l =
    inverse_image n 0 f (image f i) l
    ∙ inverse_at_place (0 + image f i) 0 f i (injective_different f inj) h (sym (zero-add (image f i)))
    ∙ zero-add i

-- the map back gives each numbered device its number
module _ (p d : Drawing) (f : List ℕ) (m : Embedding p d f) where
  inverse_number : (w : ℕ) → (n : Numbered f w) → image (inverse_from (devices d) 0 f) w ≡ n.i
  inverse_number w n =
      ap (image (inverse_from (devices d) 0 f)) (sym n.is)
      ∙ inverse_undoes (devices d) f m.injective n.i n.below (m.lands n.i n.below)

  inverse_redoes : (w : ℕ) → Numbered f w → image f (image (inverse_from (devices d) 0 f) w) ≡ w
  inverse_redoes w n = ap (image f) (inverse_number w n) ∙ n.is

  inverse_lands : (w : ℕ) → Numbered f w → image (inverse_from (devices d) 0 f) w < length f
  inverse_lands w n = rw (inverse_number w n) n.below

-- ends of a preimage as numbered devices
module _ (p : Drawing) (f : List ℕ) (ends : EndsInRange p) (size : length f ≡ devices p) {u v k : ℕ} (q : Preimage p f u v k) where
  abbrev preimage_from : Numbered f u
  preimage_from = record { i = q.i; below = rw size (ends q.i q.j k q.has); is = q.from }

  abbrev preimage_to : Numbered f v
  preimage_to = record { i = q.j; below = rw size (ends q.j q.i k (has_flip q.has)); is = q.to }

-- cables of the other drawing, by the map back
isomorphism_cables_back : (p d : Drawing) (f : List ℕ) → EndsInRange p → Isomorphism p d f → (u v k : ℕ) → Has u v k d.cables
    → Has (image (inverse_from (devices d) 0 f) u) (image (inverse_from (devices d) 0 f) v) k p.cables
isomorphism_cables_back p d f ends s u v k h =
    let m = s.embedding in
    let q = s.cables_onto u v k h in
    let a = inverse_number p d f m u (preimage_from p f ends m.size q) in
    let b = inverse_number p d f m v (preimage_to p f ends m.size q) in
    has_eq (sym a) (sym b) refl q.has

-- THE TEST IS AN ISOMORPHISM
pub isomorphism_from_test : (p d : Drawing) (f : List ℕ) → EndsInRange d → same_by p d f ≡ true → Isomorphism p d f
unfolding same_by
isomorphism_from_test p d f ends e =
    let s = and_split (eqb (devices p) (devices d) && maps_into p d f) (cables_land d.cables p (inverse_from (devices d) 0 f)) e in
    let t = and_split (eqb (devices p) (devices d)) (maps_into p d f) s.0 in
    let m = embedding_from_test p d f t.1 in
    let onto = embedding_onto p d f m (eqb-true (devices p) (devices d) t.0) in
    record {
      embedding = m;
      onto = onto;
      cables_onto = λ u v k h.
          record {
            i = image (inverse_from (devices d) 0 f) u;
            j = image (inverse_from (devices d) 0 f) v;
            has = land_from_test d.cables p (inverse_from (devices d) 0 f) s.1 u v k h;
            from = inverse_redoes p d f m u (onto u (ends u v k h));
            to = inverse_redoes p d f m v (onto v (ends v u k (has_flip h)));
          };
    }

pub isomorphism_to_test : (p d : Drawing) (f : List ℕ) → EndsInRange p → Isomorphism p d f → same_by p d f ≡ true
unfolding same_by
isomorphism_to_test p d f ends s =
    and_both (and_both (eq-eqb (devices p) (devices d) (isomorphism_devices s)) (embedding_to_test p d f s.embedding))
    (land_to_test d.cables p (inverse_from (devices d) 0 f) (isomorphism_cables_back p d f ends s))

-- IDENTITY, COMPOSITION, INVERSE
pub isomorphism_identity : (d : Drawing) → EndsInRange d → Isomorphism d d (identity (devices d))
isomorphism_identity d ends =
    record {
      embedding = embedding_identity d ends;
      onto = λ w h. record { i = w; below = rw identity_size h; is = still w h };
      cables_onto = λ u v k h.
          record { i = u; j = v; has = h; from = still u (ends u v k h); to = still v (ends v u k (has_flip h)) };
    }
  where
    still : (i : ℕ) → i < devices d → image (identity (devices d)) i ≡ i
    still = identity_image (devices d)

pub isomorphism_compose : (p e d : Drawing) (f g : List ℕ) → EndsInRange p → Isomorphism p e f → Isomorphism e d g → Isomorphism p d (compose f g)
isomorphism_compose p e d f g ends s t =
    record { embedding = embedding_compose p e d f g ends s.embedding t.embedding; onto = onto; cables_onto = cables_onto }
  where
    at : (u w : ℕ) → (n : Numbered f u) → image g u ≡ w → image (compose f g) n.i ≡ w
    at u w n e = compose_image f g n.i n.below ∙ ap (image g) n.is ∙ e

    onto : (w : ℕ) → w < devices d → Numbered (compose f g) w
    onto w h =
        let b = t.onto w h in
        let a = s.onto b.i (rw (← t.embedding.size) b.below) in
        record { i = a.i; below = rw compose_size a.below; is = at b.i w a b.is }

    cables_onto : (u v k : ℕ) → Has u v k d.cables → Preimage p (compose f g) u v k
    cables_onto u v k h =
        let b = t.cables_onto u v k h in
        let a = s.cables_onto b.i b.j k b.has in
        let size = s.embedding.size in
        record {
          i = a.i;
          j = a.j;
          has = a.has;
          from = at b.i u (preimage_from p f ends size a) b.from;
          to = at b.j v (preimage_to p f ends size a) b.to;
        }

pub isomorphism_inverse : (p d : Drawing) (f : List ℕ) → EndsInRange p → Isomorphism p d f → Isomorphism d p (inverse_from (devices d) 0 f)
isomorphism_inverse p d f ends s =
    record {
      embedding =
          record {
            size = inverse_size (devices d) 0 f;
            injective = λ i j h l q. sym (redo i (low i h)) ∙ ap (image f) q ∙ redo j (low j l);
            lands = λ i h. rw (← m.size) (lands i (low i h));
            kinds = λ i h. sym (m.kinds (image g i) (lands i (low i h))) ∙ ap (kind d) (redo i (low i h));
            cables = isomorphism_cables_back p d f ends s;
          };
      onto = λ w h. record { i = image f w; below = rw inverse_size (m.lands w (rw m.size h)); is = undo w h };
      cables_onto = λ u v k h.
          record {
            i = image f u;
            j = image f v;
            has = m.cables u v k h;
            from = undo u (ends u v k h);
            to = undo v (ends v u k (has_flip h));
          };
    }
  where
    m : Embedding p d f
    m = s.embedding

    g : List ℕ
    g = inverse_from (devices d) 0 f

    low : (i : ℕ) → i < length g → i < devices d
    low i h = rw inverse_size at h

    redo : (w : ℕ) → w < devices d → image f (image g w) ≡ w
    redo w h = inverse_redoes p d f m w (s.onto w h)

    lands : (w : ℕ) → w < devices d → image g w < length f
    lands w h = inverse_lands p d f m w (s.onto w h)

    undo : (i : ℕ) → i < devices p → image g (image f i) ≡ i
    undo i h = let l : i < length f = rw m.size h in inverse_undoes (devices d) f m.injective i l (m.lands i l)

-- SAMENESS is an equivalence
pub same_reflexive : (d : Drawing) → EndsInRange d → Same d d
unfolding Same
same_reflexive d ends = (identity (devices d), isomorphism_to_test d d (identity (devices d)) ends (isomorphism_identity d ends))

pub same_symmetric : (p d : Drawing) → EndsInRange p → EndsInRange d → Same p d → Same d p
unfolding Same
same_symmetric p d ends_p ends_d (f, e) =
    let g = inverse_from (devices d) 0 f in
    (g, isomorphism_to_test d p g ends_d (isomorphism_inverse p d f ends_p (isomorphism_from_test p d f ends_d e)))

pub same_transitive : (p e d : Drawing) → EndsInRange p → EndsInRange e → EndsInRange d → Same p e → Same e d → Same p d
unfolding Same
same_transitive p e d ends_p ends_e ends_d (f, s) (g, t) = (
  compose f g,
  isomorphism_to_test p d (compose f g) ends_p
      (isomorphism_compose p e d f g ends_p (isomorphism_from_test p e f ends_e s) (isomorphism_from_test e d g ends_d t)),
)

-- THE MAP OF DEMAND 3, as it says: one to one between the devices, kinds kept, cables with their kinds both ways
pub record DemandMap (p d : Drawing) (f : List ℕ) : Type 0 where
  pub size : length f ≡ devices p
  pub injective : (i j : ℕ) → i < devices p → j < devices p → image f i ≡ image f j → i ≡ j
  pub lands : (i : ℕ) → i < devices p → image f i < devices d
  pub onto : (w : ℕ) → w < devices d → Numbered f w
  pub kinds : (i : ℕ) → i < devices p → kind d (image f i) ≡ kind p i
  pub cables : (u v k : ℕ) → u < devices p → v < devices p → Has u v k p.cables → Has (image f u) (image f v) k d.cables
  pub cables_back : (u v k : ℕ) → u < devices p → v < devices p → Has (image f u) (image f v) k d.cables → Has u v k p.cables

-- an isomorphism joins no pair that was not joined
pub isomorphism_reflects : (p d : Drawing) (f : List ℕ) → EndsInRange p → Isomorphism p d f
    → (u v k : ℕ) → u < devices p → v < devices p → Has (image f u) (image f v) k d.cables → Has u v k p.cables
isomorphism_reflects p d f ends s u v k h l c =
    let m = s.embedding in
    let q = s.cables_onto (image f u) (image f v) k c in
    let a = preimage_from p f ends m.size q in
    let b = preimage_to p f ends m.size q in
    has_eq (m.injective q.i u a.below (rw m.size h) q.from) (m.injective q.j v b.below (rw m.size l) q.to) refl q.has

pub demand_map_from_test : (p d : Drawing) (f : List ℕ) → EndsInRange p → EndsInRange d → same_by p d f ≡ true → DemandMap p d f
demand_map_from_test p d f ends_p ends_d e =
    let s = isomorphism_from_test p d f ends_d e in
    let m = s.embedding in
    record {
      size = m.size;
      injective = λ i j h l. m.injective i j (rw m.size h) (rw m.size l);
      lands = λ i h. m.lands i (rw m.size h);
      onto = s.onto;
      kinds = λ i h. m.kinds i (rw m.size h);
      cables = λ u v k h l. m.cables u v k;
      cables_back = isomorphism_reflects p d f ends_p s;
    }

pub demand_map_to_test : (p d : Drawing) (f : List ℕ) → EndsInRange p → EndsInRange d → DemandMap p d f → same_by p d f ≡ true
demand_map_to_test p d f ends_p ends_d m =
    isomorphism_to_test p d f ends_p
    (record {
      embedding =
          record {
            size = m.size;
            injective = λ i j h l. m.injective i j (rw (← m.size) h) (rw (← m.size) l);
            lands = λ i h. m.lands i (rw (← m.size) h);
            kinds = λ i h. m.kinds i (rw (← m.size) h);
            cables = λ u v k h. m.cables u v k (ends_p u v k h) (ends_p v u k (has_flip h)) h;
          };
      onto = m.onto;
      cables_onto = cables_onto;
    })
  where
    cables_onto : (u v k : ℕ) → Has u v k d.cables → Preimage p f u v k
    cables_onto u v k h =
        let a = m.onto u (ends_d u v k h) in
        let b = m.onto v (ends_d v u k (has_flip h)) in
        record {
          i = a.i;
          j = b.i;
          has = m.cables_back a.i b.i k (rw (← m.size) a.below) (rw (← m.size) b.below) (has_eq (sym a.is) (sym b.is) refl h);
          from = a.is;
          to = b.is;
        }

pub same_by_means : (p d : Drawing) (f : List ℕ) → EndsInRange p → EndsInRange d
    → (same_by p d f ≡ true → DemandMap p d f) × (DemandMap p d f → same_by p d f ≡ true)
same_by_means p d f ends_p ends_d = (demand_map_from_test p d f ends_p ends_d, demand_map_to_test p d f ends_p ends_d)
