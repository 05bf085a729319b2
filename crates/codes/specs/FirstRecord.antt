-- The first record of a code: any cable begins one, and every numbering of one record is a cable. Rests on Greedy.
-- Assumes nothing.
use Rattle.std.specs.Prelude.{◌≡◌, refl, List, [], ◌∷◌, ℕ, zero, suc, ◌≤◌, ◌<◌, length, get_or}
use Rattle.std.proofs.Common.{sym, ap, subst, arith}
use Rattle.graphs.specs.Drawing.{Cable, Drawing, devices, kind}
use Rattle.graphs.specs.Map.{image}
use Rattle.graphs.specs.Cables.{along, against, Has, has_flip, has_eq, has_first}
use Rattle.graphs.specs.Embedding.{Embedding}
use Rattle.graphs.specs.Graph.{Simple}
use Rattle.codes.specs.Code.{Rec, Reading, fresh, cable_of, begun, rows_refusal, read_rows, drawn}
use Rattle.codes.specs.CodeOrder.{rec_eq}
use Rattle.codes.specs.ReadRows.{begun_is, begun_to_test, rows_one}
use Rattle.codes.specs.Greedy.{Fits, fits_one}

-- ANY CABLE BEGINS A CODE
unfoldable pub first_record : (d : Drawing) (u w k : ℕ) → Rec
first_record d u w k = record { i = 0; j = 1; ki = kind d u; c = k; kj = kind d w }

pub first_embedding :
    (d : Drawing) → Simple d → (u w k : ℕ) → Has u w k d.cables → Embedding (drawn (begun (first_record d u w k))) d (u ∷ w ∷ [])
unfolding cable_of first_record
first_embedding d s u w k h = record { size = refl; injective = injective; lands = lands; kinds = kinds; cables = cables }
  where
    ends_differ : u ≡ w → ⊥
    ends_differ z = s.loopless u k (has_eq refl (sym z) refl h)

    injective : (i j : ℕ) → i < 2 → j < 2 → image (u ∷ w ∷ []) i ≡ image (u ∷ w ∷ []) j → i ≡ j
    injective zero zero a b z = refl
    injective zero (suc zero) a b z = absurd (ends_differ z)
    injective zero (suc (suc j)) a b z = absurd (omega arith)
    injective (suc zero) zero a b z = absurd (ends_differ (sym z))
    injective (suc zero) (suc zero) a b z = refl
    injective (suc zero) (suc (suc j)) a b z = absurd (omega arith)
    injective (suc (suc i)) j a b z = absurd (omega arith)

    lands : (i : ℕ) → i < 2 → image (u ∷ w ∷ []) i < devices d
    lands zero a = s.ends u w k h
    lands (suc zero) a = s.ends w u k (has_flip h)
    lands (suc (suc i)) a = absurd (omega arith)

    kinds : (i : ℕ) → i < 2 → kind d (image (u ∷ w ∷ []) i) ≡ get_or (kind d u ∷ kind d w ∷ []) i 256
    kinds zero a = refl
    kinds (suc zero) a = refl
    kinds (suc (suc i)) a = absurd (omega arith)

    cables : (a b l : ℕ) → Has a b l (cable_of (first_record d u w k) ∷ []) → Has (image (u ∷ w ∷ []) a) (image (u ∷ w ∷ []) b) l d.cables
    cables a b l (Has.here (along y z) q) = has_eq (ap (image (u ∷ w ∷ [])) y) (ap (image (u ∷ w ∷ [])) z) q h
    cables a b l (Has.here (against y z) q) = has_flip (has_eq (ap (image (u ∷ w ∷ [])) y) (ap (image (u ∷ w ∷ [])) z) q h)
    cables a b l (Has.there g) = elim g [ ]

pub first_accepted : (d : Drawing) (u w k : ℕ) → rows_refusal fresh (first_record d u w k ∷ []) ≡ 0
unfolding first_record
first_accepted d u w k = let g = begun_to_test (first_record d u w k) refl refl in rows_one fresh (first_record d u w k) g.0 g.1

pub read_first : (e : Rec) → read_rows fresh (e ∷ []) ≡ begun e
unfolding read_rows
read_first e = begun_is e

pub first_fits : (d : Drawing) → Simple d → (u w k : ℕ) → Has u w k d.cables → Fits d (first_record d u w k ∷ [])
first_fits d s u w k h =
    record {
      accepted = first_accepted d u w k;
      numbering = u ∷ w ∷ [];
      embedding = subst (λ (y : Reading). Embedding (drawn y) d (u ∷ w ∷ [])) (sym (read_first (first_record d u w k))) (first_embedding d s u w k h);
    }

pub some_cable : (cs : List Cable) → 1 ≤ length cs → (u : ℕ) × (w : ℕ) × (k : ℕ) × Has u w k cs
some_cable [] h = absurd (omega arith)
some_cable (c ∷ cs) h = (c.a, c.b, c.kind, has_first c cs)

-- EVERY NUMBERING OF ONE RECORD is a cable, one way round
pub record FirstCable (d : Drawing) (r : Rec) (f : List ℕ) : Type 0 where
  pub u : ℕ
  pub w : ℕ
  pub k : ℕ
  pub has : Has u w k d.cables
  pub record_is : first_record d u w k ≡ r
  pub numbering_is : u ∷ w ∷ [] ≡ f

two_numbers : (f : List ℕ) → length f ≡ 2 → (u : ℕ) × (w : ℕ) × (u ∷ w ∷ [] ≡ f)
two_numbers [] e = absurd (omega arith)
two_numbers (u ∷ []) e = absurd (omega arith)
two_numbers (u ∷ w ∷ []) e = (u, w, refl)
two_numbers (u ∷ w ∷ v ∷ f) e = absurd (omega arith)

pub fits_first : (d : Drawing) (r : Rec) (t : Fits d (r ∷ [])) → FirstCable d r t.numbering
unfolding cable_of first_record
fits_first d r t = go (two_numbers t.numbering m.size) m
  where
    g : (r.i ≡ 0) × (r.j ≡ 1) × ((f : List ℕ) × Embedding (drawn (begun r)) d f)
    g = fits_one d r t

    m : Embedding (drawn (begun r)) d t.numbering
    m = subst (λ (y : Reading). Embedding (drawn y) d t.numbering) (read_first r) t.embedding

    go : (u : ℕ) × (w : ℕ) × (u ∷ w ∷ [] ≡ t.numbering) → Embedding (drawn (begun r)) d t.numbering → FirstCable d r t.numbering
    go (u, w, e) q =
        let z : Embedding (drawn (begun r)) d (u ∷ w ∷ []) = rw e q in
        record {
          u = u;
          w = w;
          k = r.c;
          has = z.cables 0 1 r.c (Has.here (along g.0 g.1) refl);
          record_is = rec_eq _ r (sym g.0) (sym g.1) (z.kinds 0 (omega arith)) refl (z.kinds 1 (omega arith));
          numbering_is = e;
        }
