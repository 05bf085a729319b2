-- Records that may come next have a place: those local to a numbering of the rows so far, those that fit a drawing of the
-- survey, and first records. Rests on PlaceLaws and Extension. Assumes nothing.
use Rattle.std.specs.Prelude.{◌≡◌, Bool, true, false, List, [], ◌∷◌, ℕ, suc, ◌+◌, ◌≤◌, ◌<◌, eqb, length, get_or}
use Rattle.std.proofs.Math.Path.{refl}
use Rattle.std.proofs.Common.{sym, ◌∙◌, subst, arith, ne_eqb}
use Rattle.laws.specs.Lists.{Mem, snoc, snoc_length}
use Rattle.graphs.specs.Drawing.{Drawing, kind}
use Rattle.graphs.specs.Map.{image}
use Rattle.graphs.specs.Cables.{Has, has_flip}
use Rattle.graphs.specs.Graph.{Section}
use Rattle.graphs.specs.Patterns.{byte_list_at}
use Rattle.codes.specs.Code.{
  Rec,
  Reading,
  fresh,
  forward,
  end,
  stepped,
  rows_refusal,
  read_rows,
  kinds_before,
  rec_before_by,
}
use Rattle.codes.specs.Step.{Step, steps_back, steps_forward}
use Rattle.codes.specs.Reading.{Invariant}
use Rattle.codes.specs.ReadRows.{rows_divided, rows_invariant}
use Rattle.codes.specs.Extension.{Local, chord_at, edge_at, local_step, Seen, extension_seen}
use Rattle.codes.specs.Greedy.{Fits, fits_extension}
use Rattle.codes.specs.FirstRecord.{first_record, fits_first}
use Rattle.codes.specs.Branch.{Node}
use Rattle.codes.specs.BranchState.{label_of}
use Rattle.growth.specs.Places.{Ranks}
use Rattle.growth.specs.RecordOrder.{same_forward_first}
use Rattle.growth.specs.PlaceLaws.{Position, backward_at, forward_at, Placed, rank_first}

-- DEVICES: at most one more than records
stepped_devices :
    (x : Reading) (r : Rec) → 0 < length x.kinds
    → (0 < length (stepped x r).kinds) × (length (stepped x r).kinds ≤ suc (length x.kinds))
unfolding stepped
stepped_devices x r h = go (ne_eqb (length x.kinds) 0 (λ e. omega arith)) (forward r) refl
  where
    go :
        eqb (length x.kinds) 0 ≡ false → (t : Bool) → forward r ≡ t
        → (0 < length (stepped x r).kinds) × (length (stepped x r).kinds ≤ suc (length x.kinds))
    go e true f = (rw (e, f, snoc_length) (omega arith), rw (e, f, snoc_length) (omega arith))
    go e false f = (rw (e, f) h, rw (e, f) (omega arith))

rows_devices : (x : Reading) (rs : List Rec) → 0 < length x.kinds → length (read_rows x rs).kinds ≤ length x.kinds + length rs
unfolding read_rows
rows_devices x [] h = omega arith
rows_devices x (r ∷ rs) h = let s = stepped_devices x r h in omega (arith, rows_devices (stepped x r) rs s.0, s.1)

pub read_devices : (γ : List Rec) → length (read_rows fresh γ).kinds ≤ suc (length γ)
unfolding read_rows fresh stepped
read_devices [] = omega arith
read_devices (r ∷ rs) = omega (arith, rows_devices (stepped fresh r) rs (omega arith))

-- WHAT MAY COME NEXT IS PLACED
-- the reading of no records: one device of kind k
abbrev pub alone : ℕ → Reading
alone k = record { kinds = k ∷ []; path = 0 ∷ []; back = 10; cables = [] }

module _ {ds : List Drawing} {rank labels : List ℕ} {n : ℕ} (o : Ranks ds rank labels n) where
  -- a permitted step with a cable of the survey
  pub step_placed :
      (x : Reading) → Invariant x → length x.kinds ≤ 8 → (e : Rec) → Step x e → (d : Drawing) → Mem d ds → Section d
      → (u v : ℕ) → Has u v e.c d.cables → kind d v ≡ e.kj → Placed x rank labels n e
  step_placed x i few e s d m p u v h k =
      record {
        position = position s;
        kind_is = kind_is s;
        byte = rw (← k) (byte_list_at d.kinds v 256 p.bytes (p.simple.ends v u e.c (has_flip h)));
        ranked = rw (← k) (o.ranked d m u v e.c h);
        label_is = rw (← k) (o.label_is d m u v e.c h);
      }
    where
      position : Step x e → Position x e
      position (steps_back b y z) = backward_at b.is_end b.down (omega (arith, i.top, b.is_end))
      position (steps_forward b y z w) = let l : e.i < length x.kinds = i.below e.i b in forward_at (omega arith) y (omega arith)

      kind_is : Step x e → get_or x.kinds e.i 256 ≡ e.ki
      kind_is (steps_back b y z) = y
      kind_is (steps_forward b y z w) = w

  -- a record local to a numbering
  pub local_placed :
      (d : Drawing) → Mem d ds → Section d → (γ : List Rec) → length γ ≤ 7 → (f : List ℕ) → Node d γ f → (e : Rec)
      → Local d (read_rows fresh γ) f e → Placed (read_rows fresh γ) rank labels n e
  local_placed d m p γ few f a e l = go l
    where
      x : Reading
      x = read_rows fresh γ

      place : (u v : ℕ) → Has u v e.c d.cables → kind d v ≡ e.kj → Placed (read_rows fresh γ) rank labels n e
      place =
          step_placed x a.invariant (omega (arith, read_devices γ)) e
          (local_step d p.devices_high p.simple.ends x a.invariant f a.embedding e l) d m p

      go : Local d x f e → Placed (read_rows fresh γ) rank labels n e
      go (chord_at b h y z) =
          place (image f e.i) (image f e.j) h
          (a.embedding.kinds e.j (omega (arith, a.embedding.size, a.invariant.below e.j b.on_path)) ∙ z)
      go (edge_at w q j c h y z) = place (image f e.i) w h z

  -- a record that fits some drawing
  pub fits_placed :
      (d : Drawing) → Mem d ds → Section d → (r : Rec) (rs : List Rec) → length (r ∷ rs) ≤ 7 → (e : Rec) → Fits d (snoc (r ∷ rs) e)
      → Placed (read_rows fresh (r ∷ rs)) rank labels n e
  fits_placed d m p r rs few e t =
      local_placed d m p (r ∷ rs) few s.numbering node e s.local
    where
      ok : rows_refusal fresh (r ∷ rs) ≡ 0
      ok = (rows_divided fresh (r ∷ rs) (e ∷ []) t.accepted).0

      s : Seen d (read_rows fresh (r ∷ rs)) e
      s = extension_seen d (read_rows fresh (r ∷ rs)) (rows_invariant r rs ok) e (fits_extension d r rs e t)

      node : Node d (r ∷ rs) s.numbering
      node = record { accepted = ok; invariant = rows_invariant r rs ok; embedding = s.embedding }

  -- a first record
  pub first_placed :
      (d : Drawing) → Mem d ds → Section d → (u w k : ℕ) → Has u w k d.cables
      → Placed (alone (kind d u)) rank labels n (first_record d u w k)
  unfolding first_record end
  first_placed d m p u w k h =
      record {
        position = forward_at (omega arith) refl (omega arith);
        kind_is = refl;
        byte = byte_list_at d.kinds w 256 p.bytes (p.simple.ends w u k (has_flip h));
        ranked = o.ranked d m u w k h;
        label_is = o.label_is d m u w k h;
      }

  pub fits_first_placed : (d : Drawing) → Mem d ds → Section d → (e : Rec) → Fits d (e ∷ []) → Placed (alone e.ki) rank labels n e
  fits_first_placed d m p e t =
      let c = fits_first d e t in
      subst (λ (g : Rec). Placed (alone g.ki) rank labels n g) c.record_is
      (unfold first_record in first_placed d m p c.u c.w c.k c.has)

  -- FIRST RECORDS of one kind of device 0: by the number of the label
  pub first_rank_order :
      (d e : Drawing) → Mem d ds → Mem e ds → Section d → Section e → (u w k v z l : ℕ) → Has u w k d.cables → Has v z l e.cables
      → kind d u ≡ kind e v → get_or rank (label_of k (kind d w)) 0 < get_or rank (label_of l (kind e z)) 0
      → rec_before_by kinds_before (first_record d u w k) (first_record e v z l) ≡ true
  unfolding first_record
  first_rank_order d e m q p r u w k v z l h g i c =
      same_forward_first kinds_before (first_record d u w k) (first_record e v z l) (omega arith) refl refl
      (rank_first o.rising (first_placed d m p u w k h)
      (subst (λ (a : ℕ). Placed (alone a) rank labels n (first_record e v z l)) (sym i) (first_placed e q r v z l g)) i c)
