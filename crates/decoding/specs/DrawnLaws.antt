-- A drawing's record filled device by device and cable by cable: each store makes it the record of the drawing with one
-- more, its crane still 0. Assumes nothing.
use Rattle.std.specs.Prelude.{◌≡◌, Bool, cond, List, [], ◌∷◌, ◌++◌, ℕ, suc, ◌+◌, ◌*◌, ◌-◌, ◌≤◌, ◌<◌, ltb, eqb, set, replicate}
use Rattle.std.proofs.Math.Path.{refl}
use Rattle.std.proofs.Common.{sym, ap, ap₂, ◌∙◌, append_assoc, arith, length-append, eq-eqb, ne_eqb, lt-ltb, le-ltb}
use Rattle.std.proofs.Math.Bool.{true, false}
use Rattle.std.proofs.Math.ListN.{length, length-set}
use Rattle.std.proofs.lemmas.List.{length-replicate}
use Rattle.std.proofs.lemmas.List.Edits.{sets}
use Rattle.std.proofs.Math.Seq.{set-append_seam}
use Rattle.laws.specs.Lists.{snoc, snoc_length}
use Rattle.graphs.specs.Drawing.{Cable, Drawing, devices, cable_bytes, drawing_bytes}
use Rattle.graphs.specs.DrawingBytes.{cable_bytes_length}
use Rattle.codes.specs.Code.{Rec, cable_of}
use Rattle.decoding.specs.Decoding.{write_device, write_cable, write_first, write_forward}

-- LENGTHS stay
module _ (bs : List ℕ) where
  pub write_device_length : (v k : ℕ) → length (write_device v k bs) ≡ length bs
  write_device_length v k = simp length-set

  pub write_cable_length : (k : ℕ) (e : Rec) → length (write_cable k e bs) ≡ length bs
  write_cable_length k e = simp length-set

  pub write_first_length : (k : ℕ) (e : Rec) → length (write_first k e bs) ≡ length bs
  unfolding write_first
  write_first_length k e = go (eqb k 0)
    where
      go : (t : Bool) → length (cond t (write_device 0 e.ki bs) bs) ≡ length bs
      go true = simp length-set
      go false = refl

  pub write_forward_length : (e : Rec) → length (write_forward e bs) ≡ length bs
  unfolding write_forward
  write_forward_length e = go (ltb e.i e.j)
    where
      go : (t : Bool) → length (cond t (write_device e.j e.kj bs) bs) ≡ length bs
      go true = simp length-set
      go false = refl

-- BY THE TESTS MADE
module _ (k : ℕ) (e : Rec) (bs : List ℕ) where
  pub write_first_some : k ≡ 0 → write_first k e bs ≡ write_device 0 e.ki bs
  unfolding write_first
  write_first_some z = rw (eq-eqb k 0 z)

  pub write_first_none : (k ≡ 0 → ⊥) → write_first k e bs ≡ bs
  unfolding write_first
  write_first_none z = rw (ne_eqb k 0 z)

  pub forward_some : e.i < e.j → write_forward e bs ≡ write_device e.j e.kj bs
  unfolding write_forward
  forward_some h = rw (lt-ltb e.i e.j h)

  pub forward_none : e.j ≤ e.i → write_forward e bs ≡ bs
  unfolding write_forward
  forward_none h = rw (le-ltb e.i e.j h)

-- NO DEVICE and no cable
pub nothing_drawn : replicate 73 0 ≡ drawing_bytes 0 (record { kinds = []; cables = [] })
unfolding drawing_bytes cable_bytes
nothing_drawn = refl

-- A STORE in front of the unused bytes
overwrite :
    (p ws vs rest : List ℕ) → length ws ≡ length vs → sets (p ++ (ws ++ rest)) (length p) vs ≡ p ++ (vs ++ rest)
overwrite p [] [] rest e = refl
overwrite p [] (v ∷ vs) rest e = absurd (omega arith)
overwrite p (w ∷ ws) [] rest e = absurd (omega arith)
overwrite p (w ∷ ws) (v ∷ vs) rest e =
    ap (λ (l : List ℕ). sets l (suc (length p)) vs) (set-append_seam p w (ws ++ rest) v ∙ sym (append_assoc p (v ∷ []) (ws ++ rest)))
    ∙ ap (λ (n : ℕ). sets (snoc p v ++ (ws ++ rest)) n vs) (sym (snoc_length p v))
    ∙ overwrite (snoc p v) ws vs rest (omega arith) ∙ append_assoc p (v ∷ []) (vs ++ rest)

-- ONE DEVICE MORE
abbrev pub device_more : Drawing → (kind : ℕ) → Drawing
device_more d k = record { kinds = snoc d.kinds k; cables = d.cables }

-- a record by its n kinds; what follows the kind bytes is the rest
abbrev by_kinds : (m : ℕ) → (rest : List ℕ) → (n : ℕ) → List ℕ → List ℕ
by_kinds m rest n ks = n ∷ m ∷ (ks ++ (replicate (10 - n) 0 ++ rest))

kind_stored : (ks unused : List ℕ) (k : ℕ) → set (ks ++ (0 ∷ unused)) (length ks) k ≡ snoc ks k ++ unused
kind_stored ks unused k = set-append_seam ks 0 unused k ∙ sym (append_assoc ks (k ∷ []) unused)

device_stored :
    (m : ℕ) (rest ks : List ℕ) (k : ℕ) → length ks < 10
    → write_device (length ks) k (by_kinds m rest (length ks) ks) ≡ by_kinds m rest (length ks + 1) (snoc ks k)
device_stored m rest ks k h =
    let two : 2 + length ks ≡ suc (suc (length ks)) = omega arith in
    let ten : 10 - length ks ≡ suc (10 - (length ks + 1)) = omega arith in
    rw (two, ten) (ap (λ (l : List ℕ). (length ks + 1) ∷ m ∷ l) (kind_stored ks (replicate (10 - (length ks + 1)) 0 ++ rest) k))

cables_bytes : Drawing → List ℕ
cables_bytes d = cable_bytes d.cables ++ (replicate (60 - 3 * length d.cables) 0 ++ (0 ∷ []))

kinds_apart : (d : Drawing) → drawing_bytes 0 d ≡ by_kinds (length d.cables) (cables_bytes d) (devices d) d.kinds
unfolding drawing_bytes cables_bytes
kinds_apart d = simp append_assoc

pub device_written : (d : Drawing) (k : ℕ) → devices d < 10 → write_device (devices d) k (drawing_bytes 0 d) ≡ drawing_bytes 0 (device_more d k)
unfolding cables_bytes
device_written d k h =
    let m = length d.cables in
    let more : length d.kinds + 1 ≡ length (snoc d.kinds k) = rw snoc_length (omega arith) in
    ap (write_device (devices d) k) (kinds_apart d) ∙ device_stored m (cables_bytes d) d.kinds k h
    ∙ ap (λ (n : ℕ). by_kinds m (cables_bytes d) n (snoc d.kinds k)) more ∙ sym (kinds_apart (device_more d k))

-- ONE CABLE MORE
abbrev pub cable_more : Drawing → Cable → Drawing
cable_more d c = record { kinds = d.kinds; cables = snoc d.cables c }

cable_bytes_snoc : (cs : List Cable) (c : Cable) → cable_bytes (snoc cs c) ≡ cable_bytes cs ++ (c.a ∷ c.b ∷ c.kind ∷ [])
unfolding cable_bytes
cable_bytes_snoc [] c = refl
cable_bytes_snoc (b ∷ cs) c = ap {B = List ℕ} (λ bs. b.a ∷ b.b ∷ b.kind ∷ bs) (cable_bytes_snoc cs c)

-- a record by the bytes of its m cables; ks are the ten kind bytes
abbrev by_cables : (n : ℕ) → (ks : List ℕ) → (m : ℕ) → List ℕ → List ℕ
by_cables n ks m bs = n ∷ m ∷ (ks ++ (bs ++ (replicate (60 - 3 * m) 0 ++ (0 ∷ []))))

cable_stored :
    (n : ℕ) (ks : List ℕ) (m : ℕ) (bs : List ℕ) (e : Rec) → length ks ≡ 10 → length bs ≡ 3 * m → m < 20
    → write_cable m e (by_cables n ks m bs) ≡ by_cables n ks (m + 1) (bs ++ (e.i ∷ e.j ∷ e.c ∷ []))
cable_stored n ks m bs e ten size h =
    let three : 60 - 3 * m ≡ suc (suc (suc (60 - 3 * (m + 1)))) = omega arith in
    let here : 12 + 3 * m ≡ length p = omega (arith, long) in
    let one : length p + 1 ≡ suc (length p) = omega arith in
    let two : length p + 2 ≡ suc (suc (length p)) = omega arith in
    rw (three, here, one, two, ← append_assoc ks bs)
    (overwrite p (0 ∷ 0 ∷ 0 ∷ []) (e.i ∷ e.j ∷ e.c ∷ []) (replicate (60 - 3 * (m + 1)) 0 ++ (0 ∷ [])) refl
    ∙ ap (λ (l : List ℕ). n ∷ (m + 1) ∷ l) (append_assoc ks bs _ ∙ ap (λ (l : List ℕ). ks ++ l) (sym (append_assoc bs _ _))))
  where
    p : List ℕ
    p = n ∷ (m + 1) ∷ (ks ++ bs)

    long : length p ≡ 2 + (length ks + length bs)
    long = rw length-append (omega arith)

kinds_bytes : Drawing → List ℕ
kinds_bytes d = d.kinds ++ replicate (10 - devices d) 0

kinds_ten : (d : Drawing) → devices d ≤ 10 → length (kinds_bytes d) ≡ 10
unfolding kinds_bytes
kinds_ten d h = simp (length-append, length-replicate) (omega arith)

cables_apart : (d : Drawing) → drawing_bytes 0 d ≡ by_cables (devices d) (kinds_bytes d) (length d.cables) (cable_bytes d.cables)
unfolding drawing_bytes kinds_bytes
cables_apart d = simp append_assoc

pub cable_written :
    (d : Drawing) (e : Rec) → devices d ≤ 10 → length d.cables < 20
    → write_cable (length d.cables) e (drawing_bytes 0 d) ≡ drawing_bytes 0 (cable_more d (cable_of e))
unfolding cable_of kinds_bytes
cable_written d e h g =
    let cs = d.cables in
    let m = length d.cables in
    let new = cable_of e in
    let more : m + 1 ≡ length (snoc cs new) = rw snoc_length (omega arith) in
    ap (write_cable m e) (cables_apart d)
    ∙ cable_stored (devices d) (kinds_bytes d) m (cable_bytes cs) e (kinds_ten d h) (cable_bytes_length cs) g
    ∙ ap₂ (λ k bs. by_cables (devices d) (kinds_bytes d) k bs) more (sym (cable_bytes_snoc cs new))
    ∙ sym (cables_apart (cable_more d new))
