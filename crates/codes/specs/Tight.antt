-- Tight states: every cable of the drawing is listed, or can still be reached. Least steps keep a state tight, and a
-- tight state has an extension or is full. Rests on Extension and CodeOrder. Assumes nothing.
use Rattle.std.specs.Prelude.{◌≡◌, Bool, false, List, [], ◌∷◌, ◌⊎◌, ℕ, ◌≤◌, ◌<◌, length}
use Rattle.std.proofs.Math.Path.{refl, sym}
use Rattle.std.proofs.Common.{ap, ◌∙◌, subst, arith}
use Rattle.std.proofs.Math.Logic.{inl, inr}
use Rattle.std.proofs.Math.Decide.{ℕ_discrete}
use Rattle.laws.specs.Tests.{true_and_false}
use Rattle.laws.specs.Lists.{Mem, snoc, snoc_old, snoc_new, snoc_below}
use Rattle.graphs.specs.Drawing.{Cable, Drawing, devices}
use Rattle.graphs.specs.Map.{image}
use Rattle.graphs.specs.Cables.{along, against, Has, has_flip, has_eq, has_front, has_last, has_first}
use Rattle.graphs.specs.Embedding.{Embedding, Numbered, Unnumbered, Preimage, Isomorphism}
use Rattle.graphs.specs.Embeddings.{decide_numbered, numbered_clash}
use Rattle.graphs.specs.Graph.{Simple, Pattern}
use Rattle.graphs.specs.Simple.{distinct_single}
use Rattle.graphs.specs.Connected.{walk_closed}
use Rattle.codes.specs.Code.{Rec, Reading, end, cable_of, begun, forwarded, backed, drawn, rec_before_by}
use Rattle.codes.specs.CodeOrder.{backward_before_forward, backward_not_before, forward_not_before}
use Rattle.codes.specs.Step.{Backward, Step, steps_back, steps_forward, after, cut_keeps, cut_second}
use Rattle.codes.specs.Reading.{Invariant}
use Rattle.codes.specs.Extension.{
  Extension,
  Local,
  chord_at,
  edge_at,
  unbackward,
  unforward,
  edge_record,
  chord_record,
  local_extension,
}

-- HOW A CABLE between u and v stands in a state, seen from u: listed; an edge from the path to a device without a number;
-- a chord that is still permitted; or apart from all that was read
pub data Standing (x : Reading) (f : List ℕ) (u v : ℕ) : Type 0 where
  listed : (i j k : ℕ) → Has i j k x.cables → image f i ≡ u → image f j ≡ v → Standing x f u v
  edge : (i : ℕ) → Mem i x.path → image f i ≡ u → Unnumbered f v → Standing x f u v
  chord : (i j : ℕ) → Backward x i j → image f i ≡ u → image f j ≡ v → Standing x f u v
  apart : Unnumbered f u → Unnumbered f v → Standing x f u v

-- from one of its ends
abbrev pub Stands : Reading → List ℕ → ℕ → ℕ → Type 0
Stands x f u v = Standing x f u v ⊎ Standing x f v u

abbrev pub Tight : Drawing → Reading → List ℕ → Type 0
Tight d x f = (u v k : ℕ) → Has u v k d.cables → Stands x f u v

abbrev pub AllTight : Drawing → Reading → Type 0
AllTight d x = (f : List ℕ) → Embedding (drawn x) d f → Tight d x f

turned : {x : Reading} {f : List ℕ} (u v : ℕ) → Stands x f u v → Stands x f v u
turned u v (inl z) = inr z
turned u v (inr z) = inl z

-- AFTER ANY FIRST RECORD every numbering is tight: both devices are on the path
pub tight_begun :
    (d : Drawing) → Simple d → (e : Rec) → e.i ≡ 0 → e.j ≡ 1 → AllTight d (begun e)
unfolding cable_of
tight_begun d s e p q f m u w k h = go (decide_numbered f u) (decide_numbered f w)
  where
    on : (i : ℕ) → i < length f → Mem i (1 ∷ 0 ∷ [])
    on i l = cases (ℕ_discrete i 1)
      where
        cases : Dec (i ≡ 1) → Mem i (1 ∷ 0 ∷ [])
        cases (yes z) = Mem.here (sym z)
        cases (no z) = let y : 0 ≡ i = omega (arith, m.size) in Mem.there (Mem.here y)

    joined : (i j : ℕ) → i < length f → j < length f → (i ≡ j → ⊥) → Has i j e.c (cable_of e ∷ [])
    joined i j a b n = cases (ℕ_discrete i 0)
      where
        cases : Dec (i ≡ 0) → Has i j e.c (cable_of e ∷ [])
        cases (yes z) = Has.here (along (p ∙ sym z) (q ∙ omega (arith, m.size))) refl
        cases (no z) = Has.here (against (p ∙ omega (arith, m.size)) (q ∙ omega (arith, m.size))) refl

    two : (a : Numbered f u) → (b : Numbered f w) → Dec (a.i ≡ b.i) → Stands (begun e) f u w
    two a b (yes z) = absurd (s.loopless u k (has_eq refl (sym b.is ∙ ap (image f) (sym z) ∙ a.is) refl h))
    two a b (no z) = inl (listed a.i b.i e.c (joined a.i b.i a.below b.below z) a.is b.is)

    go : Numbered f u ⊎ Unnumbered f u → Numbered f w ⊎ Unnumbered f w → Stands (begun e) f u w
    go (inl a) (inl b) = two a b (ℕ_discrete a.i b.i)
    go (inl a) (inr b) = inl (edge a.i (on a.i a.below) a.is b)
    go (inr a) (inl b) = inr (edge b.i (on b.i b.below) b.is a)
    go (inr a) (inr b) = inl (apart a b)

-- A STEP KEEPS A NUMBERING TIGHT if no record that is local to it comes before the step's
module _ (labels : Rec → Rec → Bool) (d : Drawing) (p : Pattern d) (x : Reading) (v : Invariant x) (f : List ℕ) (m : Embedding (drawn x) d f)
    (tight : Tight d x f) (e : Rec) (least : (l : Rec) → Local d x f l → rec_before_by labels l e ≡ false) where
  -- backward: the least j first, so the other chords keep a greater j
  module _ (o : Backward x e.i e.j) where
    not_lower : (i j k : ℕ) → Backward x i j → Has (image f i) (image f j) k d.cables → e.j ≤ j
    unfolding chord_record
    not_lower i j k b h =
        backward_not_before labels (chord_record x i j k) e b.down o.down (least (chord_record x i j k) (chord_at b h refl refl))

    chord_stands : (i j u w : ℕ) → Backward x i j → e.j ≤ j → image f i ≡ u → image f j ≡ w → Dec (e.j ≡ j) → Standing (backed x e) f u w
    unfolding cable_of
    chord_stands i j u w b le y z (yes t) =
        listed e.i e.j e.c (has_last x.cables (along refl refl) refl) (ap (image f) (o.is_end ∙ sym b.is_end) ∙ y)
        (ap (image f) t ∙ z)
    chord_stands i j u w b le y z (no t) =
        chord i j (record { is_end = b.is_end; down = b.down; on_path = b.on_path; not_parent = b.not_parent; rising = inr (omega arith) }) y z

    half_backward : (u w k : ℕ) → Has u w k d.cables → Standing x f u w → Standing (backed x e) f u w
    half_backward u w k h (listed i j l c y z) = listed i j l (has_front (cable_of e ∷ []) c) y z
    half_backward u w k h (edge i on y out) = edge i on y out
    half_backward u w k h (apart a b) = apart a b
    half_backward u w k h (chord i j b y z) =
        chord_stands i j u w b (not_lower i j k b (has_eq (sym y) (sym z) refl h)) y z (ℕ_discrete e.j j)

    both_backward : (u w k : ℕ) → Has u w k d.cables → Stands x f u w → Stands (backed x e) f u w
    both_backward u w k h (inl z) = inl (half_backward u w k h z)
    both_backward u w k h (inr z) = inr (half_backward w u k (has_flip h) z)

    pub tight_backward : Tight d (backed x e) f
    tight_backward u w k h = both_backward u w k h (tight u w k h)

  -- forward from i: no chord is left, and i is the deepest path device with an edge, so what the path loses has none
  module _ (o : Mem e.i x.path) (jn : e.j ≡ length x.kinds) (new : ℕ) where
    i_below : e.i < e.j
    i_below = omega (arith, v.below e.i o)

    old : (i u : ℕ) → i < length x.kinds → image f i ≡ u → image (snoc f new) i ≡ u
    old i u h q = snoc_old 256 f new i (rw m.size h) ∙ q

    at_new : image (snoc f new) e.j ≡ new
    at_new = snoc_new 256 f new e.j (jn ∙ sym m.size)

    still_out : (u : ℕ) → Unnumbered f u → (u ≡ new → ⊥) → Unnumbered (snoc f new) u
    still_out u n z i h q = cases (snoc_below f new i h)
      where
        cases : (i < length f) ⊎ (i ≡ length f) → ⊥
        cases (inl l) = n i l (sym (snoc_old 256 f new i l) ∙ q)
        cases (inr l) = z (sym q ∙ snoc_new 256 f new i l)

    not_deeper : (i k w : ℕ) → Mem i x.path → Unnumbered f w → Has (image f i) w k d.cables → i ≤ e.i
    unfolding edge_record
    not_deeper i k w on n h =
        forward_not_before labels (edge_record d x i k w) e (v.below i on) i_below
        (least (edge_record d x i k w) (edge_at w on refl n h refl refl))

    no_chord : (i j k : ℕ) → Backward x i j → Has (image f i) (image f j) k d.cables → ⊥
    unfolding chord_record
    no_chord i j k b h =
        true_and_false (backward_before_forward labels (chord_record x i j k) e b.down i_below)
        (least (chord_record x i j k) (chord_at b h refl refl))

    -- a cable that was an edge
    edge_stands :
        (i u w : ℕ) → Mem i x.path → i ≤ e.i → image f i ≡ u → Unnumbered f w → Dec (w ≡ new) → Dec (i ≡ e.i)
        → Stands (forwarded x e) (snoc f new) u w
    unfolding cable_of end
    edge_stands i u w on le q n (yes y) (yes z) =
        inl
        (listed e.i e.j e.c (has_last x.cables (along refl refl) refl)
        (old e.i u (v.below e.i o) (ap (image f) (sym z) ∙ q)) (at_new ∙ sym y))
    edge_stands i u w on le q n (yes y) (no z) =
        inr
        (chord e.j i
        (record {
          is_end = refl;
          down = omega (arith, i_below, le);
          on_path = Mem.there (cut_keeps e.i x.path v.falling on le o);
          not_parent = λ b. z (b ∙ cut_second e.j e.i x.path o);
          rising = inl refl;
        })
        (at_new ∙ sym y) (old i u (v.below i on) q))
    edge_stands i u w on le q n (no y) z =
        inl (edge i (Mem.there (cut_keeps e.i x.path v.falling on le o)) (old i u (v.below i on) q) (still_out w n y))

    -- a cable that was apart
    apart_stands :
        (u w k : ℕ) → Has u w k d.cables → Unnumbered f u → Unnumbered f w → Dec (u ≡ new) → Dec (w ≡ new)
        → Stands (forwarded x e) (snoc f new) u w
    apart_stands u w k h a b (yes y) (yes z) = absurd (p.simple.loopless u k (has_eq refl (z ∙ sym y) refl h))
    apart_stands u w k h a b (yes y) (no z) = inl (edge e.j (Mem.here refl) (at_new ∙ sym y) (still_out w b z))
    apart_stands u w k h a b (no y) (yes z) = inr (edge e.j (Mem.here refl) (at_new ∙ sym z) (still_out u a y))
    apart_stands u w k h a b (no y) (no z) = inl (apart (still_out u a y) (still_out w b z))

    half_forward : (u w k : ℕ) → Has u w k d.cables → Standing x f u w → Stands (forwarded x e) (snoc f new) u w
    half_forward u w k h (listed i j l c q r) =
        inl
        (listed i j l (has_front (cable_of e ∷ []) c) (old i u (v.simple.ends i j l c) q) (old j w (v.simple.ends j i l (has_flip c)) r))
    half_forward u w k h (edge i on q n) =
        edge_stands i u w on (not_deeper i k w on n (has_eq (sym q) refl refl h)) q n (ℕ_discrete w new) (ℕ_discrete i e.i)
    half_forward u w k h (chord i j b q r) = absurd (no_chord i j k b (has_eq (sym q) (sym r) refl h))
    half_forward u w k h (apart a b) = apart_stands u w k h a b (ℕ_discrete u new) (ℕ_discrete w new)

    both_forward : (u w k : ℕ) → Has u w k d.cables → Stands x f u w → Stands (forwarded x e) (snoc f new) u w
    both_forward u w k h (inl z) = half_forward u w k h z
    both_forward u w k h (inr z) = turned w u (half_forward w u k (has_flip h) z)

    pub tight_forward : Tight d (forwarded x e) (snoc f new)
    tight_forward u w k h = both_forward u w k h (tight u w k h)

-- A LEAST STEP KEEPS EVERY NUMBERING TIGHT
pub tight_step :
    (labels : Rec → Rec → Bool) (d : Drawing) → Pattern d → (x : Reading) → Invariant x → AllTight d x → (e : Rec)
    → ((l : Rec) → Extension d x l → rec_before_by labels l e ≡ false) → (s : Step x e) → AllTight d (after s)
tight_step labels d p x v tight e least s = go s
  where
    locally : (f : List ℕ) → Embedding (drawn x) d f → (l : Rec) → Local d x f l → rec_before_by labels l e ≡ false
    locally f m l h = least l (local_extension d p.devices_high p.simple.ends x v f m l h)

    go : (s : Step x e) → AllTight d (after s)
    go (steps_back o y z) g m =
        let q = (unbackward d x v e g m).0 in
        tight_backward labels d p x v g q (tight g q) e (locally g q) o
    go (steps_forward o y z r) g m =
        let q = unforward d x v e g (v.below e.i o) y m in
        subst (Tight d (forwarded x e)) (sym q.whole)
        (tight_forward labels d p x v q.f q.embedding (tight q.f q.embedding) e (locally q.f q.embedding) o y q.w)

-- A TIGHT STATE HAS A LOCAL RECORD, OR IS FULL
abbrev pub SomeLocal : Drawing → Reading → List ℕ → Type 0
SomeLocal d x f = (e : Rec) × Local d x f e

module _ (d : Drawing) (p : Pattern d) (x : Reading) (v : Invariant x) (f : List ℕ) (m : Embedding (drawn x) d f) where
  -- listed, or with no number at either end
  data Done (u w : ℕ) : Type 0 where
    was_listed : (i j k : ℕ) → Has i j k x.cables → image f i ≡ u → image f j ≡ w → Done u w
    outside : Unnumbered f u → Unnumbered f w → Done u w

  done_flip : {u w : ℕ} → Done u w → Done w u
  done_flip (was_listed i j k h y z) = was_listed j i k (has_flip h) z y
  done_flip (outside a b) = outside b a

  done_eq : {u w u' w' : ℕ} → u ≡ u' → w ≡ w' → Done u w → Done u' w'
  done_eq y z t = rw (← y, ← z) t

  look : (u w k : ℕ) → Has u w k d.cables → Standing x f u w → SomeLocal d x f ⊎ Done u w
  unfolding edge_record chord_record
  look u w k h (listed i j l c y z) = inr (was_listed i j l c y z)
  look u w k h (edge i on y n) =
      inl (edge_record d x i k w, edge_at w on refl n (has_eq (sym y) refl refl h) refl refl)
  look u w k h (chord i j b y z) =
      inl (chord_record x i j k, chord_at b (has_eq (sym y) (sym z) refl h) refl refl)
  look u w k h (apart a b) = inr (outside a b)

  look_both : (u w k : ℕ) → Has u w k d.cables → Stands x f u w → SomeLocal d x f ⊎ Done u w
  look_both u w k h (inl z) = look u w k h z
  look_both u w k h (inr z) = flip (look w u k (has_flip h) z)
    where
      flip : SomeLocal d x f ⊎ Done w u → SomeLocal d x f ⊎ Done u w
      flip (inl y) = inl y
      flip (inr y) = inr (done_flip y)

  abbrev AllDone : List Cable → Type 0
  AllDone cs = (u w k : ℕ) → Has u w k cs → Done u w

  scan : Tight d x f → (cs : List Cable) → ((u w k : ℕ) → Has u w k cs → Has u w k d.cables) → SomeLocal d x f ⊎ AllDone cs
  scan t [] s = inr (λ u w k h. elim h [ ])
  scan t (c ∷ cs) s = go (look_both c.a c.b c.kind first (t c.a c.b c.kind first)) (scan t cs (λ u w k h. s u w k (Has.there h)))
    where
      first : Has c.a c.b c.kind d.cables
      first = s c.a c.b c.kind (has_first c cs)

      each : Done c.a c.b → AllDone cs → AllDone (c ∷ cs)
      each z r u w k (Has.here (along y t) l) = done_eq y t z
      each z r u w k (Has.here (against y t) l) = done_flip (done_eq y t z)
      each z r u w k (Has.there h) = r u w k h

      go : SomeLocal d x f ⊎ Done c.a c.b → SomeLocal d x f ⊎ AllDone cs → SomeLocal d x f ⊎ AllDone (c ∷ cs)
      go (inl y) r = inl y
      go (inr y) (inl z) = inl z
      go (inr y) (inr z) = inr (each y z)

  -- if all the rest is apart, nothing is: a set of devices that holds one device and is closed under cables holds all
  full : AllDone d.cables → Isomorphism (drawn x) d f
  full done = record { embedding = m; onto = all; cables_onto = λ u w k h. each u w k h (done u w k h) }
    where
      onward : (u w : ℕ) → Done u w → Numbered f u → Numbered f w
      onward u w (was_listed i j l c y z) n =
          record { i = j; below = omega (arith, v.simple.ends j i l (has_flip c), m.size); is = z }
      onward u w (outside a b) n = absurd (numbered_clash n a)

      zero_below : 0 < length f
      zero_below = omega (arith, m.size, v.two)

      all : (w : ℕ) → w < devices d → Numbered f w
      all w low =
          walk_closed (Numbered f) (λ u z k h. onward u z (done u z k h)) (p.connected (image f 0) w (m.lands 0 zero_below) low)
          (record { i = 0; below = zero_below; is = refl })

      each : (u w k : ℕ) → Has u w k d.cables → Done u w → Preimage (drawn x) f u w k
      each u w k h (was_listed i j l c y z) =
          record {
            i = i;
            j = j;
            has = has_eq refl refl (distinct_single d.cables p.simple.distinct u w l k (has_eq y z refl (m.cables i j l c)) h) c;
            from = y;
            to = z;
          }
      each u w k h (outside a b) = absurd (numbered_clash (all u (p.simple.ends u w k h)) a)

  pub progress : Tight d x f → SomeLocal d x f ⊎ Isomorphism (drawn x) d f
  progress t = go (scan t d.cables (λ u w k h. h))
    where
      go : SomeLocal d x f ⊎ AllDone d.cables → SomeLocal d x f ⊎ Isomorphism (drawn x) d f
      go (inl y) = inl y
      go (inr y) = inr (full y)
