-- What the search lists at one numbering: every cable each way round, and exactly the records that are local to it, with
-- the numberings after them. Rests on Extension and Selections. Assumes nothing.
use Rattle.std.specs.Prelude.{◌≡◌, Bool, ◌&&◌, ◌||◌, List, [], ◌∷◌, ◌⊎◌, ℕ, length}
use Rattle.std.proofs.Math.Path.{refl, subst}
use Rattle.std.proofs.Common.{sym, ap, ◌∙◌, inl, inr, arith}
use Rattle.std.proofs.Math.Bool.{true, false, not, cond}
use Rattle.std.proofs.Math.Dec.{eqb}
use Rattle.std.proofs.Math.ListN.{get_or}
use borrow.Author.Tests.{eqb-true, eq-eqb, not-true}
use Rattle.laws.specs.Tests.{true_and_false, false_unless, and_split, and_both}
use Rattle.laws.specs.Lists.{Mem, snoc, mem_front, mem_back, mem_cases, mem_eq, mem_at}
use Rattle.laws.specs.Selections.{each_has, each_from, only_if_has, only_if_from, mem_one}
use Rattle.graphs.specs.Drawing.{Cable, Drawing, member}
use Rattle.graphs.specs.Map.{image}
use Rattle.graphs.specs.Cables.{along, against, Has, has_eq, mem_from_test, mem_to_test}
use Rattle.graphs.specs.Embedding.{Unnumbered}
use Rattle.graphs.specs.Embeddings.{numbered_from_mem, numbered_clash}
use Rattle.codes.specs.Code.{Rec, Reading, end, step_good, kinds_match, forward}
use Rattle.codes.specs.CodeOrder.{rec_eq}
use Rattle.codes.specs.Step.{Step, steps_back, steps_forward}
use Rattle.codes.specs.Reading.{Invariant}
use Rattle.codes.specs.ReadRows.{step_from_test, step_to_test}
use Rattle.codes.specs.Extension.{edge_record, chord_record, Local, chord_at, edge_at, next}
use Rattle.codes.specs.LeastSearch.{Choice, choice, way, ways, edge_choice, chord_choice, locals}

cable_is : {c : Cable} {u w k : ℕ} → c.a ≡ u → c.b ≡ w → c.kind ≡ k → c ≡ way u w k
cable_is p q r = λ x. record { a = p x; b = q x; kind = r x }

pub choice_is : {c : Choice} {e : Rec} {g : List ℕ} → c.e ≡ e → c.numbering ≡ g → c ≡ choice e g
choice_is p q = λ x. record { e = p x; numbering = q x }

-- EVERY CABLE EACH WAY ROUND, and nothing else
pub ways_has : {u w k : ℕ} {cs : List Cable} → Has u w k cs → Mem (way u w k) (ways cs)
unfolding ways
ways_has (Has.here (along p q) e) = Mem.here (cable_is p q e)
ways_has (Has.here (against p q) e) = Mem.there (Mem.here (cable_is q p e))
ways_has (Has.there h) = Mem.there (Mem.there (ways_has h))

pub ways_only : (cs : List Cable) {c : Cable} → Mem c (ways cs) → Has c.a c.b c.kind cs
unfolding ways
ways_only [] m = elim m [ ]
ways_only (c ∷ cs) (Mem.here e) = Has.here (along (ap (λ (y : Cable). y.a) e) (ap (λ (y : Cable). y.b) e)) (ap (λ (y : Cable). y.kind) e)
ways_only (c ∷ cs) (Mem.there (Mem.here e)) =
    Has.here (against (ap (λ (y : Cable). y.b) e) (ap (λ (y : Cable). y.a) e)) (ap (λ (y : Cable). y.kind) e)
ways_only (c ∷ cs) (Mem.there (Mem.there m)) = Has.there (ways_only cs m)

-- a choice that is local, with its numbering
pub record LocalChoice (d : Drawing) (x : Reading) (f : List ℕ) (c : Choice) : Type 0 where
  pub local : Local d x f c.e
  pub is : next local ≡ c.numbering

-- LOCALS are the local records with the numberings after them
module _ (d : Drawing) (x : Reading) (v : Invariant x) (f : List ℕ) where
  unnumbered : (w : ℕ) → member w f ≡ false → Unnumbered f w
  unnumbered w e i h q = true_and_false (mem_to_test w f (mem_eq q (mem_at 256 f i h))) e

  pub locals_has : (e : Rec) (h : Local d x f e) → Mem (choice e (next h)) (locals d x f)
  unfolding locals edge_choice chord_choice edge_record chord_record
  locals_has e (chord_at b g y z) =
      each_has (ways d.cables) _ (ways_has g)
      (each_has x.path _ b.on_path
      (mem_back (edge_choice d x f (way (image f e.i) (image f e.j) e.c) e.j)
      (only_if_has
      (and_both (and_both (eq-eqb _ _ (ap (image f) (sym b.is_end))) (eq-eqb (image f e.j) (image f e.j) refl))
      (rw same (step_to_test x v e (steps_back b y z)).0))
      (Mem.here (choice_is same refl)))))
    where
      same : chord_record x (end x.path) e.j e.c ≡ e
      same = rec_eq _ e (sym b.is_end) refl (ap (λ (i : ℕ). get_or x.kinds i 256) (sym b.is_end) ∙ y) refl z
  locals_has e (edge_at w o j n g y z) =
      each_has (ways d.cables) _ (ways_has g)
      (each_has x.path _ o
      (mem_front (chord_choice d x f (way (image f e.i) w e.c) e.i)
      (only_if_has
      (and_both (eq-eqb (image f e.i) (image f e.i) refl)
      (ap not (false_unless (member w f) (λ t. numbered_clash (numbered_from_mem (mem_from_test w f t)) n))))
      (Mem.here (choice_is (rec_eq _ e refl (sym j) y refl z) refl)))))

  edge_local :
      (p k w : ℕ) → Mem p x.path → Has (image f p) w k d.cables → member w f ≡ false
      → LocalChoice d x f (choice (edge_record d x p k w) (snoc f w))
  unfolding edge_record
  edge_local p k w o h n = record { local = edge_at w o refl (unnumbered w n) h refl refl; is = refl }

  edge_only :
      (w : Cable) (p : ℕ) → Has w.a w.b w.kind d.cables → Mem p x.path → {c : Choice} → Mem c (edge_choice d x f w p)
      → LocalChoice d x f c
  unfolding edge_choice
  edge_only w p h o m =
      let from = eqb (image f p) w.a in
      let new = not (member w.b f) in
      let s = only_if_from (from && new) (choice (edge_record d x p w.kind w.b) (snoc f w.b) ∷ []) m in
      let t = and_split from new s.0 in
      subst (LocalChoice d x f) (mem_one s.1)
      (edge_local p w.kind w.b o (has_eq (sym (eqb-true _ _ t.0)) refl refl h) (not-true (member w.b f) t.1))

  -- a chord of kinds that were read matches them
  chord_match : (i j k : ℕ) → kinds_match x (chord_record x i j k) ≡ true
  unfolding kinds_match chord_record
  chord_match i j k =
      rw (eq-eqb (get_or x.kinds i 256) (get_or x.kinds i 256) refl, eq-eqb (get_or x.kinds j 256) (get_or x.kinds j 256) refl)
      (either (eqb (length x.kinds) 0) (forward (chord_record x i j k)))
    where
      either : (s t : Bool) → cond s true (t || true) ≡ true
      either true t = refl
      either false true = refl
      either false false = refl

  chord_local :
      (p k : ℕ) → Mem p x.path → Has (image f (end x.path)) (image f p) k d.cables
      → step_good x (chord_record x (end x.path) p k) ≡ true → LocalChoice d x f (choice (chord_record x (end x.path) p k) f)
  unfolding chord_record
  chord_local p k o h g = go (step_from_test x v e g (chord_match (end x.path) p k))
    where
      e : Rec
      e = chord_record x (end x.path) p k

      go : Step x e → LocalChoice d x f (choice e f)
      go (steps_back b y z) = record { local = chord_at b h y z; is = refl }
      go (steps_forward m j q r) = absurd (omega (arith, v.below p o))

  chord_only :
      (w : Cable) (p : ℕ) → Has w.a w.b w.kind d.cables → Mem p x.path → {c : Choice} → Mem c (chord_choice d x f w p)
      → LocalChoice d x f c
  unfolding chord_choice
  chord_only w p h o m =
      let e = chord_record x (end x.path) p w.kind in
      let ends = eqb (image f (end x.path)) w.a && eqb (image f p) w.b in
      let s = only_if_from (ends && step_good x e) (choice e f ∷ []) m in
      let t = and_split ends (step_good x e) s.0 in
      let q = and_split (eqb (image f (end x.path)) w.a) (eqb (image f p) w.b) t.0 in
      subst (LocalChoice d x f) (mem_one s.1)
      (chord_local p w.kind o (has_eq (sym (eqb-true _ _ q.0)) (sym (eqb-true _ _ q.1)) refl h) t.1)

  pub locals_only : (c : Choice) → Mem c (locals d x f) → LocalChoice d x f c
  unfolding locals
  locals_only c m =
      let s = each_from (ways d.cables) _ m in
      let t = each_from x.path _ s.gives in
      by s.a t.a (ways_only d.cables s.member) t.member (mem_cases (edge_choice d x f s.a t.a) t.gives)
    where
      by :
          (w : Cable) (p : ℕ) → Has w.a w.b w.kind d.cables → Mem p x.path
          → Mem c (edge_choice d x f w p) ⊎ Mem c (chord_choice d x f w p) → LocalChoice d x f c
      by w p h o (inl g) = edge_only w p h o g
      by w p h o (inr g) = chord_only w p h o g
