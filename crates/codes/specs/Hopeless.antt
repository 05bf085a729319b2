-- Codes that cannot be the least, told by their last record: its cable comes before the first record, or was overlooked at an
-- earlier one. Rests on Overlooked and Better. Assumes nothing.
use Rattle.std.specs.Prelude.{◌≡◌, Bool, true, List, [], ◌∷◌, ◌++◌, ℕ, ◌<◌}
use Rattle.std.proofs.Common.{sym, ap, ◌∙◌, subst, arith}
use Rattle.laws.specs.Lists.{snoc}
use Rattle.graphs.specs.Drawing.{Drawing, kind}
use Rattle.graphs.specs.Map.{image}
use Rattle.graphs.specs.Cables.{Has, has_flip}
use Rattle.graphs.specs.Graph.{Pattern}
use Rattle.codes.specs.Code.{Rec, fresh, rows_refusal, read_rows, decoded, LeastBy}
use Rattle.codes.specs.CodeOrder.{LabelOrder}
use Rattle.codes.specs.ReadRows.{rows_cons, begun_from_test, rows_invariant}
use Rattle.codes.specs.Extension.{Local, chord_at, edge_at}
use Rattle.codes.specs.FirstRecord.{first_record, fits_first}
use Rattle.codes.specs.FullCode.{coded_itself}
use Rattle.codes.specs.LeastCode.{least_greedy}
use Rattle.codes.specs.Branch.{Node, node_fits, ParentNode, node_parent}
use Rattle.codes.specs.Better.{start_not_greedy}
use Rattle.codes.specs.LabelLaws.{forward_same_ends}
use Rattle.codes.specs.Overlooked.{Overlooks, overlooked}

-- THE CABLE OF THE LAST RECORD, with the kinds of its ends
pub record LastCable (d : Drawing) (e : Rec) : Type 0 where
  pub u : ℕ
  pub w : ℕ
  pub has : Has u w e.c d.cables
  pub i_kind : kind d u ≡ e.ki
  pub j_kind : kind d w ≡ e.kj

pub last_cable : (d : Drawing) (γ : List Rec) (e : Rec) (g : List ℕ) → Node d (snoc γ e) g → LastCable d e
unfolding first_record
last_cable d [] e g n =
    let c = fits_first d e (node_fits d (e ∷ []) g n) in
    record {
      u = c.u;
      w = c.w;
      has = subst (λ (k : ℕ). Has c.u c.w k d.cables) (ap (λ (x : Rec). x.c) c.record_is) c.has;
      i_kind = ap (λ (x : Rec). x.ki) c.record_is;
      j_kind = ap (λ (x : Rec). x.kj) c.record_is;
    }
last_cable d (r ∷ rs) e g n = go (node_parent d r rs e g n)
  where
    go : ParentNode d (r ∷ rs) e g → LastCable d e
    go c = at c.local
      where
        at : Local d (read_rows fresh (r ∷ rs)) c.f e → LastCable d e
        at (chord_at b h y z) =
            record {
              u = image c.f e.i;
              w = image c.f e.j;
              has = h;
              i_kind = c.node.embedding.kinds e.i (omega (arith, c.node.embedding.size, c.node.invariant.top, b.is_end)) ∙ y;
              j_kind = c.node.embedding.kinds e.j (omega (arith, c.node.embedding.size, c.node.invariant.below e.j b.on_path)) ∙ z;
            }
        at (edge_at w o j k h y z) =
            record {
              u = image c.f e.i;
              w = w;
              has = h;
              i_kind = c.node.embedding.kinds e.i (omega (arith, c.node.embedding.size, c.node.invariant.below e.i o)) ∙ y;
              j_kind = z;
            }

-- a first record with these labels
abbrev pub begins_with : (ki c kj : ℕ) → Rec
begins_with ki c kj = record { i = 0; j = 1; ki = ki; c = c; kj = kj }

module _ (labels : Rec → Rec → Bool) (o : LabelOrder labels) (r : Rec) (rs : List Rec) (ok : rows_refusal fresh (r ∷ rs) ≡ 0)
    (p : Pattern (decoded (r ∷ rs))) where
  -- the code's own numbering
  abbrev pub own : List ℕ
  own = (coded_itself r rs ok).numbering

  pub own_node : Node (decoded (r ∷ rs)) (r ∷ rs) own
  unfolding decoded
  own_node = record { accepted = ok; invariant = rows_invariant r rs ok; embedding = (coded_itself r rs ok).isomorphism.embedding }

  ends : (r.i ≡ 0) × (r.j ≡ 1)
  ends = begun_from_test r (rows_cons fresh r rs ok).step

  -- A CABLE BEFORE THE FIRST RECORD, either way round
  start_hopeless :
      (u w k : ℕ) → Has u w k (decoded (r ∷ rs)).cables
      → labels (begins_with (kind (decoded (r ∷ rs)) u) k (kind (decoded (r ∷ rs)) w)) r ≡ true → LeastBy labels (decoded (r ∷ rs)) (r ∷ rs) → ⊥
  unfolding first_record
  start_hopeless u w k h t l =
      start_not_greedy labels (decoded (r ∷ rs)) p.simple u w k h r rs
      (forward_same_ends labels (first_record (decoded (r ∷ rs)) u w k) r (omega arith) (sym ends.0) (sym ends.1) ∙ t)
      (least_greedy labels o (decoded (r ∷ rs)) p (r ∷ rs) l)

  module _ (e : Rec) (c : LastCable (decoded (r ∷ rs)) e) where
    pub first_hopeless : labels (begins_with e.ki e.c e.kj) r ≡ true → LeastBy labels (decoded (r ∷ rs)) (r ∷ rs) → ⊥
    first_hopeless t =
        start_hopeless c.u c.w e.c c.has
        (subst (λ (a : ℕ). labels (begins_with a e.c (kind (decoded (r ∷ rs)) c.w)) r ≡ true) (sym c.i_kind)
        (subst (λ (b : ℕ). labels (begins_with e.ki e.c b) r ≡ true) (sym c.j_kind) t))

    pub reversed_hopeless : labels (begins_with e.kj e.c e.ki) r ≡ true → LeastBy labels (decoded (r ∷ rs)) (r ∷ rs) → ⊥
    reversed_hopeless t =
        start_hopeless c.w c.u e.c (has_flip c.has)
        (subst (λ (a : ℕ). labels (begins_with a e.c (kind (decoded (r ∷ rs)) c.u)) r ≡ true) (sym c.j_kind)
        (subst (λ (b : ℕ). labels (begins_with e.kj e.c b) r ≡ true) (sym c.i_kind) t))

-- A CABLE OVERLOOKED at the forward record s
pub sibling_hopeless :
    (labels : Rec → Rec → Bool) → LabelOrder labels → (r : Rec) (ps : List Rec) (s : Rec) (qs : List Rec) (e : Rec)
    → rows_refusal fresh (r ∷ ps ++ s ∷ snoc qs e) ≡ 0 → Pattern (decoded (r ∷ ps ++ s ∷ snoc qs e)) → s.i < s.j → Overlooks labels s e
    → LeastBy labels (decoded (r ∷ ps ++ s ∷ snoc qs e)) (r ∷ ps ++ s ∷ snoc qs e) → ⊥
sibling_hopeless labels o r ps s qs e ok p up v l =
    overlooked labels (decoded (r ∷ ps ++ s ∷ snoc qs e)) p.devices_high p.simple.ends r ps s qs e
    (own labels o r (ps ++ s ∷ snoc qs e) ok p) (own_node labels o r (ps ++ s ∷ snoc qs e) ok p) up v
    (least_greedy labels o (decoded (r ∷ ps ++ s ∷ snoc qs e)) p (r ∷ ps ++ s ∷ snoc qs e) l)
