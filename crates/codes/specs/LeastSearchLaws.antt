-- The search of LeastSearch.antt finds the least code: it keeps exactly the numberings of the rows so far, and takes the
-- least extension each time. Rests on LeastSearchLocals, Branch and LeastCode. Assumes nothing.
use Rattle.std.specs.Prelude.{◌≡◌, Bool, true, length}
use Rattle.std.proofs.Math.Path.{refl, sym, ap, subst}
use Rattle.std.proofs.Common.{ap₂, ◌∙◌, arith}
use Rattle.std.proofs.lemmas.Bool.{false≢true}
use mathlib.Core.List.{List, [], ◌∷◌, ◌++◌, map, append-nil, append_assoc}
use Prim.Native.Nat.{ℕ, zero, suc, ◌+◌}
use Rattle.laws.specs.Tests.{and_split, and_both}
use Rattle.laws.specs.Lists.{Mem, snoc, snoc_length, mem_map, mem_eq}
use Rattle.laws.specs.Selections.{
  each,
  each_has,
  each_from,
  only_if_has,
  only_if_from,
  map_from,
  mem_one,
  least_of_member,
  least_of_least,
}
use Rattle.graphs.specs.Drawing.{Cable, Drawing, member, byte_list}
use Rattle.graphs.specs.Graph.{Simple, Pattern}
use Rattle.codes.specs.Code.{
  Rec,
  Reading,
  fresh,
  stepped,
  read_rows,
  decoded,
  rows_good,
  rec_before_by,
  rec_same,
  LeastBy,
}
use Rattle.codes.specs.CodeOrder.{LabelOrder, rec_same_test, rec_before_strict}
use Rattle.codes.specs.ReadRows.{begun_is, read_snoc, rows_invariant}
use Rattle.codes.specs.Greedy.{Fits, NoneBefore}
use Rattle.codes.specs.FirstRecord.{read_first, fits_first}
use Rattle.codes.specs.LeastExtension.{LeastExtension}
use Rattle.codes.specs.FullCode.{least_unique}
use Rattle.codes.specs.LeastCode.{KeptRows, state_begun, state_step, state_next, state_least, first_extension}
use Rattle.codes.specs.Decoded.{decoded_pattern}
use Rattle.codes.specs.Branch.{Node, node_fits, node_next, node_parent, node_first}
use Rattle.codes.specs.LeastSearchLocals.{ways_has, ways_only, choice_is, locals_has, locals_only}
use Rattle.codes.specs.LeastSearch.{
  Choice,
  choice,
  ways,
  first_choice,
  firsts,
  locals,
  after_record,
  least_record,
  search_rows,
  least_code,
  rows_same,
  is_least_code,
  is_least,
}

-- WHAT A LEVEL KEEPS: the choices are the nodes one record further, the numberings those of the rows so far
pub record ListsNodes (d : Drawing) (γ : List Rec) (cs : List Choice) : Type 0 where
  pub only : (c : Choice) → Mem c cs → Node d (snoc γ c.e) c.numbering
  pub all : (e : Rec) (g : List ℕ) → Node d (snoc γ e) g → Mem (choice e g) cs

pub record KeepsNumberings (d : Drawing) (γ : List Rec) (fs : List (List ℕ)) : Type 0 where
  pub only : (f : List ℕ) → Mem f fs → Node d γ f
  pub all : (f : List ℕ) → Node d γ f → Mem f fs

pub firsts_list : (d : Drawing) → Simple d → ListsNodes d [] (firsts d)
unfolding firsts first_choice
firsts_list d s = record { only = only; all = all }
  where
    only : (c : Choice) → Mem c (firsts d) → Node d (c.e ∷ []) c.numbering
    only c m =
        let t = map_from (first_choice d) (ways d.cables) m in
        let w : Cable = t.a in
        subst (λ (y : Choice). Node d (y.e ∷ []) y.numbering) t.is
        (node_first d s w.a w.b w.kind (ways_only d.cables t.member))

    all : (e : Rec) (g : List ℕ) → Node d (e ∷ []) g → Mem (choice e g) (firsts d)
    all e g n =
        let t = fits_first d e (node_fits d (e ∷ []) g n) in
        mem_eq (choice_is t.record_is t.numbering_is) (mem_map (first_choice d) (ways_has t.has))

-- the numberings after one record
pub after_keeps :
    (d : Drawing) (γ : List Rec) (cs : List Choice) (e : Rec) → ListsNodes d γ cs → KeepsNumberings d (snoc γ e) (after_record e cs)
unfolding after_record
after_keeps d γ cs e l = record { only = only; all = all }
  where
    same : {a : Rec} {f g : List ℕ} → a ≡ e → f ≡ g → Node d (snoc γ a) f → Node d (snoc γ e) g
    same p q n = rw (← p, ← q) n

    only : (f : List ℕ) → Mem f (after_record e cs) → Node d (snoc γ e) f
    only f m =
        let t = each_from cs _ m in
        let c : Choice = t.a in
        let s = only_if_from (rec_same c.e e) (c.numbering ∷ []) t.gives in
        same (rec_same_test.to c.e e s.0) (mem_one s.1) (l.only c t.member)

    all : (f : List ℕ) → Node d (snoc γ e) f → Mem f (after_record e cs)
    all f n = each_has cs _ (l.all e f n) (only_if_has (rec_same_test.at e) (Mem.here refl))

-- what is local to them
pub locals_list :
    (d : Drawing) → Pattern d → (r : Rec) (rs : List Rec) (fs : List (List ℕ)) → KeepsNumberings d (r ∷ rs) fs
    → ListsNodes d (r ∷ rs) (each fs (locals d (read_rows fresh (r ∷ rs))))
locals_list d p r rs fs k = record { only = only; all = all }
  where
    x : Reading
    x = read_rows fresh (r ∷ rs)

    only : (c : Choice) → Mem c (each fs (locals d x)) → Node d (snoc (r ∷ rs) c.e) c.numbering
    only c m =
        let s = each_from fs (locals d x) m in
        let n = k.only s.a s.member in
        let t = locals_only d x n.invariant s.a c s.gives in
        subst (Node d (snoc (r ∷ rs) c.e)) t.is (node_next d p.devices_high p.simple.ends (r ∷ rs) s.a c.e n t.local)

    all : (e : Rec) (g : List ℕ) → Node d (snoc (r ∷ rs) e) g → Mem (choice e g) (each fs (locals d x))
    all e g n =
        let c = node_parent d r rs e g n in
        each_has fs (locals d x) (k.all c.f c.node)
        (subst (λ (y : List ℕ). Mem (choice e y) (locals d x c.f)) c.is (locals_has d x c.node.invariant c.f e c.local))

-- so the next level
next_level :
    (d : Drawing) → Pattern d → (γ : List Rec) (a : Rec) (cs : List Choice) (x : Reading) → read_rows fresh (snoc γ a) ≡ x
    → ListsNodes d γ cs → ListsNodes d (snoc γ a) (each (after_record a cs) (locals d x))
next_level d p [] a cs x e l = rw (← e) (locals_list d p a [] (after_record a cs) (after_keeps d [] cs a l))
next_level d p (r ∷ rs) a cs x e l = rw (← e) (locals_list d p r (snoc rs a) (after_record a cs) (after_keeps d (r ∷ rs) cs a l))

-- rows that fit are a node
pub fits_node : (d : Drawing) (γ : List Rec) (e : Rec) (t : Fits d (snoc γ e)) → Node d (snoc γ e) t.numbering
fits_node d [] e t = record { accepted = t.accepted; invariant = rows_invariant e [] t.accepted; embedding = t.embedding }
fits_node d (r ∷ rs) e t =
    record { accepted = t.accepted; invariant = rows_invariant r (snoc rs e) t.accepted; embedding = t.embedding }

module _ (labels : Rec → Rec → Bool) (o : LabelOrder labels) (d : Drawing) where
  -- EACH RECORD IS THE LEAST EXTENSION
  pub least_choice : (γ : List Rec) (c : Choice) (cs : List Choice) → ListsNodes d γ (c ∷ cs) → LeastExtension labels d γ
  unfolding least_record
  least_choice γ c cs l = record { e = least_record labels c cs; fits = fits; least = least }
    where
      fits : Fits d (snoc γ (least_record labels c cs))
      fits =
          let s = map_from (λ (c : Choice). c.e) (c ∷ cs) (least_of_member (rec_before_by labels) c.e (map (λ c. c.e) cs)) in
          let b : Choice = s.a in
          subst (λ (y : Rec). Fits d (snoc γ y)) s.is (node_fits d (snoc γ b.e) b.numbering (l.only b s.member))

      least : NoneBefore labels d γ (least_record labels c cs)
      least e t =
          least_of_least (rec_before_by labels) (rec_before_strict labels o) c.e (map (λ c. c.e) cs) e
          (mem_map (λ (c : Choice). c.e) (l.all e t.numbering (fits_node d γ e t)))

  module _ (p : Pattern d) where
    search_on :
        (n : ℕ) (r : Rec) (rs : List Rec) (x : Reading) (cs : List Choice) → read_rows fresh (r ∷ rs) ≡ x
        → length (r ∷ rs) + n ≡ length d.cables → KeptRows labels o d p r rs → ListsNodes d (r ∷ rs) cs
        → LeastBy labels d (r ∷ rs ++ search_rows labels d n x cs)
    unfolding search_rows least_choice
    search_on zero r rs x cs e m s l = rw append-nil (state_least labels o d p r rs s (omega arith))
    search_on (suc n) r rs x [] e m s l =
        let q = state_next labels o d p r rs s (omega arith) in
        elim (l.all q.e q.fits.numbering (fits_node d (r ∷ rs) q.e q.fits)) [ ]
    search_on (suc n) r rs x (c ∷ cs) e m s l =
        let a : Rec = least_record labels c cs in
        let y : Reading = stepped x a in
        let is : read_rows fresh (r ∷ snoc rs a) ≡ y = read_snoc fresh (r ∷ rs) a ∙ ap (λ (z : Reading). stepped z a) e in
        rw append_assoc at
        (search_on n r (snoc rs a) y (each (after_record a (c ∷ cs)) (locals d y)) is (omega (arith, snoc_length rs a))
        (state_step labels o d p r rs s (least_choice (r ∷ rs) c cs l)) (next_level d p (r ∷ rs) a (c ∷ cs) y is l))

    search_begun :
        (n : ℕ) (cs : List Choice) → n ≡ length d.cables → ListsNodes d [] cs → LeastBy labels d (search_rows labels d n fresh cs)
    unfolding search_rows least_choice
    search_begun zero cs m l = absurd (omega (arith, p.cables_low))
    search_begun (suc n) [] m l =
        let q = first_extension labels o d p in
        elim (l.all q.e q.fits.numbering (fits_node d [] q.e q.fits)) [ ]
    search_begun (suc n) (c ∷ cs) m l =
        let a : Rec = least_record labels c cs in
        let y : Reading = stepped fresh a in
        let is : read_rows fresh (a ∷ []) ≡ y = read_first a ∙ sym (begun_is a) in
        search_on n a [] y (each (after_record a (c ∷ cs)) (locals d y)) is (omega arith)
        (state_begun labels o d p (least_choice [] c cs l)) (next_level d p [] a (c ∷ cs) y is l)

-- THE SEARCH FINDS THE LEAST CODE, and that alone is least
module _ (labels : Rec → Rec → Bool) (o : LabelOrder labels) where
  pub least_code_least : (d : Drawing) → Pattern d → LeastBy labels d (least_code labels d)
  unfolding least_code
  least_code_least d p = search_begun labels o d p (length d.cables) (firsts d) refl (firsts_list d p.simple)

  pub least_code_only : (d : Drawing) → Pattern d → (rs : List Rec) → LeastBy labels d rs → rs ≡ least_code labels d
  least_code_only d p rs l = least_unique labels o d rs (least_code labels d) l (least_code_least d p)

-- ROWS that pass the test are equal
pub rows_same_from_test : (rs ss : List Rec) → rows_same rs ss ≡ true → rs ≡ ss
unfolding rows_same
rows_same_from_test [] [] e = refl
rows_same_from_test [] (s ∷ ss) e = absurd (false≢true e)
rows_same_from_test (r ∷ rs) [] e = absurd (false≢true e)
rows_same_from_test (r ∷ rs) (s ∷ ss) e =
    let t = and_split (rec_same r s) (rows_same rs ss) e in
    ap₂ {C = List Rec} (λ a b. a ∷ b) (rec_same_test.to r s t.0) (rows_same_from_test rs ss t.1)

pub rows_same_at : (rs : List Rec) → rows_same rs rs ≡ true
unfolding rows_same
rows_same_at [] = refl
rows_same_at (r ∷ rs) = and_both (rec_same_test.at r) (rows_same_at rs)

-- THE TEST of a drawing's least code
module _ (labels : Rec → Rec → Bool) (o : LabelOrder labels) where
  pub least_from_test : (d : Drawing) → Pattern d → (rs : List Rec) → is_least_code labels d rs ≡ true → LeastBy labels d rs
  unfolding is_least_code
  least_from_test d p rs e = rw (rows_same_from_test rs (least_code labels d) e) (least_code_least labels o d p)

  pub least_to_test : (d : Drawing) → Pattern d → (rs : List Rec) → LeastBy labels d rs → is_least_code labels d rs ≡ true
  unfolding is_least_code
  least_to_test d p rs l = rw (← least_code_only labels o d p rs l) (rows_same_at rs)

  -- THE LEAST TEST, for good rows with byte kinds
  pub is_least_rows :
      (rs : List Rec) → rows_good rs ≡ true → byte_list (decoded rs).kinds ≡ true
      → (is_least labels rs ≡ true → LeastBy labels (decoded rs) rs) × (LeastBy labels (decoded rs) rs → is_least labels rs ≡ true)
  unfolding is_least
  is_least_rows rs g b =
      let p = decoded_pattern rs g b in
      (least_from_test (decoded rs) p rs, least_to_test (decoded rs) p rs)
