-- The list of a closed family: there is one, if it can be decided what is wanted and every next record is among some, and there is no other.
-- Rests on Growth and FamilyLaws. Assumes nothing.
use Rattle.std.specs.Prelude.{◌≡◌, refl, Bool, true, ◌⊎◌, ℕ, ◌-◌, ◌≤◌, ◌<◌, length, get_or}
use Rattle.std.proofs.Common.{ap, subst, arith}
use mathlib.Core.List.{List, [], ◌∷◌, map}
use Rattle.std.proofs.Math.Decide.{dec_le}
use Rattle.laws.specs.Lists.{Mem, snoc, mem_map}
use Rattle.laws.specs.Rising.{Rises, rising_equal}
use Rattle.graphs.specs.Drawing.{Drawing, is_pattern, byte_list}
use Rattle.graphs.specs.Map.{Same}
use Rattle.graphs.specs.Graph.{Simple, Pattern}
use Rattle.graphs.specs.Patterns.{pattern_from_test, pattern_to_test, byte_list_at, byte_list_from}
use Rattle.graphs.specs.Containment.{contains_from_same}
use Rattle.codes.specs.Code.{Rec, CodeOf, LeastBy, rec_before_by, before_by, decoded}
use Rattle.codes.specs.CodeOrder.{LabelOrder, before_strict}
use Rattle.codes.specs.ReadRows.{good_from_test}
use Rattle.codes.specs.FullCode.{Coded, coded_from_test, coded_length, coded_simple}
use Rattle.codes.specs.CodesTell.{code_along}
use Rattle.codes.specs.Decoded.{decoded_pattern, decoded_code}
use Rattle.growth.specs.Catalogue.{Entry, entry, EntryOf, ListOf, Figures}
use Rattle.growth.specs.Family.{Listable, Closed, Family, KeptByMaps, entry_for}
use Rattle.growth.specs.FamilyLaws.{listable_prefix, decide_listable}
use Rattle.growth.specs.Growth.{Listed, ListedBy, listed_leaf, listed_there, listed_siblings}

pub entry_eq : (e g : Entry) → e.figures ≡ g.figures → e.code ≡ g.code → e ≡ g
entry_eq e g p q = λ x. record { figures = p x; code = q x }

module _ (labels : Rec → Rec → Bool) (o : LabelOrder labels) (Wanted : Drawing → Type 0) (figure : Drawing → Figures) (l : ℕ)
    (closed : Closed Wanted) (kept : KeptByMaps figure) where
  -- what a pattern's least code describes is the pattern, so its figures are the pattern's, and it is wanted if the pattern is
  own_pattern : (p : Drawing) (rs : List Rec) → is_pattern p ≡ true → CodeOf p rs → Pattern (decoded rs)
  own_pattern p rs k m = decoded_pattern rs m.good bytes
    where
      c : Coded p rs
      c = coded_from_test p (pattern_from_test p k).simple rs m

      bytes : byte_list (decoded rs).kinds ≡ true
      bytes =
          byte_list_from (decoded rs).kinds
          (λ i h.
          let j : i < length c.numbering = rw c.isomorphism.embedding.size h in
          rw (c.isomorphism.embedding.kinds i j) at
          (byte_list_at p.kinds (get_or c.numbering i 256) 256 (pattern_from_test p k).bytes (c.isomorphism.embedding.lands i j)))

  own_figure : (p : Drawing) (rs : List Rec) → is_pattern p ≡ true → CodeOf p rs → figure (decoded rs) ≡ figure p
  unfolding Same
  own_figure p rs k c =
      let d = (pattern_from_test p k).simple in
      kept (decoded rs) p (coded_simple p rs (coded_from_test p d rs c)).ends d.ends (c.numbers, c.describes)

  pub own_listable : (p : Drawing) (rs : List Rec) → is_pattern p ≡ true → Wanted p → LeastBy labels p rs → Listable labels Wanted rs
  unfolding Same
  own_listable p rs k n m =
      record {
        drawn = pattern_to_test (decoded rs) own;
        least = record {
          code = decoded_code rs m.code.good;
          least = λ ss c.
              m.least ss (code_along (decoded rs) p own.simple (pattern_from_test p k).simple ss (m.code.numbers, m.code.describes) c);
        };
        wanted = closed (decoded rs) p own (pattern_from_test p k)
            (contains_from_same (decoded rs) p own.simple.ends (pattern_from_test p k).simple.ends (m.code.numbers, m.code.describes)) n;
      }
    where
      own : Pattern (decoded rs)
      own = own_pattern p rs k m.code

  codes_of : (cs : List (List Rec)) → map (λ e. e.code) (map (entry_for figure) cs) ≡ cs
  codes_of [] = refl
  codes_of (c ∷ cs) = ap {B = List (List Rec)} (λ l. c ∷ l) (codes_of cs)

  from_entries : (e : Entry) (cs : List (List Rec)) → Mem e (map (entry_for figure) cs) → (c : List Rec) × Mem c cs × (entry_for figure c ≡ e)
  from_entries e [] x' = elim x' [ ]
  from_entries e (c ∷ cs) (Mem.here q) = (c, Mem.here refl, q)
  from_entries e (c ∷ cs) (Mem.there m) = let t = from_entries e cs m in (t.0, Mem.there t.1, t.2)

  -- ALL LEAST CODES OF THE FAMILY, with their figures, are its list
  pub listed_list : (cs : List (List Rec)) → Listed labels o (Listable labels Wanted) l [] cs
      → ListOf labels Wanted figure l (map (entry_for figure) cs)
  listed_list cs t = record { rise = rw (codes_of cs) t.rise; sound = sound; whole = whole }
    where
      sound : (e : Entry) → Mem e (map (entry_for figure) cs) → EntryOf labels Wanted figure l e
      sound e m = go (from_entries e cs m)
        where
          go : (c : List Rec) × Mem c cs × (entry_for figure c ≡ e) → EntryOf labels Wanted figure l e
          go (c, h, q) =
              let w = t.sound c h in
              subst (EntryOf labels Wanted figure l) q
              (record { pattern = decoded c; is_one = w.0.drawn; least = w.0.least; size = w.1; figures_are = refl; wanted = w.0.wanted })

      whole :
          (p : Drawing) (rs : List Rec) → is_pattern p ≡ true → length p.cables ≤ l → Wanted p → LeastBy labels p rs
          → Mem (entry (figure p) rs) (map (entry_for figure) cs)
      whole p [] k n q m = absurd (omega (arith, (good_from_test [] m.code.good).one))
      whole p (r ∷ rs) k n q m =
          rw (own_figure p (r ∷ rs) k m.code) at
          (mem_map (entry_for figure) (t.whole r rs (own_listable p (r ∷ rs) k q m)
          (rw (coded_length p simple (r ∷ rs) (coded_from_test p simple (r ∷ rs) m.code)) n)))
        where
          simple : Simple p
          simple = (pattern_from_test p k).simple

-- WHAT GOES ON from a code can be listed, all of it or by some next records
module _ (labels : Rec → Rec → Bool) (o : LabelOrder labels) (Wanted : Drawing → Type 0) (l : ℕ) (f : Family labels Wanted) where
  decide : (rs : List Rec) → Listable labels Wanted rs ⊎ (Listable labels Wanted rs → ⊥)
  decide = decide_listable labels o Wanted f.decided

  pub below_there : (γ : List Rec) → (cs : List (List Rec)) × Listed labels o (Listable labels Wanted) l γ cs
  below_there γ = go (dec_le (length γ) l)
    where
      go : Dec (length γ ≤ l) → (cs : List (List Rec)) × Listed labels o (Listable labels Wanted) l γ cs
      go (yes h) =
          listed_there labels o (Listable labels Wanted) l (listable_prefix labels o Wanted f.closed) decide f.next f.all (l - length γ) γ
          (omega arith)
      go (no h) = ([], listed_leaf labels o (Listable labels Wanted) l γ (omega arith))

  pub rest_there :
      (γ : List Rec) → length γ < l → (es : List Rec) → Rises (rec_before_by labels) es
      → (cs : List (List Rec)) × ListedBy labels o (Listable labels Wanted) l γ es cs
  rest_there γ h =
      listed_siblings labels o (Listable labels Wanted) l (listable_prefix labels o Wanted f.closed) decide f.next f.all γ h
      (λ e. below_there (snoc γ e))

module _ (labels : Rec → Rec → Bool) (o : LabelOrder labels) (Wanted : Drawing → Type 0) (figure : Drawing → Figures) (l : ℕ) where
  -- THERE IS ONE
  pub list_exists : Family labels Wanted → KeptByMaps figure → (es : List Entry) × ListOf labels Wanted figure l es
  list_exists f kept =
      let t = below_there labels o Wanted l f [] in
      (map (entry_for figure) t.0, listed_list labels o Wanted figure l f.closed kept t.0 t.1)

  -- AND NO OTHER
  same_entries : (es gs : List Entry) → ListOf labels Wanted figure l es → ListOf labels Wanted figure l gs → (e : Entry) → Mem e es → Mem e gs
  same_entries es gs a b e m =
      let f = a.sound e m in
      let simple = (pattern_from_test f.pattern f.is_one).simple in
      let n = coded_length f.pattern simple e.code (coded_from_test f.pattern simple e.code f.least.code) in
      subst (λ (x : Entry). Mem x gs) (entry_eq (entry (figure f.pattern) e.code) e f.figures_are refl)
      (b.whole f.pattern e.code f.is_one (omega (arith, f.size, n)) f.wanted f.least)

  code_before : Entry → Entry → Bool
  code_before e g = before_by labels e.code g.code

  rises_entries : (es : List Entry) → Rises (before_by labels) (map (λ e. e.code) es) → Rises code_before es
  unfolding Rises code_before
  rises_entries [] h = tt
  rises_entries (e ∷ es) h = (λ g m. h.0 g.code (mem_map (λ e. e.code) m), rises_entries es h.1)

  pub list_unique : (es gs : List Entry) → ListOf labels Wanted figure l es → ListOf labels Wanted figure l gs → es ≡ gs
  unfolding code_before
  list_unique es gs a b =
      rising_equal code_before (λ e. (before_strict labels o).irrefl e.code)
      (λ e g h. (before_strict labels o).trans e.code g.code h.code) es gs
      (rises_entries es a.rise) (rises_entries gs b.rise) (same_entries es gs a b) (same_entries gs es b a)
