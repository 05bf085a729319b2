-- The cables that a code describes, record by record, and the kinds that each record tells. Rests on the reading of codes.
-- Assumes nothing.
use Rattle.std.specs.Prelude.{◌≡◌, refl, Bool, true, false, List, [], ◌∷◌, ◌++◌, map, ℕ, suc, ◌/◌, ◌≤◌, ◌<◌, eqb, length, get_or, take, drop}
use Rattle.std.proofs.Common.{sym, ◌∙◌, append_assoc, append-nil, arith, ne_eqb}
use Rattle.std.proofs.Math.Path.{ap}
use Rattle.std.proofs.lemmas.List.{length-map}
use Rattle.std.proofs.Math.ListN.{get_or-map}
use Rattle.std.proofs.Math.Seq.{split_at}
use Rattle.laws.specs.Lists.{snoc, snoc_length, snoc_old, snoc_new}
use Rattle.laws.specs.Rows.{row}
use Rattle.graphs.specs.Drawing.{Cable, kind}
use Rattle.graphs.specs.Cables.{Has, has_at}
use Rattle.codes.specs.Code.{Rec, Reading, fresh, rec_in, forward, cable_of, begun, stepped, rows_refusal, read_rows, decoded, code_refusal, code_records}
use Rattle.codes.specs.Step.{Step, steps_back, steps_forward, after}
use Rattle.codes.specs.Reading.{Invariant}
use Rattle.codes.specs.ReadRows.{
  step_from_test,
  stepped_is,
  begun_is,
  begun_from_test,
  rows_cons,
  rows_divided,
  read_append,
  rows_invariant,
  decoded_cables,
}
use Rattle.codes.specs.CodeBytes.{recs_in_length}
use Rattle.tables.specs.CodeRows.{code_record_at, record_among, record_accepted}

-- ONE RECORD after the first adds its cable, and leaves the kinds that are given
record Adds (x : Reading) (r : Rec) : Type 0 where
  started : 0 < length (stepped x r).kinds
  cables : (stepped x r).cables ≡ snoc x.cables (cable_of r)
  more : length x.kinds ≤ length (stepped x r).kinds
  kept : (v : ℕ) → v < length x.kinds → get_or (stepped x r).kinds v 256 ≡ get_or x.kinds v 256

adds : (x : Reading) (r : Rec) → 0 < length x.kinds → Adds x r
unfolding stepped
adds x r h = go (ne_eqb (length x.kinds) 0 (λ e. omega arith)) (forward r) refl
  where
    go : eqb (length x.kinds) 0 ≡ false → (t : Bool) → forward r ≡ t → Adds x r
    go e true f =
        record {
          started = rw (e, f, snoc_length) (omega arith);
          cables = rw (e, f);
          more = rw (e, f, snoc_length) (omega arith);
          kept = λ v l. rw (e, f) (snoc_old 256 x.kinds r.kj v l);
        }
    go e false f = record { started = rw (e, f) h; cables = rw (e, f); more = rw (e, f) (omega arith); kept = λ v l. rw (e, f) }

-- SEVERAL RECORDS
read_cables : (x : Reading) (rs : List Rec) → 0 < length x.kinds → (read_rows x rs).cables ≡ x.cables ++ map cable_of rs
unfolding read_rows
read_cables x [] h = sym (append-nil x.cables)
read_cables x (r ∷ rs) h =
    let s = adds x r h in
    read_cables (stepped x r) rs s.started ∙ ap (λ (cs : List Cable). cs ++ map cable_of rs) s.cables
    ∙ append_assoc x.cables (cable_of r ∷ []) (map cable_of rs)

read_kinds :
    (x : Reading) (rs : List Rec) (v : ℕ) → 0 < length x.kinds → v < length x.kinds
    → get_or (read_rows x rs).kinds v 256 ≡ get_or x.kinds v 256
unfolding read_rows
read_kinds x [] v h l = refl
read_kinds x (r ∷ rs) v h l =
    let s = adds x r h in
    read_kinds (stepped x r) rs v s.started (omega (arith, s.more)) ∙ s.kept v l

-- THE CABLES that a code describes
pub decoded_cables_are : (rs : List Rec) → (decoded rs).cables ≡ map cable_of rs
unfolding decoded read_rows fresh
decoded_cables_are [] = refl
decoded_cables_are (r ∷ rs) = ap (λ (x : Reading). (read_rows x rs).cables) (begun_is r) ∙ read_cables (begun r) rs (omega arith)

-- THE KINDS that a record tells are those of its ends
record TellsKinds (x : Reading) (r : Rec) : Type 0 where
  started : 0 < length x.kinds
  i_low : r.i < length x.kinds
  j_low : r.j < length x.kinds
  i_kind : get_or x.kinds r.i 256 ≡ r.ki
  j_kind : get_or x.kinds r.j 256 ≡ r.kj

begun_tells : (r : Rec) → r.i ≡ 0 → r.j ≡ 1 → TellsKinds (begun r) r
begun_tells r p q =
    record { started = omega arith; i_low = omega arith; j_low = omega arith; i_kind = rw p; j_kind = rw q }

step_tells : (x : Reading) → Invariant x → (r : Rec) (s : Step x r) → TellsKinds (after s) r
step_tells x v r (steps_back o p q) =
    record {
      started = omega (arith, v.two);
      i_low = omega (arith, v.top, o.is_end);
      j_low = v.below r.j o.on_path;
      i_kind = p;
      j_kind = q;
    }
step_tells x v r (steps_forward m p q k) =
    let low = v.below r.i m in
    record {
      started = rw snoc_length (omega arith);
      i_low = rw snoc_length (omega arith);
      j_low = rw snoc_length (omega arith);
      i_kind = snoc_old 256 x.kinds r.kj r.i low ∙ k;
      j_kind = snoc_new 256 x.kinds r.kj r.j p;
    }

-- after the rows γ, read with r
read_tells : (γ : List Rec) (r : Rec) (ss : List Rec) → rows_refusal fresh (γ ++ r ∷ ss) ≡ 0 → TellsKinds (stepped (read_rows fresh γ) r) r
unfolding read_rows
read_tells [] r ss e =
    let c = rows_cons fresh r ss e in
    let g = begun_from_test r c.step in
    rw (begun_is r) (begun_tells r g.0 g.1)
read_tells (g ∷ γ) r ss e =
    let s = rows_divided fresh (g ∷ γ) (r ∷ ss) e in
    let x = read_rows fresh (g ∷ γ) in
    let v = rows_invariant g γ s.0 in
    let c = rows_cons x r ss s.1 in
    let t = step_from_test x v r c.step c.kinds in
    rw (stepped_is x v r t) (step_tells x v r t)

module _ (γ : List Rec) (r : Rec) (ss : List Rec) (ok : rows_refusal fresh (γ ++ r ∷ ss) ≡ 0) where
  tells : TellsKinds (stepped (read_rows fresh γ) r) r
  tells = read_tells γ r ss ok

  read_through : (decoded (γ ++ r ∷ ss)).kinds ≡ (read_rows (stepped (read_rows fresh γ) r) ss).kinds
  unfolding decoded read_rows
  read_through = ap (λ (x : Reading). x.kinds) (read_append fresh γ (r ∷ ss))

  decoded_i_kind : kind (decoded (γ ++ r ∷ ss)) r.i ≡ r.ki
  decoded_i_kind = rw read_through (read_kinds _ ss r.i tells.started tells.i_low ∙ tells.i_kind)

  decoded_j_kind : kind (decoded (γ ++ r ∷ ss)) r.j ≡ r.kj
  decoded_j_kind = rw read_through (read_kinds _ ss r.j tells.started tells.j_low ∙ tells.j_kind)

-- RECORD p of accepted rows: its cable, and the kind of its j
module _ (γ : List Rec) (p : ℕ) (e : Rec) (h : p < length γ) (is : get_or γ p e ≡ e) where
  pub row_cable : Has e.i e.j e.c (decoded γ).cables
  unfolding cable_of
  row_cable =
      rw (decoded_cables_are γ)
      (rw (get_or-map cable_of γ p e ∙ ap cable_of is) at (has_at (map cable_of γ) p (cable_of e) (rw (length-map γ cable_of) h)))

  row_among : γ ≡ take p γ ++ e ∷ drop (suc p) γ
  row_among = split_at γ p e h ∙ ap (λ (r : Rec). take p γ ++ r ∷ drop (suc p) γ) is

  pub row_j_kind : rows_refusal fresh γ ≡ 0 → kind (decoded γ) e.j ≡ e.kj
  row_j_kind ok = rw row_among (decoded_j_kind (take p γ) e (drop (suc p) γ) (rw row_among at ok))

-- RECORD k of an accepted code
pub code_cables : (bs : List ℕ) → length (decoded (code_records bs)).cables ≡ length bs / 5
code_cables bs = decoded_cables (code_records bs) ∙ recs_in_length (length bs / 5) bs

module _ (bs : List ℕ) (k : ℕ) (h : k < length bs / 5) (r : Rec) (is : r ≡ rec_in (row 5 k bs)) where
  pub record_cable : get_or (decoded (code_records bs)).cables k (cable_of r) ≡ cable_of r
  record_cable =
      rw (decoded_cables_are (code_records bs)) (get_or-map cable_of (code_records bs) k r ∙ ap cable_of (code_record_at bs k h r is))

  module _ (ok : code_refusal bs ≡ 0) where
    pub record_i_kind : kind (decoded (code_records bs)) r.i ≡ r.ki
    record_i_kind =
        rw (record_among bs k h r is)
        (decoded_i_kind (take k (code_records bs)) r (drop (suc k) (code_records bs)) (record_accepted bs ok k h r is))

    pub record_j_kind : kind (decoded (code_records bs)) r.j ≡ r.kj
    record_j_kind =
        rw (record_among bs k h r is)
        (decoded_j_kind (take k (code_records bs)) r (drop (suc k) (code_records bs)) (record_accepted bs ok k h r is))
