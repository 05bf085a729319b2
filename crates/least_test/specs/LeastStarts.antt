-- The starts of a search: every cable of a code, seen from each end, against the code's first record; what they tell of its first m records, and
-- that these are greedy exactly if no start comes before them. Rests on Better and CodeRows. Assumes nothing.
use Rattle.std.specs.Prelude.{◌≡◌, true, ℕ, suc, ◌+◌, ◌/◌, ◌≤◌, ◌<◌, length, get_or, take, drop}
use Rattle.std.proofs.Math.Path.{refl}
use Rattle.std.proofs.Common.{sym, ap, ◌∙◌, subst, arith, take-append-drop}
use mathlib.Core.List.{List, [], ◌∷◌, ◌++◌}
use Rattle.std.proofs.Math.Logic.{inl, inr}
use Rattle.std.proofs.Math.Decide.{dec_lt}
use Rattle.laws.specs.Tests.{false_unless}
use Rattle.laws.specs.Lists.{drop_take_more}
use Rattle.laws.specs.Rows.{row}
use Rattle.graphs.specs.Drawing.{Cable, Drawing, devices}
use Rattle.graphs.specs.Cables.{Joins, along, against, Has, has_flip, has_at}
use Rattle.graphs.specs.Graph.{Simple, Pattern}
use Rattle.codes.specs.Code.{Rec, fresh, rows_refusal, rec_in, cable_of, kinds_before, rec_before, decoded, code_refusal, code_records}
use Rattle.codes.specs.CodeOrder.{rec_eq, rec_before_strict, kinds_order}
use Rattle.codes.specs.ReadRows.{begun_from_test, rows_cons, rows_divided, good_from_test}
use Rattle.codes.specs.Greedy.{Greedy}
use Rattle.codes.specs.FirstRecord.{first_record}
use Rattle.codes.specs.Better.{Better, better_more, start_not_greedy, branch_not_greedy, start_greedy}
use Rattle.codes.specs.CodeBytes.{accepted_code}
use Rattle.codes.specs.BranchState.{Labels, first_state, Represents}
use Rattle.codes.specs.BranchSteps.{represents_first}
use Rattle.tables.specs.CodeRows.{records_through, records_on, front_records_on, code_ten, code_simple}
use Rattle.tables.specs.CodeCables.{code_cables, record_cable, record_i_kind, record_j_kind}
use Rattle.least_test.specs.StartNumbers.{NumbersLabels, lower_number, same_number}
use Rattle.least_seen.specs.Betters.{
  Follows,
  BetterBelow,
  SeenCable,
  reversed_record,
  StartBetter,
  BeginsBetter,
  SomeStart,
  Tried,
}

-- A CABLE OF A LIST, where it stands
record CablePlace (u v k : ℕ) (cs : List Cable) : Type 0 where
  at : ℕ
  below : at < length cs
  joins : (z : Cable) → Joins u v (get_or cs at z)
  kind_is : (z : Cable) → (get_or cs at z).kind ≡ k

cable_place : {u v k : ℕ} (cs : List Cable) → Has u v k cs → CablePlace u v k cs
cable_place [] h = elim h [ ]
cable_place (c ∷ cs) (Has.here j e) = record { at = 0; below = omega arith; joins = λ z. j; kind_is = λ z. e }
cable_place (c ∷ cs) (Has.there h) =
    let p = cable_place cs h in
    record { at = suc p.at; below = omega (arith, p.below); joins = p.joins; kind_is = p.kind_is }

-- THE FIRST RECORD of a cable seen from one end
abbrev pub begins : Rec → Rec
begins e = record { i = 0; j = 1; ki = e.ki; c = e.c; kj = e.kj }

begins_is : (d : Drawing) (e : Rec) → SeenCable d e → begins e ≡ first_record d e.i e.j e.c
unfolding first_record
begins_is d e s = rec_eq _ _ refl refl (sym s.i_kind) refl (sym s.j_kind)

-- RECORD k OF THE CODE, seen from i and from j
module _ (bs : List ℕ) (ok : code_refusal bs ≡ 0) (k : ℕ) (h : k < length bs / 5) (e : Rec) (is : e ≡ rec_in (row 5 k bs)) where
  pub seen_along : SeenCable (decoded (code_records bs)) e
  unfolding cable_of
  seen_along =
      record {
        has = rw (record_cable bs k h e is) at (has_at (decoded (code_records bs)).cables k (cable_of e) (rw (code_cables bs) h));
        i_kind = record_i_kind bs k h e is ok;
        j_kind = record_j_kind bs k h e is ok;
      }

  pub seen_against : SeenCable (decoded (code_records bs)) (reversed_record e)
  seen_against = record { has = has_flip seen_along.has; i_kind = seen_along.j_kind; j_kind = seen_along.i_kind }

-- ONE START, from u to w, against the first record r
module _ (d : Drawing) (r : Rec) (ss : List Rec) (u w k : ℕ) where
  first_before : rec_before (first_record d u w k) r ≡ true → StartBetter d (r ∷ ss) u w k
  unfolding StartBetter
  first_before p = inl p

  first_after : rec_before r (first_record d u w k) ≡ true → StartBetter d (r ∷ ss) u w k → ⊥
  unfolding StartBetter
  first_after p (inl q) = (rec_before_strict kinds_before kinds_order).irrefl r ((rec_before_strict kinds_before kinds_order).trans r _ r p q)
  first_after p (inr m) = (rec_before_strict kinds_before kinds_order).irrefl r (rw m.0 at p)

  module _ (is : first_record d u w k ≡ r) where
    first_on : Better kinds_before d (r ∷ []) ss (u ∷ w ∷ []) → StartBetter d (r ∷ ss) u w k
    unfolding StartBetter
    first_on m = inr (is, m)

    first_from : StartBetter d (r ∷ ss) u w k → Better kinds_before d (r ∷ []) ss (u ∷ w ∷ [])
    unfolding StartBetter
    first_from (inl q) = absurd ((rec_before_strict kinds_before kinds_order).irrefl r (rw is at q))
    first_from (inr m) = m.1

-- what comes before some records comes before them whatever follows
start_more : (d : Drawing) (ss ms : List Rec) (u w k : ℕ) → StartBetter d ss u w k → StartBetter d (ss ++ ms) u w k
unfolding StartBetter
start_more d [] ms u w k x = absurd x
start_more d (r ∷ ss) ms u w k (inl p) = inl p
start_more d (r ∷ ss) ms u w k (inr p) = inr (p.0, better_more kinds_before d (r ∷ []) ss ms (u ∷ w ∷ []) p.1)

start_of_more : (d : Drawing) (rs : List Rec) (j m u w k : ℕ) → j ≤ m → StartBetter d (take j rs) u w k → StartBetter d (take m rs) u w k
start_of_more d rs j m u w k h x =
    let r = drop_take_more 0 j m rs h in
    subst (λ (ss : List Rec). StartBetter d ss u w k) (sym r.1) (start_more d (take j rs) r.0 u w k x)

-- so of more records as many starts do or more
pub begins_of_more : (bs : List ℕ) (j m u w k : ℕ) → j ≤ m → BeginsBetter bs j u w k → BeginsBetter bs m u w k
begins_of_more bs = start_of_more (decoded (code_records bs)) (code_records bs)

pub some_of_more : (rs : List Rec) (j m : ℕ) → j ≤ m → SomeStart rs j → SomeStart rs m
some_of_more rs j m h s =
    record { u = s.u; w = s.w; k = s.k; has = s.has; better = start_of_more (decoded rs) rs j m s.u s.w s.k h s.better }

-- before no record nothing comes
pub none_of_none : (rs : List Rec) → SomeStart rs 0 → ⊥
unfolding StartBetter
none_of_none rs s = s.better

-- of the first m records of the code itself
module _ (bs : List ℕ) (ok : code_refusal bs ≡ 0) {e : Rec} (s : SeenCable (decoded (code_records bs)) e) where
  some : 0 < length bs / 5
  some = omega (arith, (accepted_code bs ok).one)

  -- the first record goes from 0 to 1
  pub first_ends : ((rec_in (row 5 0 bs)).i ≡ 0) × ((rec_in (row 5 0 bs)).j ≡ 1)
  first_ends =
      begun_from_test (rec_in (row 5 0 bs))
      (rows_cons fresh (rec_in (row 5 0 bs)) (drop 1 (code_records bs))
      (subst (λ (rs : List Rec). rows_refusal fresh rs ≡ 0) (records_on bs 0 some (rec_in (row 5 0 bs)) refl)
      (good_from_test (code_records bs) (accepted_code bs ok).good).accepted)
      ).step

  pub seen_low : (e.i < 10) × (e.j < 10)
  seen_low =
      let ends = (code_simple bs ok).ends in
      let ten = code_ten bs ok in
      (omega (arith, ends e.i e.j e.c s.has), omega (arith, ends e.j e.i e.c (has_flip s.has)))

  module _ (m : ℕ) (more : 0 < m) (within : m ≤ length bs / 5) where
    -- the first of them, and the rest
    on : take m (code_records bs) ≡ rec_in (row 5 0 bs) ∷ drop 1 (take m (code_records bs))
    on = front_records_on bs 0 some (rec_in (row 5 0 bs)) refl m more within

    to : StartBetter (decoded (code_records bs)) (rec_in (row 5 0 bs) ∷ drop 1 (take m (code_records bs))) e.i e.j e.c
        → BeginsBetter bs m e.i e.j e.c
    to x = subst (λ (rs : List Rec). StartBetter (decoded (code_records bs)) rs e.i e.j e.c) (sym on) x

    from : BeginsBetter bs m e.i e.j e.c
        → StartBetter (decoded (code_records bs)) (rec_in (row 5 0 bs) ∷ drop 1 (take m (code_records bs))) e.i e.j e.c
    from x = subst (λ (rs : List Rec). StartBetter (decoded (code_records bs)) rs e.i e.j e.c) on x

    pub start_before : rec_before (begins e) (rec_in (row 5 0 bs)) ≡ true → BeginsBetter bs m e.i e.j e.c
    start_before o =
        to (first_before (decoded (code_records bs)) _ _ e.i e.j e.c
        (rw (← begins_is (decoded (code_records bs)) e s) o))

    pub start_after : rec_before (rec_in (row 5 0 bs)) (begins e) ≡ true → BeginsBetter bs m e.i e.j e.c → ⊥
    start_after o x =
        first_after (decoded (code_records bs)) _ _ e.i e.j e.c
        (rw (← begins_is (decoded (code_records bs)) e s) o) (from x)

  module _ (o : begins e ≡ rec_in (row 5 0 bs)) where
    first_is : first_record (decoded (code_records bs)) e.i e.j e.c ≡ rec_in (row 5 0 bs)
    first_is = sym (begins_is (decoded (code_records bs)) e s) ∙ o

    through : take 1 (code_records bs) ≡ rec_in (row 5 0 bs) ∷ []
    through = records_through bs 0 some (rec_in (row 5 0 bs)) refl

    pub start_follows : {t : List ℕ} → Labels (decoded (code_records bs)) t → Follows t bs 1 (first_state e.i e.j)
    start_follows labels =
        record {
          tabled = record { accepted = ok; labels = labels };
          within = some;
          branch =
              subst (λ (γ : List Rec). Represents (decoded (code_records bs)) γ (first_state e.i e.j))
              (ap (λ (z : Rec). z ∷ []) first_is ∙ sym through)
              (represents_first _ (code_simple bs ok) (code_ten bs ok) e.i e.j e.c s.has);
        }

    module _ (m : ℕ) (more : 0 < m) (within : m ≤ length bs / 5) where
      abbrev Below : List Rec → Type 0
      Below γ = Better kinds_before (decoded (code_records bs)) γ (drop 1 (take m (code_records bs))) (e.i ∷ e.j ∷ [])

      pub start_tells : BetterBelow bs m 1 (first_state e.i e.j) → BeginsBetter bs m e.i e.j e.c
      start_tells x =
          to m more within (first_on (decoded (code_records bs)) _ _ e.i e.j e.c first_is (subst Below through x))

      pub start_asks : BeginsBetter bs m e.i e.j e.c → BetterBelow bs m 1 (first_state e.i e.j)
      start_asks x =
          subst Below (sym through) (first_from (decoded (code_records bs)) _ _ e.i e.j e.c first_is (from m more within x))

-- BY NUMBER: the labels of a start and of the code's first record as one number each
module _ (bs : List ℕ) (ok : code_refusal bs ≡ 0) {e : Rec} (s : SeenCable (decoded (code_records bs)) e) {a b : ℕ} (p : NumbersLabels e a)
    (q : NumbersLabels (rec_in (row 5 0 bs)) b) where
  number : NumbersLabels (begins e) a
  number = record { is = p.is; i_byte = p.i_byte; cable_byte = p.cable_byte; j_byte = p.j_byte }

  ends_are : ((rec_in (row 5 0 bs)).i ≡ 0) × ((rec_in (row 5 0 bs)).j ≡ 1)
  ends_are = first_ends bs ok s

  pub lower_start : a < b → (m : ℕ) → 0 < m → m ≤ length bs / 5 → BeginsBetter bs m e.i e.j e.c
  lower_start h m more within =
      start_before bs ok s m more within
      (lower_number (begins e) (rec_in (row 5 0 bs)) number q (omega arith) (sym ends_are.0) (sym ends_are.1) h)

  pub higher_start : b < a → (m : ℕ) → 0 < m → m ≤ length bs / 5 → BeginsBetter bs m e.i e.j e.c → ⊥
  higher_start h m more within =
      start_after bs ok s m more within
      (lower_number (rec_in (row 5 0 bs)) (begins e) q number (omega (arith, ends_are.0, ends_are.1)) ends_are.0 ends_are.1 h)

  pub same_start : a ≡ b → begins e ≡ rec_in (row 5 0 bs)
  same_start h = same_number (begins e) (rec_in (row 5 0 bs)) number q (omega arith) (sym ends_are.0) (sym ends_are.1) h

-- the code's own start is that along its first record
pub own_start :
    (bs : List ℕ) (ok : code_refusal bs ≡ 0) {e : Rec} → SeenCable (decoded (code_records bs)) e → e ≡ rec_in (row 5 0 bs) → (m : ℕ)
    → (BetterBelow bs m 1 (first_state 0 1) → ⊥) → BetterBelow bs m 1 (first_state e.i e.j) → ⊥
own_start bs ok {e} s is m none =
    subst (λ (w : ℕ). BetterBelow bs m 1 (first_state e.i w) → ⊥) (sym (ap (λ (r : Rec). r.j) is ∙ (first_ends bs ok s).1))
    (subst (λ (u : ℕ). BetterBelow bs m 1 (first_state u 1) → ⊥) (sym (ap (λ (r : Rec). r.i) is ∙ (first_ends bs ok s).0)) none)

-- EVERY CABLE is that of some record
pub record CableRecord (bs : List ℕ) (u w k : ℕ) : Type 0 where
  pub at : ℕ
  pub low : at < length bs / 5
  pub joins : Joins u w (cable_of (rec_in (row 5 at bs)))
  pub kind_is : (rec_in (row 5 at bs)).c ≡ k

pub cable_record : (bs : List ℕ) (u w k : ℕ) → Has u w k (decoded (code_records bs)).cables → CableRecord bs u w k
unfolding cable_of
cable_record bs u w k h = go (cable_place (decoded (code_records bs)).cables h)
  where
    go : CablePlace u w k (decoded (code_records bs)).cables → CableRecord bs u w k
    go p =
        record {
          at = p.at;
          low = low;
          joins = rw is at (p.joins (cable_of (rec_in (row 5 p.at bs))));
          kind_is = rw is at (p.kind_is (cable_of (rec_in (row 5 p.at bs))));
        }
      where
        low : p.at < length bs / 5
        low = omega (arith, p.below, code_cables bs)

        is : get_or (decoded (code_records bs)).cables p.at (cable_of (rec_in (row 5 p.at bs))) ≡ cable_of (rec_in (row 5 p.at bs))
        is = record_cable bs p.at low (rec_in (row 5 p.at bs)) refl

-- ALL STARTS, record by record
module _ (bs : List ℕ) (m : ℕ) where
  pub tried_start : Tried bs m 0
  tried_start = record { along = λ j h. absurd (omega arith); against = λ j h. absurd (omega arith) }

  pub tried_next :
      (n : ℕ) (e : Rec) → e ≡ rec_in (row 5 n bs) → Tried bs m n
      → (BeginsBetter bs m e.i e.j e.c → ⊥)
      → (BeginsBetter bs m e.j e.i e.c → ⊥) → Tried bs m (n + 1)
  tried_next n e is before a b =
      record { along = λ j h x q y. along_at j h x q y (dec_lt j n); against = λ j h x q y. against_at j h x q y (dec_lt j n) }
    where
      same : (j : ℕ) → j < n + 1 → (j < n → ⊥) → (x : Rec) → x ≡ rec_in (row 5 j bs) → x ≡ e
      same j h l x q = let z : j ≡ n = omega arith in q ∙ ap (λ (k : ℕ). rec_in (row 5 k bs)) z ∙ sym is

      along_at :
          (j : ℕ) → j < n + 1 → (x : Rec) → x ≡ rec_in (row 5 j bs)
          → BeginsBetter bs m x.i x.j x.c → Dec (j < n) → ⊥
      along_at j h x q y (yes l) = before.along j l x q y
      along_at j h x q y (no l) = a (rw (same j h l x q) at y)

      against_at :
          (j : ℕ) → j < n + 1 → (x : Rec) → x ≡ rec_in (row 5 j bs)
          → BeginsBetter bs m x.j x.i x.c → Dec (j < n) → ⊥
      against_at j h x q y (yes l) = before.against j l x q y
      against_at j h x q y (no l) = b (rw (same j h l x q) at y)

  pub tried_all : (n : ℕ) → length bs / 5 ≤ n → Tried bs m n → SomeStart (code_records bs) m → ⊥
  unfolding cable_of
  tried_all n h T s = go (cable_record bs s.u s.w s.k s.has)
    where
      go : CableRecord bs s.u s.w s.k → ⊥
      go p = end p.joins
        where
          end : Joins s.u s.w (cable_of (rec_in (row 5 p.at bs))) → ⊥
          end (along x y) =
              T.along p.at (omega (arith, p.low)) (rec_in (row 5 p.at bs)) refl (rw (x, y, p.kind_is) s.better)
          end (against x y) =
              T.against p.at (omega (arith, p.low)) (rec_in (row 5 p.at bs)) refl (rw (x, y, p.kind_is) s.better)

-- what was tried of more records was tried of fewer
pub starts_of_fewer : (bs : List ℕ) (j m n : ℕ) → j ≤ m → Tried bs m n → Tried bs j n
starts_of_fewer bs j m n h T =
    record {
      along = λ k l e is x. T.along k l e is (begins_of_more bs j m e.i e.j e.c h x);
      against = λ k l e is x. T.against k l e is (begins_of_more bs j m e.j e.i e.c h x);
    }

-- THE FIRST m RECORDS ARE GREEDY exactly if no start comes before them
branch_clash :
    (d : Drawing) → Simple d → devices d ≤ 10 → (u w k : ℕ) → Has u w k d.cables → (r : Rec) (ss : List Rec) → first_record d u w k ≡ r
    → Better kinds_before d (r ∷ []) ss (u ∷ w ∷ []) → Greedy kinds_before d [] (r ∷ ss) → ⊥
branch_clash d s ten u w k h r ss q =
    subst (λ (z : Rec). Better kinds_before d (z ∷ []) ss (u ∷ w ∷ []) → Greedy kinds_before d [] (z ∷ ss) → ⊥) q
    (branch_not_greedy kinds_before d s ten u w k h ss)

module _ (d : Drawing) (s : Simple d) (ten : devices d ≤ 10) where
  start_not_greedy_rows : (ss : List Rec) (u w k : ℕ) → Has u w k d.cables → StartBetter d ss u w k → Greedy kinds_before d [] ss → ⊥
  unfolding StartBetter
  start_not_greedy_rows [] u w k h x g = x
  start_not_greedy_rows (r ∷ ss) u w k h (inl q) g = start_not_greedy kinds_before d s u w k h r ss q g
  start_not_greedy_rows (r ∷ ss) u w k h (inr m) g = branch_clash d s ten u w k h r ss m.0 m.1 g

  no_start_greedy_rows : (ss : List Rec) → rows_refusal fresh ss ≡ 0
      → ((u w k : ℕ) → Has u w k d.cables → StartBetter d ss u w k → ⊥) → Greedy kinds_before d [] ss
  unfolding StartBetter Greedy
  no_start_greedy_rows [] ok none = tt
  no_start_greedy_rows (r ∷ ss) ok none =
      start_greedy kinds_before d s r ss ok
      (λ u w k h. false_unless _ (λ z. none u w k h (inl z)))
      (λ u w k h q m. none u w k h (inr (q, m)))

pub some_not_greedy :
    (rs : List Rec) (m : ℕ) → Pattern (decoded rs) → SomeStart rs m → Greedy kinds_before (decoded rs) [] (take m rs) → ⊥
some_not_greedy rs m p s = start_not_greedy_rows (decoded rs) p.simple p.devices_high (take m rs) s.u s.w s.k s.has s.better

pub none_greedy :
    (rs : List Rec) (m : ℕ) → rows_refusal fresh rs ≡ 0 → Pattern (decoded rs) → (SomeStart rs m → ⊥)
    → Greedy kinds_before (decoded rs) [] (take m rs)
none_greedy rs m ok p n =
    no_start_greedy_rows (decoded rs) p.simple p.devices_high (take m rs)
    (rows_divided fresh (take m rs) (drop m rs) (subst (λ (l : List Rec). rows_refusal fresh l ≡ 0) (sym (take-append-drop m rs)) ok)).0
    (λ u w k h b. n (record { u = u; w = w; k = k; has = h; better = b }))
