-- A code grown by the record at a place: that it can be read off, looked at and appended, and what the look ahead tells of it. Rests on
-- HopeLaws. Assumes nothing.
use Rattle.std.specs.Prelude.{◌≡◌, refl, Bool, true, false, List, [], ◌∷◌, ℕ, ◌+◌, ◌/◌, ◌%◌, ◌^◌, ◌≤◌, ◌<◌, length, get_or, Option, Some, None}
use Rattle.std.proofs.Common.{sym, ap, ◌∙◌, subst, true≢false, arith}
use Rattle.std.proofs.Math.Decide.{dec_lt}
use Rattle.laws.specs.Lists.{snoc}
use Rattle.graphs.specs.Drawing.{is_pattern}
use Rattle.codes.specs.Code.{Rec, fresh, recs_in, rows_refusal, read_rows, decoded, Least}
use Rattle.codes.specs.ReadRows.{rows_invariant}
use Rattle.codes.specs.OwnNumbering.{WellGrown}
use Rattle.growth.specs.Places.{record_at}
use Rattle.walks.specs.Hopes.{CanLook, HopelessIf}
use Rattle.walks.specs.HopeLaws.{grown_well}
use Rattle.extending.specs.HeldCode.{basis, CanReadOff, ReadOff, CanAppend, Appended}
use Rattle.looking.specs.Looking.{CanLengthen, Hopeless, GrownBy, Lengthened, CanLookOn, FoundAhead, LookedOn, PassedOver}
use Rattle.looking.specs.declared.ahead.Hopeful.{Hopeful}

-- an option holds one value or none
abbrev held_or : {A : Type 0} → A → Option A → A
held_or a None = a
held_or a (Some b) = b

same_held : {A : Type 0} {a b : A} → Some a ≡ Some b → a ≡ b
same_held {a = a} q = ap (held_or a) q

abbrev holds : {A : Type 0} → Option A → Bool
holds None = false
holds (Some a) = true

not_both : {A B : Type 0} {o : Option A} {a : A} → o ≡ None → o ≡ Some a → B
not_both n q = absurd (true≢false (sym (ap holds q) ∙ ap holds n))

-- an accepted code of some records has two devices
two_devices : (γ : List Rec) (e : Rec) → rows_refusal fresh (snoc γ e) ≡ 0 → 2 ≤ length (read_rows fresh (snoc γ e)).kinds
two_devices [] e z = (rows_invariant e [] z).two
two_devices (r ∷ rs) e z = (rows_invariant r (snoc rs e) z).two

module _ {code kinds : List ℕ} {m devices kind : ℕ} {alphabet : List ℕ} {n place : ℕ}
    (p : CanLengthen code kinds m devices kind alphabet n place) where
  abbrev next : Rec
  next = record_at (basis kind (recs_in m code)) alphabet n place

  pub may_read_off : CanReadOff kinds devices kind alphabet n place
  may_read_off =
      record {
        wide = p.work.held.sized.wide;
        code = recs_in m code;
        held = p.work.held.met;
        rank = p.rank;
        can_read = p.next.can_read;
      }

  -- the record that is read off
  module _ {e : Rec} (r : ReadOff kinds devices kind alphabet n place e) where
    pub looked_record : e ≡ record_at (basis kind (recs_in m code)) alphabet n place
    looked_record = r.told (recs_in m code) p.work.held.met p.rank p.next.can_read

    accepted_next : rows_refusal fresh (snoc (recs_in m code) e) ≡ 0
    accepted_next = subst (λ (x : Rec). rows_refusal fresh (snoc (recs_in m code) x) ≡ 0) (sym looked_record) p.next.accepted

    pub may_look : CanLook code m e
    may_look =
        record {
          room = p.work.room;
          accepted = accepted_next;
          drawn = subst (λ (x : Rec). is_pattern (decoded (snoc (recs_in m code) x)) ≡ true) (sym looked_record) p.next.drawn;
        }

    pub may_append : CanAppend code kinds m devices e
    may_append = record { room = p.work.room; accepted = accepted_next; held = p.work.held }

    -- THE LOOK AHEAD SAYS that the code would not be the least: it stays
    pub looked_hopeless : {b : Bool} → b ≡ true → HopelessIf code m e b → Lengthened code kinds m devices kind alphabet n place code kinds None
    looked_hopeless told look =
        record {
          none = λ z. (
            λ l. look.not_least told
                (subst (λ (x : Rec). Least (decoded (snoc (recs_in m code) x)) (snoc (recs_in m code) x)) (sym looked_record) l),
            refl,
            refl,
          );
          some = λ w q. not_both refl q;
        }

    -- it does not: the code grows
    pub looked_grown :
        {b : Bool} {code_now kinds_now : List ℕ} {more : ℕ} → b ≡ false → HopelessIf code m e b
        → Appended code kinds m devices e code_now kinds_now more
        → Lengthened code kinds m devices kind alphabet n place code_now kinds_now (Some more)
    looked_grown {code_now = code_now} {kinds_now} {more} told look a =
        record {
          none = λ z. not_both z refl;
          some = λ w q. subst (GrownBy code kinds m devices next code_now kinds_now) (same_held q) grown;
        }
      where
        grown : GrownBy code kinds m devices next code_now kinds_now more
        grown =
            record {
              appended = subst (λ (x : Rec). Appended code kinds m devices x code_now kinds_now more) looked_record a;
              well = subst (λ (x : Rec). WellGrown (snoc (recs_in m code) x)) looked_record
                  (grown_well code m e p.work.greedy (look.hopeful told));
            }

-- THE PART OF THE LIST, candidate by candidate
module _ {code kinds : List ℕ} {m devices kind : ℕ} {alphabet : List ℕ} {n : ℕ} {list : List ℕ} {from top : ℕ}
    (p : CanLookOn code kinds m devices kind alphabet n list from top) where
  pub pass_none : PassedOver code kinds m kind alphabet n list from top code kinds from
  pass_none = record { low = omega arith; high = p.low; passed = λ i l h. absurd (omega arith); same_code = refl; same_kinds = refl }

  module _ {code₁ kinds₁ : List ℕ} {k : ℕ} (w : PassedOver code kinds m kind alphabet n list from top code₁ kinds₁ k) where
    pub may_lengthen : k < top → CanLengthen code₁ kinds₁ m devices kind alphabet n (get_or list k 0 / (2 ^ 40))
    may_lengthen h =
        subst (λ (ks : List ℕ). CanLengthen code₁ ks m devices kind alphabet n (get_or list k 0 / (2 ^ 40))) (sym w.same_kinds)
        (subst (λ (c : List ℕ). CanLengthen c kinds m devices kind alphabet n (get_or list k 0 / (2 ^ 40))) (sym w.same_code)
        (record { work = p.work; rank = p.rank; next = p.next k w.low h }))

    -- all of it
    pub pass_all : top ≤ k → LookedOn code kinds m devices kind alphabet n list from top code₁ kinds₁ None
    pass_all h =
        record {
          none = λ z. record {
            low = p.low;
            high = omega arith;
            passed = λ i l b. w.passed i l (omega (arith, w.high));
            same_code = w.same_code;
            same_kinds = w.same_kinds;
          };
          some = λ c q. not_both refl q;
        }

    module _ {code₂ kinds₂ : List ℕ} {grown : Option ℕ}
        (l : Lengthened code₁ kinds₁ m devices kind alphabet n (get_or list k 0 / (2 ^ 40)) code₂ kinds₂ grown) where
      own : Lengthened code kinds m devices kind alphabet n (get_or list k 0 / (2 ^ 40)) code₂ kinds₂ grown
      own =
          subst (λ (ks : List ℕ). Lengthened code ks m devices kind alphabet n (get_or list k 0 / (2 ^ 40)) code₂ kinds₂ grown) w.same_kinds
          (subst (λ (c : List ℕ). Lengthened c kinds₁ m devices kind alphabet n (get_or list k 0 / (2 ^ 40)) code₂ kinds₂ grown) w.same_code l)

      -- one more
      pub pass_next : k < top → grown ≡ None → PassedOver code kinds m kind alphabet n list from top code₂ kinds₂ (k + 1)
      pass_next h z =
          record {
            low = omega (arith, w.low);
            high = omega arith;
            passed = passed;
            same_code = (own.none z).1;
            same_kinds = (own.none z).2;
          }
        where
          passed : (i : ℕ) → from ≤ i → i < k + 1
              → Hopeless (snoc (recs_in m code) (record_at (basis kind (recs_in m code)) alphabet n (get_or list i 0 / (2 ^ 40))))
          passed i a b = go (dec_lt i k)
            where
              go : Dec (i < k)
                  → Hopeless (snoc (recs_in m code) (record_at (basis kind (recs_in m code)) alphabet n (get_or list i 0 / (2 ^ 40))))
              go (yes c) = w.passed i a c
              go (no c) =
                  let e : k ≡ i = omega arith in
                  subst
                  (λ (j : ℕ).
                  Hopeless (snoc (recs_in m code) (record_at (basis kind (recs_in m code)) alphabet n (get_or list j 0 / (2 ^ 40))))) e
                  (own.none z).0

      -- the one that is found
      pub pass_found : {wider : ℕ} → k < top → grown ≡ Some wider
          → LookedOn code kinds m devices kind alphabet n list from top code₂ kinds₂
          (Some (record { at = k; cell = get_or list k 0 % (2 ^ 40); wider = wider }))
      pass_found {wider} h is =
          record {
            none = λ z. not_both z refl;
            some = λ c q.
                subst
                (λ (x : Hopeful). FoundAhead code kinds m devices kind alphabet n list from top code₂ kinds₂ x.at x.cell x.wider)
                (same_held q) found;
          }
        where
          found : FoundAhead code kinds m devices kind alphabet n list from top code₂ kinds₂ k (get_or list k 0 % (2 ^ 40)) wider
          found = record { low = w.low; high = h; passed = w.passed; grown = own.some wider is; cell_is = refl }
