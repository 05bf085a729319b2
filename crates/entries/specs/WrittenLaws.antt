-- A list that was grown to its end is written, and one that does not fit is 15; a list that is given is the family's or not. Rests on
-- FamilyLists and EntryLaws. Assumes nothing.
use Rattle.std.specs.Prelude.{◌≡◌, refl, Bool, true, false, List, [], ◌++◌, map, ℕ, zero, suc, ◌*◌, ◌≤◌, ◌<◌, length, drop, replicate, Option, Some, None, Result, Ok, Err}
use Rattle.std.proofs.Common.{sym, ap, ◌∙◌, subst, append-nil, arith, length-drop, lt-ltb, le-ltb}
use Rattle.std.proofs.lemmas.List.{length-map}
use Rattle.laws.specs.Lists.{nil_of_length}
use Rattle.laws.specs.Decides.{Decides, decides_false}
use Rattle.laws.specs.Lent.{in_front}
use Rattle.graphs.specs.Drawing.{Drawing}
use Rattle.graphs.specs.Survey as surveys
use Rattle.codes.specs.Code.{Rec, kinds_before}
use Rattle.codes.specs.CodeOrder.{kinds_order}
use Rattle.growth.specs.Sizes.{entry_size}
use Rattle.growth.specs.Catalogue.{ListOf, all_bytes, Figures}
use Rattle.growth.specs.Family.{Listable, Closed, KeptByMaps, entry_for}
use Rattle.growth.specs.FamilyLists.{listed_list}
use Rattle.growth.specs.Growth.{Listed}
use Rattle.growth.specs.EntryLaws.{all_bytes_length}
use Rattle.growth.specs.Listings.{ListsMore}
use Rattle.records.specs.declared.refusal.Refusal.TheVariants.{OutputLength}
use Rattle.records.specs.declared.refusal.Fault.{Fault}
use Rattle.records.specs.Refusals.{lone_fault}
use Rattle.records.specs.Catalogued.{catalogued_refusal}
use Rattle.entries.specs.ListOutcomes.{Outcome}
use Rattle.entries.specs.Written.{EntriesWritten, ListWritten, ListAs, ListSays, ListHeld}

-- nothing is left behind all of them
drop_all : (n : ℕ) (xs : List ℕ) → length xs ≤ n → drop n xs ≡ []
drop_all n xs h = nil_of_length (drop n xs) (omega (arith, length-drop n xs))

-- the same told in other words
pub outcome_as :
    (checking : Bool) (figure : Drawing → Figures) {P Q : List (List Rec) → Type 0} → ((more : List (List Rec)) → P more → Q more)
    → (cs : List (List Rec)) (old out : List ℕ) (r : Option ℕ) → Outcome checking figure P cs old out r → Outcome checking figure Q cs old out r
outcome_as checking figure f cs old out (Some k) m = record { more = m.more; which = f m.more m.which; lists = m.lists; room = m.room }
outcome_as checking figure f cs old out None m = record { more = m.more; which = f m.more m.which; back = m.back }

module _ (Wanted : Drawing → Type 0) (figure : Drawing → Figures) (l : ℕ) (closed : Closed Wanted) (kept : KeptByMaps figure) (low : l ≤ 8) where
  abbrev All : List (List Rec) → Type 0
  All = Listed kinds_before kinds_order (Listable kinds_before Wanted) l []

  -- all least codes of the family, as its list
  module _ (cs : List (List Rec)) (t : Listed kinds_before kinds_order (Listable kinds_before Wanted) l [] cs) where
    list_is : ListOf kinds_before Wanted figure l (map (entry_for figure) cs)
    list_is = listed_list kinds_before kinds_order Wanted figure l closed kept cs t

    size_is : length (all_bytes (map (entry_for figure) cs)) ≡ entry_size * length (map (entry_for figure) cs)
    size_is = all_bytes_length _ (λ e i. omega (arith, (list_is.sound e i).size, low))

  module _ (o : List ℕ) {z : List ℕ} {k : ℕ}
      (m : ListsMore figure (Listed kinds_before kinds_order (Listable kinds_before Wanted) l []) [] o z k) where
    count : k ≡ length (map (entry_for figure) m.more)
    count = m.lists.count_is ∙ sym (length-map m.more (entry_for figure))

    bytes : z ≡ in_front (all_bytes (map (entry_for figure) m.more)) o
    bytes =
        m.lists.bytes
        ∙ ap (λ (i : ℕ). all_bytes (map (entry_for figure) m.more) ++ drop i o)
        (ap (λ (i : ℕ). entry_size * i) (sym (length-map m.more (entry_for figure))) ∙ sym (size_is m.more m.which))

  -- WRITTEN TO THE END
  pub list_written :
      (o z : List ℕ) (k : ℕ) → Outcome false figure (Listed kinds_before kinds_order (Listable kinds_before Wanted) l []) [] o z (Some k)
      → length z ≡ length o → ListWritten Wanted figure l o (Ok k) z
  list_written o z k m e = (
    map (entry_for figure) m.more,
    list_is m.more m.which,
    subst (λ (t : Bool). EntriesWritten t (map (entry_for figure) m.more) (Ok k) o z)
        (sym (le-ltb (length o) (entry_size * length (map (entry_for figure) m.more)) (omega (arith, m.room, count o m, e))))
        (ap Ok (count o m), bytes o m),
  )

  -- DOES NOT FIT
  pub list_too_long :
      (o y z : List ℕ) → Outcome false figure (Listed kinds_before kinds_order (Listable kinds_before Wanted) l []) [] o y None
      → length y ≡ length o → z ≡ replicate (length y) 0 → ListWritten Wanted figure l o (Err (lone_fault OutputLength)) z
  list_too_long o y z m e is = (
    map (entry_for figure) m.more,
    list_is m.more m.which,
    subst (λ (t : Bool). EntriesWritten t (map (entry_for figure) m.more) (Err (lone_fault OutputLength)) o z)
        (sym (lt-ltb (length o) (entry_size * length (map (entry_for figure) m.more)) (omega (arith, m.back, size_is m.more m.which))))
        (refl, is ∙ ap (λ (k : ℕ). replicate k 0) e),
  )

  -- HELD TO THE END: the list that is given begins with the whole list, and is it if it is no longer
  pub list_held :
      (given : List ℕ) (k : ℕ) → Outcome true figure (Listed kinds_before kinds_order (Listable kinds_before Wanted) l []) [] given given (Some k)
      → {r : Bool} → Decides r (length given ≡ entry_size * k) → ListHeld Wanted figure l given r
  list_held given k m d = (
    map (entry_for figure) m.more,
    list_is m.more m.which,
    record {
      holds = λ t.
          bytes given m
          ∙ ap (λ (xs : List ℕ). all_bytes (map (entry_for figure) m.more) ++ xs)
          (drop_all (length (all_bytes (map (entry_for figure) m.more))) given
          (omega (arith, d.holds t, count given m, size_is m.more m.which)))
          ∙ append-nil (all_bytes (map (entry_for figure) m.more));
      fails = λ t e. d.fails t (ap length e ∙ size_is m.more m.which ∙ ap (λ (i : ℕ). entry_size * i) (sym (count given m)));
    },
  )

  -- IT DIFFERS
  pub list_differs :
      (given : List ℕ) → Outcome true figure (Listed kinds_before kinds_order (Listable kinds_before Wanted) l []) [] given given None
      → ListHeld Wanted figure l given false
  list_differs given m = (
    map (entry_for figure) m.more,
    list_is m.more m.which,
    decides_false (λ e. m.back
        (subst (λ (bs : List ℕ). in_front (all_bytes (map (entry_for figure) m.more)) bs ≡ bs) (sym e)
        (ap (λ (xs : List ℕ). all_bytes (map (entry_for figure) m.more) ++ xs)
        (drop_all (length (all_bytes (map (entry_for figure) m.more))) (all_bytes (map (entry_for figure) m.more)) (omega arith))
        ∙ append-nil (all_bytes (map (entry_for figure) m.more))))),
  )

-- THE OUTCOME: what was given is refused, or not
module _ (f : surveys.Refusal) (Wanted : Drawing → Type 0) (figure : Drawing → Figures) (l : ℕ) (r : Result ℕ Fault) (o z : List ℕ) where
  pub says_refused : 0 < f.number → catalogued_refusal r ≡ f → z ≡ o → ListSays f Wanted figure l r o z
  says_refused h e same = go f.number h
    where
      go : (n : ℕ) → 0 < n → ListAs n f Wanted figure l r o z
      go zero h = absurd (omega arith)
      go (suc n) h = (e, same)

  pub says_list : f.number ≡ 0 → ListWritten Wanted figure l o r z → ListSays f Wanted figure l r o z
  says_list e w = subst (λ (n : ℕ). ListAs n f Wanted figure l r o z) (sym e) w
