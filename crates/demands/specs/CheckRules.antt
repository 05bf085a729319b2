-- The check of a list is turned back as the table says, and agrees with the call that writes the catalogue. Rests on what both calls say, on
-- Determined, and on one catalogue whose entries have their bytes. Assumes nothing.
use Rattle.std.specs.Prelude.{◌≡◌, List, [], ◌++◌, length, get_or, set, replicate, Bool, true, false, Result, Ok, Err}
use Rattle.std.proofs.Math.Path.{refl}
use Rattle.std.proofs.Common.{sym, ap, subst, ◌∙◌, not-suc-le-zero, arith, lit≤, length-append, length-set, take_at, get_or-set_same, ne_eqb}
use Prim.Native.Nat.{ℕ, zero, suc, ◌*◌, ◌/◌, ◌%◌, ◌≤◌, ◌<◌}
use Rattle.laws.specs.Lent.{in_front}
use Rattle.laws.specs.Decides.{decides_true, decides_false}
use Rattle.graphs.specs.Survey as surveys
use Rattle.graphs.specs.Survey.{survey, cranes, survey_refusal}
use Rattle.codes.specs.Code.{kinds_before}
use Rattle.codes.specs.CodeOrder.{kinds_order}
use Rattle.growth.specs.Sizes.{entry_size}
use Rattle.growth.specs.Catalogue.{Entry, Catalogue, all_bytes, OftenIn, figures_of}
use Rattle.growth.specs.Catalogues.{catalogue_exists}
use Rattle.growth.specs.FamilyLists.{list_unique}
use Rattle.growth.specs.EntryLaws.{all_bytes_length}
use Rattle.growth.specs.Settings.{accepted_settings}
use Rattle.records.specs.declared.refusal.Refusal.TheVariants.{OutputLength, ListLength}
use Rattle.records.specs.Refusals.{number_small, lone_fault}
use Rattle.records.specs.Catalogued.{catalogued_refusal, catalogued_count}
use Rattle.records.specs.ListsChecked.{list_refusal, list_value}
use Rattle.mining.specs.CatalogueSays.{CatalogueSays}
use Rattle.mining.specs.CheckSays.{check_refusal, IsListChecked, CheckAs, CheckSays}
use Rattle.mining.specs.ListCheckLaws.{check_length_wrong, check_yes, check_no}
use Rattle.answer_numbers.specs.PackedLaws.{Tells, packed_tells}
use Rattle.holvreiz.specs.Returns.{CheckReturns}
use Rattle.demands.specs.Terms.{
  written_entries,
  returned_refusal,
  returned_count,
  returned_drawing,
  CatalogueRefused,
  CheckRefused,
  CheckReturned,
}
use Rattle.demands.specs.Determined.{check_list_determined}
use Rattle.demands.specs.RefusedLaws.{catalogue_turned_back}
use Rattle.demands.specs.WholeLists.{Finished, finished}
use Rattle.demands.specs.WholeCatalogues.{entries_accepted}
use Rattle.records.specs.declared.refusal.Fault.{Fault}

-- a catalogue's entries have their bytes: no code has more than 8 records
catalogue_size :
    (bs : List ℕ) (s l : ℕ) (es : List Entry) → (survey_refusal bs s l).number ≡ 0 → Catalogue (cranes bs) (survey bs) s l es
    → length (all_bytes es) ≡ entry_size * length es
catalogue_size bs s l es fine c =
    all_bytes_length es (λ e m. omega (arith, (c.sound e m).size, (accepted_settings bs s l fine).limit_high))

-- TURNED BACK: what the contract allows is the answer, since it allows just one. A refusal counts nothing.
value_none : (r : Result Bool Fault) → 0 < (list_refusal r).number → list_value r ≡ 0
unfolding surveys.refusal
value_none (Ok true) h = absurd (not-suc-le-zero h)
value_none (Ok false) h = refl
value_none (Err f) h = refl

module _ (bs : List ℕ) (s l : ℕ) (list : List ℕ) (r : Result Bool Fault) (says : CheckSays bs s l list r) where
  early : 0 < (survey_refusal bs s l).number → list_refusal r ≡ survey_refusal bs s l
  unfolding check_refusal
  early h = go (survey_refusal bs s l).number h (subst (λ (f : surveys.Refusal). CheckAs f.number f bs s l list r) first says)
    where
      first : check_refusal bs s l list ≡ survey_refusal bs s l
      first = rw (ne_eqb (survey_refusal bs s l).number 0 (λ e. omega arith))

      go : (n : ℕ) → 0 < n → CheckAs n (survey_refusal bs s l) bs s l list r → list_refusal r ≡ survey_refusal bs s l
      go zero h w = absurd (not-suc-le-zero h)
      go (suc n) h w = w

  is : (t : Result Bool Fault) → CheckSays bs s l list t → r ≡ t
  is t = check_list_determined bs s l list r t says

  pub check_list_refused : CheckRefused bs s l list r
  check_list_refused =
      record {
        early = λ h. (early h, value_none r (rw (early h) h));
        part_entry = λ fine h. is (Err (lone_fault ListLength)) (check_length_wrong bs s l list fine h);
        there = λ fine.
            catalogue_exists kinds_before kinds_order (cranes bs) (survey bs) s l (accepted_settings bs s l fine).threshold_low;
        yes = λ fine es c e.
            let whole : length list % entry_size ≡ 0 = omega (arith, ap length e, catalogue_size bs s l es fine c) in
            is (Ok true) (check_yes bs s l list fine whole refl (es, c, decides_true e));
        no = λ fine whole es c n. is (Ok false) (check_no bs s l list fine whole refl (es, c, decides_false n));
      }

-- FROM C: the number tells the refusal, the drawing, and 1 for yes
list_small : (r : Result Bool Fault) → ((list_refusal r).number ≤ 18) × (list_value r ≤ 1)
unfolding surveys.refusal
list_small (Ok true) = (lit≤ tt, lit≤ tt)
list_small (Ok false) = (lit≤ tt, lit≤ tt)
list_small (Err f) = (number_small f.refusal, lit≤ tt)

module _ (bs : List ℕ) (s l : ℕ) (list : List ℕ) (x : ℕ) (c : CheckReturns bs s l list x) where
  tells : Tells x (list_refusal c.answer).number (list_value c.answer) (list_refusal c.answer).drawing
  tells = let h = list_small c.answer in rw c.number (packed_tells _ _ _ (omega (arith, h.0)) (omega (arith, h.1)))

  numbers_of :
      (r : Result Bool Fault) → c.answer ≡ r
      → (returned_refusal x ≡ (list_refusal r).number) × (returned_drawing x ≡ (list_refusal r).drawing) × (returned_count x ≡ list_value r)
  numbers_of r e = rw (← e) (tells.refusal_in, tells.drawing_in, tells.count_in)

  pub c_check_list_refused : CheckReturned bs s l list x
  unfolding surveys.refusal
  c_check_list_refused =
      let told = check_list_refused bs s l list c.answer c.says in
      record {
        early = λ h. let e = told.early h in rw (← e.0, ← e.1) (tells.refusal_in, tells.drawing_in, tells.count_in);
        part_entry = λ fine h. numbers_of (Err (lone_fault ListLength)) (told.part_entry fine h);
        yes = λ fine es k e. numbers_of (Ok true) (told.yes fine es k e);
        no = λ fine whole es k n. numbers_of (Ok false) (told.no fine whole es k n);
      }

module _ (bs : List ℕ) (s l : ℕ) where
  -- THE RIGHT LIST of an accepted survey: the bytes of its catalogue
  pub record Right (list : List ℕ) : Type 0 where
    pub fine : (survey_refusal bs s l).number ≡ 0
    pub es : List Entry
    pub catalogue : Catalogue (cranes bs) (survey bs) s l es
    pub bytes : list ≡ all_bytes es

  -- it is what is answered yes
  pub right_yes : (list : List ℕ) → CheckSays bs s l list (Ok true) → Right list
  unfolding surveys.refusal
  right_yes list says =
      let t = told (check_refusal bs s l list).number refl says in
      record { fine = fine (survey_refusal bs s l).number refl; es = t.0; catalogue = t.1; bytes = t.2 }
    where
      fine : (n : ℕ) → (survey_refusal bs s l).number ≡ n → (survey_refusal bs s l).number ≡ 0
      fine zero e = e
      fine (suc n) e = absurd (omega (arith, ((check_list_refused bs s l list (Ok true) says).early (omega arith)).1))

      told :
          (n : ℕ) → (check_refusal bs s l list).number ≡ n → CheckAs n (check_refusal bs s l list) bs s l list (Ok true) → IsListChecked bs s l list (Ok true)
      told zero e w = w
      told (suc n) e w = absurd (omega (arith, ap (λ (f : surveys.Refusal). f.number) w))

  -- and what the other call wrote to its end
  pub right_written : (n : ℕ) (o z : List ℕ) → CatalogueSays bs s l (Ok n) o z → Right (written_entries n z)
  right_written n o z says =
      record {
        fine = fine;
        es = f.es;
        catalogue = f.list;
        bytes = ap (written_entries n) f.output ∙ take_at (all_bytes f.es) _ (entry_size * n) size;
      }
    where
      fine : (survey_refusal bs s l).number ≡ 0
      fine = entries_accepted bs s l n o z says

      f : Finished (OftenIn bs s) (figures_of bs) l n o z
      f = finished (OftenIn bs s) (figures_of bs) l (survey_refusal bs s l) n o z says

      size : length (all_bytes f.es) ≡ entry_size * n
      size = catalogue_size bs s l f.es fine f.list ∙ ap (λ (k : ℕ). entry_size * k) (sym f.count)

  pub right_size : {list : List ℕ} (k : Right list) → length list ≡ entry_size * length k.es
  right_size k = ap length k.bytes ∙ catalogue_size bs s l k.es k.fine k.catalogue

  -- there is one
  pub one_yes : (xs ys : List ℕ) → CheckSays bs s l xs (Ok true) → CheckSays bs s l ys (Ok true) → xs ≡ ys
  one_yes xs ys v w =
      let j = right_yes xs v in
      let k = right_yes ys w in
      j.bytes
      ∙ ap all_bytes (list_unique kinds_before kinds_order (OftenIn bs s) (figures_of bs) l j.es k.es j.catalogue k.catalogue)
      ∙ sym k.bytes

  -- EVERY OTHER LIST is a no, or 18
  others_no :
      {right : List ℕ} → Right right → (list : List ℕ) → (list ≡ right → ⊥) → (r : Result Bool Fault) → CheckSays bs s l list r
      → (length list % entry_size ≡ 0 → r ≡ Ok false) × ((length list % entry_size ≡ 0 → ⊥) → r ≡ Err (lone_fault ListLength))
  others_no k list n r says =
      let t = check_list_refused bs s l list r says in
      (λ whole. t.no k.fine whole k.es k.catalogue (λ e. n (e ∙ sym k.bytes)), t.part_entry k.fine)

  pub cut_short :
      (xs ys : List ℕ) → CheckSays bs s l (xs ++ ys) (Ok true) → 0 < length ys → length xs % entry_size ≡ 0
      → (r : Result Bool Fault) → CheckSays bs s l xs r → r ≡ Ok false
  cut_short xs ys w h whole r says =
      (others_no (right_yes (xs ++ ys) w) xs (λ e. omega (arith, ap length e, length-append xs ys)) r says).0 whole

  -- so is one with another byte anywhere, as the example of an entry
  pub another_byte :
      (list : List ℕ) → CheckSays bs s l list (Ok true) → (i : ℕ) → i < length list → (x : ℕ) → (x ≡ get_or list i 0 → ⊥)
      → (r : Result Bool Fault) → CheckSays bs s l (set list i x) r → r ≡ Ok false
  another_byte list w i h x new r says =
      let k = right_yes list w in
      (others_no k (set list i x) (λ e. new (sym (get_or-set_same list i x 0 h) ∙ ap (λ (ys : List ℕ). get_or ys i 0) e)) r says).0
      (omega (arith, length-set list i x, right_size k))

  pub with_more :
      (xs ys : List ℕ) → CheckSays bs s l xs (Ok true) → 0 < length ys → length ys % entry_size ≡ 0
      → (r : Result Bool Fault) → CheckSays bs s l (xs ++ ys) r → r ≡ Ok false
  with_more xs ys w h whole r says =
      let k = right_yes xs w in
      (others_no k (xs ++ ys) (λ e. omega (arith, ap length e, length-append xs ys)) r says).0 (omega (arith, length-append xs ys, right_size k))

  -- THE CALL THAT WRITES, where a list is answered yes
  module _ (list : List ℕ) (w : CheckSays bs s l list (Ok true)) (r : Result ℕ Fault) (o z : List ℕ) (says : CatalogueSays bs s l r o z) where
    k : Right list
    k = right_yes list w

    told : CatalogueRefused bs s l r o z
    told = catalogue_turned_back bs s l r o z says

    pub yes_written : length list ≤ length o → (r ≡ Ok (length list / entry_size)) × (z ≡ in_front list o)
    yes_written h =
        let size : length list ≡ entry_size * length k.es = right_size k in
        let count : length k.es ≡ length list / entry_size = omega arith in
        let t = told.enough k.fine k.es k.catalogue (omega arith) in
        (t.0 ∙ ap Ok count, t.1 ∙ ap (λ (xs : List ℕ). in_front xs o) (sym k.bytes))

    pub yes_no_room : length o < length list → (r ≡ Err (lone_fault OutputLength)) × (z ≡ replicate (length o) 0)
    yes_no_room h = told.short k.fine k.es k.catalogue (omega (arith, right_size k))

  -- where it wrote n entries
  module _ (n : ℕ) (o z : List ℕ) (says : CatalogueSays bs s l (Ok n) o z) where
    pub written_yes : (r : Result Bool Fault) → CheckSays bs s l (written_entries n z) r → r ≡ Ok true
    written_yes r checks =
        let k = right_written n o z says in
        (check_list_refused bs s l (written_entries n z) r checks).yes k.fine k.es k.catalogue k.bytes

    pub other_no :
        (list : List ℕ) → (list ≡ written_entries n z → ⊥) → (r : Result Bool Fault) → CheckSays bs s l list r
        → (length list % entry_size ≡ 0 → r ≡ Ok false) × ((length list % entry_size ≡ 0 → ⊥) → r ≡ Err (lone_fault ListLength))
    other_no = others_no (right_written n o z says)

  pub empty_list :
      (n : ℕ) (o z : List ℕ) → CatalogueSays bs s l (Ok n) o z → (r : Result Bool Fault) → CheckSays bs s l [] r
      → (r ≡ Ok true → n ≡ 0) × (n ≡ 0 → r ≡ Ok true)
  empty_list n o z says r checks = (
    λ e. ap catalogued_count (yes_written [] (subst (CheckSays bs s l []) e checks) (Ok n) o z says (omega arith)).0,
    λ e. written_yes 0 o z (subst (λ (k : ℕ). CatalogueSays bs s l (Ok k) o z) e says) r checks,
  )

  -- where it refuses what it is given
  pub check_alike :
      (list : List ℕ) (r : Result ℕ Fault) (t : Result Bool Fault) (o z : List ℕ) → 0 < (survey_refusal bs s l).number
      → CatalogueSays bs s l r o z → CheckSays bs s l list t → list_refusal t ≡ catalogued_refusal r
  check_alike list r t o z h says checks =
      ((check_list_refused bs s l list t checks).early h).0 ∙ sym ((catalogue_turned_back bs s l r o z says).early h).0
