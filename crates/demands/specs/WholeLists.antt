-- A list that is written to its end is whole: each entry is read back, is one for a wanted pattern, and no two are for the same. Over any closed
-- family of patterns; a catalogue and the book are instances. Rests on least codes. Assumes nothing.
use Rattle.std.specs.Prelude.{◌≡◌, refl, Bool, true, false, List, [], ◌∷◌, map, ◌⊎◌, ℕ, zero, suc, ◌*◌, ◌≤◌, ◌<◌, ltb, eqb, length, get_or, drop, Result, Ok, Err}
use Rattle.std.proofs.Common.{sym, ap, subst, ◌∙◌, inl, inr, not-suc-le-zero, le_of_suc-le-suc, arith, length-append, length-drop, drop_at, ltb-true, ltb-false, eqb-true}
use Rattle.std.proofs.lemmas.List.{length-map}
use Rattle.std.proofs.Math.ListN.{get_or-map}
use Rattle.laws.specs.Tests.{Three, less, same, more, compare_numbers, true_and_false}
use Rattle.laws.specs.Lists.{Mem, mem_at, place}
use Rattle.laws.specs.Rising.{Rises, rises_head, rises_tail}
use Rattle.laws.specs.Rows.{row}
use Rattle.graphs.specs.Drawing.{Drawing}
use Rattle.graphs.specs.Map.{Same}
use Rattle.graphs.specs.Survey as surveys
use Rattle.graphs.specs.Graph.{Simple, Section, Pattern, lone_drawing}
use Rattle.graphs.specs.Sections.{pattern_section, lone_or_pattern, section_pattern}
use Rattle.graphs.specs.Patterns.{pattern_from_test, pattern_to_test}
use Rattle.graphs.specs.Containment.{contains_from_same}
use Rattle.codes.specs.Code.{Rec, CodeOf, Least, before, kinds_before}
use Rattle.codes.specs.CodeOrder.{kinds_order, before_strict}
use Rattle.codes.specs.FullCode.{coded_from_test, coded_length, least_unique}
use Rattle.codes.specs.LeastCode.{least_code_there}
use Rattle.codes.specs.CodesTell.{code_along, code_makes_same}
use Rattle.codes.specs.ReadRows.{good_from_test}
use Rattle.codes.specs.SectionCode.{lone_code, lone_row, SectionCode}
use Rattle.codes.specs.SectionCodes.{rows_not_lone, lone_code_row, lone_only, cabled_code, pattern_code, least_pattern}
use Rattle.growth.specs.Sizes.{entry_size}
use Rattle.growth.specs.Catalogue.{Figures, figures, Entry, entry, EntryOf, ListOf, entry_bytes, all_bytes}
use Rattle.growth.specs.Family.{Closed, KeptByMaps}
use Rattle.records.specs.declared.refusal.Refusal.TheVariants.{OutputLength}
use Rattle.records.specs.Refusals.{number_of, number_positive, lone_fault}
use Rattle.laws.specs.Lent.{in_front}
use Rattle.records.specs.Catalogued.{catalogued_count, catalogued_refusal}
use Rattle.entries.specs.Written.{EntriesWritten, ListAs, ListSays}
use Rattle.growth.specs.EntryLaws.{all_bytes_length}
use Rattle.demands.specs.Terms.{entry_in, EntryFor, WholeList}
use Rattle.demands.specs.ReadEntries.{bytes_at, entry_at}
use Rattle.records.specs.declared.refusal.Fault.{Fault}

-- each element of a rising list comes before those further on
rises_at :
    {A : Type 0} (lt : A → A → Bool) (d : A) (xs : List A) → Rises lt xs → (j k : ℕ) → j < k → k < length xs
    → lt (get_or xs j d) (get_or xs k d) ≡ true
rises_at lt d [] r j k h g = absurd (not-suc-le-zero g)
rises_at lt d (x ∷ xs) r j zero h g = absurd (not-suc-le-zero h)
rises_at lt d (x ∷ xs) r zero (suc k) h g = rises_head lt x xs r (get_or xs k d) (mem_at d xs k (le_of_suc-le-suc g))
rises_at lt d (x ∷ xs) r (suc j) (suc k) h g = rises_at lt d xs (rises_tail lt x xs r) j k (le_of_suc-le-suc h) (le_of_suc-le-suc g)

-- entries are answered with number 0, a refusal with another
entries_number : (n : ℕ) → (catalogued_refusal (Ok n)).number ≡ 0
unfolding surveys.refusal
entries_number n = refl

refused_number : (f : Fault) → (catalogued_refusal (Err f)).number ≡ number_of f.refusal
unfolding surveys.refusal
refused_number f = refl

module _ (Wanted : Drawing → Type 0) (figure : Drawing → Figures) (l : ℕ) where
  -- WHAT AN ENTRY SAYS of any section that it is one for
  pub record EntrySays (e : Entry) (p : Drawing) : Type 0 where
    pub pattern : Pattern p
    pub size : length p.cables ≤ l
    pub wanted : Wanted p
    pub least : Least p e.code
    pub figures_are : e.figures ≡ figure p

  -- where entries are answered, what was given is accepted
  pub list_accepted : (f : surveys.Refusal) (n : ℕ) (o z : List ℕ) → ListSays f Wanted figure l (Ok n) o z → f.number ≡ 0
  list_accepted f n o z says = go f.number refl says
    where
      go : (m : ℕ) → f.number ≡ m → ListAs m f Wanted figure l (Ok n) o z → f.number ≡ 0
      go zero e c = e
      go (suc m) e (r, w) = absurd (omega (arith, sym (entries_number n) ∙ ap (λ (f : surveys.Refusal). f.number) r ∙ e))

  -- A LIST THAT IS WRITTEN TO ITS END
  pub record Finished (n : ℕ) (o z : List ℕ) : Type 0 where
    pub es : List Entry
    pub list : ListOf kinds_before Wanted figure l es
    pub count : n ≡ length es
    pub room : entry_size * length es ≤ length o
    pub output : z ≡ in_front (all_bytes es) o

  pub finished : (f : surveys.Refusal) (n : ℕ) (o z : List ℕ) → ListSays f Wanted figure l (Ok n) o z → Finished n o z
  finished f n o z says = go f.number refl says
    where
      written :
          (es : List Entry) (t : Bool) → ltb (length o) (entry_size * length es) ≡ t → EntriesWritten t es (Ok n) o z
          → (n ≡ length es) × (entry_size * length es ≤ length o) × (z ≡ in_front (all_bytes es) o)
      written es true e (r, w) =
          absurd
          (omega (
            arith,
            sym (entries_number n) ∙ ap (λ (c : Result ℕ Fault). (catalogued_refusal c).number) r ∙ refused_number (lone_fault OutputLength),
            number_positive OutputLength,
          ))
      written es false e (r, w) = (ap catalogued_count r, ltb-false (length o) (entry_size * length es) e, w)

      go : (m : ℕ) → f.number ≡ m → ListAs m f Wanted figure l (Ok n) o z → Finished n o z
      go zero e (es, c, w) =
          let t = written es (ltb (length o) (entry_size * length es)) refl w in
          record { es = es; list = c; count = t.0; room = t.1; output = t.2 }
      go (suc m) e (r, w) = absurd (omega (arith, sym (entries_number n) ∙ ap (λ (f : surveys.Refusal). f.number) r ∙ e))

  module _ (closed : Closed Wanted) (kept_by : KeptByMaps figure) where
    entry_says : (e : Entry) → EntryOf kinds_before Wanted figure l e → (p : Drawing) → Pattern p → CodeOf p e.code → EntrySays e p
    entry_says e f p i c =
        record {
          pattern = i;
          size = omega (arith, f.size, coded_length p simple e.code (coded_from_test p simple e.code c));
          wanted = closed p q i (pattern_from_test q f.is_one) (contains_from_same p q simple.ends plain.ends alike) f.wanted;
          least = record { code = c; least = λ ss g. f.least.least ss (code_along p q simple plain ss alike g) };
          figures_are = sym (kept_by p q simple.ends plain.ends alike ∙ f.figures_are);
        }
      where
        q : Drawing
        q = f.pattern

        simple : Simple p
        simple = i.simple

        plain : Simple q
        plain = (pattern_from_test q f.is_one).simple

        alike : Same p q
        alike = code_makes_same p q simple plain e.code c f.least.code

    module _ (high : l ≤ 8) {n : ℕ} {o z : List ℕ} (f : Finished n o z) where
      abbrev none : Entry
      none = entry (figures 0 0) []

      few : (e : Entry) → Mem e f.es → length e.code ≤ 8
      few e m = omega (arith, (f.list.sound e m).size)

      -- the lent bytes past the entries
      abbrev rest : List ℕ
      rest = drop (length (all_bytes f.es)) o

      front : length (all_bytes f.es) ≡ entry_size * n
      front = all_bytes_length f.es few ∙ ap (λ (k : ℕ). entry_size * k) (sym f.count)

      is_entry : (k : ℕ) → k < n → entry_in k z ≡ get_or f.es k none
      is_entry k h = ap (entry_in k) f.output ∙ entry_at f.es few rest none k (omega (arith, f.count))

      entry_wanted : (k : ℕ) → k < n → EntryOf kinds_before Wanted figure l (entry_in k z)
      entry_wanted k h = f.list.sound (entry_in k z) (rw (is_entry k h) (mem_at none f.es k (omega (arith, f.count))))

      -- a section that an entry is one for has a cable
      has_cable : (p : Drawing) → Section p → (k : ℕ) → k < n → EntryFor p z k → Pattern p
      has_cable p i k h c = go (lone_or_pattern p i)
        where
          go : ((j : ℕ) × (p ≡ lone_drawing j)) ⊎ Pattern p → Pattern p
          go (inr w) = w
          go (inl (j, e)) =
              let code = (entry_in k z).code in
              let is : code ≡ lone_code j = lone_only j code (subst (λ (d : Drawing). SectionCode d code) e c) in
              let good = (good_from_test code (entry_wanted k h).least.code.good).accepted in
              absurd (true_and_false (ap lone_row is ∙ lone_code_row j) (rows_not_lone code good))

      pub whole_says : (p : Drawing) → Section p → (k : ℕ) → k < n → EntryFor p z k → EntrySays (entry_in k z) p
      whole_says p i k h c = let w = has_cable p i k h c in entry_says (entry_in k z) (entry_wanted k h) p w (pattern_code w c)

      whole_rise : (j k : ℕ) → j < k → k < n → before (entry_in j z).code (entry_in k z).code ≡ true
      whole_rise j k h g =
          rw (is_entry j (omega arith), is_entry k g, ← code_at j, ← code_at k)
          (rises_at before [] codes f.list.rise j k h (omega (arith, f.count, length-map f.es (λ (e : Entry). e.code))))
        where
          codes : List (List Rec)
          codes = map (λ (e : Entry). e.code) f.es

          code_at : (k : ℕ) → get_or codes k [] ≡ (get_or f.es k none).code
          code_at k = get_or-map (λ (e : Entry). e.code) f.es k none

      pub whole_there :
          (p : Drawing) → Section p → 1 ≤ length p.cables → length p.cables ≤ l → (Pattern p → Wanted p)
          → (k : ℕ) × (k < n) × EntryFor p z k
      whole_there p s some h g =
          let i = section_pattern s some in
          let t = least_code_there kinds_before kinds_order p i in
          let w = place none (f.list.whole p t.0 (pattern_to_test p i) h (g i) t.1) in
          let below : w.i < n = omega (arith, w.below, f.count) in
          (w.i, below, rw (is_entry w.i below, w.is) (cabled_code t.1.code))

      whole_once : (p : Drawing) → Section p → (j k : ℕ) → j < n → k < n → EntryFor p z j → EntryFor p z k → j ≡ k
      whole_once p s j k a b c d = go (compare_numbers j k)
        where
          same_code : (entry_in j z).code ≡ (entry_in k z).code
          same_code =
              least_unique kinds_before kinds_order p (entry_in j z).code (entry_in k z).code (whole_says p s j a c).least
              (whole_says p s k b d).least

          apart : (j k : ℕ) → k < n → (entry_in j z).code ≡ (entry_in k z).code → j < k → ⊥
          apart j k h e g = (before_strict kinds_before kinds_order).irrefl (entry_in k z).code (rw e at (whole_rise j k g h))

          go : Three (ltb j k ≡ true) (eqb j k ≡ true) (ltb k j ≡ true) → j ≡ k
          go (less h) = absurd (apart j k b same_code (ltb-true j k h))
          go (same h) = eqb-true j k h
          go (more h) = absurd (apart k j a (sym same_code) (ltb-true k j h))

      whole_sound : (k : ℕ) → k < n → (p : Drawing) × Section p × EntryFor p z k
      whole_sound k h =
          let t = entry_wanted k h in
          (t.pattern, pattern_section (pattern_from_test t.pattern t.is_one), cabled_code t.least.code)

      whole_bytes : (k : ℕ) → k < n → row entry_size k z ≡ entry_bytes (entry_in k z)
      whole_bytes k h =
          ap (row entry_size k) f.output ∙ bytes_at f.es few rest none k (omega (arith, f.count)) ∙ ap entry_bytes (sym (is_entry k h))

      whole_size : length z ≡ length o
      whole_size =
          ap length f.output
          ∙ omega (
            arith,
            length-append (all_bytes f.es) rest,
            length-drop (length (all_bytes f.es)) o,
            front,
            f.count,
            f.room,
          )

      whole_room : entry_size * n ≤ length z
      whole_room = omega (arith, f.count, f.room, whole_size)

      whole_kept : drop (entry_size * n) z ≡ drop (entry_size * n) o
      whole_kept =
          ap (drop (entry_size * n)) f.output ∙ drop_at (all_bytes f.es) rest (entry_size * n) front
          ∙ ap (λ (k : ℕ). drop k o) front

      -- WHOLE, whichever patterns are wanted
      pub whole_list : WholeList n o z
      whole_list =
          record {
            sound = whole_sound;
            once = whole_once;
            least = λ p i k h c. let t = whole_says p i k h c in least_pattern kinds_before t.pattern t.least;
            rise = whole_rise;
            bytes = whole_bytes;
            room = whole_room;
            size = whole_size;
            kept = whole_kept;
          }
