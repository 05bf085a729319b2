-- What cannot stand on a page cannot with more behind it; one entry that cannot stand behind others cannot stand with them. Rests on EntryLaws
-- and Listings. Assumes nothing.
use Rattle.std.specs.Prelude.{◌≡◌, refl, Bool, true, false, List, [], ◌∷◌, ◌++◌, map, ℕ, ◌+◌, ◌*◌, ◌-◌, ◌^◌, ◌≤◌, ◌<◌, length, take, drop}
use Rattle.std.proofs.Common.{sym, ap, ◌∙◌, subst, append_assoc, ⊎_elim, arith, length-append, drop-drop, drop_at, length-take-le}
use Rattle.std.proofs.lemmas.List.{length-map}
use Rattle.laws.specs.Decides.{Decides}
use Rattle.laws.specs.Rows.{row}
use Rattle.laws.specs.Lists.{Mem, snoc, snoc_length, map_append, mem_cases}
use Rattle.laws.specs.Selections.{Sent, map_from, mem_one}
use Rattle.laws.specs.Lent.{in_front}
use Rattle.laws.specs.PutRecords.{put_record}
use Rattle.laws.specs.PutRecordLaws.{put_there, there_put}
use Rattle.graphs.specs.Drawing.{Drawing}
use Rattle.codes.specs.Code.{Rec}
use Rattle.growth.specs.Sizes.{entry_size}
use Rattle.growth.specs.Catalogue.{Entry, entry_bytes, all_bytes, Figures}
use Rattle.growth.specs.Family.{entry_for}
use Rattle.growth.specs.EntryLaws.{entry_behind, all_bytes_length, all_bytes_append}
use Rattle.growth.specs.Page.{NotThere, EntryHanded, CannotStand}
use Rattle.growth.specs.Listings.{Lists}

-- AN ENTRY HELD AGAINST A LIST that is too short for it
pub entry_short :
    (e : List ℕ) (k : ℕ) (on : List ℕ) → length e ≡ entry_size → entry_size * k ≤ length on → length on < entry_size * k + entry_size
    → NotThere true e k on
unfolding put_record
entry_short e k on size low short q =
    omega (
      arith,
      ap length q,
      length-append (take (entry_size * k) on ++ e) (drop (entry_size * k + entry_size) on),
      length-append (take (entry_size * k) on) e,
      length-take-le (entry_size * k) on low,
    )

-- or long enough
pub entry_held :
    (e : List ℕ) (k : ℕ) (on : List ℕ) → length e ≡ entry_size → entry_size * k + entry_size ≤ length on → length on < 2 ^ 64 → (r : Bool)
    → Decides r (e ≡ take (entry_size * k + entry_size - entry_size * k) (drop (entry_size * k) on)) → EntryHanded true e k on r on
unfolding row
entry_held e k on size room low true d =
    let w : entry_size * k + entry_size - entry_size * k ≡ entry_size = omega arith in (
      room,
      sym (put_there entry_size k e on size room (ap (λ (n : ℕ). take n (drop (entry_size * k) on)) (sym w) ∙ sym (d.holds refl))),
      omega arith,
    )
entry_held e k on size room low false d =
    let w : entry_size * k + entry_size - entry_size * k ≡ entry_size = omega arith in
    (λ q. d.fails refl (sym (there_put entry_size k e on size room q) ∙ ap (λ (n : ℕ). take n (drop (entry_size * k) on)) (sym w)), refl)

-- what stands in front of more stands in front
front_of : (bs more on : List ℕ) → in_front (bs ++ more) on ≡ on → in_front bs on ≡ on
front_of bs more on q =
    let e : on ≡ bs ++ (more ++ drop (length (bs ++ more)) on) = sym q ∙ append_assoc bs more (drop (length (bs ++ more)) on) in
    ap (λ (t : List ℕ). bs ++ t) (ap (drop (length bs)) e ∙ drop_at bs (more ++ drop (length (bs ++ more)) on) (length bs) refl) ∙ sym e

-- WITH MORE BEHIND IT
stands_further : (checking : Bool) (bs more on : List ℕ) → CannotStand checking bs on → CannotStand checking (bs ++ more) on
stands_further false bs more on h = omega (arith, length-append bs more)
stands_further true bs more on h = λ q. h (front_of bs more on q)

module _ (figure : Drawing → Figures) where
  bytes_behind : (cs more : List (List Rec))
      → all_bytes (map (entry_for figure) (cs ++ more)) ≡ all_bytes (map (entry_for figure) cs) ++ all_bytes (map (entry_for figure) more)
  bytes_behind cs more =
      ap all_bytes (map_append (entry_for figure) cs more) ∙ all_bytes_append (map (entry_for figure) cs) (map (entry_for figure) more)

  pub codes_further :
      (checking : Bool) (cs more : List (List Rec)) (on : List ℕ) → CannotStand checking (all_bytes (map (entry_for figure) cs)) on
      → CannotStand checking (all_bytes (map (entry_for figure) (cs ++ more))) on
  codes_further checking cs more on h =
      subst (λ (bs : List ℕ). CannotStand checking bs on) (sym (bytes_behind cs more)) (stands_further checking _ _ on h)

  -- codes of at most 8 records have their bytes
  pub codes_length : (cs : List (List Rec)) → ((c : List Rec) → Mem c cs → length c ≤ 8)
      → length (all_bytes (map (entry_for figure) cs)) ≡ entry_size * length cs
  codes_length cs small =
      all_bytes_length (map (entry_for figure) cs) (λ f m. fits f (map_from (entry_for figure) cs m))
      ∙ ap (λ (k : ℕ). entry_size * k) (length-map cs (entry_for figure))
    where
      fits : (f : Entry) → Sent (entry_for figure) cs f → length f.code ≤ 8
      fits f s = subst (λ (g : Entry). length g.code ≤ 8) s.is (small s.a s.member)

  module _ (cs : List (List Rec)) (γ : List Rec) (low : length γ ≤ 8) where
    snoc_small : ((c : List Rec) → Mem c cs → length c ≤ 8) → (c : List Rec) → Mem c (snoc cs γ) → length c ≤ 8
    snoc_small small c m = ⊎_elim (small c) (λ k. subst (λ (x : List Rec). length x ≤ 8) (mem_one k) low) (mem_cases cs m)

    -- AN ENTRY MORE behind those that are listed
    pub lists_next :
        (old out now : List ℕ) (count : ℕ) → Lists figure cs old out count → now ≡ put_record entry_size count (entry_bytes (entry_for figure γ)) out
        → Lists figure (snoc cs γ) old now (count + 1)
    lists_next old out now count t is =
        record {
          count_is = omega (arith, t.count_is, snoc_length cs γ);
          small = snoc_small t.small;
          bytes =
              is
              ∙ ap (λ (k : ℕ). put_record entry_size k (entry_bytes (entry_for figure γ)) out) (t.count_is ∙ sym (length-map cs (entry_for figure)))
              ∙ entry_behind (map (entry_for figure) cs) (entry_for figure γ) out (drop (entry_size * length cs) old)
              (λ f m. fits f (map_from (entry_for figure) cs m)) t.bytes
              ∙ ap (λ (es : List Entry). all_bytes es ++ drop entry_size (drop (entry_size * length cs) old))
              (sym (map_append (entry_for figure) cs (γ ∷ [])))
              ∙ ap (λ (xs : List ℕ). all_bytes (map (entry_for figure) (snoc cs γ)) ++ xs)
              (drop-drop entry_size (entry_size * length cs) old ∙ ap (λ (k : ℕ). drop k old) longer);
        }
      where
        longer : entry_size * length cs + entry_size ≡ entry_size * length (snoc cs γ)
        longer = omega (arith, snoc_length cs γ)

        fits : (f : Entry) → Sent (entry_for figure) cs f → length f.code ≤ 8
        fits f s = subst (λ (g : Entry). length g.code ≤ 8) s.is (t.small s.a s.member)

    -- AN ENTRY THAT CANNOT STAND there
    pub stands_not_at :
        (checking : Bool) (old on : List ℕ) (count : ℕ) → Lists figure cs old on count
        → NotThere checking (entry_bytes (entry_for figure γ)) count on → CannotStand checking (all_bytes (map (entry_for figure) (snoc cs γ))) on
    stands_not_at false old on count t h = omega (arith, codes_length (snoc cs γ) (snoc_small t.small), snoc_length cs γ, t.count_is)
    stands_not_at true old on count t h = λ q. h (stands q)
      where
        stands :
            in_front (all_bytes (map (entry_for figure) (snoc cs γ))) on ≡ on
            → put_record entry_size count (entry_bytes (entry_for figure γ)) on ≡ on
        stands q =
            let front : in_front (all_bytes (map (entry_for figure) cs)) on ≡ on =
            front_of (all_bytes (map (entry_for figure) cs)) (all_bytes (map (entry_for figure) (γ ∷ []))) on
            (subst (λ (bs : List ℕ). in_front bs on ≡ on) (bytes_behind cs (γ ∷ [])) q) in
            (lists_next on on _ count
            (record {
              count_is = t.count_is;
              small = t.small;
              bytes =
                  sym front
                  ∙ ap (λ (k : ℕ). all_bytes (map (entry_for figure) cs) ++ drop k on) (codes_length cs t.small);
            }) refl).bytes
            ∙ ap (λ (k : ℕ). all_bytes (map (entry_for figure) (snoc cs γ)) ++ drop k on) (sym (codes_length (snoc cs γ) (snoc_small t.small)))
            ∙ q
