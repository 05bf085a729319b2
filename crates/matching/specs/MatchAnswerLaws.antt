-- The outcomes of matching and of sameness, by the way that a call takes. Rests on Containment. Assumes nothing.
use Rattle.std.specs.Prelude.{◌≡◌, List, ◌++◌, length, get_or, take, drop, set, is_some, Option, Some, None, Result, Ok, Err}
use Rattle.std.proofs.Math.Path.{refl, ap}
use Rattle.std.proofs.Common.{sym, ◌∙◌, inl, inr, not-suc-le-zero, add-one, arith, lit<, length-take-le, drop-cons, take-suc}
use Rattle.std.proofs.Math.Bool.{true, false}
use Rattle.std.proofs.Math.Option.{some}
use Rattle.std.proofs.Math.Option as maybe
use Prim.Native.Nat.{ℕ, zero, suc, ◌+◌, ◌≤◌, ◌<◌}
use Rattle.std.proofs.lemmas.List.{set_at}
use Rattle.std.proofs.Math.Seq.{append_snoc}
use borrow.Author.Tests.{lt-ltb, le-ltb}
use Rattle.laws.specs.Tests.{true_and_false}
use Rattle.graphs.specs.Drawing.{devices, drawing_in, drawing_refusal}
use Rattle.graphs.specs.Map.{Same, least_map, is_some as maybe_some, contains}
use Rattle.graphs.specs.Containment.{same_contained, contained_is_same}
use Rattle.records.specs.declared.refusal.Refusal.{Refusal}
use Rattle.records.specs.declared.refusal.Refusal.TheVariants.{OutputLength}
use Rattle.records.specs.Refusals.{number_of, first_of}
use Rattle.records.specs.RefusalLaws.{first_some, first_none}
use Rattle.matching.specs.MatchAnswers.{
  match_refusal,
  match_count,
  match_number,
  MatchAs,
  MatchSays,
  SameAs,
  SameSays,
}
use Rattle.laws.specs.Lent.{in_front}
use Rattle.map_search.specs.MapSearch.{LeastMapSays}
use Rattle.graphs.specs.AcceptedDrawing.{accepted_simple, accepted_count, accepted_cables, accepted_most}

-- BOTH ACCEPTED
pub both_accepted : (a b : ℕ) → first_of a b ≡ 0 → (a ≡ 0) × (b ≡ 0)
both_accepted zero b e = (refl, sym (first_none 0 b refl) ∙ e)
both_accepted (suc a) b e = absurd (omega (arith, first_some (suc a) b (omega arith)))

-- BYTES PUT IN FRONT, one more
module _ (new old : List ℕ) (n : ℕ) (here : n < length new) (room : n < length old) where
  front_size : length (take n new) ≡ n
  front_size = length-take-le n new (omega arith)

  pub in_front_next : set (in_front (take n new) old) n (get_or new n 0) ≡ in_front (take (n + 1) new) old
  in_front_next =
      ap (λ (k : ℕ). set (take n new ++ drop k old) n (get_or new n 0)) front_size
      ∙ ap (λ (l : List ℕ). set (take n new ++ l) n (get_or new n 0)) (drop-cons old n 0 room)
      ∙ set_at (take n new) (get_or old n 0) (drop (suc n) old) (get_or new n 0) n front_size
      ∙ sym (rw (add-one, length-take-le (suc n) new here, take-suc new n 0 here) (append_snoc (take n new) (get_or new n 0) (drop (suc n) old)))

-- MATCHING
refused_as : (n : ℕ) (l : maybe.Option (List ℕ)) (r : Result (Option ℕ) Refusal) (o : List ℕ) → 0 < n → match_refusal r ≡ n → match_count r ≡ 0
    → MatchAs n l r o o
unfolding MatchAs
refused_as zero l r o h e c = absurd (not-suc-le-zero h)
refused_as (suc n) l r o h e c = record { refusal = e; count = c; output = refl }

module _ (xs ys o : List ℕ) where
  pub match_refused : {n : ℕ} → first_of (drawing_refusal xs) (drawing_refusal ys) ≡ n → 0 < n → (r : Refusal) → number_of r ≡ n
      → MatchSays xs ys (Err r) o o
  unfolding MatchSays match_number
  match_refused {n} e h r is =
      rw (first_some (first_of (drawing_refusal xs) (drawing_refusal ys)) _ (rw e h), e)
      (refused_as n (least_map (drawing_in xs) (drawing_in ys)) (Err r) o h is refl)

  module _ (ok : first_of (drawing_refusal xs) (drawing_refusal ys) ≡ 0) where
    pub match_short : length o < devices (drawing_in xs) → MatchSays xs ys (Err OutputLength) o o
    unfolding MatchSays match_number
    match_short h =
        rw (first_none (first_of (drawing_refusal xs) (drawing_refusal ys)) _ ok, lt-ltb (length o) (devices (drawing_in xs)) h)
        (refused_as 15 (least_map (drawing_in xs) (drawing_in ys)) (Err OutputLength) o (lit< tt) refl refl)

    ok_P : drawing_refusal xs ≡ 0
    ok_P = (both_accepted (drawing_refusal xs) (drawing_refusal ys) ok).0

    module _ (room : devices (drawing_in xs) ≤ length o) where
      pub match_answered : match_number xs ys o ≡ 0
      unfolding match_number
      match_answered =
          rw (first_none (first_of (drawing_refusal xs) (drawing_refusal ys)) _ ok, le-ltb (length o) (devices (drawing_in xs)) room)

      -- what the search finds
      pub match_found : (map : List ℕ) → LeastMapSays xs ys (Some map) → (n : ℕ) → n ≡ devices (drawing_in xs) → (z : List ℕ)
          → z ≡ in_front (take n map) o → MatchSays xs ys (Ok (Some n)) o z
      unfolding MatchSays MatchAs
      match_found map says n size z is =
          let map_is : least_map (drawing_in xs) (drawing_in ys) ≡ some (take n map) = rw size says.least in
          rw (match_answered, map_is)
          (record {
            answer = ap (λ (k : ℕ). Ok (Some k)) (sym (length-take-le n map (omega (arith, says.size, accepted_most xs ok_P))));
            output = is;
          })

      pub match_not_found : LeastMapSays xs ys None → MatchSays xs ys (Ok None) o o
      unfolding MatchSays MatchAs
      match_not_found says = rw (match_answered, says.least) (record { answer = refl; output = refl })

-- SAMENESS
module _ (xs ys : List ℕ) where
  pub same_refused : {n : ℕ} → first_of (drawing_refusal xs) (drawing_refusal ys) ≡ n → 0 < n → (r : Refusal) → number_of r ≡ n
      → SameSays xs ys (Err r)
  unfolding SameSays
  same_refused {n} e h r is = rw e (go n h is)
    where
      go : (n : ℕ) → 0 < n → number_of r ≡ n → SameAs n (drawing_in xs) (drawing_in ys) (Err r)
      go zero h is = absurd (not-suc-le-zero h)
      go (suc n) h is = unfold SameAs in record { refusal = is; value = refl }

  module _ (ok : first_of (drawing_refusal xs) (drawing_refusal ys) ≡ 0) where
    ok_x : drawing_refusal xs ≡ 0
    ok_x = (both_accepted (drawing_refusal xs) (drawing_refusal ys) ok).0

    ok_y : drawing_refusal ys ≡ 0
    ok_y = (both_accepted (drawing_refusal xs) (drawing_refusal ys) ok).1

    answers_no : (Same (drawing_in xs) (drawing_in ys) → ⊥) → SameSays xs ys (Ok false)
    unfolding SameSays SameAs
    answers_no n = rw ok (inr (refl, n))

    -- the same drawings have as many devices and as many cables
    pub same_not_counts : (get_or xs 0 0 ≡ get_or ys 0 0 → get_or xs 1 0 ≡ get_or ys 1 0 → ⊥) → SameSays xs ys (Ok false)
    same_not_counts n = answers_no (λ s.
        let c = same_contained (drawing_in xs) (drawing_in ys) (accepted_simple xs ok_x) (accepted_simple ys ok_y) s in
        n (accepted_count xs ok_x ∙ c.1 ∙ sym (accepted_count ys ok_y))
        (accepted_cables xs ok_x ∙ c.2 ∙ sym (accepted_cables ys ok_y)))

    -- with as many of both, a map decides
    pub same_not_found : LeastMapSays xs ys None → SameSays xs ys (Ok false)
    unfolding contains maybe_some
    same_not_found says = answers_no (λ s.
        let c = same_contained (drawing_in xs) (drawing_in ys) (accepted_simple xs ok_x) (accepted_simple ys ok_y) s in
        true_and_false c.0 (ap maybe_some says.least))

    pub same_found : get_or xs 0 0 ≡ get_or ys 0 0 → get_or xs 1 0 ≡ get_or ys 1 0 → (map : List ℕ) → LeastMapSays xs ys (Some map)
        → SameSays xs ys (Ok true)
    unfolding SameSays SameAs contains maybe_some
    same_found n m map says =
        rw ok
        (inl (
          refl,
          contained_is_same (drawing_in xs) (drawing_in ys) (accepted_simple xs ok_x) (accepted_simple ys ok_y)
              (ap maybe_some says.least)
              (sym (accepted_count xs ok_x) ∙ n ∙ accepted_count ys ok_y)
              (sym (accepted_cables xs ok_x) ∙ m ∙ accepted_cables ys ok_y),
        ))

    pub same_told : get_or xs 0 0 ≡ get_or ys 0 0 → get_or xs 1 0 ≡ get_or ys 1 0 → (r : Option (List ℕ)) → LeastMapSays xs ys r
        → SameSays xs ys (Ok (is_some r))
    same_told n m None says = same_not_found says
    same_told n m (Some map) says = same_found n m map says
