-- What an answer tells: of matching, that there is a map and that it is written, or that there is none; of sameness, that the
-- drawings are the same, or not. Rests on LeastMap and Containment. Assumes nothing.
use Rattle.std.proofs.Math.Path.{◌≡◌, refl, ap}
use Rattle.std.proofs.Common.{◌∙◌, arith, ltb-false}
use Rattle.std.specs.Prelude.{Bool, false, cond, List, ℕ, zero, suc, ◌≤◌, ltb, length, Option, Some, None, Result, Ok}
use Rattle.std.proofs.Math.Bool.{true}
use Rattle.std.proofs.Math.Logic.{⊎_elim}
use Rattle.std.proofs.Math.Option.{none, some}
use Rattle.std.proofs.Math.Option as maybe
use Rattle.laws.specs.Tests.{true_and_false}
use Rattle.graphs.specs.Drawing.{devices, drawing_in, drawing_refusal}
use Rattle.graphs.specs.Map.{Same, maps_into, least_map, is_some, contains, Found}
use Rattle.graphs.specs.Graph.{Simple}
use Rattle.graphs.specs.Embeddings.{embedding_from_test}
use Rattle.graphs.specs.LeastMap.{least_map_found, contains_from_embedding}
use Rattle.graphs.specs.Containment.{same_contained, contained_is_same}
use Rattle.records.specs.Refusals.{first_of}
use Rattle.records.specs.RefusalLaws.{first_none}
use Rattle.records.specs.declared.refusal.Refusal.{Refusal}
use Rattle.matching.specs.MatchAnswers.{
  match_refusal,
  match_number,
  MapWritten,
  MatchAs,
  MatchSays,
  SameAs,
  SameSays,
}
use Rattle.laws.specs.Lent.{in_front}
use Rattle.graphs.specs.AcceptedDrawing.{accepted_simple}
use Rattle.matching.specs.MatchAnswerLaws.{both_accepted, match_answered}

-- A CALL THAT IS NOT TURNED BACK: both drawings are accepted, and there is room
pub record Answered (xs ys : List ℕ) (r : Result (Option ℕ) Refusal) (o z : List ℕ) : Type 0 where
  pub pattern : drawing_refusal xs ≡ 0
  pub drawing : drawing_refusal ys ≡ 0
  pub room : devices (drawing_in xs) ≤ length o
  pub written : MapWritten (least_map (drawing_in xs) (drawing_in ys)) r o z

as_zero : (n : ℕ) (l : maybe.Option (List ℕ)) (r : Result (Option ℕ) Refusal) (o z : List ℕ) → MatchAs n l r o z → match_refusal r ≡ 0
    → (n ≡ 0) × MapWritten l r o z
unfolding MatchAs
as_zero zero l r o z m e = (refl, m)
as_zero (suc n) l r o z m e = absurd (omega (arith, m.refusal))

pub match_answers : {xs ys : List ℕ} {r : Result (Option ℕ) Refusal} {o z : List ℕ} → MatchSays xs ys r o z → match_refusal r ≡ 0
    → Answered xs ys r o z
unfolding MatchSays match_number
match_answers {xs} {ys} {r} {o} {z} m e =
    let a = as_zero (match_number xs ys o) _ r o z m e in
    let parts = both_accepted (first_of (drawing_refusal xs) (drawing_refusal ys)) _ a.0 in
    let both = both_accepted (drawing_refusal xs) (drawing_refusal ys) parts.0 in
    record {
      pattern =
          both.0;
      drawing = both.1;
      room = fits (ltb (length o) (devices (drawing_in xs))) refl parts.1;
      written = a.1;
    }
  where
    fits : (b : Bool) → ltb (length o) (devices (drawing_in xs)) ≡ b → cond {A = ℕ} b 15 0 ≡ 0 → devices (drawing_in xs) ≤ length o
    fits true e h = absurd (omega arith)
    fits false e h = ltb-false (length o) (devices (drawing_in xs)) e

-- nothing else turns it back
pub answers_unless_refused : {xs ys : List ℕ} {r : Result (Option ℕ) Refusal} {o z : List ℕ} → MatchSays xs ys r o z
    → drawing_refusal xs ≡ 0 → drawing_refusal ys ≡ 0 → devices (drawing_in xs) ≤ length o → Answered xs ys r o z
unfolding MatchSays MatchAs
answers_unless_refused {xs} {ys} {r} {o} {z} m p d h =
    record {
      pattern =
          p;
      drawing = d;
      room = h;
      written = rw (match_answered xs ys o (first_none (drawing_refusal xs) _ p ∙ d) h) at m;
    }

module _ {xs ys : List ℕ} {r : Result (Option ℕ) Refusal} {o z : List ℕ} (a : Answered xs ys r o z) where
  simple : Simple (drawing_in xs)
  simple = accepted_simple xs a.pattern

  -- THE BYTES WRITTEN are a map that comes before every other
  pub written_map : (n : ℕ) → r ≡ Ok (Some n)
      → (f : List ℕ) × Found (drawing_in xs) (drawing_in ys) f × (n ≡ length f) × (n ≡ devices (drawing_in xs)) × (z ≡ in_front f o)
  written_map n e = go (least_map (drawing_in xs) (drawing_in ys)) refl a.written
    where
      go : (l : maybe.Option (List ℕ)) → least_map (drawing_in xs) (drawing_in ys) ≡ l → MapWritten l r o z
          → (f : List ℕ) × Found (drawing_in xs) (drawing_in ys) f × (n ≡ length f) × (n ≡ devices (drawing_in xs)) × (z ≡ in_front f o)
      go none q w = let s = w.answer in let c : ◌≡◌ {A = ℕ} 0 1 = cc in absurd (omega arith)
      go (some f) q w =
          let found = least_map_found (drawing_in xs) (drawing_in ys) f simple.ends q in
          let s = w.answer in
          let same : n ≡ length f = cc in
          (f, found, same, same ∙ (embedding_from_test (drawing_in xs) (drawing_in ys) f found.maps).size, w.output)

  -- CONTAINED, or not
  pub map_if_contained : contains (drawing_in xs) (drawing_in ys) ≡ true → r ≡ Ok (Some (devices (drawing_in xs)))
  unfolding contains is_some
  map_if_contained h = go (least_map (drawing_in xs) (drawing_in ys)) refl a.written
    where
      go : (l : maybe.Option (List ℕ)) → least_map (drawing_in xs) (drawing_in ys) ≡ l → MapWritten l r o z
          → r ≡ Ok (Some (devices (drawing_in xs)))
      go none q w = absurd (true_and_false h (ap is_some q))
      go (some f) q w =
          w.answer
          ∙ ap (λ (k : ℕ). Ok (Some k))
          (embedding_from_test (drawing_in xs) (drawing_in ys) f
          (least_map_found (drawing_in xs) (drawing_in ys) f simple.ends q).maps).size

  pub contained_if_map : (n : ℕ) → r ≡ Ok (Some n) → contains (drawing_in xs) (drawing_in ys) ≡ true
  unfolding contains is_some
  contained_if_map n e = go (least_map (drawing_in xs) (drawing_in ys)) refl a.written
    where
      go : (l : maybe.Option (List ℕ)) → least_map (drawing_in xs) (drawing_in ys) ≡ l → MapWritten l r o z → is_some l ≡ true
      go none q w = let s = w.answer in let c : ◌≡◌ {A = ℕ} 0 1 = cc in absurd (omega arith)
      go (some f) q w = refl

  -- NO MAP
  pub no_map_if_none : r ≡ Ok None → (g : List ℕ) → maps_into (drawing_in xs) (drawing_in ys) g ≡ true → ⊥
  no_map_if_none e g t =
      let m = embedding_from_test (drawing_in xs) (drawing_in ys) g t in
      let s = map_if_contained (contains_from_embedding (drawing_in xs) (drawing_in ys) g simple.ends m) in
      let c : ◌≡◌ {A = ℕ} 0 1 = cc in
      omega arith

  pub none_if_no_map : ((g : List ℕ) → maps_into (drawing_in xs) (drawing_in ys) g ≡ true → ⊥) → r ≡ Ok None
  none_if_no_map n = go (least_map (drawing_in xs) (drawing_in ys)) refl a.written
    where
      go : (l : maybe.Option (List ℕ)) → least_map (drawing_in xs) (drawing_in ys) ≡ l → MapWritten l r o z → r ≡ Ok None
      go none q w = w.answer
      go (some f) q w = absurd (n f (least_map_found (drawing_in xs) (drawing_in ys) f simple.ends q).maps)

-- SAMENESS of two accepted drawings: yes exactly if they are the same, no exactly if not
yes_or_no : {r : Result Bool Refusal} → r ≡ Ok true → r ≡ Ok false → ⊥
yes_or_no y n = let c : ◌≡◌ {A = ℕ} 0 1 = cc in omega arith

module _ (xs ys : List ℕ) (r : Result Bool Refusal) (ok_x : drawing_refusal xs ≡ 0) (ok_y : drawing_refusal ys ≡ 0)
    (says : SameSays xs ys r) where
  told : {A : Type 0} → (r ≡ Ok true → Same (drawing_in xs) (drawing_in ys) → A)
      → (r ≡ Ok false → (Same (drawing_in xs) (drawing_in ys) → ⊥) → A) → A
  unfolding SameSays SameAs
  told same differ =
      ⊎_elim (λ a. same a.0 a.1) (λ a. differ a.0 a.1)
      (rw (first_none (drawing_refusal xs) (drawing_refusal ys) ok_x, ok_y) at says)

  pub same_if_yes : r ≡ Ok true → Same (drawing_in xs) (drawing_in ys)
  same_if_yes e = told (λ y s. s) (λ n d. absurd (yes_or_no e n))

  pub yes_if_same : Same (drawing_in xs) (drawing_in ys) → r ≡ Ok true
  yes_if_same s = told (λ y t. y) (λ n d. absurd (d s))

  pub differ_if_no : r ≡ Ok false → Same (drawing_in xs) (drawing_in ys) → ⊥
  differ_if_no e s = yes_or_no (yes_if_same s) e

  pub no_if_differ : (Same (drawing_in xs) (drawing_in ys) → ⊥) → r ≡ Ok false
  no_if_differ d = told (λ y s. absurd (d s)) (λ n e. n)

  -- two drawings are the same if the first is contained in the second with n and m equal
  pub yes_is_contained : r ≡ Ok true
      → (contains (drawing_in xs) (drawing_in ys) ≡ true) × (devices (drawing_in xs) ≡ devices (drawing_in ys))
      × (length (drawing_in xs).cables ≡ length (drawing_in ys).cables)
  yes_is_contained e =
      same_contained (drawing_in xs) (drawing_in ys) (accepted_simple xs ok_x) (accepted_simple ys ok_y) (same_if_yes e)

  pub contained_is_yes : contains (drawing_in xs) (drawing_in ys) ≡ true → devices (drawing_in xs) ≡ devices (drawing_in ys)
      → length (drawing_in xs).cables ≡ length (drawing_in ys).cables → r ≡ Ok true
  contained_is_yes h n m =
      yes_if_same (contained_is_same (drawing_in xs) (drawing_in ys) (accepted_simple xs ok_x) (accepted_simple ys ok_y) h n m)
