-- Pieces put one behind the other are one piece; and what is put from the first byte on, with room for all of it, stands in
-- front. Assumes nothing.
use Rattle.std.specs.Prelude.{◌≡◌, refl, Bool, true, false, cond, List, [], ◌∷◌, ◌++◌, Option, Some, None, ℕ, ◌+◌, ◌≤◌, ◌<◌, ltb, length, drop, set}
use Rattle.std.proofs.Common.{sym, ap, ap₂, ◌∙◌, subst, add-zero, zero-add, add-one, arith, lt-ltb, le-ltb, ltb-true}
use Rattle.std.proofs.Math.Decide.{dec_le}
use Rattle.std.proofs.lemmas.List.Edits.{sets, sets-eq}
use Rattle.std.proofs.Math.Seq.{set_out}
use Rattle.laws.specs.Lent.{in_front}
use Rattle.text_lines.specs.declared.place.Place.{Place}
use Rattle.text_lines.specs.Writing.{place_at, next_place, put_at, place_behind, laid, Wrote}

-- NOTHING
pub wrote_none : (t : List ℕ) (p : Option Place) → Wrote t p [] p t
unfolding place_behind laid
wrote_none t p = record { place = refl; bytes = refl }

-- ONE BYTE: past the room, at its end, and within it, where a byte outside of the lent ones changes nothing
pub wrote_past : (t : List ℕ) (b : ℕ) → Wrote t None (b ∷ []) None t
unfolding place_behind laid
wrote_past t b = record { place = refl; bytes = refl }

module _ (t : List ℕ) (k n b : ℕ) where
  pub wrote_full : n ≤ k → Wrote t (place_at k n) (b ∷ []) None t
  unfolding place_behind laid
  wrote_full h = record { place = rw (le-ltb k n h); bytes = rw (le-ltb k n h) }

  pub wrote_byte : k < n → Wrote t (place_at k n) (b ∷ []) (place_at (k + 1) n) (set t k b)
  unfolding place_behind laid
  wrote_byte h = record { place = rw (lt-ltb k n h); bytes = rw (lt-ltb k n h) }

  pub wrote_outside : k < n → length t ≤ k → Wrote t (place_at k n) (b ∷ []) (place_at (k + 1) n) t
  unfolding place_behind laid
  wrote_outside h l = record { place = rw (lt-ltb k n h); bytes = rw (lt-ltb k n h) (sym (set_out t k b l)) }

-- ONE PIECE BEHIND ANOTHER
place_append : (p : Option Place) (xs ys : List ℕ) → place_behind (place_behind p xs) ys ≡ place_behind p (xs ++ ys)
unfolding place_behind
place_append p [] ys = refl
place_append p (x ∷ xs) ys = place_append (next_place p) xs ys

laid_append : (t : List ℕ) (p : Option Place) (xs ys : List ℕ) → laid (laid t p xs) (place_behind p xs) ys ≡ laid t p (xs ++ ys)
unfolding place_behind laid
laid_append t p [] ys = refl
laid_append t p (x ∷ xs) ys = laid_append (put_at t p x) (next_place p) xs ys

pub wrote_then : {t t₁ t₂ xs ys : List ℕ} {p q r : Option Place} → Wrote t p xs q t₁ → Wrote t₁ q ys r t₂ → Wrote t p (xs ++ ys) r t₂
wrote_then {t} {t₁} {t₂} {xs} {ys} {p} {q} {r} v w =
    record {
      place = w.place ∙ ap (λ (a : Option Place). place_behind a ys) v.place ∙ place_append p xs ys;
      bytes = w.bytes ∙ ap₂ (λ (l : List ℕ) (a : Option Place). laid l a ys) v.bytes v.place ∙ laid_append t p xs ys;
    }

-- and past the room nothing more is put
none_behind : (bs : List ℕ) → place_behind None bs ≡ None
unfolding place_behind
none_behind [] = refl
none_behind (b ∷ bs) = none_behind bs

none_laid : (t bs : List ℕ) → laid t None bs ≡ t
unfolding laid
none_laid t [] = refl
none_laid t (b ∷ bs) = none_laid t bs

pub wrote_cut : {t t₁ xs : List ℕ} {p r : Option Place} (ys : List ℕ) → r ≡ None → Wrote t p xs None t₁ → Wrote t p (xs ++ ys) r t₁
wrote_cut {t} {t₁} ys e v = wrote_then v (record { place = e ∙ sym (none_behind ys); bytes = sym (none_laid t₁ ys) })

-- the same piece
pub wrote_as : {t t₁ xs ys : List ℕ} {p q : Option Place} → xs ≡ ys → Wrote t p xs q t₁ → Wrote t p ys q t₁
wrote_as {t} {t₁} {xs} {ys} {p} {q} e w = subst (λ (l : List ℕ). Wrote t p l q t₁) e w

-- WITH ROOM FOR ALL
place_within : (bs : List ℕ) (k n : ℕ) → k + length bs ≤ n → place_behind (place_at k n) bs ≡ place_at (k + length bs) n
unfolding place_behind
place_within [] k n h = ap (λ (m : ℕ). place_at m n) (sym (add-zero k))
place_within (b ∷ bs) k n h =
    rw (lt-ltb k n (omega arith))
    (place_within bs (k + 1) n (omega arith) ∙ ap (λ (m : ℕ). place_at m n) (omega arith))

laid_within : (bs t : List ℕ) (k n : ℕ) → k + length bs ≤ n → laid t (place_at k n) bs ≡ sets t k bs
unfolding laid
laid_within [] t k n h = refl
laid_within (b ∷ bs) t k n h =
    rw (lt-ltb k n (omega arith))
    (laid_within bs (set t k b) (k + 1) n (omega arith) ∙ ap (λ (m : ℕ). sets (set t k b) m bs) (add-one k))

-- WITHOUT
place_without : (bs : List ℕ) (k n : ℕ) → k ≤ n → n < k + length bs → place_behind (place_at k n) bs ≡ None
unfolding place_behind
place_without [] k n g h = absurd (omega arith)
place_without (b ∷ bs) k n g h = go (ltb k n) refl (λ l. place_without bs (k + 1) n (omega arith) (omega arith))
  where
    go :
        (x : Bool) → ltb k n ≡ x → (k < n → place_behind (place_at (k + 1) n) bs ≡ None)
        → place_behind (cond x (place_at (k + 1) n) None) bs ≡ None
    go true e r = r (ltb-true k n e)
    go false e r = none_behind bs

-- FROM THE FIRST BYTE ON, with room for n
byte_of : Option Place → ℕ
byte_of (Some p) = p.at
byte_of None = 0

module _ (bs : List ℕ) (n : ℕ) where
  pub past_long : place_behind (place_at 0 n) bs ≡ None → n < length bs
  past_long e = go (dec_le (length bs) n)
    where
      go : Dec (length bs ≤ n) → n < length bs
      go (yes h) = absurd (let z : ◌≡◌ {A = ℕ} 0 1 = cc (place_within bs 0 n (omega arith)) in omega arith)
      go (no h) = omega arith

  pub at_short : (k m : ℕ) → place_behind (place_at 0 n) bs ≡ place_at k m → length bs ≤ n
  at_short k m e = go (dec_le (length bs) n)
    where
      go : Dec (length bs ≤ n) → length bs ≤ n
      go (yes h) = h
      go (no h) = absurd (let z : ◌≡◌ {A = ℕ} 0 1 = cc (place_without bs 0 n (omega arith) (omega arith)) in omega arith)

  pub at_count : (k m : ℕ) → place_behind (place_at 0 n) bs ≡ place_at k m → k ≡ length bs
  unfolding byte_of
  at_count k m e =
      let f : k ≡ 0 + length bs = ap byte_of (sym e ∙ place_within bs 0 n (omega (arith, at_short k m e))) in
      omega arith

pub laid_in_front : (bs t : List ℕ) → length bs ≤ length t → laid t (place_at 0 (length t)) bs ≡ in_front bs t
laid_in_front bs t h =
    laid_within bs t 0 (length t) (omega arith) ∙ sets-eq bs t 0 (omega arith) ∙ ap (λ (m : ℕ). bs ++ drop m t) (zero-add (length bs))
