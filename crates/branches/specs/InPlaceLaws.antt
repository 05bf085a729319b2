-- A branch in lent arrays: the places of its path, the branches that it leads to, and numbers taken back. Rests on BranchBounds.
-- Assumes nothing.
use Rattle.std.specs.Prelude.{◌≡◌, refl, Bool, true, false, List, ℕ, suc, ◌+◌, ◌<◌, length, get_or, set}
use Rattle.std.proofs.Common.{sym, ap, ◌∙◌, arith, set-set}
use Rattle.std.proofs.lemmas.List.{set-get_or}
use Rattle.codes.specs.BranchState.{State, with_chord, with_edge}
use Rattle.codes.specs.BranchBounds.{Bounds}
use Rattle.branches.specs.declared.branch.Displaced.{Displaced}
use Rattle.branches.specs.Branches.{
  in_place,
  chorded,
  OnPath,
  Places,
  SameArrays,
  NumberGiven,
  NumberTaken,
}

-- THE PLACES of the path have numbers and devices
pub places_at : {numbers path : List ℕ} {count : ℕ} → Places numbers path count → (q : ℕ) → q < count → OnPath numbers path q
places_at p q h = (omega (arith, p.count_low), p.on_path q h, p.lands q h)

pub bounds_places : (b : State) → Bounds b → Places b.numbers b.path b.count
bounds_places b k =
    record {
      count_low = omega (arith, k.count_low, k.given_low);
      on_path = λ q h. omega (arith, k.on_path q h, k.given_low);
      lands = λ q h. k.lands (get_or b.path q 0) (k.on_path q h);
    }

-- THE BRANCH that a backward record leads to
pub chorded_is : (b : State) (q j : ℕ) → get_or b.path q 0 ≡ j → with_chord b q ≡ chorded b j
chorded_is b q j e =
    let z : suc (get_or b.path q 0) ≡ j + 1 = omega arith in
    ap (λ (l : ℕ). in_place b.numbers b.used b.path b.count b.given l) z

-- NUMBERS GIVEN AND TAKEN BACK
pub all_same : {numbers path : List ℕ} {used : List Bool} → SameArrays numbers numbers used used path path
all_same = record { numbers_same = refl; used_same = refl; path_same = refl }

put_back : (xs ys zs : List ℕ) (i v : ℕ) → ys ≡ set xs i v → xs ≡ zs → set ys i (get_or xs i 0) ≡ zs
put_back xs ys zs i v e same = ap (λ (l : List ℕ). set l i (get_or xs i 0)) e ∙ set-set xs i v (get_or xs i 0) ∙ set-get_or xs i 0 ∙ same

freed : (xs ys zs : List Bool) (w : ℕ) → ys ≡ set xs w true → xs ≡ zs → get_or zs w true ≡ false → set ys w false ≡ zs
freed xs ys zs w e same free =
    ap (λ (l : List Bool). set l w false) e ∙ set-set xs w true false ∙ ap (λ (l : List Bool). set l w false) same
    ∙ ap (set zs w) (sym free) ∙ set-get_or zs w true

-- after a branch of the program that left the arrays at these
pub joined :
    {numbers₀ numbers numbers' path₀ path path' : List ℕ} {used₀ used used' : List Bool} → SameArrays numbers₀ numbers used₀ used path₀ path
    → numbers' ≡ numbers → used' ≡ used → path' ≡ path → SameArrays numbers₀ numbers' used₀ used' path₀ path'
joined same a b c =
    record { numbers_same = a ∙ same.numbers_same; used_same = b ∙ same.used_same; path_same = c ∙ same.path_same }

module _ {numbers₀ numbers path₀ path : List ℕ} {used₀ used : List Bool} (same : SameArrays numbers₀ numbers used₀ used path₀ path) where
  pub same_place : (count given low : ℕ) → in_place numbers used path count given low ≡ in_place numbers₀ used₀ path₀ count given low
  same_place count given low =
      λ x. in_place (same.numbers_same x) (same.used_same x) (same.path_same x) count given low

  pub same_placed : (q : ℕ) → OnPath numbers₀ path₀ q × (length used₀ ≡ 10) → OnPath numbers path q × (length used ≡ 10)
  same_placed q p = rw (same.numbers_same, same.used_same, same.path_same) p

  -- the next number is given to device w, behind place q
  module _ {numbers' path' : List ℕ} {used' : List Bool} {given q w : ℕ} {was : Displaced}
      (g : NumberGiven numbers numbers' used used' path path' given q w was) where
    pub given_place :
        (count low : ℕ) → in_place numbers' used' path' (q + 2) (given + 1) 0 ≡ with_edge (in_place numbers₀ used₀ path₀ count given low) q w
    given_place count low =
        let behind : q + 1 ≡ suc q = omega arith in
        let places : q + 2 ≡ suc (suc q) = omega arith in
        let numbered : given + 1 ≡ suc given = omega arith in
        (λ x. in_place (g.numbers_set x) (g.used_set x) (g.path_set x) (q + 2) (given + 1) 0)
        ∙ (λ x.
        in_place (set (same.numbers_same x) given w) (set (same.used_same x) w true) (set (same.path_same x) (behind x) given) (places x)
        (numbered x) 0)

    -- and taken back from it, where what came in between left all as it was
    pub taken_place :
        {numbers'' numbers''' path'' path''' : List ℕ} {used'' used''' : List Bool}
        → SameArrays numbers' numbers'' used' used'' path' path'' → NumberTaken numbers'' numbers''' used'' used''' path'' path''' given q w was
        → get_or used₀ w true ≡ false → SameArrays numbers₀ numbers''' used₀ used''' path₀ path'''
    taken_place {numbers''} {path'' = path''} {used'' = used''} between t free =
        record {
          numbers_same =
              t.numbers_set ∙ ap (set numbers'' given) g.number_was
              ∙ put_back numbers numbers'' numbers₀ given w (between.numbers_same ∙ g.numbers_set) same.numbers_same;
          used_same = t.used_set ∙ freed used used'' used₀ w (between.used_same ∙ g.used_set) same.used_same free;
          path_same =
              t.path_set ∙ ap (set path'' (q + 1)) g.next_was
              ∙ put_back path path'' path₀ (q + 1) given (between.path_same ∙ g.path_set) same.path_same;
        }
