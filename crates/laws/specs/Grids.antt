-- Grids: rows of one length. A cell, and the grid with one cell set, over the size and what a cell holds. Assumes nothing.
use Rattle.std.specs.Prelude.{◌≡◌, refl, Bool, true, false, List, [], ℕ, ◌<◌, eqb, length, get_or, set, replicate}
use Rattle.std.proofs.Common.{ap, ◌∙◌, arith, eqb-true, length-set, get_or-set_same, get_or-set_other}
use Rattle.std.proofs.lemmas.Bool.{eqb-false}
use Rattle.std.proofs.lemmas.List.{length-replicate, get_or-replicate}

module _ {A : Type 0} where
  -- h rows of w cells
  pub record Grid (h w : ℕ) (rows : List (List A)) : Type 0 where
    pub high : length rows ≡ h
    pub wide : (i : ℕ) → i < h → length (get_or rows i []) ≡ w

  -- cell j of row i, d past the ends
  abbrev pub grid_cell : (rows : List (List A)) (i j : ℕ) (d : A) → A
  grid_cell rows i j d = get_or (get_or rows i []) j d

  -- the rows with that cell set
  abbrev pub grid_set : (rows : List (List A)) (i j : ℕ) (x : A) → List (List A)
  grid_set rows i j x = set rows i (set (get_or rows i []) j x)

  -- THE SAME IN EVERY CELL
  module _ (h w : ℕ) (x : A) where
    pub grid_filled : Grid h w (replicate h (replicate w x))
    grid_filled =
        record {
          high = length-replicate h (replicate w x);
          wide = λ i l. ap length (get_or-replicate h i (replicate w x) [] l) ∙ length-replicate w x;
        }

    pub filled_cell : (i j : ℕ) (d : A) → i < h → j < w → grid_cell (replicate h (replicate w x)) i j d ≡ x
    filled_cell i j d l m = ap (λ (r : List A). get_or r j d) (get_or-replicate h i (replicate w x) [] l) ∙ get_or-replicate w j x d m

  -- ONE CELL SET: it, all others, and the size
  module _ {h w : ℕ} {rows : List (List A)} (grid : Grid h w rows) (i j : ℕ) (x : A) (low : i < h) where
    -- row i, and another one
    row_same : get_or (grid_set rows i j x) i [] ≡ set (get_or rows i []) j x
    row_same = get_or-set_same rows i (set (get_or rows i []) j x) [] (omega (arith, grid.high))

    row_other : (k : ℕ) → (k ≡ i → ⊥) → get_or (grid_set rows i j x) k [] ≡ get_or rows k []
    row_other k o = get_or-set_other rows i k (set (get_or rows i []) j x) [] o

    pub grid_kept : Grid h w (grid_set rows i j x)
    grid_kept =
        record {
          high = length-set rows i (set (get_or rows i []) j x) ∙ grid.high;
          wide = λ k l. at k l (eqb k i) refl;
        }
      where
        at : (k : ℕ) → k < h → (t : Bool) → eqb k i ≡ t → length (get_or (grid_set rows i j x) k []) ≡ w
        at k l true e =
            rw (eqb-true k i e) (ap length row_same ∙ length-set (get_or rows i []) j x ∙ grid.wide i low)
        at k l false e = ap length (row_other k (eqb-false k i e)) ∙ grid.wide k l

    pub cell_same : (d : A) → j < w → grid_cell (grid_set rows i j x) i j d ≡ x
    cell_same d l =
        ap (λ (r : List A). get_or r j d) row_same ∙ get_or-set_same (get_or rows i []) j x d (omega (arith, grid.wide i low))

    pub cell_other : (k l : ℕ) (d : A) → (k ≡ i → l ≡ j → ⊥) → grid_cell (grid_set rows i j x) k l d ≡ grid_cell rows k l d
    cell_other k l d o = at (eqb k i) refl
      where
        at : (t : Bool) → eqb k i ≡ t → grid_cell (grid_set rows i j x) k l d ≡ grid_cell rows k l d
        at true e =
            let k_is : k ≡ i = eqb-true k i e in
            rw k_is (ap (λ (r : List A). get_or r l d) row_same ∙ get_or-set_other (get_or rows i []) j l x d (o k_is))
        at false e = ap (λ (r : List A). get_or r l d) (row_other k (eqb-false k i e))
