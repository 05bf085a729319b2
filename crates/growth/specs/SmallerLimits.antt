-- Two size limits: the list of a family with the smaller one is that with the greater, without the entries of more cables. Figures and order stay.
-- Catalogues and books are such lists. Rests on FamilyLists. Assumes nothing.
use Rattle.std.specs.Prelude.{◌≡◌, Bool, true, List, ◌++◌, map, ℕ, ◌≤◌, leb, length, get_or}
use Rattle.std.proofs.Common.{sym, ap, ◌∙◌, arith, le-leb, leb-true}
use Rattle.std.proofs.lemmas.List.{length-map}
use Rattle.laws.specs.Lists.{Mem, concat}
use Rattle.laws.specs.Passing.{passing, passing_has, passing_from, passing_rises, passing_map}
use Rattle.laws.specs.Rows.{rows, rows_concat}
use Rattle.graphs.specs.Drawing.{Drawing, is_pattern}
use Rattle.graphs.specs.Graph.{Simple}
use Rattle.graphs.specs.Patterns.{pattern_from_test}
use Rattle.codes.specs.Code.{Rec, before_by, LeastBy}
use Rattle.codes.specs.CodeOrder.{LabelOrder}
use Rattle.codes.specs.FullCode.{coded_from_test, coded_length}
use Rattle.growth.specs.Sizes.{entry_size}
use Rattle.growth.specs.Catalogue.{
  Entry,
  entry,
  EntryOf,
  ListOf,
  few_cables,
  entries_within,
  entry_bytes,
  all_bytes,
  entries_up_to,
  Figures,
}
use Rattle.growth.specs.FamilyLists.{list_unique}
use Rattle.growth.specs.EntryLaws.{entries_sized}

module _ (labels : Rec → Rec → Bool) (Wanted : Drawing → Type 0) (figure : Drawing → Figures) {l m : ℕ} (low : l ≤ m) where
  -- THE ENTRIES OF AT MOST l CABLES are the list with limit l
  pub list_within : (es : List Entry) → ListOf labels Wanted figure m es → ListOf labels Wanted figure l (entries_within l es)
  list_within es a =
      record {
        rise = rw (passing_map (λ (e : Entry). e.code) (λ rs. leb (length rs) l) es) at
            (passing_rises (λ (rs : List Rec). leb (length rs) l) (before_by labels) (map (λ e. e.code) es) a.rise);
        sound = sound;
        whole = whole;
      }
    where
      sound : (e : Entry) → Mem e (entries_within l es) → EntryOf labels Wanted figure l e
      sound e h =
          let k = passing_from (few_cables l) es h in
          let g = a.sound e k.0 in
          record {
            pattern = g.pattern;
            is_one = g.is_one;
            least = g.least;
            size = leb-true (length e.code) l k.1;
            figures_are = g.figures_are;
            wanted = g.wanted;
          }

      whole :
          (p : Drawing) (rs : List Rec) → is_pattern p ≡ true → length p.cables ≤ l → Wanted p → LeastBy labels p rs
          → Mem (entry (figure p) rs) (entries_within l es)
      whole p rs k n q c =
          let simple : Simple p = (pattern_from_test p k).simple in
          passing_has (few_cables l) es (a.whole p rs k (omega (arith, low)) q c)
          (le-leb (length rs) l (omega (arith, coded_length p simple rs (coded_from_test p simple rs c.code))))

  -- AND IT HAS NO OTHER
  pub list_smaller : LabelOrder labels → (es gs : List Entry) → ListOf labels Wanted figure l es → ListOf labels Wanted figure m gs
      → es ≡ entries_within l gs
  list_smaller o es gs a b = list_unique labels o Wanted figure l es (entries_within l gs) a (list_within gs b)

-- AS BYTES, whatever stands behind them
pub entry_bytes_within : (l : ℕ) (es : List Entry) (rest : List ℕ) → ((e : Entry) → Mem e es → length e.code ≤ 8)
    → entries_up_to l (length es) (all_bytes es ++ rest) ≡ all_bytes (entries_within l es)
unfolding all_bytes entry_bytes
entry_bytes_within l es rest h =
    ap (λ (rs : List (List ℕ)). concat (passing (λ (r : List ℕ). leb (get_or r 0 0) l) rs)) cut
    ∙ ap concat (passing_map entry_bytes (λ (r : List ℕ). leb (get_or r 0 0) l) es)
  where
    cut : rows entry_size (length es) (concat (map entry_bytes es) ++ rest) ≡ map entry_bytes es
    cut =
        ap (λ (n : ℕ). rows entry_size n (concat (map entry_bytes es) ++ rest)) (sym (length-map es entry_bytes))
        ∙ rows_concat entry_size (map entry_bytes es) rest (entries_sized es h)
