-- Entries are read back from bytes as they were written, one by one. Rests on records of any size. Assumes nothing.
use Rattle.std.specs.Prelude.{◌≡◌, ℕ, ◌≤◌, ◌<◌, get_or}
use Rattle.std.proofs.Math.Path.{ap}
use Rattle.std.proofs.Common.{◌∙◌}
use mathlib.Core.List.{List, [], ◌++◌, map}
use Rattle.std.proofs.Math.ListN.{length, get_or-map}
use Rattle.std.proofs.lemmas.List.{length-map}
use Rattle.laws.specs.Lists.{Mem, mem_at, get_d_default}
use Rattle.laws.specs.Rows.{row, row_concat}
use Rattle.growth.specs.Sizes.{entry_size}
use Rattle.growth.specs.Catalogue.{Entry, entry_bytes, all_bytes}
use Rattle.growth.specs.FamilyLists.{entry_eq}
use Rattle.growth.specs.EntryLaws.{entry_figures, entry_records, entries_sized}
use Rattle.demands.specs.Terms.{entry_of, entry_in}

-- WRITING, THEN READING
pub entry_of_bytes : (e : Entry) → length e.code ≤ 8 → entry_of (entry_bytes e) ≡ e
unfolding entry_of
entry_of_bytes e few = entry_eq _ e (entry_figures e few) (entry_records e)

-- ENTRIES of at most 8 records put together, whatever follows
module _ (es : List Entry) (few : (e : Entry) → Mem e es → length e.code ≤ 8) (rest : List ℕ) (none : Entry) (k : ℕ) (h : k < length es) where
  pub bytes_at : row entry_size k (all_bytes es ++ rest) ≡ entry_bytes (get_or es k none)
  unfolding all_bytes
  bytes_at =
      let below : k < length (map entry_bytes es) = rw (length-map es entry_bytes) h in
      row_concat entry_size (map entry_bytes es) rest k (entries_sized es few) below
      ∙ get_d_default (map entry_bytes es) k [] (entry_bytes none) below
      ∙ get_or-map entry_bytes es k none

  pub entry_at : entry_in k (all_bytes es ++ rest) ≡ get_or es k none
  unfolding entry_in
  entry_at = ap entry_of bytes_at ∙ entry_of_bytes (get_or es k none) (few (get_or es k none) (mem_at none es k h))
