-- How many bytes an entry has, and how many numbers the tables of a search hold, each said once; a program's arrays are of these lengths.
-- Assumes nothing: these are definitions.
use Rattle.std.specs.Prelude.{ℕ, ◌+◌, ◌*◌}

-- `Entry::EXAMPLE_AT`: the example stands behind the number of cables, the support and 8 records of 5 bytes: 42
abbrev pub example_at : ℕ
example_at = 42

-- `Entry::BYTES`: it is the last byte
abbrev pub entry_size : ℕ
entry_size = 43

-- `TABLES`: 32 drawings, each with a label for every two of 10 devices, a slot for each neighbour, the end of each slot's group and the bit
-- of each label, and behind them the sheets of one crane: 12,900
abbrev pub tables_size : ℕ
tables_size = (4 * 32 + 1) * 100

-- `LABELS`: 0, which is none, and the labels 1 + 256 * cable kind + kind, so 1 to 65,536: 65,537
abbrev pub labels_size : ℕ
labels_size = 1 + 256 * 256

-- `ALPHABET`: 32 drawings, each with at most 20 cables and a label from each end: 1,280
abbrev pub alphabet_size : ℕ
alphabet_size = 32 * 40

-- `PLACES`: 16 rows of at most 1,280 labels: 20,480
abbrev pub places_size : ℕ
places_size = 16 * alphabet_size

-- `CANDIDATES`: 8 levels of the search, each with as many candidates as there are places: 163,840
abbrev pub candidates_size : ℕ
candidates_size = 8 * places_size
