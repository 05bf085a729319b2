-- Lent bytes after a call. Assumes nothing: these are definitions.
use Rattle.std.specs.Prelude.{List, ◌++◌, ℕ, length, drop}

-- LENT BYTES past an answer keep their content
abbrev pub in_front : (new old : List ℕ) → List ℕ
in_front new old = new ++ drop (length new) old
