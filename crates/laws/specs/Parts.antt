-- A part of a list. Assumes nothing: these are definitions.
use Rattle.std.specs.Prelude.{List, ℕ, ◌-◌, take, drop}

-- the elements from `from` up to `to`
abbrev pub part : (from to : ℕ) → List ℕ → List ℕ
part a b xs = take (b - a) (drop a xs)
