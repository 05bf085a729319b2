-- The settings of a catalogue that have a name. Assumes nothing: these are definitions.
use Rattle.std.specs.Prelude.{ℕ}

-- the threshold s and the size limit L
pub record Setting : Type 0 where
  pub threshold : ℕ
  pub limit : ℕ

-- USUAL: what drawings of at least two cranes contain, up to six cables
abbrev pub usual : Setting
usual = record { threshold = 2; limit = 6 }

-- FORMER: what was usual before, up to four; lists that were made so are in use
abbrev pub former : Setting
former = record { threshold = 2; limit = 4 }
