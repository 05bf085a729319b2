-- A packed number tells its refusal, its count and its drawing. Assumes nothing.
use Rattle.std.specs.Prelude.{◌≡◌, ℕ, ◌/◌, ◌%◌, ◌<◌}
use Rattle.std.proofs.Common.{arith}
use Rattle.answer_numbers.specs.Packed.{packed}

-- TAKEN APART AGAIN: the low 32 bits, the 8 above them, and the rest
pub record Tells (x refusal count drawing : ℕ) : Type 0 where
  pub count_in : x % 4294967296 ≡ count
  pub refusal_in : x / 4294967296 % 256 ≡ refusal
  pub drawing_in : x / 1099511627776 ≡ drawing

pub packed_tells : (n c d : ℕ) → n < 256 → c < 4294967296 → Tells (packed n c d) n c d
packed_tells n c d h g = record { count_in = omega arith; refusal_in = omega arith; drawing_in = omega arith }
