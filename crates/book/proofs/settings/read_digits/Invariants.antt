-- What is left, behind the value so far, reads as the whole. Assumes nothing.
use Rattle.std.proofs.Common.{◌≡◌, ◌≤◌, length, ◌^◌, ◌<◌, drop}
use Rattle.book.specs.Requests.{digits_read}
use Rattle.book.proofs.settings.read_digits.Given as goal

abbrev pub invariant-loop-byte : goal.invariant-loop-byte
invariant-loop-byte l =
    (l.byte-index ≤ length l.word) × (l.value < 10 ^ l.byte-index) × (digits_read l.value (drop l.byte-index l.word) ≡ digits_read 0 l.word)
