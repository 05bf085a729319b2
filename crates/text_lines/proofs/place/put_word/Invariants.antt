-- `place::put_word` meets its contract. The invariant: the word's bytes in front of the next one are put. Assumes nothing.
use Rattle.std.proofs.Common.{Some, take}
use Rattle.text_lines.specs.Writing.{Wrote}
use Rattle.text_lines.proofs.place.put_word.Given as goal

abbrev pub invariant-loop-byte : goal.invariant-loop-byte
invariant-loop-byte l = Wrote l.initial.text (Some l.initial.next) (take l.byte-index l.word) (Some l.next) l.text
