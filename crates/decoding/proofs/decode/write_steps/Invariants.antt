-- `decode::write_steps` meets its contract. The invariant: the bytes are the record of what k records describe.
-- Assumes nothing.
use Rattle.std.proofs.Common.{◌≡◌}
use Rattle.graphs.specs.Drawing.{drawing_bytes}
use Rattle.codes.specs.Code.{recs_in, decoded}
use Rattle.decoding.proofs.decode.write_steps.Given as goal

abbrev pub invariant-loop-k : goal.invariant-loop-k
invariant-loop-k l = l.drawing ≡ drawing_bytes 0 (decoded (recs_in l.k l.code))
