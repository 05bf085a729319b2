-- `decode::write_drawing` meets its contract: over zeros, a lone device or what the records draw. Assumes nothing.
use Prim.Native.Nat.{ℕ}
use mathlib.Core.Path.{ap, sym, ◌∙◌}
use lib.ListN.{replicate}
use Rattle.decoding.specs.Decoding.{write_device}
use Rattle.decoding.specs.DecodingLaws.{lone_written, decoded_lone}
use Rattle.decoding.proofs.decode.write_drawing.Goals as goal

pub returns-then-is_lone : goal.returns-then-is_lone
returns-then-is_lone c =
    let kind = c.at-only.result.ki in
    let zeros = c.clear.ensures ∙ ap (λ (n : ℕ). replicate n 0) c.requires.room in
    c.write_device.ensures ∙ ap (write_device 0 kind) zeros ∙ lone_written kind
    ∙ decoded_lone _ c.requires.accepted _ (sym c.is_lone.ensures ∙ c.if-is_lone.true) c.at-only.ensures
