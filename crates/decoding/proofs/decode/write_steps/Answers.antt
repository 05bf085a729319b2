-- `decode::write_steps` meets its contract: each record names a device that may be, and draws the next cable. Assumes nothing.
use Rattle.std.proofs.Common.{◌∙◌, ◌<◌, sym, ap, ap₂, arith, length, subst}
use Rattle.codes.specs.Code.{Rec}
use Rattle.decoding.specs.Decoding.{write_record}
use Rattle.decoding.specs.DecodingLaws.{code_few, decoded_next, decoded_device}
use Rattle.decoding.proofs.decode.write_steps.Goals as goal

pub write_record-requires : goal.write_record-requires
write_record-requires c =
    let l = c.loop-k in
    record {
      few = code_few c.args.code.now c.requires.accepted l.k (omega arith);
      device =
          subst (λ (e : Rec). e.i < e.j → e.j < 10) (sym c.at.ensures) (decoded_device c.args.code.now c.requires.accepted l.k (omega arith));
      room = l.auto.drawing ∙ ap length c.requires.zeros;
    }

pub loop-k-preserved : goal.loop-k-preserved
loop-k-preserved c =
    let l = c.loop-k in
    c.write_record.ensures ∙ ap₂ (λ e d. write_record l.k e d) c.at.ensures l.invariant
    ∙ decoded_next c.args.code.now c.requires.accepted l.k (omega arith)
