-- `entry::put_entry` meets its contract: the part that was lent is back in its place. Assumes nothing.
use mathlib.Core.Path.{ap, ◌∙◌}
use mathlib.Core.List.{List}
use Prim.Native.Nat.{ℕ}
use Rattle.laws.specs.PutRecords.{put_record}
use Rattle.laws.specs.PutRecordLaws.{put_part}
use Rattle.growth.specs.Sizes.{entry_size}
use Rattle.entries.proofs.entry.put_entry.Goals as goal

pub returns : goal.returns
returns c =
    let a = c.args in
    let w = c.write_entry in
    put_part entry_size a.k w.new.output a.output.now
    ∙ ap (λ (r : List ℕ). put_record entry_size a.k r a.output.now) w.ensures
