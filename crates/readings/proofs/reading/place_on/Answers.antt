-- `reading::place_on` meets its contract: the last place where the device stands, or none. Assumes nothing.
use Rattle.std.proofs.Common.{◌≡◌, ℕ, refl, arith, Option, Some, None}
use Rattle.std.proofs.lemmas.Grind.{common_steps}
use Rattle.readings.specs.Readings.{PlaceSays}
use Rattle.readings.specs.PathLaws.{place_last, place_missing}
use Rattle.readings.proofs.reading.place_on.Goals as goal

pub returns : goal.returns
unfolding PlaceSays
returns c = told c.rposition.result refl
  where
    told : (r : Option ℕ) → c.rposition.result ≡ r → PlaceSays c.args.count c.args.path.now c.args.device r
    told None e =
        place_missing c.args.count c.args.path.now c.args.device (omega arith) (λ k l s. grind (arith, common_steps))
    told (Some q) e =
        place_last c.args.count c.args.path.now c.args.device (omega arith) q (grind (arith, common_steps)) (grind (arith, common_steps))
        (λ k l g s. grind (arith, common_steps))
