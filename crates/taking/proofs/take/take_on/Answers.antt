-- `take::take_on` meets its contract: an entry that is listed goes on, unless it is as large as the limit. Assumes nothing.
use Rattle.std.proofs.Common.{refl, eq-eqb, ne_eqb}
use Rattle.codes.specs.CodeBytes.{recs_in_length}
use Rattle.taking.specs.declared.take.Taken.TheVariants.{Listed}
use Rattle.taking.proofs.take.take_on.Goals as goal

pub returns-in-Listed : goal.returns-in-Listed
returns-in-Listed c =
    record {
      taken = Listed;
      told = c.in-Listed.ensures;
      is = rw (recs_in_length c.args.cables c.args.code.now, eq-eqb _ _ c.if-cables-limit.true) refl;
    }

pub returns-in-Listed-2 : goal.returns-in-Listed-2
returns-in-Listed-2 c =
    record {
      taken = Listed;
      told = c.in-Listed-2.ensures;
      is = rw (recs_in_length c.args.cables c.args.code.now, ne_eqb _ _ c.if-cables-limit.false) refl;
    }
