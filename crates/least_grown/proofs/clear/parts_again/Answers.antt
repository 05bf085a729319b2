-- `clear::parts_again` meets its contract. Assumes nothing.
use Rattle.std.proofs.Common.{rules, ap, arith}
use Rattle.laws.specs.Rows.{row}
use Rattle.codes.specs.Code.{Rec, rec_in}
use Rattle.tables.specs.RangeTests.{decides_any}
use Rattle.least_grown.specs.ClearlyLeast.{AlikeSeen}
use Rattle.least_grown.proofs.clear.parts_again.Goals as goal

pub returns-then-r : goal.returns-then-r
returns-then-r c =
    let a = c.args in
    let r = c.at-r.ensures in
    let d = decides_any (λ t. AlikeSeen (rec_in (row 5 a.k a.code.now)) (rec_in (row 5 t a.code.now))) (λ x b q k. search rules)
    c.any.ensures.ran in
    record {
      holds = λ e.
          let w = d.holds e in
          record {
            up = omega (arith, c.if-r.true, ap (λ (x : Rec). x.i) r, ap (λ (x : Rec). x.j) r);
            at = w.k;
            above = omega (arith, w.from);
            below = w.below;
            alike = w.is;
          };
      fails = λ e x. d.fails e (record { k = x.at; from = omega (arith, x.above); below = x.below; is = x.alike });
    }
