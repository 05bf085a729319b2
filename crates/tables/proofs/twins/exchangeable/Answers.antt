-- `twins::exchangeable` meets its contract: every third device sees both alike, and they see each other alike. Assumes nothing.
use Rattle.std.proofs.Common.{◌≡◌, ℕ, ◌≤◌, ◌<◌, sym, ◌∙◌, arith, rules, eqb-true}
use Rattle.std.proofs.lemmas.Bool.{false≢true}
use Rattle.laws.specs.Decides.{Decides}
use Rattle.codes.specs.BranchState.{label_at}
use Rattle.codes.specs.Twins.{Alike, Exchangeable}
use Rattle.tables.specs.RangeTests.{decides_all}
use Rattle.tables.proofs.twins.exchangeable.Goals as goal
use Rattle.tables.proofs.twins.exchangeable.Goals.{After-all, then-alike, else-alike}

between : (c : After-all) → let a = c.args in label_at a.table.now a.u a.v ≡ label_at a.table.now a.v a.u
between c =
    elim c.if-alike.branch [
      | then-alike w ↦ sym w.label.ensures ∙ eqb-true _ _ (sym w.value-is ∙ c.if-label.true) ∙ w.label-then-alike.ensures
      | else-alike w ↦ absurd (false≢true (sym w.if-alike.false ∙ sym w.value-is ∙ c.if-label.true))
    ]

told :
    (c : After-all)
    → let a = c.args in
    Decides c.all.result ((w : ℕ) → 0 ≤ w → w < 10 → Alike a.table.now a.u a.v w) → Decides c.all.result (Exchangeable a.table.now a.u a.v)
told c d =
    record {
      holds = λ e.
          record { u_low = c.requires.0; v_low = c.requires.1; apart = λ w h. d.holds e w (omega arith) h; between = between c };
      fails = λ e x. d.fails e (λ w g h. x.apart w h);
    }

pub returns-then-label : goal.returns-then-label
returns-then-label c =
    told c (decides_all (Alike c.args.table.now c.args.u c.args.v) (λ x b q k. search rules) c.all.ensures.ran)
