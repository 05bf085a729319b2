-- `least::is_least` meets its contract: a lone device's code is least, and an accepted DFS code parts from the least one where its starts tell.
-- Assumes nothing.
use mathlib.Core.Path.{◌≡◌, refl, sym, ◌∙◌}
use mathlib.Core.Bool.{true≢false}
use native.Mathlib.Omega.{arith}
use Rattle.codes.specs.SectionCode.{section_code_refusal}
use Rattle.std.proofs.Common.{List, ℕ, Ok, Err, rules}
use Rattle.records.specs.declared.refusal.Refusal.{Refusal}
use Rattle.code_checks.specs.SectionChecks.{section_code_checked}
use Rattle.code_checks.specs.SectionCheckLaws.{section_checked_accepted, steps_accepted}
use Rattle.tables.specs.CodeRows.{code_ten}
use Rattle.tables.specs.TableOfCode.{ByteCode}
use Rattle.coding.specs.LeastSays.{LeastSays}
use Rattle.coding.specs.LeastSaysLaws.{lone_told, dfs_told}
use Rattle.coding.proofs.least.is_least.Goals as goal
use Rattle.coding.proofs.least.is_least.Goals.{Else-is_lone, In_ok-check_code}

-- the code is accepted
accepted : (c : In_ok-check_code) → section_code_checked c.args.code.now ≡ Ok tt
accepted c = sym c.check_code.ensures ∙ c.in_ok-check_code.was

fine : (c : In_ok-check_code) → section_code_refusal c.args.code.now ≡ 0
fine c = section_checked_accepted c.args.code.now (accepted c)

-- and no lone device's
known : (c : Else-is_lone) → section_code_refusal c.args.code.now ≡ 0 → ByteCode c.args.code.now
known c f =
    record {
      bytes = λ i. omega (arith, c.type_inv.code i);
      accepted = steps_accepted c.args.code.now f (sym c.is_lone.ensures ∙ c.if-is_lone.false);
    }

-- a refused code is told as it is
turned_back : (bs : List ℕ) (x : Refusal) → section_code_checked bs ≡ Err x → LeastSays bs (Err x)
turned_back bs x e = rw e

pub returns-in_err-check_code : goal.returns-in_err-check_code
returns-in_err-check_code c =
    let told = turned_back _ _ (sym c.check_code.ensures ∙ c.in_err-check_code.was) in
    search (rules, told)

pub returns-then-is_lone : goal.returns-then-is_lone
returns-then-is_lone c =
    let a = (goal.at.returns-then-is_lone c).In_ok-check_code in
    rw (accepted a, c.verdict.ensures) (lone_told _ (fine a) (sym c.is_lone.ensures ∙ c.if-is_lone.true))

pub labels_of_code-table-requires : goal.labels_of_code-table-requires
labels_of_code-table-requires c =
    let at = goal.at.labels_of_code-table-requires c in
    (known at.Else-is_lone (fine at.In_ok-check_code)).accepted

pub first_of_starts-agreement-requires : goal.first_of_starts-agreement-requires
first_of_starts-agreement-requires c =
    let at = goal.at.first_of_starts-agreement-requires c in
    let k = known at.Else-is_lone (fine at.In_ok-check_code) in (
      record {
        tabled = record { accepted = k.accepted; labels = c.labels_of_code-table.ensures };
        records = omega arith;
        within = code_ten _ k.accepted;
        most = omega arith;
      },
      refl,
      λ e. absurd (true≢false e),
      c.twins_of-twins.ensures,
    )

pub returns : goal.returns
returns c =
    let at = goal.at.returns c in
    rw (accepted at.In_ok-check_code)
    (dfs_told (known at.Else-is_lone (fine at.In_ok-check_code)) _ c.first_of_starts-agreement.ensures c.verdict-2.ensures)
