-- Ties of a code's own numbering as its table of labels tells them: where there is none, no record could go to another device.
-- Rests on OwnStartLaws. Assumes nothing.
use Rattle.std.specs.Prelude.{◌≡◌, Bool, List, ℕ, ◌/◌, ◌≤◌, length}
use Rattle.std.proofs.Common.{sym, ap, ◌∙◌, subst, arith}
use Rattle.laws.specs.Decides.{Decides}
use Rattle.laws.specs.Rows.{row}
use Rattle.graphs.specs.Cables.{has_flip}
use Rattle.codes.specs.Code.{Rec, rec_in, decoded, code_records}
use Rattle.codes.specs.BranchState.{label_of, Labels}
use Rattle.tables.specs.CodeRows.{code_simple}
use Rattle.least_seen.specs.Accepting.{wanted_label, TestCounts}
use Rattle.least_grown.specs.GrownCode.{GrownCode}
use Rattle.least_grown.specs.OwnTies.{LabelAbove, TieAt, OwnTie}
use Rattle.least_grown.specs.OwnStartLaws.{AllUntied}

-- a forward record ties exactly if its label leads from its device to another above its own
pub tie_told :
    {t bs : List ℕ} {n k wanted : ℕ} {r : Rec} {b : Bool} → r ≡ rec_in (row 5 k bs) → r.i ≤ r.j → wanted ≡ wanted_label bs k
    → Decides b (LabelAbove t n r.i r.j wanted) → Decides b (TieAt t bs n k)
tie_told {t} {bs} {n} {k} {wanted} {r} {b} is up label d =
    record {
      holds = λ e.
          record {
            up = subst (λ (z : Rec). z.i ≤ z.j) is up;
            other =
                subst (λ (z : Rec). LabelAbove t n z.i z.j (wanted_label bs k)) is
                (subst (LabelAbove t n r.i r.j) label (d.holds e));
          };
      fails = λ e x.
          d.fails e
          (subst (LabelAbove t n r.i r.j) (sym label)
          (subst (λ (z : Rec). LabelAbove t n z.i z.j (wanted_label bs k)) (sym is) x.other));
    }

-- a device other than its own that has a record's label makes it tie
pub no_tie_untied : {t bs : List ℕ} {m n : ℕ} → TestCounts t bs m n → m ≡ length bs / 5 → (OwnTie t bs m n → ⊥) → AllUntied bs
no_tie_untied {t} {bs} {m} {n} c all none k one last up w above has kind_is =
    none
    (record {
      k = k;
      some = one;
      low = omega arith;
      tie = record {
        up = omega arith;
        other = record {
          w = w;
          above = above;
          below = omega (arith, c.within, (code_simple bs c.tabled.accepted).ends w _ _ (has_flip has));
          label = c.tabled.labels.joined _ w _ has ∙ ap (label_of (rec_in (row 5 k bs)).c) kind_is;
        };
      };
    })

-- a code that has grown, with its table
pub grown_counted : {t bs : List ℕ} {m n : ℕ} → GrownCode bs m n → Labels (decoded (code_records bs)) t → TestCounts t bs m n
grown_counted g labels =
    record { tabled = record { accepted = g.accepted; labels = labels }; records = omega (arith, g.records); within = g.within; most = g.most }
