-- `zeros::all_zero` meets its contract: the word of the paper is a test of every byte. Assumes nothing.
use Rattle.std.proofs.Common.{rules, ◌≡◌, refl, ap, List, [], ◌∷◌, ℕ, ◌&&◌, nat_eq, ◌∙◌}
use borrow.Author.Tests.{tests}
use Rattle.std.specs.List.{list_all}
use Rattle.std.proofs.lemmas.Iterator.{YieldsList-from_slice}
use Rattle.std.proofs.lemmas.Iterator.Search.{all_from_yields_List}
use Rattle.graphs.specs.Drawing.{all_zero}
use Rattle.drawing_checks.proofs.zeros.all_zero.Goals as goal

every_byte : (bs : List ℕ) → list_all (λ b. nat_eq b 0) bs ≡ all_zero bs
unfolding all_zero
every_byte [] = refl
every_byte (b ∷ bs) = ap (λ t. nat_eq b 0 && t) (every_byte bs)

pub returns : goal.returns
returns c =
    let bs = c.args.bytes.now in
    all_from_yields_List (λ b. nat_eq b 0) _ _ _ c.all.ensures.ran (YieldsList-from_slice bs cc) (λ x b q k. search (rules, tests)) ∙ every_byte bs
