-- `map::match_drawing` meets its contract: the refusals in their order, then what the search finds. Assumes nothing.
use Rattle.std.proofs.Common.{rules, ◌≡◌, ◌≤◌, List, ℕ, length, refl, ap, ◌∙◌, arith, length-take-le, Err, Some}
use Rattle.graphs.specs.Drawing.{devices, drawing_in, drawing_refusal}
use Rattle.records.specs.declared.drawing.Drawing.{Drawing}
use Rattle.records.specs.Drawings.{counts_in}
use Rattle.records.specs.Refusals.{first_of}
use Rattle.records.specs.RefusalLaws.{refused_number, refused_positive, accepted_zero}
use Rattle.graphs.specs.AcceptedDrawing.{accepted_count, accepted_most}
use Rattle.map_search.specs.MapSearch.{LeastMapSays}
use Rattle.matching.specs.MatchAnswerLaws.{both_accepted, match_refused, match_short, match_found, match_not_found}
use Rattle.matching.proofs.map.match_drawing.Goals as goal

-- n is the number of P's devices
count :
    (xs ys : List ℕ) {n : Drawing} → first_of (drawing_refusal xs) (drawing_refusal ys) ≡ 0 → n ≡ counts_in xs
    → n.devices ≡ devices (drawing_in xs)
count xs ys a e = ap (λ (x : Drawing). x.devices) e ∙ accepted_count _ (both_accepted _ _ a).0

-- and a map has as many bytes at least
few :
    (xs ys : List ℕ) {n : Drawing} {map : List ℕ} → first_of (drawing_refusal xs) (drawing_refusal ys) ≡ 0 → n ≡ counts_in xs
    → LeastMapSays xs ys (Some map) → n.devices ≤ length map
few xs ys a e says = omega (arith, count xs ys a e, accepted_most _ (both_accepted _ _ a).0, says.size)

pub returns-in_err-check_both : goal.returns-in_err-check_both
returns-in_err-check_both c =
    let r = c.in_err-check_both.was in
    let e = c.check_both.ensures in
    let is : c.from_residual.result ≡ Err c.in_err-check_both.field-0.0 = search rules in
    rw is (match_refused _ _ _ refl (refused_positive e r) _ (refused_number e r))

pub returns-then-output-n : goal.returns-then-output-n
returns-then-output-n c =
    let a = accepted_zero c.check_both.ensures c.in_ok-check_both.was in
    match_short _ _ _ a (omega (arith, c.if-output-n.true, count _ _ a c.counted-n.ensures))

pub least_map-requires : goal.least_map-requires
least_map-requires c = both_accepted _ _ (accepted_zero c.check_both.ensures c.in_ok-check_both.was)

pub returns-in_default : goal.returns-in_default
returns-in_default c =
    let a = accepted_zero c.check_both.ensures c.in_ok-check_both.was in
    match_not_found _ _ _ a (omega (arith, count _ _ a c.counted-n.ensures, c.if-output-n.false)) c.in_default.ensures

pub slice_bounds-map-end : goal.slice_bounds-map-end
slice_bounds-map-end c =
    let a = accepted_zero c.check_both.ensures c.in_ok-check_both.was in
    omega (arith, few _ _ a c.counted-n.ensures c.in-Some.ensures)

pub slice_bounds-copy_from_slice-end-3 : goal.slice_bounds-copy_from_slice-end-3
slice_bounds-copy_from_slice-end-3 c =
    let a = accepted_zero c.check_both.ensures c.in_ok-check_both.was in
    omega (arith, length-take-le c.counted-n.result.devices c.in-Some.map (few _ _ a c.counted-n.ensures c.in-Some.ensures))

pub copy_from_slice-requires : goal.copy_from_slice-requires
copy_from_slice-requires c =
    let a = accepted_zero c.check_both.ensures c.in_ok-check_both.was in
    let n = c.counted-n.result.devices in
    omega (
      arith,
      length-take-le n c.args.output.now c.if-output-n.false,
      length-take-le n c.in-Some.map (few _ _ a c.counted-n.ensures c.in-Some.ensures),
    )

pub returns : goal.returns
returns c =
    let a = accepted_zero c.check_both.ensures c.in_ok-check_both.was in
    let n = count _ _ a c.counted-n.ensures in
    let says = c.in-Some.ensures in
    match_found _ _ _ a (omega (arith, n, c.if-output-n.false)) _ says _ n _
    (rw (c.copy_from_slice.ensures.after, length-take-le c.counted-n.result.devices c.in-Some.map (few _ _ a c.counted-n.ensures says)))
