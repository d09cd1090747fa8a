use Rattle.std.proofs.Common.{◌≡◌, List, drop, take, length, suc, ◌+◌, rules, FitsSigned, to_z, of_z, w64, ap, ◌∙◌, ◌-◌, arith}
use Rattle.std.specs.Prelude.{ℤ}
use Rattle.std.proofs.lemmas.List.{take_all, length-drop}
use Rattle.std.specs.Int.{int_min}
use Rattle.std.proofs.lemmas.Int.{to_z-of_z}
use Rattle.input_state.specs.Inputs.{least}
use Rattle.input_state.proofs.Least.{least_set}
use Rattle.input_state.proofs.walks.least_with.Goals as goal

pub returns : goal.returns
returns c =
    let next : c.args.i + 1 ≡ suc c.args.i = omega arith in
    let low : ℤ = c.min-2.result in
    let before : ℤ = c.least_of-before.result in
    let right : ℤ = c.min.result in
    let after : ℤ = c.least_of-after.result in
    let low_fits : FitsSigned w64 low = search rules in
    let before_fits : FitsSigned w64 before = search rules in
    let right_fits : FitsSigned w64 right = search rules in
    let after_fits : FitsSigned w64 after = search rules in
    let t_fits : FitsSigned w64 c.args.t = search rules in
    let rest : List ℤ = drop ((c.args.i + 1)) c.args.marks.now in
    let behind : length rest ≡ length c.args.marks.now - (c.args.i + 1) = length-drop ((c.args.i + 1)) c.args.marks.now in
    let whole : take (length c.args.marks.now - (c.args.i + 1)) rest ≡ rest = take_all (length c.args.marks.now - (c.args.i + 1)) rest (omega (arith, behind)) in
    let least_after : to_z w64 (of_z w64 after) ≡ least rest = to_z-of_z w64 after after_fits ∙ c.least_of-after.ensures ∙ ap least whole in
    let moved : int_min (to_z w64 (of_z w64 c.args.t)) (to_z w64 (of_z w64 after)) ≡ int_min c.args.t (least rest)
    = ap (λ z. int_min z (to_z w64 (of_z w64 after))) (to_z-of_z w64 c.args.t t_fits) ∙ ap (int_min c.args.t) least_after in
    to_z-of_z w64 low low_fits ∙ c.min-2.ensures.value
    ∙ ap (λ z. int_min z (to_z w64 (of_z w64 right))) (to_z-of_z w64 before before_fits ∙ c.least_of-before.ensures)
    ∙ ap (int_min (least (take c.args.i c.args.marks.now))) (to_z-of_z w64 right right_fits ∙ c.min.ensures.value ∙ moved)
    ∙ ap (λ n. int_min (least (take c.args.i c.args.marks.now)) (int_min c.args.t (least (drop n c.args.marks.now)))) next
    ∙ least_set c.args.marks.now c.args.i c.args.t c.requires
