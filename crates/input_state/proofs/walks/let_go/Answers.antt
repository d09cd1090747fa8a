use Rattle.std.proofs.Common.{◌≡◌, map, length, sym, ◌∙◌, arith}
use Rattle.std.proofs.lemmas.List.{ext_get_or, get_or-map, length-map}
use Rattle.input_state.specs.declared.inputs.Shut.TheVariants.{Ended}
use Rattle.input_state.specs.Inputs.{let_go}
use Rattle.input_state.proofs.walks.let_go.Goals as goal

pub returns : goal.returns
returns c =
    let xs = c.args.shut.now in
    let long : length c.loop-s.shut ≡ length xs = omega arith in
    ext_get_or Ended c.loop-s.shut (map let_go xs) (omega (arith, length-map xs let_go))
    (λ k h. c.loop-s.invariant.done k (omega arith) ∙ sym (get_or-map let_go xs k Ended Ended (omega arith)))
