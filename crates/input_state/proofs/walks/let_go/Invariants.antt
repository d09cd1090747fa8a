use Rattle.std.proofs.Common.{◌≡◌, ◌<◌, ◌≤◌, ℕ, get_or}
use Rattle.input_state.specs.declared.inputs.Shut.TheVariants.{Ended}
use Rattle.input_state.specs.Inputs.{let_go}
use Rattle.input_state.proofs.walks.let_go.Given as goal

abbrev pub invariant-loop-s : goal.invariant-loop-s
invariant-loop-s l = record {
  done : (k : ℕ) → k < l.s-index → get_or l.shut k Ended ≡ let_go (get_or l.initial.shut k Ended);
  rest : (k : ℕ) → l.s-index ≤ k → get_or l.shut k Ended ≡ get_or l.initial.shut k Ended;
}
