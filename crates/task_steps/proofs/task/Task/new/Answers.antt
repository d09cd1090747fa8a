use Rattle.std.proofs.Common.{◌≡◌, List, length, replicate, sym, ap, ◌∙◌, arith}
use Rattle.std.proofs.lemmas.Bool.{false≢true}
use Rattle.std.proofs.lemmas.List.{length-replicate}
use Rattle.input_state.specs.Inputs.{InputsData, any_held}
use Rattle.input_state.specs.declared.inputs.Shut.{Shut}
use Rattle.input_state.specs.declared.inputs.Shut.TheVariants.{Free}
use Rattle.task_steps.specs.declared.kept.Kept.{Kept}
use Rattle.task_steps.proofs.Beginnings.{none_held}
use Rattle.task_steps.proofs.task.Task.new.Goals as goal

pub invariant_of-result : goal.invariant_of-result
invariant_of-result c =
    let r = c.requires in
    let n = length c.args.marks.now in
    let free : c.in_ok-inputs.inputs.shut ≡ replicate n Free = ap (λ (v : InputsData). v.shut) c.in_ok-inputs.ensures in
    record {
      room = let fits = c.in_ok-pending.ensures.capacity in omega (arith, fits);
      time = r.time;
      key = r.key;
      filters = r.filters;
      split = r.split;
      turn = r.turn;
      windowing = r.windowing;
      marks = ap (λ (v : InputsData). length v.marks) c.in_ok-inputs.ensures ∙ r.marked;
      shut = ap (λ (l : List Shut). length l) free ∙ length-replicate n Free ∙ r.marked;
      taken = omega arith;
      some = r.some;
      numbers = r.numbers;
      next = omega arith;
      offsets = r.placed;
      ended = λ over. absurd (false≢true over);
      failed = λ fails. absurd (false≢true fails);
      held = λ _ _ any. absurd (false≢true (sym (ap any_held free ∙ none_held n) ∙ any));
      kept = λ k d l. absurd (let none = ap (λ (ks : List Kept). length ks) c.new-2.ensures.items in omega (arith, l, none));
    }
