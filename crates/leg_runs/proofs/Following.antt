-- One choice more is followed, or memory is refused for its step.
use Rattle.std.proofs.Common.{◌≡◌, ℕ, ◌<◌, ◌+◌, List, ◌++◌, length, take, drop, get_or, Err, false, inr, sym, ap, subst, ◌∙◌, arith}
use Rattle.std.proofs.lemmas.Bool.{false≢true}
use Rattle.std.proofs.lemmas.List.{take_more, take_all, drop_all, append-nil}
use Rattle.std.proofs.lemmas.Option.{slice_get-get_or}
use Rattle.dataflow_laws.specs.declared.step.Step.{Step}
use Rattle.legs.specs.declared.choice.Choice.{Choice}
use Rattle.plan_compiler.specs.LayoutData.{LayoutData}
use Rattle.task_steps.specs.declared.fault.StepFault.{StepFault}
use Rattle.task_steps.specs.declared.fault.StepFault.TheVariants.{NotEnabled, Memory, Failed}
use Rattle.core_steps.specs.World.{WorldData, world_in}
use Rattle.core_steps.specs.Answers.{LeadsTo, CanMake, StepAnswers}
use Rattle.leg_runs.specs.Choosing.{IsChosen, MakesChoice, MakesEach, FailsBy, all_steps}
use Rattle.leg_runs.specs.Choosing.MakesEach.{more}

pub made_more : (first w v : WorldData) (l : LayoutData) (choices : List Choice) (n : ℕ) (d : Choice) (step : Step) → n < length choices → l ≡ w.given.layout → v.given ≡ w.given
    → IsChosen (CanMake w) (all_steps l) (get_or choices n d).number step → LeadsTo w step (world_in v) → MakesEach (take n choices) first w → MakesEach (take (n + 1) choices) first v
made_more first w v l choices n d step less same given chosen leads each =
    let made : MakesChoice (get_or choices n d) w v = record { given = given; step = step; chosen = subst (λ m. IsChosen (CanMake w) (all_steps m) (get_or choices n d).number step) same chosen; leads = leads } in
    subst (λ cs. MakesEach cs first v) (sym (take_more choices n d less)) (more each made)

-- a step that there is fails only where memory is refused, if the world has not failed before
only_memory : (w v : WorldData) (step : Step) (fault : StepFault) → w.has_failed ≡ false → CanMake w step → StepAnswers step w v (Err fault) → StepAnswers step w v (Err Memory)
only_memory w v step NotEnabled going can answers = absurd (answers.2 can.0 can.1)
only_memory w v step Memory going can answers = answers
only_memory w v step Failed going can answers = absurd (false≢true (sym going ∙ answers.0))

pub fails_at : (first w v : WorldData) (l : LayoutData) (choices : List Choice) (n : ℕ) (d : Choice) (step : Step) (fault : StepFault) → n < length choices → l ≡ w.given.layout → w.has_failed ≡ false
    → CanMake w step → IsChosen (CanMake w) (all_steps l) (get_or choices n d).number step → StepAnswers step w v (Err fault) → MakesEach (take n choices) first w → FailsBy choices first v
fails_at first w v l choices n d step fault less same going can chosen answers each =
    inr (record {
      made = n;
      before = w;
      each = each;
      choice = get_or choices n d;
      next = slice_get-get_or choices n d less;
      step = step;
      chosen = subst (λ m. IsChosen (CanMake w) (all_steps m) (get_or choices n d).number step) same chosen;
      refused = only_memory w v step fault going can answers;
    })

-- what is written over all of a list is what stands there then
pub written_over : (new old : List ℕ) (len : ℕ) → length new ≡ length old → len ≡ length old → take len (new ++ drop (length new) old) ≡ new
written_over new old len same is =
    ap (λ xs. take len (new ++ xs)) (drop_all (length new) old (omega (arith, same))) ∙ ap (take len) (append-nil new) ∙ take_all len new (omega (arith, same, is))
