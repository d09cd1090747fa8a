use Rattle.std.proofs.Common.{◌≡◌, ◌∙◌, ◌+◌, List, ◌∷◌, Bor, drop, length, Ok, Err, None, ap, refl, rules, sym, subst, arith}
use Rattle.std.specs.List.{All}
use Rattle.std.proofs.lemmas.List.Elements.{All-tail}
use Rattle.layout_rules.specs.Scale.{IsScale}
use Rattle.legs.specs.declared.cut.Cut.{Cut}
use Rattle.legs.specs.declared.leg.LegSpec.{LegSpec}
use Rattle.legs.specs.declared.stop.Stop.{Stop}
use Rattle.legs.specs.Stops.{counts_of}
use Rattle.stream_model.specs.Watermarks.{IsOrderly}
use Rattle.job_legs.specs.declared.running.Reached.{Reached}
use Rattle.job_legs.specs.Running.{HaveRun, IsRunRefusal, saves_in}
use Rattle.job_legs.specs.Ways.{AnswersLeg, CanRunLeg}
use Rattle.job_legs.proofs.Taken.{fails}
use Rattle.job_legs.proofs.UnderWay.{IsOnWay, scale_of, start, turn_ended, turn_given_up, turn_refused, turn_takes, turned, turns_behind}
use Rattle.job_legs.proofs.Turned.{AreTurned, IsRestOf, all_left, fewer_left, none_turned, turn_of, turned_again, turned_over}
use Rattle.job_legs.proofs.Turns.{dropped_length}
use Rattle.job_legs.proofs.running.run_all.Goals as goal
use Rattle.job_legs.proofs.running.run_all.Goals.{in-Some-2, in-None}

pub turns-init : goal.turns-init
turns-init g c =
    let p = c.args.plan.now in
    let i = c.args.input.now in
    let legs = c.args.legs.now in
    let r : Reached = record { rows = c.new.result; savepoint = None } in
    let orderly = subst (λ t. IsOrderly t i.sources) c.requires.belongs.time c.sources-sources.ensures.orderly in
    record {
      way = subst (λ saves. IsOnWay p i legs legs saves r) (sym c.saves_of-saves.ensures) (start p i legs r c.requires.list (λ q. c.nothing_due_at_first-first.ensures p i q orderly) c.new.ensures.items refl);
      scales = c.requires.scales;
      turned = none_turned g.W.Way.goes_by p i legs c.args.lists.now r c.new.ensures.items refl;
      kept = subst (IsRestOf legs) (sym c.saves_of-saves.ensures) (all_left legs);
    }

pub overflow_sub-legs : goal.overflow_sub-legs
overflow_sub-legs g c = (let some = c.turns.invariant.turned.some in omega (arith, some))

pub next_start-requires-clause-saved : goal.next_start-requires-clause-saved
next_start-requires-clause-saved g c =
    let e = c.in-Some.ensures.cases.0 in
    let t = subst (λ legs. IsOnWay c.args.plan.now c.args.input.now c.args.legs.now legs c.turns.saves.now c.turns.reached) e c.turns.invariant.way in
    (t.between.here, t.between.count, t.between.at.saved)

pub run-requires : goal.run-requires
run-requires g c =
    let p = c.args.plan.now in
    let e = c.in-Some.ensures.cases.0 in
    let t = subst (λ legs. IsOnWay p c.args.input.now c.args.legs.now legs c.turns.saves.now c.turns.reached) e c.turns.invariant.way in
    let scale = scale_of p c.in-Some.leg.now c.in-Some.more.now (subst (All (λ (leg : LegSpec). IsScale p leg.scale)) e c.turns.invariant.scales) in
    let can : CanRunLeg p c.args.input.now c.in_ok-start.start c.in-Some.leg.now.scale = (c.requires.belongs, scale, (c.in_ok-start.ensures t.between.here t.between.count t.between.at.saved).in_input) in
    search rules

pub returns-in_err-finish-clause-runs : goal.returns-in_err-finish-clause-runs
returns-in_err-finish-clause-runs g c =
    let p = c.args.plan.now in
    let i = c.args.input.now in
    let all = c.args.legs.now in
    let leg = c.in-Some.leg.now in
    let more = c.in-Some.more.now in
    let saves = c.turns.saves.now in
    let other = g.W.Way.other_fault in
    let s = c.in_ok-start.start in
    let e = c.in-Some.ensures.cases.0 in
    let t = subst (λ legs. IsOnWay p i all legs saves c.turns.reached) e c.turns.invariant.way in
    let scale = scale_of p leg more (subst (All (λ (leg : LegSpec). IsScale p leg.scale)) e c.turns.invariant.scales) in
    let can : CanRunLeg p i s leg.scale = (c.requires.belongs, scale, (c.in_ok-start.ensures t.between.here t.between.count t.between.at.saved).in_input) in
    let answered = subst (AnswersLeg other p i s (counts_of saves) c.in_ok-stop.stop) c.in_err-finish.was (c.requires.gives _ _ _ _ _ _ _ _ _ _ can c.run.ensures) in
    let f = c.in_err-finish.field-0.0 in
    let r = c.from_residual-in_err-finish in
    let gives = turned p i all leg more saves c.turns.reached t c.columns-columns.ensures.sound c.sources-sources.ensures.sound c.requires.belongs s c.in_ok-start.ensures other (Err f) (subst (λ (stop : Stop). AnswersLeg other p i s (counts_of saves) stop (Err f)) c.in_ok-stop.ensures answered) in
    fails (HaveRun p i all) (IsRunRefusal other i all) f r.result r.ensures.0 r.ensures.1 (turn_refused p i all leg more saves c.turns.reached t other f gives)

pub rest_of-saves-requires : goal.rest_of-saves-requires
rest_of-saves-requires g c =
    let p = c.args.plan.now in
    let i = c.args.input.now in
    let all = c.args.legs.now in
    let leg = c.in-Some.leg.now in
    let more = c.in-Some.more.now in
    let saves = c.turns.saves.now in
    let other = g.W.Way.other_fault in
    let s = c.in_ok-start.start in
    let e = c.in-Some.ensures.cases.0 in
    let t = subst (λ legs. IsOnWay p i all legs saves c.turns.reached) e c.turns.invariant.way in
    let scale = scale_of p leg more (subst (All (λ (leg : LegSpec). IsScale p leg.scale)) e c.turns.invariant.scales) in
    let can : CanRunLeg p i s leg.scale = (c.requires.belongs, scale, (c.in_ok-start.ensures t.between.here t.between.count t.between.at.saved).in_input) in
    let finish = c.in_ok-finish.finish in
    let answered = subst (AnswersLeg other p i s (counts_of saves) c.in_ok-stop.stop) c.in_ok-finish.was (c.requires.gives _ _ _ _ _ _ _ _ _ _ can c.run.ensures) in
    let gives = turned p i all leg more saves c.turns.reached t c.columns-columns.ensures.sound c.sources-sources.ensures.sound c.requires.belongs s c.in_ok-start.ensures other (Ok finish) (subst (λ (stop : Stop). AnswersLeg other p i s (counts_of saves) stop (Ok finish)) c.in_ok-stop.ensures answered) in
    (turn_takes p i all leg more saves c.turns.reached t finish c.in-Some-2.taken gives (sym c.in_ok-taken.ensures.taken ∙ c.in-Some-2.is)).1

pub turns-smaller : goal.turns-smaller
turns-smaller g c =
    let p = c.args.plan.now in
    let i = c.args.input.now in
    let all = c.args.legs.now in
    let leg = c.in-Some.leg.now in
    let more = c.in-Some.more.now in
    let saves = c.turns.saves.now in
    let other = g.W.Way.other_fault in
    let s = c.in_ok-start.start in
    let e = c.in-Some.ensures.cases.0 in
    let t = subst (λ legs. IsOnWay p i all legs saves c.turns.reached) e c.turns.invariant.way in
    let scale = scale_of p leg more (subst (All (λ (leg : LegSpec). IsScale p leg.scale)) e c.turns.invariant.scales) in
    let can : CanRunLeg p i s leg.scale = (c.requires.belongs, scale, (c.in_ok-start.ensures t.between.here t.between.count t.between.at.saved).in_input) in
    let finish = c.in_ok-finish.finish in
    let answered = subst (AnswersLeg other p i s (counts_of saves) c.in_ok-stop.stop) c.in_ok-finish.was (c.requires.gives _ _ _ _ _ _ _ _ _ _ can c.run.ensures) in
    let gives = turned p i all leg more saves c.turns.reached t c.columns-columns.ensures.sound c.sources-sources.ensures.sound c.requires.belongs s c.in_ok-start.ensures other (Ok finish) (subst (λ (stop : Stop). AnswersLeg other p i s (counts_of saves) stop (Ok finish)) c.in_ok-stop.ensures answered) in
    let now = λ (legs : Bor (List LegSpec)). legs.now in
    let cuts = λ (taken : Bor (List Cut)). taken.now in
    let before : turns_behind c.turns.rest.now ≡ 1 + length (saves_in more) + turns_behind more = ap turns_behind e in
    elim c.match-branch-5.branch [
      | in-Some-2 w ↦ (
          let taken = w.in-Some-2.taken in
          let most = turn_takes p i all leg more saves c.turns.reached t finish taken gives (sym c.in_ok-taken.ensures.taken ∙ w.in-Some-2.is) in
          let left = dropped_length taken saves most.1 in
          let some = most.0 in
          let fewer : length c.match-branch-5.saves.now ≡ length (drop taken saves) = ap (λ (xs : List Cut). length xs) (ap cuts w.saves-is ∙ w.rest_of-saves.ensures) in
          let same : turns_behind c.match-branch-5.rest.now ≡ turns_behind c.turns.rest.now = ap turns_behind (ap now w.rest-is) in
          omega (arith, fewer, same, left, some))
      | in-None w ↦ (
          let next : length c.match-branch-5.saves.now ≡ length (saves_in more) = ap (λ (xs : List Cut). length xs) (ap cuts w.saves-is ∙ w.saves_of-saves-in-None.ensures) in
          let behind : turns_behind c.match-branch-5.rest.now ≡ turns_behind more = ap turns_behind (ap now w.rest-is) in
          omega (arith, next, behind, before))
    ]

pub turns-preserved : goal.turns-preserved
turns-preserved g c =
    let p = c.args.plan.now in
    let i = c.args.input.now in
    let all = c.args.legs.now in
    let leg = c.in-Some.leg.now in
    let more = c.in-Some.more.now in
    let saves = c.turns.saves.now in
    let other = g.W.Way.other_fault in
    let s = c.in_ok-start.start in
    let e = c.in-Some.ensures.cases.0 in
    let t = subst (λ legs. IsOnWay p i all legs saves c.turns.reached) e c.turns.invariant.way in
    let scale = scale_of p leg more (subst (All (λ (leg : LegSpec). IsScale p leg.scale)) e c.turns.invariant.scales) in
    let can : CanRunLeg p i s leg.scale = (c.requires.belongs, scale, (c.in_ok-start.ensures t.between.here t.between.count t.between.at.saved).in_input) in
    let finish = c.in_ok-finish.finish in
    let answered = subst (AnswersLeg other p i s (counts_of saves) c.in_ok-stop.stop) c.in_ok-finish.was (c.requires.gives _ _ _ _ _ _ _ _ _ _ can c.run.ensures) in
    let gives = turned p i all leg more saves c.turns.reached t c.columns-columns.ensures.sound c.sources-sources.ensures.sound c.requires.belongs s c.in_ok-start.ensures other (Ok finish) (subst (λ (stop : Stop). AnswersLeg other p i s (counts_of saves) stop (Ok finish)) c.in_ok-stop.ensures answered) in
    let now = λ (legs : Bor (List LegSpec)). legs.now in
    let cuts = λ (taken : Bor (List Cut)). taken.now in
    let new = c.take_in.new.reached in
    let input = c.sources-sources.ensures.sound in
    let add = c.rows_add_up-add.ensures in
    let by = g.W.Way.goes_by in
    let lists = c.args.lists.now in
    let are = subst (λ legs. AreTurned by p i all lists legs c.turns.reached) e c.turns.invariant.turned in
    let kept = subst (λ legs. IsRestOf legs saves) e c.turns.invariant.kept in
    let here = t.between.here in
    let count = t.between.count in
    let turn = turn_of by p i all lists leg more c.turns.reached are c.turns.rest.now e here count t.between.at.saved s (c.in_ok-start.ensures here count t.between.at.saved) saves kept t.before.number t.before.count t.between.sum c.in_ok-stop.stop c.in_ok-stop.ensures c.choices_of-choices.result.now c.choices_of-choices.ensures finish gives c.run.result c.in_ok-finish.was (c.requires.goes _ _ _ _ _ _ _ _ _ _ can c.run.ensures) in
    let fit = All (λ (leg : LegSpec). IsScale p leg.scale) in
    elim c.match-branch-5.branch [
      | in-Some-2 w ↦ (
          let taken = w.in-Some-2.taken in
          let again = turn_given_up p i all leg more saves c.turns.reached t input add new finish taken gives (sym c.in_ok-taken.ensures.taken ∙ w.in-Some-2.is) c.in_ok-taken.ensures.rows c.in_ok-taken.ensures.savepoint in
          record {
            way = subst (λ legs. IsOnWay p i all legs c.match-branch-5.saves.now new) (sym (ap now w.rest-is ∙ e)) (subst (λ (rest : List Cut). IsOnWay p i all (leg ∷ more) rest new) (sym (ap cuts w.saves-is ∙ w.rest_of-saves.ensures)) again);
            scales = subst fit (sym (ap now w.rest-is)) c.turns.invariant.scales;
            turned = turned_again by p i all lists leg more c.turns.reached are c.match-branch-5.rest.now (ap now w.rest-is ∙ e) new finish taken turn (sym c.in_ok-taken.ensures.taken ∙ w.in-Some-2.is) c.in_ok-taken.ensures.rows c.in_ok-taken.ensures.savepoint;
            kept = subst (λ legs. IsRestOf legs c.match-branch-5.saves.now) (sym (ap now w.rest-is ∙ e)) (subst (IsRestOf (leg ∷ more)) (sym (ap cuts w.saves-is ∙ w.rest_of-saves.ensures)) (fewer_left leg more saves taken (turn_takes p i all leg more saves c.turns.reached t finish taken gives (sym c.in_ok-taken.ensures.taken ∙ w.in-Some-2.is)).1 kept));
          })
      | in-None w ↦ (
          let over = turn_ended p i all leg more saves c.turns.reached t input add new finish gives (sym c.in_ok-taken.ensures.taken ∙ w.in-None.is) c.in_ok-taken.ensures.rows c.in_ok-taken.ensures.savepoint in
          record {
            way = subst (λ legs. IsOnWay p i all legs c.match-branch-5.saves.now new) (sym (ap now w.rest-is)) (subst (λ (rest : List Cut). IsOnWay p i all more rest new) (sym (ap cuts w.saves-is ∙ w.saves_of-saves-in-None.ensures)) over);
            scales = subst fit (sym (ap now w.rest-is)) (All-tail (λ (leg : LegSpec). IsScale p leg.scale) leg more (subst fit e c.turns.invariant.scales));
            turned = turned_over by p i all lists leg more c.turns.reached are c.match-branch-5.rest.now (ap now w.rest-is) new finish turn (sym c.in_ok-taken.ensures.taken ∙ w.in-None.is) c.in_ok-taken.ensures.rows c.in_ok-taken.ensures.savepoint;
            kept = subst (λ legs. IsRestOf legs c.match-branch-5.saves.now) (sym (ap now w.rest-is)) (subst (IsRestOf more) (sym (ap cuts w.saves-is ∙ w.saves_of-saves-in-None.ensures)) (all_left more));
          })
    ]
