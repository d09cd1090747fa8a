use Rattle.std.proofs.Common.{◌≡◌, ◌∙◌, ℕ, List, ap, map}
use Rattle.std.specs.List.{range_with_len}
use Rattle.std.proofs.lemmas.Result.{IfOk-weaker}
use Rattle.plain_data.specs.Record.{Record, column_of}
use Rattle.key_dealing.specs.Dealing.{owner, dealt}
use Rattle.key_dealing.proofs.Dealt.{places_dealt, places_inside}
use Rattle.key_dealing.proofs.dealing.places_of.Goals as goal

pub returns-clause-rows : goal.returns-clause-rows
returns-clause-rows c =
    let t = c.args.batch.now in
    let deal : ℕ → List Record = λ j. (dealt c.args.max c.args.par c.args.key t j).rows in
    let targets = c.deref.result.now in
    let is : targets ≡ map (owner c.args.max c.args.par) (column_of c.args.key t.rows) =
    c.deref.ensures.value ∙ c.in_ok-owners.ensures.owners ∙ ap (map (owner c.args.max c.args.par)) c.column-numbers.ensures in
    IfOk-weaker c.places_by_target.result _ _
    (λ lists h. places_dealt c.args.max c.args.par c.args.key c.get.result t targets lists.items is h ∙ ap (λ n. map deal (range_with_len 0 n)) c.get.ensures.says)
    c.places_by_target.ensures

pub returns-clause-inside : goal.returns-clause-inside
returns-clause-inside c =
    let t = c.args.batch.now in
    let targets = c.deref.result.now in
    let is : targets ≡ map (owner c.args.max c.args.par) (column_of c.args.key t.rows) =
    c.deref.ensures.value ∙ c.in_ok-owners.ensures.owners ∙ ap (map (owner c.args.max c.args.par)) c.column-numbers.ensures in
    IfOk-weaker c.places_by_target.result _ _ (λ lists h. places_inside c.args.max c.args.par c.args.key c.get.result t targets lists.items is h) c.places_by_target.ensures
