use Rattle.std.proofs.Common.{◌≡◌, ◌∙◌, ℕ, ℤ, ◌-ℤ◌, pos, true, [], get_or, arith, rules, sym, ap, FitsSigned, to_z, of_z}
use Rattle.std.specs.Prelude.{int_lt}
use Rattle.std.specs.Int.{w64, w128}
use Rattle.std.proofs.lemmas.Int.{to_z-of_z, ints}
use Rattle.plain_data.specs.Record.{Record, at}
use Rattle.plan_model.specs.declared.spec.WindowSpec.{WindowSpec}
use Rattle.window_slices.proofs.Facts.{widened}
use Rattle.window_state.specs.State.{OpenWindows}
use Rattle.window_state.proofs.SliceFits.{none_later, stays}
use Rattle.window_state.proofs.adding.add_later.Goals as goal

-- where a time lies before a number, so does the start of each of its windows
before : (t f : ℤ) (first : ℕ) → int_lt t f ≡ true → int_lt (t -ℤ pos first) f ≡ true
before t f first h = grind (arith, ints)

pub returns-then-time-windows-clause-added : goal.returns-then-time-windows-clause-added
returns-then-time-windows-clause-added c =
    let v = c.args.windows.now in
    let r : Record = get_or c.args.batch.now.rows c.args.row [] in
    let t = at v.window.time r in
    let fits : FitsSigned w64 c.value-time.result = search rules in
    let from_fits : FitsSigned w128 c.windows.inside.from = search rules in
    let time = c.value-time.ensures ∙ ap (λ (x : WindowSpec). at x.time r) c.window.ensures in
    let held : to_z w128 (of_z w128 (to_z w64 (of_z w64 c.value-time.result))) ≡ t = widened c.value-time.result fits ∙ time in
    let from = to_z-of_z w128 c.windows.inside.from from_fits ∙ ap (λ (x : OpenWindows). x.from) c.windows.view_is in
    let early : int_lt t v.from ≡ true = sym (λ i. int_lt (held i) (from i)) ∙ c.if-time-windows.true in
    stays v r (λ q late. none_later v.window r c.args.first c.requires.window.operator.range c.requires.rest v.from q.start (before t v.from c.args.first early) late)
