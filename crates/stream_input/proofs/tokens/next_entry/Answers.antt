use Rattle.std.proofs.Common.{◌≡◌, ◌&&◌, false, is_some, ap, ap₂, sym, ◌∙◌}
use Rattle.std.specs.Option.{option_map}
use Rattle.json.specs.Json.{value}
use Rattle.json_tokens.proofs.Facts.{converted_some}
use Rattle.serde_json.specs.Read.{of_json, converted}
use Rattle.stream_input.specs.Fit.{fit_entry, is_mark, own_entry}
use Rattle.stream_input.proofs.OwnEntries.{fit_sound, own_from}
use Rattle.stream_input.proofs.tokens.next_entry.Goals as goal

pub new-requires-clause-sound : goal.new-requires-clause-sound
new-requires-clause-sound c =
    let plan = c.args.plan.now in
    let f = fit_entry plan.columns plan.window.time in
    let d = converted_some f (converted of_json (value c.args.depth c.args.reader.now)) c.in_ok-entry.entry c.next_plain.new.reader c.in_ok-entry.ensures.said in
    rw (c.columns-columns.ensures.says, c.window.ensures.says) (fit_sound plan.columns plan.window.time d.0 c.in_ok-entry.entry d.2)

pub returns-clause-said : goal.returns-clause-said
returns-clause-said c =
    let plan = c.args.plan.now in
    let bound = c.args.bound in
    let r = c.next_plain.new.reader in
    let f = fit_entry plan.columns plan.window.time in
    let d = converted_some f (converted of_json (value c.args.depth c.args.reader.now)) c.in_ok-entry.entry r c.in_ok-entry.ensures.said in
    let none : (is_some bound && is_mark c.in_ok-entry.entry) ≡ false = sym (ap₂ (λ a b. a && b) c.is_some.ensures c.is_watermark.ensures) ∙ c.if-is_other.false in
    ap (converted (own_entry bound plan.columns plan.window.time)) d.1
    ∙ ap (option_map (λ m. (m, r))) (own_from bound plan.columns plan.window.time d.0 c.in_ok-entry.entry c.new.result d.2 none c.new.ensures.says (rw c.window.ensures.says at c.new.ensures.marked))
