use Rattle.std.proofs.Common.{◌≡◌, Some, sym, ap, ◌∙◌}
use Rattle.json.specs.Json.{value}
use Rattle.json.specs.Lex.{tokens}
use Rattle.serde_json.specs.Data.{object}
use Rattle.serde_json.specs.Read.{of_json, converted}
use Rattle.json_tokens.proofs.Facts.{text_read}
use Rattle.stream_input.proofs.FitSources.{all_fit}
use Rattle.stream_input.proofs.tokens.sources_in.Goals as goal

pub returns : goal.returns
returns c =
    let plan = c.args.plan.now in
    let told = c.in_ok-slots.ensures in
    let sources = c.in_ok-sources.sources.items in
    let first : c.new-reader.result ≡ tokens c.args.text.now = c.new-reader.ensures ∙ ap tokens c.as_bytes.ensures.value in
    let whole = ap (λ ts. converted of_json (value 127 ts)) (sym first) ∙ told.1 ∙ ap (λ r. Some (object told.0, r)) c.in_ok-end.ensures in
    let counted = rw (c.deref.ensures.value, c.sources.ensures.says) at (sym c.have_counts.ensures ∙ c.if-not-have_counts.false) in
    rw c.from_vec.ensures (all_fit plan told.0 c.in_ok-slots.slots.items sources c.args.text.now c.sources.ensures.sound (text_read c.args.text.now (object told.0) whole) told.2 c.in_ok-sources.ensures counted)
