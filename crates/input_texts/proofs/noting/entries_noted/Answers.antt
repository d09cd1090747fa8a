use Rattle.std.proofs.Common.{◌≡◌, ◌<◌, ◌∷◌, ◌++◌, [], ◌+◌, length, None, Some, SFits, refl, sym, ap, ◌∙◌, to_z, to_z-of_z, w64, arith, rules}
use Rattle.std.proofs.lemmas.List.{length-append}
use Rattle.json.specs.Json.{after_end_array}
use Rattle.serde_json.specs.Read.{converted}
use Rattle.json_tokens.specs.Ahead.{part}
use Rattle.json_tokens.proofs.Facts.{items_begin, items_next, items_over, items_refused}
use Rattle.json_tokens.specs.Passed.{Passes}
use Rattle.input_texts.proofs.Notings.{passed_on}
use Rattle.input_texts.proofs.SourceNotings.{behind_more, behind_none, partition_noted}
use Rattle.input_texts.proofs.noting.entries_noted.Goals as goal

pub entries-init : goal.entries-init
entries-init c = ([], items_begin (λ d. Some d) c.args.depth c.args.reader.now, refl, behind_none c.args.bound c.args.plan.now.columns c.args.plan.now.window.time _ refl, ap (λ m. Some (record { met = m; late = None; records = 0 })) c.nothing.ensures)

pub entries-preserved : goal.entries-preserved
entries-preserved c =
    let l = c.entries in
    let i = l.invariant in
    let plan = c.args.plan.now in
    let r = c.next_entry.new.reader in
    let kept : c.take_end_array.new.self ≡ l.reader = grind arith in
    let noted = c.in_ok-entry.ensures.said in
    let passed : Passes c.args.depth l.reader noted.0 r = rw (← kept) noted.1 in
    let said : part (λ d. Some d) c.args.depth l.reader ≡ Some (noted.0, r) = ap (converted (λ d. Some d)) passed in
    let less : length r < length l.reader = rw (← kept) c.in_ok-entry.ensures.shorter in
    let fits : SFits w64 c.watermark_behind-watermark.result = search rules in (
      i.0 ++ noted.0 ∷ [],
      items_next (λ d. Some d) c.args.depth c.args.reader.now l.reader r i.0 noted.0 i.1 said less,
      c.in_ok-place.ensures.said ∙ ap (λ n. n + 1) i.2 ∙ sym (length-append i.0 (noted.0 ∷ [])),
      rw (to_z-of_z {w = w64} {z = c.watermark_behind-watermark.result} fits, c.watermark_behind-watermark.ensures) (behind_more c.args.bound plan.columns plan.window.time i.0 noted.0 c.in_ok-entry.entry (to_z w64 l.watermark-bits) i.3 noted.2),
      c.in_ok-partition.ensures.said ∙ partition_noted c.args.bound plan.columns plan.window.time i.0 noted.0 l.partition c.in_ok-entry.entry (to_z w64 l.watermark-bits) l.place i.3 i.2 i.4 noted.2,
    )

pub returns-clause-said : goal.returns-clause-said
returns-clause-said c =
    let l = c.entries in
    let i = l.invariant in
    (i.0, items_over (λ d. Some d) c.args.depth c.args.reader.now l.reader c.take_end_array.new.self i.0 i.1 (grind arith), i.4)

pub returns-in_err-entry-clause-refused : goal.returns-in_err-entry-clause-refused
returns-in_err-entry-clause-refused c =
    passed_on c.from_residual.result c.from_residual.ensures.1
    (λ e same other.
    let l = c.entries in
    let i = l.invariant in
    let going : (after_end_array l.reader ≡ None) × (c.take_end_array.new.self ≡ l.reader) = grind arith in
    items_refused (λ d. Some d) c.args.depth c.args.reader.now l.reader i.0 i.1 going.0 (rw (← going.1) (c.in_err-entry.ensures.refused (sym same ∙ other))))
