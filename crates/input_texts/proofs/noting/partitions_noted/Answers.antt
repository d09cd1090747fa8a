use Rattle.std.proofs.Common.{◌≡◌, ◌<◌, ◌∷◌, ◌++◌, [], length, None, Some, sym, ap, ◌∙◌, arith}
use Rattle.json.specs.Json.{after_end_array}
use Rattle.serde_json.specs.Read.{converted}
use Rattle.json_tokens.specs.Ahead.{part}
use Rattle.json_tokens.proofs.Facts.{items_begin, items_next, items_over, items_refused}
use Rattle.json_tokens.specs.Passed.{Passes}
use Rattle.input_texts.proofs.Notings.{passed_on}
use Rattle.input_texts.proofs.SourceNotings.{source_noted}
use Rattle.input_texts.proofs.noting.partitions_noted.Goals as goal

pub partitions-init : goal.partitions-init
partitions-init c = ([], items_begin (λ d. Some d) c.args.depth c.args.reader.now, ap (λ m. Some (record { met = m; partitions = 0; late = None; records = 0 })) c.nothing.ensures)

pub partitions-preserved : goal.partitions-preserved
partitions-preserved c =
    let l = c.partitions in
    let i = l.invariant in
    let plan = c.args.plan.now in
    let r = c.next_partition.new.reader in
    let kept : c.take_end_array.new.self ≡ l.reader = grind arith in
    let noted = c.in_ok-partition.ensures.said in
    let passed : Passes c.args.depth l.reader noted.0 r = rw (← kept) noted.1 in
    let said : part (λ d. Some d) c.args.depth l.reader ≡ Some (noted.0, r) = ap (converted (λ d. Some d)) passed in
    let less : length r < length l.reader = rw (← kept) c.in_ok-partition.ensures.shorter in (
      i.0 ++ noted.0 ∷ [],
      items_next (λ d. Some d) c.args.depth c.args.reader.now l.reader r i.0 noted.0 i.1 said less,
      c.in_ok-source.ensures.said ∙ source_noted c.args.bound plan.columns plan.window.time i.0 noted.0 l.source c.in_ok-partition.partition i.2 noted.2,
    )

pub returns-clause-said : goal.returns-clause-said
returns-clause-said c =
    let l = c.partitions in
    let i = l.invariant in
    (i.0, items_over (λ d. Some d) c.args.depth c.args.reader.now l.reader c.take_end_array.new.self i.0 i.1 (grind arith), i.2)

pub returns-in_err-partition-clause-refused : goal.returns-in_err-partition-clause-refused
returns-in_err-partition-clause-refused c =
    passed_on c.from_residual.result c.from_residual.ensures.1
    (λ e same other.
    let l = c.partitions in
    let i = l.invariant in
    let going : (after_end_array l.reader ≡ None) × (c.take_end_array.new.self ≡ l.reader) = grind arith in
    items_refused (λ d. Some d) c.args.depth c.args.reader.now l.reader i.0 i.1 going.0 (rw (← going.1) (c.in_err-partition.ensures.refused (sym same ∙ other))))
