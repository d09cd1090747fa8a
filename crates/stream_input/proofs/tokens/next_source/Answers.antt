use Rattle.std.proofs.Common.{◌≡◌, ◌-◌, ◌<◌, length, Some, sym, ap, ◌∙◌, subst, arith}
use Rattle.json_parts.specs.Parts.{list_text}
use Rattle.json_tokens.specs.Ahead.{part}
use Rattle.json_tokens.proofs.Facts.{ItemsRead, list_opens, items_begin, items_next, items_over}
use Rattle.stream_input.specs.Fit.{own_entry}
use Rattle.stream_input.proofs.tokens.next_source.Goals as goal

pub partitions-init : goal.partitions-init
partitions-init c =
    let f = list_text (own_entry c.args.bound c.args.plan.now.columns c.args.plan.now.window.time) in
    let start = c.open_list.new.self in
    subst (λ xs. ItemsRead f (c.args.depth - 1) start xs start) (sym c.new-partitions.ensures.items) (items_begin f (c.args.depth - 1) start)

pub partitions-preserved : goal.partitions-preserved
partitions-preserved c =
    let f = list_text (own_entry c.args.bound c.args.plan.now.columns c.args.plan.now.window.time) in
    let l = c.partitions in
    let x = c.in_ok-partition.partition in
    let r = c.next_partition.new.reader in
    let kept : c.take_end_array.new.self ≡ l.reader = grind arith in
    let said : part f (c.args.depth - 1) l.reader ≡ Some (x, r) = rw (← kept) c.in_ok-partition.ensures.said in
    let less : length r < length l.reader = rw (← kept) c.in_ok-partition.ensures.shorter in
    let start = c.open_list.new.self in
    subst (λ xs. ItemsRead f (c.args.depth - 1) start xs r) (sym c.in_ok-push.ensures.items) (items_next f (c.args.depth - 1) start l.reader r l.partitions.items x l.invariant said less)

pub returns-clause-said : goal.returns-clause-said
returns-clause-said c =
    let f = list_text (own_entry c.args.bound c.args.plan.now.columns c.args.plan.now.window.time) in
    let l = c.partitions in
    let start = c.open_list.new.self in
    rw c.from_vec.ensures
    (ap (part (list_text f) c.args.depth) c.in_ok-open_list.ensures.passed ∙ list_opens f c.args.depth start (omega arith)
    ∙ items_over f (c.args.depth - 1) start l.reader c.take_end_array.new.self l.partitions.items l.invariant (grind arith))
