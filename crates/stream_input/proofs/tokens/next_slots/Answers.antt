use Rattle.std.proofs.Common.{◌≡◌, ◌-◌, Some, None, sym, ap, ◌∙◌, subst, arith}
use Rattle.json.specs.Json.{read_key, value}
use Rattle.json.proofs.Grammar.{read_key-shorter}
use Rattle.json_parts.specs.Parts.{list_text}
use Rattle.serde_json.specs.Data.{no_members, put}
use Rattle.serde_json.specs.Read.{of_json, converted}
use Rattle.json_tokens.proofs.Facts.{converted_some}
use Rattle.json_tokens.proofs.Facts.{members_begin, members_go_on, members_over}
use Rattle.stream_input.specs.Fit.{own_entry, IsSlots}
use Rattle.input_texts.specs.Seen.{bound_under}
use Rattle.stream_input.proofs.FitSources.{no_members_yet, member_put}
use Rattle.stream_input.proofs.tokens.next_slots.Goals as goal

pub members-init : goal.members-init
members-init c = (
  no_members,
  members_begin (c.args.depth - 1) c.open_object.new.self,
  no_members_yet c.args.plan.now c.in_ok-slots.slots.items (rw (← c.sources-specs.ensures.says) c.in_ok-slots.ensures.said),
)

pub members-preserved : goal.members-preserved
members-preserved c =
    let l = c.members in
    let depth = c.args.depth - 1 in
    let plan = c.args.plan.now in
    let k = c.in-Some.name.now in
    let s = c.next_key.new.self in
    let r = c.next_source.new.reader in
    let named : read_key l.reader ≡ Some (Some k, s) = grind arith in
    let bound = c.bound_of-bound.ensures.says in
    let said = rw bound at c.in_ok-source.ensures.said in
    let d = converted_some (list_text (list_text (own_entry (bound_under plan k) plan.columns plan.window.time))) (converted of_json (value depth s)) c.in_ok-source.source r said in
    let less = read_key-shorter l.reader (Some k) s named in
    let found = rw c.sources-specs.ensures.says at (sym c.in-Some-place_of.ensures) in (
      put k d.0 l.invariant.0,
      members_go_on depth c.open_object.new.self l.reader s r l.invariant.0 k d.0 l.invariant.1 named d.1 less c.in_ok-source.ensures.shorter,
      subst (IsSlots plan (put k d.0 l.invariant.0)) (sym c.put.ensures)
          (member_put plan l.invariant.0 l.slots.items k d.0 c.in_ok-source.source c.in-Some-place_of.place c.sources-specs.ensures.sound l.invariant.2 d.2 found),
    )

pub returns : goal.returns
returns c =
    let l = c.members in
    let r = c.next_key.new.self in
    let named : read_key l.reader ≡ Some (None, r) = grind arith in
    (l.invariant.0, ap (λ ts. converted of_json (value c.args.depth ts)) c.in_ok-open_object.ensures.passed ∙ members_over c.args.depth c.open_object.new.self l.reader r l.invariant.0 (omega arith) l.invariant.1 named, l.invariant.2)
