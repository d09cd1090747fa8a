use Rattle.std.proofs.Common.{◌≡◌, ◌∙◌, Some, None, map, refl, sym, ap, arith}
use Rattle.std.specs.Prelude.{string_bytes}
use Rattle.json.specs.Json.{read_key}
use Rattle.json.proofs.Grammar.{read_key-shorter}
use Rattle.json_tokens.proofs.Facts.{key_fails, member_fails, members_begin, members_go_on}
use Rattle.serde_json.specs.Data.{no_members, put}
use Rattle.input_texts.specs.Seen.{bound_under, noted_source}
use Rattle.input_texts.proofs.Notings.{passed_on}
use Rattle.input_texts.proofs.NotedMembers.{none_noted}
use Rattle.input_texts.proofs.finding.members_noted.Goals as goal

pub members-init : goal.members-init
members-init c =
    let plan = c.args.plan.now in
    let slots = rw c.sources.ensures.says at c.in_ok-empty_slots.ensures.said in
    (no_members, members_begin c.args.depth c.args.reader.now, none_noted plan _ slots (ap (map (λ s. string_bytes s)) c.new.ensures.empty) refl refl c.args.most)

pub members-preserved : goal.members-preserved
members-preserved c =
    let l = c.members in
    let i = l.invariant in
    let k = c.in-Some.name.now in
    let s = c.next_name.new.reader in
    let r = c.next_source.new.reader in
    let named : read_key l.reader ≡ Some (Some k, s) = grind arith in
    let source = c.in_ok-source.ensures.said in
    let less = read_key-shorter l.reader (Some k) s named in (
      put k source.0 i.0,
      members_go_on c.args.depth c.args.reader.now l.reader s r i.0 k source.0 i.1 named source.1 less c.in_ok-source.ensures.shorter,
      c.in_ok-put_member.ensures.said i.0 source.0 i.2 (source.2 ∙ ap (λ b. noted_source b c.args.plan.now source.0) (c.bound_of-bound.ensures.says ∙ ap (bound_under c.args.plan.now) c.as_bytes.ensures.value)),
    )

pub returns-clause-said : goal.returns-clause-said
returns-clause-said c =
    let l = c.members in
    let i = l.invariant in
    let over : read_key l.reader ≡ Some (None, c.next_name.new.reader) = grind arith in
    (i.0, l.reader, i.1, over, i.2)

pub returns-in_err-name-clause-refused : goal.returns-in_err-name-clause-refused
returns-in_err-name-clause-refused c =
    passed_on c.from_residual-in_err-name.result c.from_residual-in_err-name.ensures.1
    (λ e same other.
    let l = c.members in
    let i = l.invariant in
    key_fails c.args.depth c.args.reader.now l.reader i.0 i.1 c.in_err-name.ensures.refused)

pub returns-in_err-source-clause-refused : goal.returns-in_err-source-clause-refused
returns-in_err-source-clause-refused c =
    passed_on c.from_residual-in_err-source.result c.from_residual-in_err-source.ensures.1
    (λ e same other.
    let l = c.members in
    let i = l.invariant in
    let k = c.in-Some.name.now in
    let s = c.next_name.new.reader in
    let named : read_key l.reader ≡ Some (Some k, s) = grind arith in
    member_fails c.args.depth c.args.reader.now l.reader s i.0 k i.1 named (c.in_err-source.ensures.refused (sym same ∙ other)))
