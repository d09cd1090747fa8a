use Rattle.std.proofs.Common.{◌≡◌, Some, sym, ◌∙◌, to_z, of_z, to_z-of_z, w64, arith}
use Rattle.json.specs.Json.{read_key}
use Rattle.json.proofs.Grammar.{read_key-shorter}
use Rattle.json_tokens.proofs.Facts.{key_fails, member_fails, members_begin, members_go_on}
use Rattle.serde_json.specs.Data.{no_members, put}
use Rattle.input_texts.proofs.EntryNotings.{none_passed, member_more}
use Rattle.input_texts.proofs.Notings.{passed_on}
use Rattle.input_texts.proofs.noting.members_noted.Goals as goal

pub members-init : goal.members-init
members-init c = (no_members, members_begin c.args.depth c.args.reader.now, none_passed c.args.bound c.args.plan.now.columns c.args.plan.now.window.time (to_z w64 (of_z w64 c.args.watermark)))

pub members-preserved : goal.members-preserved
members-preserved c =
    let l = c.members in
    let i = l.invariant in
    let plan = c.args.plan.now in
    let k = c.in-Some.name.now in
    let s = c.next_key.new.self in
    let r = c.next_member.new.reader in
    let named : read_key l.reader ≡ Some (Some k, s) = grind arith in
    let noted = c.in_ok-member.ensures.said in
    let less = read_key-shorter l.reader (Some k) s named in (
      put k noted.0 i.0,
      members_go_on c.args.depth c.args.reader.now l.reader s r i.0 k noted.0 i.1 named noted.1 less c.in_ok-member.ensures.shorter,
      rw (c.noted_as-entry.ensures, c.with_member-named.ensures, c.named_by-next.ensures)
          (member_more c.args.bound plan.columns plan.window.time (to_z w64 (of_z w64 c.args.watermark)) l.named k noted.0 i.0 l.entry c.in_ok-member.member i.2 (rw c.named_by-next.ensures at noted.2)),
    )

pub returns-clause-said : goal.returns-clause-said
returns-clause-said c =
    let l = c.members in
    let i = l.invariant in
    (i.0, l.reader, i.1, grind arith, rw (to_z-of_z {w = w64} {z = c.args.watermark} c.ranges.watermark) at i.2.noted)

pub returns-in_err-name-clause-refused : goal.returns-in_err-name-clause-refused
returns-in_err-name-clause-refused c =
    passed_on c.from_residual.result c.from_residual.ensures.1
    (λ e same other.
    let l = c.members in
    let i = l.invariant in
    key_fails c.args.depth c.args.reader.now l.reader i.0 i.1 c.in_err-name.ensures.value)

pub returns-in_err-member-clause-refused : goal.returns-in_err-member-clause-refused
returns-in_err-member-clause-refused c =
    passed_on c.from_residual-in_err-member.result c.from_residual-in_err-member.ensures.1
    (λ e same other.
    let l = c.members in
    let i = l.invariant in
    let k = c.in-Some.name.now in
    let s = c.next_key.new.self in
    let named : read_key l.reader ≡ Some (Some k, s) = grind arith in
    member_fails c.args.depth c.args.reader.now l.reader s i.0 k i.1 named (c.in_err-member.ensures.refused (sym same ∙ other)))
