use Rattle.std.proofs.Common.{◌≡◌, false, None, Some, ◌||◌, not, is_some, bytes_eq, refl, sym}
use Rattle.std.specs.List.{position}
use Rattle.plan_model.specs.declared.spec.SourceSpec.{SourceSpec}
use Rattle.input_texts.proofs.NotedMembers.{source_put, other_put, turned, unknown_name}
use Rattle.input_texts.proofs.finding.put_member.Goals as goal

pub returns-in-Some-clause-said : goal.returns-in-Some-clause-said
returns-in-Some-clause-said c = λ ms d i says.
    let plan = c.args.plan.now in
    let name = c.args.name.now in
    let old = c.args.document.now in
    let found : position (λ (s : SourceSpec). bytes_eq s.uid name) plan.sources ≡ Some c.in-Some.place = rw (c.sources.ensures.says, c.as_bytes.ensures.value) at (sym c.in-Some.ensures) in
    source_put plan c.args.most ms old (record { slots = c.put.new.slots; names = old.names; is_planned = old.is_planned; are_more = old.are_more }) name d c.args.source i says c.in-Some.place c.sources.ensures.sound found c.put.ensures refl refl refl

pub returns-clause-said : goal.returns-clause-said
returns-clause-said c = λ ms d i says.
    let plan = c.args.plan.now in
    let name = c.args.name.now in
    let old = c.args.document.now in
    let none : position (λ (s : SourceSpec). bytes_eq s.uid name) plan.sources ≡ None = rw (c.sources.ensures.says, c.as_bytes.ensures.value) at (sym c.in_default.ensures) in
    let room = c.in_ok-has_room.has_room in
    let form = turned (is_some c.args.source) c.is_none.result c.is_none.ensures in
    other_put plan c.args.most ms old (record { slots = old.slots; names = c.put_name.new.names; is_planned = false; are_more = old.are_more || not room }) name d c.args.source i says room c.is_none.result
    (unknown_name plan name none) form refl c.in_ok-has_room.ensures.said refl refl c.in_ok-has_room.ensures.full
