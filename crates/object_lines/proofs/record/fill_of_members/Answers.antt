use Rattle.std.proofs.Common.{◌≡◌, Some, Option, Ok, arith, ap, sym, ◌∙◌, subst}
use Rattle.std.proofs.lemmas.Option.{slice_get-get_or}
use Rattle.csv.specs.Records.{fields_of}
use Rattle.json.specs.Value.{members_view}
use Rattle.object_lines.specs.Members.{asked_text}
use Rattle.object_lines.specs.Records.{IsPushed}
use Rattle.object_lines.specs.declared.fault.MemberFault.{MemberFault}
use Rattle.object_lines.proofs.Texts.{next_text}
use Rattle.object_lines.proofs.record.fill_of_members.Goals as goal

pub loop-i-preserved : goal.loop-i-preserved
loop-i-preserved c =
    let ms = members_view c.args.members.now.items in
    let before = fields_of c.loop-i.record in
    let pushed = subst (λ (fault : Option MemberFault). IsPushed before (fields_of c.push_asked.new.record) (asked_text ms c.index-asked-i.result) fault) c.in_default.is c.in_ok-fault.ensures.pushes in
    let next : asked_text ms c.index-asked-i.result ≡ Ok pushed.0 = pushed.1 in
    record {
      texts = rw pushed.2 (next_text ms c.args.asked.now c.loop-i.i _ c.index-asked-i.result pushed.0 before (omega arith) c.index-asked-i.is c.loop-i.invariant.texts next);
      whole = c.in_ok-fault.ensures.whole;
    }

pub returns-in-Some : goal.returns-in-Some
returns-in-Some c =
    let ms = members_view c.args.members.now.items in
    let before = fields_of c.loop-i.record in
    let pushed = subst (λ (fault : Option MemberFault). IsPushed before (fields_of c.push_asked.new.record) (asked_text ms c.index-asked-i.result) fault) c.in-Some.is c.in_ok-fault.ensures.pushes in
    (c.index-asked-i.result, slice_get-get_or c.args.asked.now c.loop-i.i _ (omega arith) ∙ ap Some (sym c.index-asked-i.is), pushed.0, rw pushed.1 c.loop-i.invariant.texts)
