use Rattle.std.proofs.Common.{Result, sym, subst, arith}
use Rattle.json.specs.Json.{Json}
use Rattle.json.specs.Value.{members_view}
use Rattle.object_lines.specs.Members.{IsValue}
use Rattle.object_lines.specs.declared.fault.MemberFault.{MemberFault}
use Rattle.object_lines.proofs.Paths.{same_value}
use Rattle.object_lines.proofs.member.+path_value.Goals as goal

pub path_value-requires : goal.path_value-requires
path_value-requires c c' = (omega (arith, c'.in-Into.ensures.0), tt)

pub returns-in-Into : goal.returns-in-Into
returns-in-Into c c' =
    let same = same_value c'.args.name.now c'.in-Into.behind.now (members_view c'.args.members.now.items) (members_view c'.in-Into.inner.now.items) c'.in-Into.ensures.0 c'.in-Into.ensures.1 in
    subst (λ (said : Result Json MemberFault). IsValue said c'.path_value.result) (sym same) c'.path_value.ensures
