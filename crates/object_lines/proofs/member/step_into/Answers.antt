use Rattle.std.proofs.Common.{◌≡◌, ◌∙◌, ℕ, List, None, Some, Ok, Err, lit<, ap, sym, subst}
use Rattle.std.proofs.lemmas.Str.Pattern.{split_once_first, split_parts}
use Rattle.json.specs.Value.{value_view, members_view}
use Rattle.object_lines.specs.Members.{only, values_of, nested}
use Rattle.object_lines.proofs.Paths.{nowhere, no_front, no_object, into, shorter}
use Rattle.object_lines.proofs.member.step_into.Goals as goal

pub returns-in_default : goal.returns-in_default
returns-in_default c depth few is =
    nowhere depth c.args.name.now (members_view c.args.members.now.items) (split_once_first 46 c.args.name.now None c.in_default.ensures.cases (lit< tt)) is

pub returns-in-Some-members_of : goal.returns-in-Some-members_of
returns-in-Some-members_of c =
    let name = c.args.name.now in
    let ms = members_view c.args.members.now.items in
    let parts = split_once_first 46 name (Some (c.in-Some.front, c.in-Some.behind)) c.in-Some.ensures.cases (lit< tt) in
    let whole = split_parts 46 name (Some (c.in-Some.front, c.in-Some.behind)) c.in-Some.ensures.cases (lit< tt) in
    let front = subst (λ (text : List ℕ). only (values_of text ms) ≡ Ok (value_view c.in-Ok.value.now)) parts.1 c.in-Ok.ensures in (
      shorter name c.in-Some.front.now c.in-Some.behind.now whole.0,
      λ depth is. into depth name ms (members_view c.in-Some-members_of.inner.now.items) (value_view c.in-Ok.value.now) parts.0 is front (sym c.in-Some-members_of.ensures)
          ∙ ap (λ (text : List ℕ). nested depth text (members_view c.in-Some-members_of.inner.now.items)) (sym parts.2),
    )

pub returns-in-None : goal.returns-in-None
returns-in-None c depth few is =
    let name = c.args.name.now in
    let ms = members_view c.args.members.now.items in
    let parts = split_once_first 46 name (Some (c.in-Some.front, c.in-Some.behind)) c.in-Some.ensures.cases (lit< tt) in
    let front = subst (λ (text : List ℕ). only (values_of text ms) ≡ Ok (value_view c.in-Ok.value.now)) parts.1 c.in-Ok.ensures in
    no_object depth name ms (value_view c.in-Ok.value.now) parts.0 few is front (sym c.in-None.ensures)

pub returns-in-Err : goal.returns-in-Err
returns-in-Err c depth few is =
    let name = c.args.name.now in
    let ms = members_view c.args.members.now.items in
    let parts = split_once_first 46 name (Some (c.in-Some.front, c.in-Some.behind)) c.in-Some.ensures.cases (lit< tt) in
    no_front depth name ms c.in-Err.fault parts.0 few is (subst (λ (text : List ℕ). only (values_of text ms) ≡ Err c.in-Err.fault) parts.1 c.in-Err.ensures)
