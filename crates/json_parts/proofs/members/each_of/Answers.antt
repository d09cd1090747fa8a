use Rattle.std.proofs.Common.{◌≡◌, string_bytes, ◌∷◌, ◌∙◌}
use Rattle.serde_json.specs.View.{view, members_view}
use Rattle.json_parts.proofs.EachMember.{member_goes_on}
use Rattle.json_parts.proofs.members.each_of.Goals as goal

pub loop-key-preserved : goal.loop-key-preserved
loop-key-preserved g c =
    let step : c.loop-key.key-iterator ≡ (c.in-Some.key.now, c.in-Some.value.now) ∷ c.next.new.self = c.in-Some.ensures.steps in
    let so_far = rw step at c.loop-key.invariant in
    rw c.in_ok-push.ensures.items (member_goes_on g.T.FromValue.text_of _ (string_bytes c.in-Some.key.now) _ (view c.in-Some.value.now) _ (members_view c.next.new.self) _ (c.from_string-name.ensures ∙ c.in_ok-from_str.ensures.ok ∙ c.as_str.ensures.value) c.in_ok-part.ensures so_far)
