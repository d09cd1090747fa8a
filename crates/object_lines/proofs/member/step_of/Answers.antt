use Rattle.json.specs.Value.{value_view, members_view}
use Rattle.object_lines.proofs.Paths.{found, twice, no_text}
use Rattle.object_lines.proofs.member.step_of.Goals as goal

pub returns-in-Ok : goal.returns-in-Ok
returns-in-Ok c depth = found depth c.args.name.now (members_view c.args.members.now.items) (value_view c.in-Ok.value.now) c.in-Ok.ensures

pub returns-in-Err-Twice : goal.returns-in-Err-Twice
returns-in-Err-Twice c depth few = twice depth c.args.name.now (members_view c.args.members.now.items) (rw c.in-Err-Twice.field-0-is at c.in-Err-Twice.ensures)

pub returns-in-Err-NoText : goal.returns-in-Err-NoText
returns-in-Err-NoText c depth few = no_text depth c.args.name.now (members_view c.args.members.now.items) (rw c.in-Err-NoText.field-0-is at c.in-Err-NoText.ensures)
