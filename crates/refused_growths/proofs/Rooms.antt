-- What there is room for.
use Rattle.std.proofs.Common.{◌≡◌, List, Some, None, sym, ◌∙◌}
use Rattle.std.specs.FinMap.{empty, get-empty}
use Rattle.plain_data.specs.Record.{Record}
use Rattle.plan_model.specs.declared.spec.WindowSpec.{WindowSpec}
use Rattle.plan_model.specs.Rows.{pane_cmp}
use Rattle.window_state.specs.State.{HasRoomFor}

-- a state in which nothing stands has room for each batch
pub has_room : (w : WindowSpec) (records : List Record) → HasRoomFor w records empty
has_room w records q a b e = absurd (let z : None ≡ Some a = sym (get-empty pane_cmp q) ∙ e in cc)
