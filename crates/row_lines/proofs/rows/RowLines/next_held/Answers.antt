use Rattle.std.proofs.Common.{◌-◌, List, ℕ, length, take, Some, subst}
use Rattle.row_lines.specs.Lines.{IsPlace}
use Rattle.row_lines.proofs.Feeds.{feed_behind}
use Rattle.row_lines.proofs.rows.RowLines.next_held.Goals as goal

pub take_line-requires : goal.take_line-requires
take_line-requires g c =
    let place = length c.held-held.result.now - length c.in_ok-place.rest.now - 1 in
    subst (λ (text : List ℕ). IsPlace (take 391 text) (Some place)) c.held-held.ensures (feed_behind c.held-held.result.now c.in_ok-place.rest.now c.in_ok-place.place c.in_ok-place.ensures).0
