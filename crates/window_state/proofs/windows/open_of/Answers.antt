use Rattle.std.proofs.Common.{◌≡◌, ◌<◌, length, true, cond, ◌+◌, take, ◌∙◌, ap, subst, arith}
use Rattle.std.proofs.lemmas.List.{take_all}
use Rattle.savepoint_codec.specs.EntriesData.{EntryData}
use Rattle.window_state.specs.Parts.{panes_in}
use Rattle.window_state.specs.Windows.{has_pane, is_pane}
use Rattle.packed_parts.proofs.Places.{part_at}
use Rattle.window_state.proofs.PartMaps.{pane_more}
use Rattle.window_state.proofs.windows.open_of.Goals as goal

pub loop-i-preserved : goal.loop-i-preserved
loop-i-preserved c = λ q.
    let parts = c.args.parts.now in
    let i = c.loop-i.i in
    let low : i < length parts = omega (arith, c.len-i-end.ensures, c.loop-i-test.true) in
    let part = part_at parts i _ c.entry.ensures.is in
    c.in_ok-open_pane.ensures.opened q ∙ ap (cond (is_pane c.entry.result.pane q) true) (c.loop-i.invariant q)
    ∙ subst (λ (e : EntryData). cond (is_pane e.pane q) true (has_pane (panes_in (take i parts)) q) ≡ has_pane (panes_in (take (i + 1) parts)) q) part.2 (pane_more parts i part.0 q low part.1)

pub returns : goal.returns
returns c = λ q. c.loop-i.invariant q ∙ ap (λ l. has_pane (panes_in l) q) (take_all c.loop-i.i c.args.parts.now (omega arith))
