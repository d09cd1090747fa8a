use Rattle.std.proofs.Common.{◌∙◌, ap}
use Rattle.packed_parts.specs.Packing.{PackingData}
use Rattle.window_state.specs.Parts.{entries_of}
use Rattle.window_state.proofs.Joined.{says_all}
use Rattle.window_state.proofs.parts.parts_of.Goals as goal

pub returns-clause-says : goal.returns-clause-says
returns-clause-says c =
    ap entries_of c.from_packing.ensures
    ∙ says_all c.windows.inside c.args.windows.now c.windows.invariant c.windows.view_is _ _ c.new-parts.result c.push_placed.new.parts c.push_later.new.parts
    (ap (λ (x : PackingData). x.parts) c.new-parts.ensures) c.in_ok-push_placed.ensures.pushed c.in_ok-push_later.ensures.pushed
