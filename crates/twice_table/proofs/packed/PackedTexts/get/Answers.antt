use Rattle.std.proofs.Common.{arith, length, sym, ap, ◌∙◌, ◌≡◌}
use Rattle.std.proofs.lemmas.Grind.{common_steps}
use Rattle.twice_table.proofs.Cuts.{length_cut}
use Rattle.twice_table.proofs.packed.PackedTexts.get.Goals as goal

pub text_at-requires-clause-within : goal.text_at-requires-clause-within
text_at-requires-clause-within c =
    let e : length c.args.self.now ≡ length c.self.inside.ends.items = sym (ap length c.self.view_is) ∙ length_cut 0 c.self.inside.ends.items c.self.inside.bytes.items in
    grind (arith, common_steps)
