use Rattle.std.proofs.Common.{List, length, sym, ap, subst, ◌∙◌}
use Rattle.std.specs.List.{All}
use Rattle.aggregates.specs.declared.kind.Kind.{Kind}
use Rattle.aggregates.specs.Kinds.{IsAcc}
use Rattle.savepoint_codec.specs.EntriesData.{EntriesData}
use Rattle.packed_parts.specs.Packing.{part_of}
use Rattle.packed_parts.proofs.packing.Packing.copy.Goals as goal

pub invariant_of-result : goal.invariant_of-result
invariant_of-result c =
    let kinds = c.in_ok-from_slice.ensures.items ∙ c.as_slice.ensures.value in
    let entries = c.in_ok-copy.ensures in
    let Sound : List Kind → EntriesData → Type 0 = λ ks v. All (λ e. IsAcc (part_of ks e).acc) v.entries in
    record {
      wide = ap (λ (v : EntriesData). v.width) entries ∙ c.self.invariant.wide ∙ ap length (sym kinds);
      sound = subst (λ (ks : List Kind). Sound ks c.in_ok-copy.field-0) (sym kinds) (subst (Sound c.self.inside.kinds.items) (sym entries) c.self.invariant.sound);
    }
