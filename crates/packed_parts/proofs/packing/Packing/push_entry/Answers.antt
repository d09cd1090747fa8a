use Rattle.std.proofs.Common.{◌≡◌, List, sym, ap, subst, ◌∙◌}
use Rattle.std.specs.List.{All}
use Rattle.std.proofs.lemmas.List.Elements.{All-push}
use Rattle.aggregates.specs.declared.kind.Kind.{Kind}
use Rattle.aggregates.specs.Kinds.{IsAcc}
use Rattle.aggregates.proofs.Accs.{length-numbers}
use Rattle.savepoint_codec.specs.EntriesData.{EntryData, EntriesData}
use Rattle.savepoint_codec.specs.EntriesView.{entry_data}
use Rattle.packed_parts.specs.Packing.{PackingData, part_of}
use Rattle.packed_parts.proofs.packing.Packing.push_entry.Goals as goal

-- it is what records come to by the kinds that stand inside
inside_entry : (kinds own : List Kind) (e : EntryData) → own ≡ kinds → IsAcc (part_of kinds e).acc → IsAcc (part_of own e).acc
inside_entry kinds own e same h = subst (λ (ks : List Kind). IsAcc (part_of ks e).acc) (sym same) h

pub push-requires : goal.push-requires
push-requires c =
    let e = entry_data c.args.entry in
    let kinds = c.self.inside.kinds.items in
    let here = inside_entry c.args.self.now.kinds kinds e (ap (λ (v : PackingData). v.kinds) c.self.view_is) c.requires in
    length-numbers e.total.count kinds e.total.numbers here.numbers ∙ sym c.self.invariant.wide

pub invariant_of-self-2 : goal.invariant_of-self-2
invariant_of-self-2 c =
    let e = entry_data c.args.entry in
    let kinds = c.self.inside.kinds.items in
    let here = inside_entry c.args.self.now.kinds kinds e (ap (λ (v : PackingData). v.kinds) c.self.view_is) c.requires in
    let Sound : EntryData → Type 0 = λ x. IsAcc (part_of kinds x).acc in
    let is = c.in_ok-push.ensures.ok in
    record {
      wide = ap (λ (v : EntriesData). v.width) is ∙ c.self.invariant.wide;
      sound = subst (λ (v : EntriesData). All Sound v.entries) (sym is) (All-push Sound c.self.inside.entries.entries e c.self.invariant.sound here);
    }
