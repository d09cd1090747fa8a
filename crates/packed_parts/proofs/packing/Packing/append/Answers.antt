use Rattle.std.proofs.Common.{◌≡◌, ◌++◌, true, List, length, map, sym, ap, subst, ◌∙◌}
use Rattle.std.specs.List.{All}
use Rattle.std.proofs.lemmas.List.{map-append}
use Rattle.std.proofs.lemmas.List.Elements.{All-append, All-weaker}
use Rattle.aggregates.specs.declared.kind.Kind.{Kind}
use Rattle.aggregates.specs.Kinds.{is_entry, IsAcc}
use Rattle.aggregates.proofs.Accs.{length-numbers}
use Rattle.savepoint_codec.specs.EntriesData.{EntryData, EntriesData}
use Rattle.packed_parts.specs.declared.part.Part.{Part}
use Rattle.packed_parts.specs.Packing.{PackingData, part_of}
use Rattle.packed_parts.proofs.Sound.{sound_entry}
use Rattle.packed_parts.proofs.packing.Packing.append.Goals as goal

abbrev IsSound : List Kind → EntryData → Type 0
IsSound kinds e = IsAcc (part_of kinds e).acc

-- they are entries of the kinds that stand inside
are_sound : (kinds own : List Kind) (es : List EntryData) → own ≡ kinds → All (λ e. is_entry kinds e.total.count e.total.numbers ≡ true) es → All (IsSound own) es
are_sound kinds own es same each =
    let is_one : List Kind → EntryData → Type 0 = λ ks e. is_entry ks e.total.count e.total.numbers ≡ true in
    All-weaker (is_one own) (IsSound own) (sound_entry own) es (subst (λ (ks : List Kind). All (is_one ks) es) (sym same) each)

pub append-requires : goal.append-requires
append-requires c =
    let kinds = c.self.inside.kinds.items in
    let each = are_sound c.args.self.now.kinds kinds c.args.entries.now.entries (ap (λ (v : PackingData). v.kinds) c.self.view_is) c.requires in
    All-weaker (IsSound kinds) (λ e. length e.total.numbers ≡ c.self.inside.entries.width) (λ e sound. length-numbers e.total.count kinds e.total.numbers sound.numbers ∙ sym c.self.invariant.wide) c.args.entries.now.entries each

pub invariant_of-self-2 : goal.invariant_of-self-2
invariant_of-self-2 c =
    let kinds = c.self.inside.kinds.items in
    let more = c.args.entries.now.entries in
    let each = are_sound c.args.self.now.kinds kinds more (ap (λ (v : PackingData). v.kinds) c.self.view_is) c.requires in
    let is = c.in_ok-append.ensures.ok in
    record {
      wide = ap (λ (v : EntriesData). v.width) is ∙ c.self.invariant.wide;
      sound = subst (λ (v : EntriesData). All (IsSound kinds) v.entries) (sym is) (All-append (IsSound kinds) c.self.inside.entries.entries more c.self.invariant.sound each);
    }

pub returns-clause-ok : goal.returns-clause-ok
returns-clause-ok c =
    let kinds = c.self.inside.kinds.items in
    let more = c.args.entries.now.entries in
    ap (λ (v : EntriesData). record { kinds = kinds; parts = map (part_of kinds) v.entries }) c.in_ok-append.ensures.ok
    ∙ ap (λ (ps : List Part). record { kinds = kinds; parts = ps }) (map-append (part_of kinds) c.self.inside.entries.entries more)
    ∙ ap (λ (v : PackingData). record v { parts = v.parts ++ map (part_of v.kinds) more }) c.self.view_is
