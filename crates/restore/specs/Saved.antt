-- What a savepoint has for the sources of a plan.
use Rattle.std.specs.Prelude.{ℕ, List, [], map, bytes_eq}
use Rattle.std.specs.Option.{option_map_or}
use Rattle.std.specs.List.{find}
use Rattle.plan_model.specs.PlanData.{PlanData}
use Rattle.savepoint_codec.specs.declared.savepoint.SavedPartition.{SavedPartition}
use Rattle.savepoint_codec.specs.declared.savepoint.SavedSource.{SavedSource}
use Rattle.savepoint_codec.specs.declared.savepoint.Contents.{Contents}

-- the partitions of the source with a uid; none where there is no such source
abbrev pub saved_under : List ℕ → List SavedSource → List SavedPartition
saved_under uid sources = option_map_or (λ s. s.partitions) (find (λ s. bytes_eq s.uid uid) sources) []

-- the partitions of each of the plan's sources, in plan order
abbrev pub saved_sources : PlanData → Contents → List (List SavedPartition)
saved_sources plan s = map (λ source. saved_under source.uid s.sources) plan.sources

-- the cut that a savepoint was taken at: how far each partition was read
abbrev pub cut_of : List (List SavedPartition) → List (List ℕ)
cut_of sources = map (map (λ p. p.offset)) sources
