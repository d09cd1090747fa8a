-- A part's entries are those that are left of the whole's, whatever the marks that its sources give them.
use Rattle.std.proofs.Common.{◌≡◌, ℕ, ℤ, Bool, List, [], ◌∷◌, map, Option, None, refl, ap}
use Rattle.plain_data.specs.Record.{Record}
use Rattle.plan_model.specs.declared.spec.SourceSpec.{SourceSpec}
use Rattle.stream_model.specs.declared.entry.Entry.{Entry}
use Rattle.stream_model.specs.declared.entry.Marked.{Marked}
use Rattle.input_parts.specs.Parts.{unmarked, marked, entries_left, partition_kept, sources_kept}

of_marked : (bound : Option ℤ) (time : ℕ) (es : List Entry) → unmarked (marked bound time es) ≡ es
of_marked bound time [] = refl
of_marked bound time (e ∷ es) = ap (λ l. e ∷ l) (of_marked bound time es)

in_source : (keep : Record → Bool) (bound : Option ℤ) (time : ℕ) (ps : List (List Marked)) → map unmarked (map (partition_kept keep bound time) ps) ≡ map (entries_left keep) ps
in_source keep bound time [] = refl
in_source keep bound time (p ∷ ps) = λ i. of_marked bound time (entries_left keep p) i ∷ in_source keep bound time ps i

pub in_sources : (keep : Record → Bool) (time : ℕ) (specs : List SourceSpec) (ss : List (List (List Marked))) → map (map unmarked) (sources_kept keep time specs ss) ≡ map (map (entries_left keep)) ss
in_sources keep time [] [] = refl
in_sources keep time (spec ∷ specs) [] = refl
in_sources keep time [] (s ∷ ss) = λ i. in_source keep None time s i ∷ in_sources keep time [] ss i
in_sources keep time (spec ∷ specs) (s ∷ ss) = λ i. in_source keep spec.bound time s i ∷ in_sources keep time specs ss i
