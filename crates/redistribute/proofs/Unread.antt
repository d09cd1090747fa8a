-- Partitions and sources of which nothing was read, one after another.
use Rattle.std.proofs.Common.{◌≡◌, List, [], ◌∷◌, map, length, refl, ap, ◌∙◌}
use Rattle.std.proofs.lemmas.List.{length-map}
use Rattle.stream_model.specs.declared.entry.Marked.{Marked}
use Rattle.stream_model.specs.Watermarks.{empty_cut}
use Rattle.redistribute.specs.Snapshots.{saved_partition, saved_source, start_at}

-- a source at the empty cut, partition by partition
pub unread_partitions : (ps : List (List Marked)) → saved_source ps (map (λ p. 0) ps) ≡ map (λ p. saved_partition p 0) ps
unread_partitions [] = refl
unread_partitions (p ∷ ps) = ap (λ z. saved_partition p 0 ∷ z) (unread_partitions ps)

-- and all of them, source by source
pub unread_sources : (ss : List (List (List Marked))) → (start_at ss (empty_cut ss) 0).sources ≡ map (λ s. saved_source s (map (λ p. 0) s)) ss
unread_sources [] = refl
unread_sources (s ∷ ss) = ap (λ z. saved_source s (map (λ p. 0) s) ∷ z) (unread_sources ss)

-- of each source, as many partitions as it has
pub unread_shape : (ss : List (List (List Marked))) → map (λ partitions. length partitions) (map (λ s. saved_source s (map (λ p. 0) s)) ss) ≡ map (λ partitions. length partitions) ss
unread_shape [] = refl
unread_shape (s ∷ ss) = λ i. (ap length (unread_partitions s) ∙ length-map s (λ p. saved_partition p 0)) i ∷ unread_shape ss i
