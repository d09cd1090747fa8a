-- What was read before a cut has as many partitions as the input.
use Rattle.std.proofs.Common.{◌≡◌, ◌≤◌, ℕ, List, [], ◌∷◌, length, map, take, refl, ap₂, ◌∙◌}
use Rattle.std.proofs.lemmas.List.{length-map}
use Rattle.std.specs.List.{AllZip}
use Rattle.stream_model.specs.declared.entry.Marked.{Marked}
use Rattle.stream_model.specs.Watermarks.{IsCut}
use Rattle.input_changes.specs.Agreement.{entries_before_in}
use Rattle.receipts.specs.Read.{read_before, was_read_of}
use Rattle.receipts.proofs.Zipped.{zip_long}

in_source : (ps : List (List Marked)) (ns : List ℕ) → AllZip (λ p n. n ≤ length p) ps ns → length (map was_read_of (entries_before_in ps ns)) ≡ length ps
in_source ps ns all = length-map (entries_before_in ps ns) was_read_of ∙ zip_long (λ p n. n ≤ length p) (λ p n. take n p) entries_before_in (refl, λ p n ps ns. refl) ps ns all

pub read_shape : (ss : List (List (List Marked))) (cut : List (List ℕ)) → IsCut ss cut → map (λ counted. length counted) (read_before ss cut) ≡ map (λ partitions. length partitions) ss
read_shape [] [] all = refl
read_shape [] (c ∷ cs) all = absurd all
read_shape (s ∷ ss) [] all = absurd all
read_shape (s ∷ ss) (c ∷ cs) all = ap₂ (λ (n : ℕ) (ns : List ℕ). n ∷ ns) (in_source s c all.0) (read_shape ss cs all.1)
