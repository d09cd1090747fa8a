-- What a cut leaves of an input's partitions is as a savepoint must have it.
use Rattle.std.proofs.Common.{◌≡◌, ℕ, ◌≤◌, true, List, [], ◌∷◌, length, refl}
use Rattle.std.specs.List.{AllZip, list_all, zip}
use Rattle.std.proofs.lemmas.Bool.{and_from, le-leb}
use Rattle.std.proofs.lemmas.Bool.Decides.{Decides-int_eq}
use Rattle.stream_model.specs.declared.entry.Marked.{Marked}
use Rattle.stream_model.specs.Watermarks.{IsCut, partition_watermark}
use Rattle.redistribute.specs.Snapshots.{saved_source, saved_sources}
use Rattle.redistribute.proofs.Facts.{offsets_in}
use Rattle.restore.specs.Requirements.{every_partition, is_within, is_watermark}
use Rattle.restore.specs.Saved.{cut_of}

-- the cut is how far each partition was read
pub cut_back : (ss : List (List (List Marked))) (cs : List (List ℕ)) → IsCut ss cs → cut_of (saved_sources ss cs) ≡ cs
cut_back [] [] h = refl
cut_back [] (c ∷ cs) h = absurd h
cut_back (s ∷ ss) [] h = absurd h
cut_back (s ∷ ss) (c ∷ cs) h = λ j. offsets_in s c h.0 j ∷ cut_back ss cs h.1 j

-- no more entries were read than there are
within_in : (ps : List (List Marked)) (ns : List ℕ) → AllZip (λ p n. n ≤ length p) ps ns → list_all is_within (zip (saved_source ps ns) ps) ≡ true
within_in [] [] h = refl
within_in [] (n ∷ ns) h = absurd h
within_in (p ∷ ps) [] h = absurd h
within_in (p ∷ ps) (n ∷ ns) h = and_from _ _ (le-leb n (length p) h.0) (within_in ps ns h.1)

pub within : (ss : List (List (List Marked))) (cs : List (List ℕ)) → IsCut ss cs → every_partition is_within (saved_sources ss cs) ss ≡ true
within [] [] h = refl
within [] (c ∷ cs) h = absurd h
within (s ∷ ss) [] h = absurd h
within (s ∷ ss) (c ∷ cs) h = and_from _ _ (within_in s c h.0) (within ss cs h.1)

-- and the watermarks are those that they have brought
marks_in : (ps : List (List Marked)) (ns : List ℕ) → list_all is_watermark (zip (saved_source ps ns) ps) ≡ true
marks_in [] ns = refl
marks_in (p ∷ ps) [] = refl
marks_in (p ∷ ps) (n ∷ ns) = and_from _ _ ((Decides-int_eq (partition_watermark p n) (partition_watermark p n)).1 refl) (marks_in ps ns)

pub marks : (ss : List (List (List Marked))) (cs : List (List ℕ)) → every_partition is_watermark (saved_sources ss cs) ss ≡ true
marks [] cs = refl
marks (s ∷ ss) [] = refl
marks (s ∷ ss) (c ∷ cs) = and_from _ _ (marks_in s c) (marks ss cs)
