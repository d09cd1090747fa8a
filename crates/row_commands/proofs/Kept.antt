-- What a flush leaves.
use Rattle.std.proofs.Common.{ℕ, List, Option}
use Rattle.std.proofs.KnownBytes.{Appends-kept}
use Rattle.std.specs.Io.KnownBytes.{Keeps}
use Rattle.row_merges.specs.Merges.{MergesRows}

pub merged_kept : (texts : List (Option (List ℕ))) (a b c : Option (List ℕ)) → MergesRows texts a b → Keeps b c → MergesRows texts a c
merged_kept texts a b c h k =
    record { lists = h.lists; rows = h.rows; of_texts = h.of_texts; all = h.all; ordered = h.ordered; written = Appends-kept a b c _ h.written k }
