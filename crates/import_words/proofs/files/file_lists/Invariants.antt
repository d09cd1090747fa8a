use Rattle.std.proofs.Common.{◌≡◌, map, string_bytes}
use Rattle.import_words.specs.Files.{names_in}
use Rattle.import_words.proofs.files.file_lists.Given as goal

abbrev pub invariant-loop-part : goal.invariant-loop-part
invariant-loop-part l = map (λ list. map string_bytes list.items) l.lists.items ≡ map names_in (map (λ part. part.now) l.yielded)
