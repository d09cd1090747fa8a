use Rattle.std.proofs.Common.{◌≡◌, ◌++◌, map, length, string_bytes}
use denote.Text.{Utf8}
use denote.Shadow.{shadow}
use Rattle.import_words.specs.Files.{before, names_in}
use Rattle.import_words.proofs.files.file_names.Given as goal

abbrev pub invariant-parts : goal.invariant-parts
invariant-parts l = record {
  text : shadow (Utf8 l.rest);
  says : names_in l.text ≡ map string_bytes l.names.items ++ before (string_bytes l.name) (names_in l.rest);
}

abbrev pub decreases-parts : goal.decreases-parts
decreases-parts l = length l.rest
