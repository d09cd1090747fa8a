use Rattle.std.proofs.Common.{◌≡◌, length, bytes_eq}
use denote.Text.{Utf8}
use denote.Shadow.{shadow}
use Rattle.std.specs.List.{list_any}
use Rattle.import_words.specs.Files.{names_in}
use Rattle.import_words.proofs.Paths.{has_path}
use Rattle.import_words.proofs.files.names_path.Given as goal

abbrev pub invariant-parts : goal.invariant-parts
invariant-parts l = record {
  text : shadow (Utf8 l.rest);
  says : list_any (bytes_eq l.path) (names_in l.text) ≡ has_path l.path l.left (names_in l.rest);
}

abbrev pub decreases-parts : goal.decreases-parts
decreases-parts l = length l.rest
