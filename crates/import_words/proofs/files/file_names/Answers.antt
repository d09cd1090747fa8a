use Rattle.std.proofs.Common.{rules, ◌≡◌, ◌∙◌, ◌++◌, ◌∷◌, [], ap, map, string_bytes}
use Rattle.std.proofs.lemmas.List.{map-append}
use Rattle.import_words.specs.Files.{names_in}
use Rattle.import_words.proofs.Names.{named}
use Rattle.import_words.proofs.files.file_names.Goals as goal

pub parts-preserved-in-Name : goal.parts-preserved-in-Name
parts-preserved-in-Name c =
    let next = rw c.in-Name.is at c.next_part.ensures in
    let put : map string_bytes c.push-in-Name.new.self.items ≡ map string_bytes c.parts.names.items ++ string_bytes c.push_str.new.self ∷ [] = ap (map string_bytes) c.in_ok-push-in-Name.ensures.items ∙ map-append string_bytes c.parts.names.items (c.push_str.new.self ∷ []) in
    record {
      text = search rules;
      says = named (names_in c.args.text.now) (map string_bytes c.parts.names.items) (map string_bytes c.push-in-Name.new.self.items) (names_in c.parts.rest.now) (names_in c.in-Name.text.now)
          (string_bytes c.parts.name) c.next_part.result.0.now (string_bytes c.push_str.new.self) (string_bytes c.new-name-in-Name.result)
          c.parts.invariant.says next.0 c.in_ok-push_str.ensures.bytes put c.new-name-in-Name.ensures.bytes;
    }
